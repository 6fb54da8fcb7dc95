-- The limits as facts that `omega` reads: of a task, of a server, of a table that passes, and of a fit state.
use Rattle.std.specs.Prelude.{ℕ, zero, suc, ◌≤◌, ◌<◌, ◌≡◌, refl, Bool, true, false, cond, not, ◌&&◌, List, [], ◌∷◌, length, take, get_or, leb, ltb, Err, Ok, Result}
use Rattle.std.proofs.Common.{arith, sym, ap, ◌∙◌, leb-true, eqb-true, eq-eqb, ltb-false, le-leb, length-take, take_all}
use Rattle.lists.specs.Lists.{all, all_with}
use Rattle.lists.specs.Tests.{Every, between, every, every-facts, and_split, and_join, never}
use Rattle.lists.specs.Loops.{all-at}
use Rattle.server.specs.Limits.{max_time, last_clock, last_nr}
use Rattle.server.specs.declared.Server.{Server}
use Rattle.server.specs.declared.ServerState.{ServerState}
use Rattle.server.specs.Kind.{kind_of}
use Rattle.server.specs.Within.{Within}
use Rattle.queue.specs.Queue.{max_waiting, waiting_work, waiting_of, requests_fit}
use Rattle.queue.specs.Steps.{backlog_fits}
use Rattle.table.specs.declared.Task.{Task}
use Rattle.table.specs.declared.Table.{Table}
use Rattle.table.specs.declared.State.{State}
use Rattle.table.specs.declared.Refusal.{Refusal}
use Rattle.table.specs.Limits.{max_tasks, last_kind, task_tests, task_fits, first_bad, server_tests, background_tests, budget_tests, server_fits, check_server, check_tasks}
use Rattle.table.specs.Refusal.{passed, figures, ground_with, ground, no_ground}
use Rattle.table.specs.State.{table_check, table_figures, left_fits, sporadic_fits, server_state_fits, model_fits, state_returns_fit, fit}
use Rattle.table.specs.Model.{task_set_of, model_of}
pub use Rattle.table.specs.Model.{no_task}

-- ---- a task
pub record TaskLimits (x : Task) : Type 0 where
  pub some : 1 ≤ x.exec
  pub within : x.exec ≤ x.deadline
  pub constrained : x.deadline ≤ x.period
  pub period : x.period ≤ max_time
  pub phase : x.phase ≤ max_time

pub task-limits : (x : Task) → task_fits x ≡ true → TaskLimits x
task-limits x e = let h : Every (task_tests x) = every-facts (task_tests x) e in omega (arith, leb-true)

-- ---- a server: kind 0 has no period and no budget, the others have both
pub record ServerLimits (s : Server) (n : ℕ) : Type 0 where
  pub kind : s.kind ≤ last_kind
  pub place : s.place ≤ n
  pub within : s.budget ≤ s.period
  pub period : s.period ≤ max_time
  pub some : 0 < s.kind → 1 ≤ s.budget

abbrev LimitsAt : Server → ℕ → ℕ → Type 0
LimitsAt s n k = (s.place ≤ n) × (s.budget ≤ s.period) × (s.period ≤ max_time) × (0 < k → 1 ≤ s.budget)

pub server-limits : (s : Server) (n : ℕ) → server_fits s n ≡ true → ServerLimits s n
server-limits s n e =
    let both = and_split (leb s.kind last_kind) (every (server_tests (kind_of s.kind) s n)) e in
    let kind = leb-true s.kind last_kind both.0 in
    let rest = by s.kind kind both.1 in
    record { kind = kind; place = rest.0; within = rest.1; period = rest.2; some = rest.3 }
  where
    budgeted : (k : ℕ) → every (budget_tests s n) ≡ true → LimitsAt s n k
    budgeted k e =
        let h : Every (budget_tests s n) = every-facts (budget_tests s n) e in
        (leb-true _ _ h.0, leb-true _ _ h.1.1.0, leb-true _ _ h.1.1.1.0, λ p. leb-true _ _ h.1.0)

    by : (k : ℕ) → k ≤ last_kind → every (server_tests (kind_of k) s n) ≡ true → LimitsAt s n k
    by zero k e =
        let h : Every (background_tests s n) = every-facts (background_tests s n) e in
        let place = eqb-true s.place n h.0 in
        let period = eqb-true s.period 0 h.1.0 in
        let budget = eqb-true s.budget 0 h.1.1.0 in
        (omega arith, omega arith, omega arith, λ p. absurd (omega arith))
    by (suc zero) k e = budgeted 1 e
    by (suc (suc zero)) k e = budgeted 2 e
    by (suc (suc (suc zero))) k e = budgeted 3 e
    by (suc (suc (suc (suc zero)))) k e = budgeted 4 e
    by (suc (suc (suc (suc (suc j))))) k e = absurd (omega arith)

-- ---- a table that passes refusals 1, 2 and 3
pub record TableFacts (t : Table) : Type 0 where
  pub some : 1 ≤ t.n
  pub count : t.n ≤ max_tasks
  pub tasks : all task_fits (take t.n t.tasks) ≡ true
  pub server : ServerLimits t.server t.n

-- no task is the first bad one: all keep their limits
none-bad : (xs : List Task) → length xs ≤ first_bad xs → all task_fits xs ≡ true
none-bad [] h = refl
none-bad (x ∷ xs) h = by (task_fits x) h (none-bad xs)
  where
    by : (b : Bool) → suc (length xs) ≤ cond b (suc (first_bad xs)) 0 → (length xs ≤ first_bad xs → all task_fits xs ≡ true) →
        b && all task_fits xs ≡ true
    by true h rest = rest (omega arith)
    by false h rest = absurd (omega arith)

-- a check that passes took the way on at a test
went_on : (b : Bool) (later : Result Unit Refusal) (r : Refusal) → passed (cond b later (Err r)) ≡ true →
    (b ≡ true) × (passed later ≡ true)
went_on true later r e = (refl, e)
went_on false later r e = never refl e

went_past : (b : Bool) (later : Result Unit Refusal) (r : Refusal) → passed (cond b (Err r) later) ≡ true →
    (b ≡ false) × (passed later ≡ true)
went_past true later r e = never refl e
went_past false later r e = (refl, e)

-- the answer of the check, in hand
pub check_passes : (t : Table) (a : Result Unit Refusal) → a ≡ table_check t → a ≡ Ok tt → passed (table_check t) ≡ true
check_passes t a e f = rw (sym e ∙ f)

pub table-facts : (t : Table) → passed (table_check t) ≡ true → TableFacts t
table-facts t e =
    let xs = take t.n t.tasks in
    let first = went_on (between 1 max_tasks t.n) (check_tasks xs t.server t.n) Refusal.TaskCount e in
    let count = and_split (leb 1 t.n) (leb t.n max_tasks) first.0 in
    let second = went_past (ltb (first_bad xs) (length xs)) (check_server t.server t.n) (Refusal.BadTask (first_bad xs)) first.1 in
    let third = went_on (server_fits t.server t.n) (Ok tt) Refusal.BadServer second.1 in
    record {
      some = leb-true _ _ count.0;
      count = leb-true _ _ count.1;
      tasks = none-bad xs (ltb-false _ _ second.0);
      server = server-limits t.server t.n third.0;
    }

-- a task in use
pub task_at_lem : (t : Table) (i : ℕ) → TableFacts t → i < t.n → i < length t.tasks → TaskLimits (get_or t.tasks i no_task)
task_at_lem t i f h k = task-limits _ (all-at task_fits no_task i t.n t.tasks h k f.tasks)

-- the same of the list of them
pub task-used : (t : Table) (i : ℕ) → TableFacts t → i < length (task_set_of t).tasks → TaskLimits (get_or (task_set_of t).tasks i no_task)
task-used t i f h =
    let n : length (task_set_of t).tasks ≤ t.n = omega (arith, length-take t.n t.tasks) in
    task-limits _ (all-at task_fits no_task i t.n (task_set_of t).tasks (omega arith) h (rw (take_all t.n (task_set_of t).tasks n) f.tasks))

-- ---- the answer of the check in document 01's figures
pub check_figures : (t : Table) → figures (table_check t) ≡ table_figures t
check_figures t =
    let xs = (task_set_of t).tasks in
    by (between 1 max_tasks t.n) (ltb (first_bad xs) (length xs)) (server_fits t.server t.n) (first_bad xs)
  where
    by : (count bad server : Bool) (i : ℕ) →
        figures {A = Unit {0}} (cond count (cond bad (Err (Refusal.BadTask i)) (cond server (Ok tt) (Err Refusal.BadServer))) (Err Refusal.TaskCount)) ≡
        ground (not count) 1 (ground_with bad 2 i (ground (not server) 3 no_ground))
    by false bad server i = refl
    by true true server i = refl
    by true false true i = refl
    by true false false i = refl

-- an answer that is the check's says its figures
pub checked : (t : Table) (a : Result Unit Refusal) → a ≡ table_check t → (a ≡ table_check t) × (figures a ≡ table_figures t)
checked t a e = (e, ap figures e ∙ check_figures t)

-- ---- a fit state
pub record StateFacts (s : State) : Type 0 where
  pub passes : passed (table_check s.table) ≡ true
  pub clock : s.progress.clock ≤ last_clock
  pub lefts : all_with left_fits (take s.table.n s.table.tasks) (take s.table.n s.progress.left) ≡ true
  pub server : Within s.table.server s.progress.clock s.progress.server
  pub waiting : s.queue.n ≤ max_waiting
  pub requests : requests_fit s.progress.clock (waiting_of s.queue) ≡ true
  pub backlog : s.queue.backlog ≡ waiting_work (waiting_of s.queue)
  pub returns : state_returns_fit s ≡ true

pub server-within : (s : Server) (clock : ℕ) (x : ServerState) → server_state_fits s clock x ≡ true → Within s clock x
server-within s clock x e =
    let b = and_split (leb x.budget s.budget) (sporadic_fits clock x.sporadic) e in
    let n = and_split (leb x.sporadic.tr clock && leb x.sporadic.begin clock) (leb x.sporadic.nr last_nr) b.1 in
    let t = and_split (leb x.sporadic.tr clock) (leb x.sporadic.begin clock) n.0 in
    record {
      budget = leb-true _ _ b.0;
      times = record { tr = leb-true _ _ t.0; begin = leb-true _ _ t.1; nr = leb-true _ _ n.1 };
    }

pub within-server : (s : Server) (clock : ℕ) (x : ServerState) → Within s clock x → server_state_fits s clock x ≡ true
within-server s clock x w =
    and_join (leb x.budget s.budget) (sporadic_fits clock x.sporadic) (le-leb _ _ w.budget)
    (and_join (leb x.sporadic.tr clock && leb x.sporadic.begin clock) (leb x.sporadic.nr last_nr)
    (and_join (leb x.sporadic.tr clock) (leb x.sporadic.begin clock) (le-leb _ _ w.times.tr) (le-leb _ _ w.times.begin))
    (le-leb _ _ w.times.nr))

module _ (s : State) where
  abbrev clock_fits : Bool
  clock_fits = leb s.progress.clock last_clock

  abbrev lefts_fit : Bool
  lefts_fit = all_with left_fits (take s.table.n s.table.tasks) (take s.table.n s.progress.left)

  abbrev budget_fits : Bool
  budget_fits = server_state_fits s.table.server s.progress.clock s.progress.server

  abbrev waiting_fit : Bool
  waiting_fit = requests_fit s.progress.clock (waiting_of s.queue)

  abbrev figure_fits : Bool
  figure_fits = backlog_fits s.queue.backlog (waiting_of s.queue)

  pub fit-facts : fit s ≡ true → StateFacts s
  fit-facts e =
      let a = and_split (passed (table_check s.table) && leb s.queue.n max_waiting && state_returns_fit s) (model_fits (task_set_of s.table) (model_of s)) e in
      let d = and_split (passed (table_check s.table) && leb s.queue.n max_waiting) (state_returns_fit s) a.0 in
      let b = and_split (passed (table_check s.table)) (leb s.queue.n max_waiting) d.0 in
      let g = and_split (clock_fits && lefts_fit && budget_fits && waiting_fit) figure_fits a.1 in
      let r = and_split (clock_fits && lefts_fit && budget_fits) waiting_fit g.0 in
      let v = and_split (clock_fits && lefts_fit) budget_fits r.0 in
      let c = and_split clock_fits lefts_fit v.0 in
      record {
        passes = b.0;
        clock = leb-true _ _ c.0;
        lefts = c.1;
        server = server-within s.table.server s.progress.clock s.progress.server v.1;
        waiting = leb-true _ _ b.1;
        requests = r.1;
        backlog = eqb-true _ _ g.1;
        returns = d.1;
      }

  pub facts-fit : StateFacts s → fit s ≡ true
  facts-fit f =
      and_join (passed (table_check s.table) && leb s.queue.n max_waiting && state_returns_fit s) (model_fits (task_set_of s.table) (model_of s))
      (and_join (passed (table_check s.table) && leb s.queue.n max_waiting) (state_returns_fit s)
      (and_join (passed (table_check s.table)) (leb s.queue.n max_waiting) f.passes (le-leb _ _ f.waiting)) f.returns)
      (and_join (clock_fits && lefts_fit && budget_fits && waiting_fit) figure_fits
      (and_join (clock_fits && lefts_fit && budget_fits) waiting_fit
      (and_join (clock_fits && lefts_fit) budget_fits (and_join clock_fits lefts_fit (le-leb _ _ f.clock) f.lefts)
      (within-server s.table.server s.progress.clock s.progress.server f.server))
      f.requests)
      (eq-eqb _ _ f.backlog))
