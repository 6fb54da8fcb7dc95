-- What the calls keep: a model written over a state reads back, a fit state's accepted calls leave it fit, and so every state
-- that calls reach from the fresh one of a table that passes is fit.
use Rattle.std.specs.Prelude.{ℕ, zero, suc, ◌+◌, ◌≤◌, ◌<◌, ◌≡◌, refl, Bool, true, false, cond, List, [], ◌∷◌, length, take, replicate, leb, ltb, Ok}
use Rattle.std.proofs.Common.{arith, ap, sym, subst, ◌∙◌, length-take, length-append, length-set, length-take-le, leb-true, le-leb, ltb-true}
use Rattle.lists.specs.Lists.{count, zip_with, all_with, overlay_length, take_overlay, zip_length}
use Rattle.lists.specs.Tests.{never, and_join, either}
use Rattle.server.specs.Limits.{last_clock}
use Rattle.server.specs.declared.Server.{Server}
use Rattle.server.specs.Kind.{Kind, background, polling, deferrable, sporadic, returning, kind_of}
use Rattle.server.specs.declared.Stretch.{Stretch}
use Rattle.server.specs.declared.Returns.{Returns}
use Rattle.server.specs.Returns.{max_held, fresh_returns, held_of, written_returns}
use Rattle.server.specs.Whole.{whole, whole_fits}
use Rattle.server.proofs.Written.{same-reread, written_same}
use Rattle.server.proofs.Held.{holding_fits, fresh_holding}
use Rattle.server.specs.Server.{fresh_server}
use Rattle.server.proofs.Within.{within-later}
use Rattle.queue.specs.declared.Request.{Request}
use Rattle.queue.specs.Queue.{max_waiting, work_fits, waiting_work, requests_fit}
use Rattle.queue.specs.Laws.{fit-later, fit-presented, presented-work}
use Rattle.table.specs.declared.Task.{Task}
use Rattle.table.specs.declared.Table.{Table}
use Rattle.table.specs.declared.State.{State}
use Rattle.table.specs.declared.Refusal.{Refusal}
use Rattle.table.specs.Limits.{max_tasks}
use Rattle.table.specs.Refusal.{passed}
use Rattle.table.specs.Model.{Model, task_set_of, model_of, written}
use Rattle.table.specs.State.{fresh_state, table_check, left_fits, fit}
use Rattle.table.specs.Facts.{TableFacts, table-facts, StateFacts, fit-facts, facts-fit}
use Rattle.rules.specs.declared.Turn.{Turn}
use Rattle.rules.specs.Tick.{expires, opened, worked_tasks, turn_at, lefts_at, seen_at, kind_at, busy_at}
use Rattle.rules.specs.Calls.{unless, asked, request_check, request_call, clock_allows, ticked, state_after, tick_call, tick_by, entry_of, run_state, run_call}
use Rattle.rules.proofs.ServerKept.{Keeps, server-keeps, held-few, served-eligible}
use Rattle.rules.proofs.Fitness.{opened-fit, worked_fit, queue-fit, queue-shorter, backlog-fit}
use Rattle.rules.specs.Laws.{Sized}

-- ---- a model written over a state reads back as itself
-- the stretches do, but for a count above 32, which kind 4 refuses: there they must be those that stand in the array
abbrev pub Rereads : State → Model → Type 0
Rereads s m = held_of (written_returns s.returns m.server.returns) ≡ m.server.returns

pub reads-written : (s : State) (m : Model) → length m.lefts ≡ s.table.n → Rereads s m → model_of (written s m) ≡ m
reads-written s m e r =
    rw (take_overlay s.table.n m.lefts s.progress.left e, take_overlay (length m.queue) m.queue s.queue.requests refl)
    (ap (λ (us : List Stretch). record { lefts = m.lefts; queue = m.queue; backlog = m.backlog; server = whole m.server.part us; clock = m.clock }) r)

written-sized : (s : State) (m : Model) → Sized s → length m.lefts ≤ max_tasks → length m.queue ≤ max_waiting → length m.server.returns ≤ max_held → Sized (written s m)
written-sized s m z a b d = record {
  tasks = z.tasks;
  left = overlay_length m.lefts s.progress.left (rw z.left a) ∙ z.left;
  requests = overlay_length m.queue s.queue.requests (rw z.requests b) ∙ z.requests;
  stretches = either (λ (r : Returns). length r.stretches ≡ max_held) (leb s.returns.n max_held)
      (overlay_length m.server.returns s.returns.stretches (rw z.stretches d) ∙ z.stretches) z.stretches;
}

-- ---- how long the lists of a model are
pub worked_length : (t : Turn) (ls : List ℕ) → length (worked_tasks t ls) ≡ length ls
worked_length Turn.Nobody ls = refl
worked_length (Turn.Task i) ls = length-set ls i _
worked_length Turn.Budget ls = refl
worked_length Turn.Spare ls = refl

pub ticked_length : (s : State) → Sized s → s.table.n ≤ max_tasks → length (ticked s).next.lefts ≡ s.table.n
ticked_length s z h =
    let a : length (take s.table.n s.table.tasks) ≡ s.table.n = length-take-le _ _ (rw z.tasks h) in
    let b : length (take s.table.n s.progress.left) ≡ s.table.n = length-take-le _ _ (rw z.left h) in
    worked_length (turn_at (task_set_of s.table) (model_of s)) (lefts_at (task_set_of s.table) (model_of s))
    ∙ zip_length (opened s.progress.clock) (take s.table.n s.table.tasks) (take s.table.n s.progress.left) (a ∙ sym b) ∙ b

waiting_length : (n : ℕ) (rs : List Request) → length (take n rs) ≤ n
waiting_length n rs = omega (arith, length-take n rs)

-- ---- a fit state's tick leaves it fit
pub tick-fit : (s : State) → Sized s → fit s ≡ true → clock_allows s 1 ≡ true → (fit (state_after s) ≡ true) × Sized (state_after s)
tick-fit s z e c = (facts-fit (state_after s) after, written-sized s (ticked s).next z (omega (arith, len, limits.count)) (omega (arith, short, h.waiting)) keeps.few)
  where
    h : StateFacts s
    h = fit-facts s e

    limits : TableFacts s.table
    limits = table-facts s.table h.passes

    len : length (ticked s).next.lefts ≡ s.table.n
    len = ticked_length s z limits.count

    early : s.progress.clock + 1 ≤ last_clock
    early = leb-true _ _ c

    short : length (ticked s).next.queue ≤ s.queue.n
    short = omega (arith, queue-shorter (turn_at (task_set_of s.table) (model_of s)) (model_of s).queue, waiting_length s.queue.n s.queue.requests)

    keeps : Keeps (kind_at (task_set_of s.table)) s.table.server s.returns s.progress.clock (ticked s).next.server
    keeps =
        server-keeps s.table.server.kind s.table.server s.progress.server s.returns (busy_at (task_set_of s.table) (model_of s))
        (seen_at (task_set_of s.table) (model_of s)) (λ k. omega (arith, limits.server.some k, limits.server.within)) limits.server.period h.clock
        z.stretches h.server h.returns
        (served-eligible (task_set_of s.table) (model_of s))

    reads : model_of (state_after s) ≡ (ticked s).next
    reads = reads-written s (ticked s).next len keeps.reread

    after : StateFacts (state_after s)
    after = record {
      passes = h.passes;
      waiting = omega (arith, short, h.waiting);
      clock = early;
      lefts =
          subst (λ (m : Model). all_with left_fits (task_set_of s.table).tasks m.lefts ≡ true) (sym reads)
          (worked_fit (turn_at (task_set_of s.table) (model_of s)) (task_set_of s.table).tasks (lefts_at (task_set_of s.table) (model_of s))
          (opened-fit s.progress.clock (task_set_of s.table).tasks (model_of s).lefts h.lefts));
      server = within-later s.table.server s.progress.clock (ticked s).next.server.part keeps.part;
      returns = keeps.fits;
      requests =
          subst (λ (m : Model). requests_fit (s.progress.clock + 1) m.queue ≡ true) (sym reads)
          (queue-fit (turn_at (task_set_of s.table) (model_of s)) (s.progress.clock + 1) (model_of s).queue
          (fit-later s.progress.clock (model_of s).queue h.requests));
      backlog =
          subst (λ (m : Model). (ticked s).next.backlog ≡ waiting_work m.queue) (sym reads)
          (backlog-fit (turn_at (task_set_of s.table) (model_of s)) s.progress.clock (model_of s).queue s.queue.backlog h.requests h.backlog);
    }

-- ---- a tick drops no more jobs than there are tasks in use
count-few : {A B : Type 0} (f : A → B → Bool) (xs : List A) (ys : List B) → count (zip_with f xs ys) ≤ length xs
count-few f [] ys = omega arith
count-few f (x ∷ xs) [] = omega arith
count-few f (x ∷ xs) (y ∷ ys) = go (f x y) (count-few f xs ys)
  where
    go : (b : Bool) → count (zip_with f xs ys) ≤ length xs → count (b ∷ zip_with f xs ys) ≤ suc (length xs)
    go true h = omega arith
    go false h = omega arith

pub tick-few : (s : State) → (entry_of (ticked s)).drops ≤ s.table.n
tick-few s =
    omega (
      arith,
      count-few (expires s.progress.clock) (take s.table.n s.table.tasks) (take s.table.n s.progress.left),
      length-take s.table.n s.table.tasks,
    )

-- ---- an accepted request leaves it fit
returns-same : (k : Kind) (s : Server) (clock b : ℕ) (r : Returns) → length r.stretches ≡ max_held → whole_fits k s clock b r ≡ true →
    whole_fits k s clock b (written_returns r (held_of r)) ≡ true
returns-same k s clock b r z e = subst (λ (q : Returns). whole_fits k s clock b q ≡ true) (sym (written_same r z)) e

-- what an accepted request has passed
pub record Accepted (s : State) (work : ℕ) : Type 0 where
  pub fits : fit s ≡ true
  pub allowed : work_fits work ≡ true
  pub room : s.queue.n < max_waiting

pub request-accepted : (s : State) (work : ℕ) → passed (request_check s work) ≡ true → Accepted s work
request-accepted s work e = go (fit s) refl (work_fits work) refl (ltb s.queue.n max_waiting) refl e
  where
    go : (a : Bool) → fit s ≡ a → (b : Bool) → work_fits work ≡ b → (c : Bool) → ltb s.queue.n max_waiting ≡ c →
        passed (unless a Refusal.UnfitState (unless b Refusal.BadWork (unless c Refusal.QueueFull (Ok tt)))) ≡ true → Accepted s work
    go true ea true eb true ec p = record { fits = ea; allowed = eb; room = ltb-true _ _ ec }
    go true ea true eb false ec p = never refl p
    go true ea false eb c ec p = never refl p
    go false ea b eb c ec p = never refl p

pub request-fit : (s : State) (id work : ℕ) → Sized s → Accepted s work →
    (fit (written s (asked id work (model_of s))) ≡ true) × Sized (written s (asked id work (model_of s)))
request-fit s id work z ok = (
  facts-fit (written s (asked id work (model_of s))) after,
  written-sized s (asked id work (model_of s)) z (omega (arith, len, limits.count)) (omega (arith, more, ok.room)) (held-few s.returns z.stretches),
)
  where
    h : StateFacts s
    h = fit-facts s ok.fits

    limits : TableFacts s.table
    limits = table-facts s.table h.passes

    len : length (model_of s).lefts ≡ s.table.n
    len = length-take-le _ _ (rw z.left limits.count)

    more : length (asked id work (model_of s)).queue ≤ suc s.queue.n
    more = simp length-append (omega (arith, waiting_length s.queue.n s.queue.requests))

    reads : model_of (written s (asked id work (model_of s))) ≡ asked id work (model_of s)
    reads = reads-written s (asked id work (model_of s)) len (same-reread s.returns)

    after : StateFacts (written s (asked id work (model_of s)))
    after = record {
      passes = h.passes;
      waiting = omega (arith, more, ok.room);
      clock = h.clock;
      lefts = subst (λ (m : Model). all_with left_fits (task_set_of s.table).tasks m.lefts ≡ true) (sym reads) h.lefts;
      server = h.server;
      returns = returns-same (kind_of s.table.server.kind) s.table.server s.progress.clock s.progress.server.budget s.returns z.stretches h.returns;
      requests =
          subst (λ (m : Model). requests_fit s.progress.clock m.queue ≡ true) (sym reads)
          (fit-presented s.progress.clock id work (model_of s).queue ok.allowed h.requests);
      backlog =
          subst (λ (m : Model). s.queue.backlog + work ≡ waiting_work m.queue) (sym reads)
          (omega (arith, h.backlog, presented-work id work s.progress.clock (model_of s).queue));
    }

-- ---- a fit state's run leaves it fit
pub run-fit : (k : ℕ) (s : State) → Sized s → fit s ≡ true → clock_allows s k ≡ true → (fit (run_state k s) ≡ true) × Sized (run_state k s)
run-fit zero s z e c = (e, z)
run-fit (suc k) s z e c =
    let all : s.progress.clock + suc k ≤ last_clock = leb-true _ _ c in
    let a = tick-fit s z e (le-leb (s.progress.clock + 1) last_clock (omega arith)) in
    run-fit k (state_after s) a.1 a.0 (le-leb (s.progress.clock + 1 + k) last_clock (omega arith))

-- ---- every state that calls reach from a fresh one is fit
-- a state is reached by calls, accepted or refused
pub data Reached (t : Table) : State → Type 0 where
  started : Reached t (fresh_state t)
  asks : {s : State} (id work : ℕ) → Reached t s → Reached t (request_call s id work).state
  ticks : {s : State} → Reached t s → Reached t (tick_call s).state
  runs : {s : State} (k lent : ℕ) → Reached t s → Reached t (run_call s k lent).state

Kept : State → Type 0
Kept s = (fit s ≡ true) × Sized s

zeros-fit : (n : ℕ) (xs : List Task) → all_with left_fits xs (take n (replicate max_tasks 0)) ≡ true
zeros-fit n xs = go n xs max_tasks
  where
    go : (n : ℕ) (xs : List Task) (m : ℕ) → all_with left_fits xs (take n (replicate m 0)) ≡ true
    go zero [] m = refl
    go zero (x ∷ xs) m = refl
    go (suc n) [] m = refl
    go (suc n) (x ∷ xs) zero = refl
    go (suc n) (x ∷ xs) (suc m) = and_join _ _ (le-leb 0 x.exec (omega arith)) (go n xs m)

fresh_budget_lem : (k : Kind) (s : Server) → (fresh_server k s).budget ≤ s.budget
fresh_budget_lem background s = omega arith
fresh_budget_lem polling s = omega arith
fresh_budget_lem deferrable s = omega arith
fresh_budget_lem sporadic s = omega arith
fresh_budget_lem returning s = omega arith

fresh_returns_lem : (k : Kind) (s : Server) → whole_fits k s 0 (fresh_server k s).budget fresh_returns ≡ true
fresh_returns_lem background s = refl
fresh_returns_lem polling s = refl
fresh_returns_lem deferrable s = refl
fresh_returns_lem sporadic s = refl
fresh_returns_lem returning s = holding_fits s 0 (fresh_server returning s) fresh_returns (omega arith) (fresh_holding s)

-- the fresh state of a table that passes
pub fresh-fit : (t : Table) → passed (table_check t) ≡ true → fit (fresh_state t) ≡ true
fresh-fit t e =
    facts-fit (fresh_state t) (record {
      passes = e;
      waiting = omega arith;
      clock = omega arith;
      lefts = zeros-fit t.n (task_set_of t).tasks;
      server = record {
        budget = fresh_budget_lem (kind_of t.server.kind) t.server;
        times = record { tr = omega arith; begin = omega arith; nr = omega arith };
      };
      requests = refl;
      backlog = refl;
      returns = fresh_returns_lem (kind_of t.server.kind) t.server;
    })

request-kept : (s : State) (id work : ℕ) → Kept s → Kept (request_call s id work).state
unfolding Kept
request-kept s id work h = go (passed (request_check s work)) refl
  where
    go : (b : Bool) → passed (request_check s work) ≡ b → Kept (cond b (written s (asked id work (model_of s))) s)
    go true e = request-fit s id work h.1 (request-accepted s work e)
    go false e = h

tick-kept : (s : State) → Kept s → Kept (tick_call s).state
unfolding Kept
tick-kept s h = go (fit s) h.0 (clock_allows s 1) refl
  where
    go : (a : Bool) → a ≡ true → (b : Bool) → clock_allows s 1 ≡ b →
        Kept (tick_by (unless a Refusal.UnfitState (unless b Refusal.ClockSpent (Ok tt))) s).state
    go true ea true eb = tick-fit s h.1 h.0 eb
    go true ea false eb = h
    go false ea b eb = never refl ea

run-kept : (s : State) (k lent : ℕ) → Kept s → Kept (run_call s k lent).state
unfolding Kept
run-kept s k lent h = go (fit s) h.0 (clock_allows s k) refl (leb k lent)
  where
    go : (a : Bool) → a ≡ true → (b : Bool) → clock_allows s k ≡ b → (c : Bool) →
        Kept (cond (passed (unless a Refusal.UnfitState (unless b Refusal.ClockSpent (unless c Refusal.ShortRecord (Ok tt))))) (run_state k s) s)
    go true ea true eb true = run-fit k s h.1 h.0 eb
    go true ea true eb false = h
    go true ea false eb c = h
    go false ea b eb c = never refl ea

pub reached-fit : (t : Table) → length t.tasks ≡ max_tasks → passed (table_check t) ≡ true → (s : State) → Reached t s → (fit s ≡ true) × Sized s
unfolding Kept
reached-fit t z e s started = (fresh-fit t e, record { tasks = z; left = refl; requests = refl; stretches = refl })
reached-fit t z e s (asks {s = s₀} id work r) = request-kept s₀ id work (reached-fit t z e s₀ r)
reached-fit t z e s (ticks {s = s₀} r) = tick-kept s₀ (reached-fit t z e s₀ r)
reached-fit t z e s (runs {s = s₀} k lent r) = run-kept s₀ k lent (reached-fit t z e s₀ r)
