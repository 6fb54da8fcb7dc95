-- Document 01's tick is the tick of the list of items: the tasks in their order, the server at its place.
use Rattle.std.specs.Prelude.{ℕ, zero, suc, ◌-◌, ◌≤◌, ◌≡◌, refl, Bool, true, false, cond, ◌&&◌, ◌||◌, not, List, [], ◌∷◌, length, take, get_or, set}
use Rattle.std.proofs.Common.{arith, sym, ap, ap₂, ◌∙◌, ltb-false}
use Rattle.lists.specs.Tests.{never}
use Rattle.server.specs.declared.Server.{Server}
use Rattle.server.specs.declared.Seen.{Seen}
use Rattle.server.specs.Kind.{Kind}
use Rattle.server.specs.Whole.{Whole, replenish_whole, eligible_whole, consume_whole}
use Rattle.server.proofs.SupplyReturning.{seen_whole}
use Rattle.server.proofs.Account.{Bits}
use Rattle.queue.specs.Queue.{waits}
use Rattle.table.specs.declared.Task.{Task}
use Rattle.table.specs.Model.{TaskSet, Model}
use Rattle.rules.specs.declared.Turn.{Turn}
use Rattle.rules.specs.Tick.{is_open, any_open, opened, opened_all, first_open, choose, by_budget, worked_tasks, worked_queue, kind_at, lefts_at, above_at, busy_at, server_at, may_at, turn_at, seen_at, tick}
use Rattle.guarantee.proofs.Items.{Item, task, server, Cell, Cells, start, wants, finish, later, chain, some_open, tick_items}

-- ---- the table as a list of items, and a model as their cells
abbrev pub only_tasks : List Task → List Item
only_tasks [] = []
only_tasks (x ∷ xs) = task x ∷ only_tasks xs

-- z below the first s tasks
abbrev pub insert : ℕ → List Task → Item → List Item
insert zero xs z = z ∷ only_tasks xs
insert (suc s) [] z = z ∷ []
insert (suc s) (x ∷ xs) z = task x ∷ insert s xs z

abbrev pub items : TaskSet → List Item
items p = insert p.server.place p.tasks (server (kind_at p) p.server)

-- f i: what is left of task i
abbrev pub task_cells : (xs : List Task) → (ℕ → ℕ) → Cells (only_tasks xs)
task_cells [] f = tt
task_cells (x ∷ xs) f = (f 0, task_cells xs (later f))

abbrev pub insert_cell : (s : ℕ) (xs : List Task) (z : Item) → (ℕ → ℕ) → Cell z → Cells (insert s xs z)
insert_cell zero xs z f c = (c, task_cells xs f)
insert_cell (suc s) [] z f c = (c, tt)
insert_cell (suc s) (x ∷ xs) z f c = (f 0, insert_cell s xs z (later f) c)

-- a list of numbers as a function
abbrev pub nth : List ℕ → ℕ → ℕ
nth ls i = get_or ls i 0

abbrev pub cells : (p : TaskSet) → Model → Cells (items p)
cells p m = insert_cell p.server.place p.tasks (server (kind_at p) p.server) (nth m.lefts) m.server

-- what the tick reads of the queue
abbrev pub bits_of : TaskSet → Model → Bits
bits_of p m = record { waits = waits m.queue; last = not (waits (worked_queue (turn_at p m) m.queue)) }

-- ---- the processor goes down the list of tasks
-- the first open task loses a tick, if the processor is offered
abbrev lower_first : Bool → List ℕ → List ℕ
lower_first free [] = []
lower_first free (l ∷ ls) = cond free (l - 1) l ∷ lower_first (free && not (is_open l)) ls

-- and past a server below the first s, which takes the tick if e
abbrev lowered : ℕ → Bool → Bool → List ℕ → List ℕ
lowered zero free e ls = lower_first (free && not e) ls
lowered (suc s) free e [] = []
lowered (suc s) free e (l ∷ ls) = cond free (l - 1) l ∷ lowered s (free && not (is_open l)) e ls

-- whether it is offered to that server
abbrev offer : ℕ → Bool → List ℕ → Bool
offer zero free ls = free
offer (suc s) free [] = free
offer (suc s) free (l ∷ ls) = offer s (free && not (is_open l)) ls

tasks-chain : (xs : List Task) (ls : List ℕ) → length xs ≤ length ls → (t : ℕ) (busy free : Bool) (w : Bits) →
    task_cells xs (nth (lower_first free (opened_all t xs ls))) ≡ chain (only_tasks xs) t busy free (λ _. w) (task_cells xs (nth ls))
unfolding chain start wants finish
tasks-chain [] ls h t busy free w = refl
tasks-chain (x ∷ xs) [] h t busy free w = absurd (omega arith)
tasks-chain (x ∷ xs) (l ∷ ls) h t busy free w =
    ap (λ (r : Cells (only_tasks xs)). (cond free (opened t x l - 1) (opened t x l), r))
    (tasks-chain xs ls (omega arith) t busy (free && not (is_open (opened t x l))) w)

insert-chain : (k : Kind) (v : Server) (s : ℕ) (xs : List Task) (ls : List ℕ) (c : Whole) → length xs ≤ length ls →
    (t : ℕ) (busy free : Bool) (w : Bits) →
    let u : Whole = replenish_whole k v c t busy in
    insert_cell s xs (server k v) (nth (lowered s free (eligible_whole k t w.waits u) (opened_all t xs ls)))
    (consume_whole k v u (seen_whole k t busy (offer s free (opened_all t xs ls)) w u))
    ≡ chain (insert s xs (server k v)) t busy free (λ _. w) (insert_cell s xs (server k v) (nth ls) c)
unfolding chain start wants finish
insert-chain k v zero xs ls c h t busy free w =
    ap (λ (r : Cells (only_tasks xs)). (consume_whole k v (replenish_whole k v c t busy) (seen_whole k t busy free w (replenish_whole k v c t busy)), r))
    (tasks-chain xs ls h t busy (free && not (eligible_whole k t w.waits (replenish_whole k v c t busy))) w)
insert-chain k v (suc s) [] ls c h t busy free w = refl
insert-chain k v (suc s) (x ∷ xs) [] c h t busy free w = absurd (omega arith)
insert-chain k v (suc s) (x ∷ xs) (l ∷ ls) c h t busy free w =
    ap (λ (r : Cells (insert s xs (server k v))). (cond free (opened t x l - 1) (opened t x l), r))
    (insert-chain k v s xs ls c (omega arith) t busy (free && not (is_open (opened t x l))) w)

-- ---- whether some task is open
tasks_open : (xs : List Task) (ls : List ℕ) → length xs ≤ length ls → (t : ℕ) → some_open (only_tasks xs) t (task_cells xs (nth ls)) ≡ any_open (opened_all t xs ls)
unfolding some_open
tasks_open [] ls h t = refl
tasks_open (x ∷ xs) [] h t = absurd (omega arith)
tasks_open (x ∷ xs) (l ∷ ls) h t = ap (λ (b : Bool). is_open (opened t x l) || b) (tasks_open xs ls (omega arith) t)

insert_open : (k : Kind) (v : Server) (s : ℕ) (xs : List Task) (ls : List ℕ) (c : Whole) → length xs ≤ length ls → (t : ℕ) →
    some_open (insert s xs (server k v)) t (insert_cell s xs (server k v) (nth ls) c) ≡ any_open (opened_all t xs ls)
unfolding some_open
insert_open k v zero xs ls c h t = tasks_open xs ls h t
insert_open k v (suc s) [] ls c h t = refl
insert_open k v (suc s) (x ∷ xs) [] c h t = absurd (omega arith)
insert_open k v (suc s) (x ∷ xs) (l ∷ ls) c h t = ap (λ (b : Bool). is_open (opened t x l) || b) (insert_open k v s xs ls c (omega arith) t)

-- ---- the choice: what it does to the tasks, and what the server sees of it
closed : (l : ℕ) → is_open l ≡ false → l ≡ 0
closed l e = omega (arith, ltb-false 0 l e)

lower_off : (ls : List ℕ) → lower_first false ls ≡ ls
lower_off [] = refl
lower_off (l ∷ ls) = ap {B = List ℕ} (λ r. l ∷ r) (lower_off ls)

lower_none : (ls : List ℕ) (free : Bool) → any_open ls ≡ false → lower_first free ls ≡ ls
lower_none [] free e = refl
lower_none (l ∷ ls) free e = go (is_open l) refl e (λ q. lower_none ls (free && not (is_open l)) q)
  where
    same : (free : Bool) → l ≡ 0 → cond free (l - 1) l ≡ l
    same true q = omega arith
    same false q = refl

    go : (b : Bool) → is_open l ≡ b → (b || any_open ls) ≡ false → (any_open ls ≡ false → lower_first (free && not (is_open l)) ls ≡ ls) →
        cond free (l - 1) l ∷ lower_first (free && not (is_open l)) ls ≡ l ∷ ls
    go true q e ih = never e refl
    go false q e ih = ap₂ {C = List ℕ} (λ (a : ℕ) (r : List ℕ). a ∷ r) (same free (closed l q)) (ih e)

lower_first_lem : (ls : List ℕ) → set ls (first_open ls) (nth ls (first_open ls) - 1) ≡ lower_first true ls
lower_first_lem [] = refl
lower_first_lem (l ∷ ls) = go (is_open l) refl (lower_first_lem ls)
  where
    go : (b : Bool) → is_open l ≡ b → set ls (first_open ls) (nth ls (first_open ls) - 1) ≡ lower_first true ls →
        let n : ℕ = cond b 0 (suc (first_open ls)) in set (l ∷ ls) n (nth (l ∷ ls) n - 1) ≡ (l - 1) ∷ lower_first (not b) ls
    go true q ih = ap {B = List ℕ} (λ r. (l - 1) ∷ r) (sym (lower_off ls))
    go false q ih = ap₂ {C = List ℕ} (λ (a : ℕ) (r : List ℕ). a ∷ r) (omega (arith, closed l q)) ih

-- the server is not offered the processor, does not take it, or does
lowered_off : (s : ℕ) (e : Bool) (ls : List ℕ) → lowered s false e ls ≡ ls
lowered_off zero e ls = lower_off ls
lowered_off (suc s) e [] = refl
lowered_off (suc s) e (l ∷ ls) = ap {B = List ℕ} (λ r. l ∷ r) (lowered_off s e ls)

lowered-past : (s : ℕ) (ls : List ℕ) → lowered s true false ls ≡ lower_first true ls
lowered-past zero ls = refl
lowered-past (suc s) [] = refl
lowered-past (suc s) (l ∷ ls) = ap {B = List ℕ} (λ r. (l - 1) ∷ r) (go (is_open l) (lowered-past s ls))
  where
    go : (b : Bool) → lowered s true false ls ≡ lower_first true ls → lowered s (not b) false ls ≡ lower_first (not b) ls
    go true ih = lowered_off s false ls ∙ sym (lower_off ls)
    go false ih = ih

lowered-takes : (s : ℕ) (ls : List ℕ) → lowered s true true ls ≡ cond (any_open (take s ls)) (lower_first true ls) ls
lowered-takes zero ls = lower_off ls
lowered-takes (suc s) [] = refl
lowered-takes (suc s) (l ∷ ls) = go (is_open l) refl (lowered-takes s ls)
  where
    go : (b : Bool) → is_open l ≡ b → lowered s true true ls ≡ cond (any_open (take s ls)) (lower_first true ls) ls →
        (l - 1) ∷ lowered s (not b) true ls ≡ cond (b || any_open (take s ls)) ((l - 1) ∷ lower_first (not b) ls) (l ∷ ls)
    go true q ih = ap {B = List ℕ} (λ r. (l - 1) ∷ r) (lowered_off s true ls ∙ sym (lower_off ls))
    go false q ih = ap₂ {C = List ℕ} (λ (a : ℕ) (r : List ℕ). a ∷ r) (omega (arith, closed l q)) ih ∙ out (any_open (take s ls))
      where
        out : (b : Bool) → l ∷ cond b (lower_first true ls) ls ≡ cond b ((l - 1) ∷ lower_first true ls) (l ∷ ls)
        out true = ap {B = List ℕ} (λ (a : ℕ). a ∷ lower_first true ls) (omega (arith, closed l q))
        out false = refl

-- the tasks after step 5
worked : (s : ℕ) (waiting may : Bool) (ls : List ℕ) →
    worked_tasks (choose (any_open (take s ls)) (any_open ls) waiting may (first_open ls)) ls ≡ lowered s true may ls
worked s waiting may ls = go (any_open (take s ls)) refl may (any_open ls) refl waiting
  where
    takes : (above : Bool) → any_open (take s ls) ≡ above → (e : Bool) → lowered s true e ls ≡ cond (not above && e) ls (lower_first true ls)
    takes true q true = lowered-takes s ls ∙ ap (λ (b : Bool). cond b (lower_first true ls) ls) q
    takes true q false = lowered-past s ls
    takes false q true = lowered-takes s ls ∙ ap (λ (b : Bool). cond b (lower_first true ls) ls) q
    takes false q false = lowered-past s ls

    go : (above : Bool) → any_open (take s ls) ≡ above → (e busy : Bool) → any_open ls ≡ busy → (idle : Bool) →
        worked_tasks (cond above (Turn.Task (first_open ls)) (cond e Turn.Budget (cond busy (Turn.Task (first_open ls)) (cond idle Turn.Spare Turn.Nobody)))) ls
        ≡ lowered s true e ls
    go true q e busy o idle = lower_first_lem ls ∙ sym (takes true q e)
    go false q true busy o idle = sym (takes false q true)
    go false q false true o idle = lower_first_lem ls ∙ sym (takes false q false)
    go false q false false o true = sym (takes false q false ∙ lower_none ls true o)
    go false q false false o false = sym (takes false q false ∙ lower_none ls true o)

-- the processor is offered to the server where no task above is open
offer-above : (s : ℕ) (free : Bool) (ls : List ℕ) → offer s free ls ≡ (free && not (any_open (take s ls)))
offer-above zero true ls = refl
offer-above zero false ls = refl
offer-above (suc s) true [] = refl
offer-above (suc s) false [] = refl
offer-above (suc s) free (l ∷ ls) = offer-above s (free && not (is_open l)) ls ∙ go free (is_open l) (any_open (take s ls))
  where
    go : (a b c : Bool) → ((a && not b) && not c) ≡ (a && not (b || c))
    go true true c = refl
    go true false c = refl
    go false b c = refl

-- it serves by its budget where it is offered the processor and takes it
pub serves_by : (above busy waiting may : Bool) (first : ℕ) → by_budget (choose above busy waiting may first) ≡ (not above && may)
serves_by above busy waiting may first = go above may busy waiting
  where
    go : (above e busy idle : Bool) →
        by_budget (cond above (Turn.Task first) (cond e Turn.Budget (cond busy (Turn.Task first) (cond idle Turn.Spare Turn.Nobody)))) ≡ (not above && e)
    go true e busy idle = refl
    go false true busy idle = refl
    go false false true idle = refl
    go false false false true = refl
    go false false false false = refl

-- what step 5 shows the server
pub sees : (p : TaskSet) (m : Model) → seen_at p m ≡ seen_whole (kind_at p) m.clock (busy_at p m) (not (above_at p m)) (bits_of p m) (server_at p m)
sees p m =
    rw (serves_by (above_at p m) (busy_at p m) (waits m.queue) (may_at p m) (first_open (lefts_at p m))) (go (above_at p m))
  where
    go : (above : Bool) →
        (record {
          t = m.clock;
          above = above;
          busy = busy_at p m;
          serves = not above && may_at p m;
          waited = waits m.queue;
          emptied = (bits_of p m).last;
        })
        ≡ seen_whole (kind_at p) m.clock (busy_at p m) (not above) (bits_of p m) (server_at p m)
    go true = refl
    go false = refl

-- ---- one tick
pub tick_tie : (p : TaskSet) (m : Model) → length p.tasks ≤ length m.lefts →
    cells p (tick p m).next ≡ tick_items (items p) m.clock (λ _. bits_of p m) (cells p m)
unfolding tick_items
tick_tie p m h =
    ap₂ (λ (ls : List ℕ) (e : Seen). insert_cell p.server.place p.tasks (server (kind_at p) p.server) (nth ls)
    (consume_whole (kind_at p) p.server (server_at p m) e))
    (worked p.server.place (waits m.queue) (may_at p m) (lefts_at p m))
    (sees p m ∙ ap (λ (f : Bool). seen_whole (kind_at p) m.clock (busy_at p m) f (bits_of p m) (server_at p m)) (sym (offer-above p.server.place true (lefts_at p m))))
    ∙ insert-chain (kind_at p) p.server p.server.place p.tasks m.lefts m.server h m.clock (busy_at p m) true (bits_of p m)
    ∙ ap (λ (b : Bool). chain (items p) m.clock b true (λ _. bits_of p m) (cells p m))
    (sym (insert_open (kind_at p) p.server p.server.place p.tasks m.lefts m.server h m.clock))
