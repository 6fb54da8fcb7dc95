-- Tasks above the server do not notice requests: from runs of models (Above) to lists of calls. On an unfit state every call is refused, so
-- a table of more tasks than slots runs no tick.
use Rattle.std.specs.Prelude.{ℕ, zero, suc, ◌≤◌, ◌<◌, ◌≡◌, refl, Bool, true, false, cond, List, [], ◌∷◌, ◌++◌, length, get_or, Err, Result}
use Rattle.std.proofs.Common.{arith, sym, ap, ap₂, ◌∙◌, length-append}
use Rattle.lists.specs.Stretch.{tally, tally_zip}
use Rattle.table.specs.declared.Table.{Table}
use Rattle.table.specs.declared.State.{State}
use Rattle.table.specs.declared.Refusal.{Refusal}
use Rattle.table.specs.Refusal.{passed}
use Rattle.table.specs.Limits.{max_tasks}
use Rattle.table.specs.Facts.{table-facts, fit-facts}
use Rattle.table.specs.Model.{task_set_of, model_of, no_task, written}
use Rattle.table.specs.State.{fit, fresh_state}
use Rattle.rules.specs.Tick.{expires}
use Rattle.rules.specs.Calls.{unless, asked, ticks_check, state_after, tick_by, run_check, run_state}
use Rattle.guarantee.specs.Calls.{Call, request, tick, run, after, RanTick, tick_at, run_starts, starts, starts_all, state_before, by_task}
use Rattle.guarantee.specs.Guarantee.{tasks_of, task_at}
use Rattle.guarantee.specs.Unnoticed.{accepted_by, accepted_from, accepted_ticks, runs_in, dropped_in}
use Rattle.guarantee.proofs.Played.{N, model_before, table_is, clock-is, played}
use Rattle.guarantee.proofs.Reports.{tick_is, entry-is}
use Rattle.guarantee.proofs.Above.{quiet-drop, quiet-has}

-- ---- as many ticks are accepted as there are states before them
run_long : (k : ℕ) (s : State) → length (run_starts k s) ≡ k
run_long zero s = refl
run_long (suc k) s = ap suc (run_long k (state_after s))

by-long : (s : State) (c : Call) → accepted_by s c ≡ length (starts s c)
by-long s (request id work) = refl
by-long s tick = go (passed (ticks_check s 1))
  where
    go : (b : Bool) → cond b 1 0 ≡ length (cond b (s ∷ []) [])
    go true = refl
    go false = refl
by-long s (run k lent) = go (passed (run_check s k (length lent)))
  where
    go : (b : Bool) → cond b k 0 ≡ length (cond b (run_starts k s) [])
    go true = sym (run_long k s)
    go false = refl

accepted-long : (calls : List Call) (s : State) → accepted_from s calls ≡ length (starts_all s calls)
accepted-long [] s = refl
accepted-long (c ∷ cs) s =
    omega (arith, by-long s c, accepted-long cs (after s c), length-append (starts s c) (starts_all (after s c) cs))

-- ---- on an unfit state every call is refused
module _ (s : State) (e : fit s ≡ false) where
  unfit : (rest : Result Unit Refusal) → unless (fit s) Refusal.UnfitState rest ≡ Err Refusal.UnfitState
  unfit rest = ap (λ (b : Bool). unless b Refusal.UnfitState rest) e

  stays : (c : Call) → after s c ≡ s
  stays (request id work) = ap (λ (c : Result Unit Refusal). cond (passed c) (written s (asked id work (model_of s))) s) (unfit _)
  stays tick = ap (λ (c : Result Unit Refusal). (tick_by c s).state) (unfit _)
  stays (run k lent) = ap (λ (c : Result Unit Refusal). cond (passed c) (run_state k s) s) (unfit _)

  none : (c : Call) → starts s c ≡ []
  none (request id work) = refl
  none tick = ap (λ (c : Result Unit Refusal). cond (passed c) (s ∷ []) []) (unfit _)
  none (run k lent) = ap (λ (c : Result Unit Refusal). cond (passed c) (run_starts k s) []) (unfit _)

  stuck : (calls : List Call) → starts_all s calls ≡ []
  stuck [] = refl
  stuck (c ∷ cs) = ap₂ (λ (xs : List State) (v : State). xs ++ starts_all v cs) (none c) (stays c) ∙ stuck cs

module _ (t : Table) (calls : List Call) where
  pub accepted-is : accepted_ticks t calls ≡ N t calls
  accepted-is = accepted-long calls (fresh_state t)

  -- so where a tick ran, no more tasks are in use than there are slots
  ran-few : 0 < N t calls → t.n ≤ max_tasks
  ran-few h = go (fit (fresh_state t)) refl
    where
      go : (b : Bool) → fit (fresh_state t) ≡ b → t.n ≤ max_tasks
      go true e = (table-facts t (fit-facts (fresh_state t) e).passes).count
      go false e = absurd (omega (arith, h, ap length (stuck (fresh_state t) e calls)))

  -- task i is dropped in tick u as in the tick of the models
  dropped-is : (i u : ℕ) → u ≤ N t calls → dropped_in t calls i u ≡ expires u (task_at (tasks_of t) i) (get_or (model_before t calls u).lefts i 0)
  dropped-is i u h =
      ap₂ (λ (c : ℕ) (y : Table). expires c (task_at (tasks_of y) i) (get_or (model_before t calls u).lefts i 0)) (clock-is t calls u h) (table_is t calls u h)

  -- the drops that are reported are as many as the tasks that are dropped
  pub drops-are : (u : ℕ) → u < N t calls → (tick_at t calls u).entry.drops ≡ tally (λ i. dropped_in t calls i u) 0 (length (tasks_of t))
  drops-are u h =
      ap (λ (x : RanTick). x.entry.drops) (tick_is t calls u h)
      ∙ tally_zip (expires (state_before t calls u).progress.clock) no_task 0 (λ x. refl) (tasks_of (state_before t calls u).table) (model_before t calls u).lefts
      ∙ ap (λ (y : Table). tally (λ i. dropped_in t calls i u) 0 (length (tasks_of y))) (table_is t calls u (omega arith))

-- ---- two lists of calls; u is a tick that ran in both, i a task above the server
module _ (t : Table) (calls calls' : List Call) (i u : ℕ) (b : i < length (tasks_of t)) (a : i < t.server.place) (h : u < N t calls) (h' : u < N t calls') where
  abbrev few : t.n ≤ max_tasks
  few = ran-few t calls (omega arith)

  pub same-ticks : runs_in t calls i u ≡ runs_in t calls' i u
  same-ticks =
      ap (by_task i) (entry-is t calls u h)
      ∙ quiet-has (task_set_of t) (model_before t calls) (model_before t calls') _ _ (played t calls few) (played t calls' few) i b a u h h'
      ∙ ap (by_task i) (sym (entry-is t calls' u h'))

  pub same-drops : dropped_in t calls i u ≡ dropped_in t calls' i u
  same-drops =
      dropped-is t calls i u (omega arith)
      ∙ quiet-drop (task_set_of t) (model_before t calls) (model_before t calls') _ _ (played t calls few) (played t calls' few) i b a u (omega arith) (omega arith)
      ∙ sym (dropped-is t calls' i u (omega arith))
