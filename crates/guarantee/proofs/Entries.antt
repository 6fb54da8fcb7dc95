-- What the choice of a tick does to one task, and when a request has it, as the tick's entry tells.
use Rattle.std.specs.Prelude.{ℕ, zero, suc, ◌+◌, ◌-◌, ◌≤◌, ◌<◌, ◌≡◌, refl, Bool, true, false, cond, ◌&&◌, ◌||◌, List, [], ◌∷◌, eqb, length, take, get_or, set}
use Rattle.std.proofs.Common.{arith, ltb-true}
use Rattle.std.proofs.Math.Dec.{eqb-zero-suc, eqb-suc-zero, eqb-suc-suc}
use Rattle.lists.specs.Tests.{never}
use Rattle.queue.specs.declared.Request.{Request}
use Rattle.table.specs.declared.Task.{Task}
use Rattle.rules.specs.declared.Turn.{Turn}
use Rattle.rules.specs.Tick.{is_open, any_open, opened, opened_all, first_open, choose, by_budget, worked_tasks, occupant_of}
use Rattle.rules.specs.Calls.{entry_by}
use Rattle.guarantee.specs.Calls.{by_task, by_request}
use Rattle.guarantee.proofs.TieLaws.{nth}

-- the first open task loses one tick, and no other does
first-works : (ls : List ℕ) → any_open ls ≡ true → (i : ℕ) →
    cond (eqb (first_open ls) i) 1 0 + nth (set ls (first_open ls) (nth ls (first_open ls) - 1)) i ≡ nth ls i
first-works [] e i = never refl e
first-works (l ∷ ls) e i = go (is_open l) refl e i (λ q j. first-works ls q j)
  where
    Goal : ℕ → ℕ → Type 0
    Goal n i = cond (eqb n i) 1 0 + nth (set (l ∷ ls) n (nth (l ∷ ls) n - 1)) i ≡ nth (l ∷ ls) i

    go : (b : Bool) → is_open l ≡ b → (b || any_open ls) ≡ true → (i : ℕ) →
        (any_open ls ≡ true → (j : ℕ) → cond (eqb (first_open ls) j) 1 0 + nth (set ls (first_open ls) (nth ls (first_open ls) - 1)) j ≡ nth ls j) →
        Goal (cond b 0 (suc (first_open ls))) i
    go true q e zero ih = omega (arith, ltb-true 0 l q)
    go true q e (suc i) ih = rw (eqb-zero-suc i) (omega arith)
    go false q e zero ih = rw (eqb-suc-zero (first_open ls)) (omega arith)
    go false q e (suc i) ih = rw (eqb-suc-suc (first_open ls) i) (ih e i)

-- the task that has the tick loses one tick of work, and no other does
pub task_step_lem : (s : ℕ) (waiting x : Bool) (ls : List ℕ) (q : List Request) (d i : ℕ) →
    let turn : Turn = choose (any_open (take s ls)) (any_open ls) waiting x (first_open ls) in
    cond (by_task i (entry_by (occupant_of turn q) d)) 1 0 + nth (worked_tasks turn ls) i ≡ nth ls i
task_step_lem s waiting x ls q d i = go (any_open (take s ls)) (some s ls) x (any_open ls) (λ o. first-works ls o i) waiting
  where
    some : (s : ℕ) (ls : List ℕ) → any_open (take s ls) ≡ true → any_open ls ≡ true
    some zero ls e = never refl e
    some (suc s) [] e = e
    some (suc s) (l ∷ ls) e = by (is_open l) (some s ls) e
      where
        by : (b : Bool) → (any_open (take s ls) ≡ true → any_open ls ≡ true) → (b || any_open (take s ls)) ≡ true → (b || any_open ls) ≡ true
        by true ih e = refl
        by false ih e = ih e

    Goal : Turn → Type 0
    Goal turn = cond (by_task i (entry_by (occupant_of turn q) d)) 1 0 + nth (worked_tasks turn ls) i ≡ nth ls i

    go : (above : Bool) → (above ≡ true → any_open ls ≡ true) → (e busy : Bool) → (busy ≡ true → Goal (Turn.Task (first_open ls))) → (idle : Bool) →
        Goal (cond above (Turn.Task (first_open ls)) (cond e Turn.Budget (cond busy (Turn.Task (first_open ls)) (cond idle Turn.Spare Turn.Nobody))))
    go true h e busy f idle = first-works ls (h refl) i
    go false h true busy f idle = omega arith
    go false h false true f idle = f refl
    go false h false false f true = omega arith
    go false h false false f false = omega arith

-- where b and a waiting request alone decide whether the server may serve, a request has the tick with b above 0 just by the budget
pub budget-step : (above busy waiting some : Bool) (first d : ℕ) (q : List Request) →
    let turn : Turn = choose above busy waiting (waiting && some) first in
    (by_request (entry_by (occupant_of turn q) d) && some) ≡ by_budget turn
budget-step true busy waiting some first d q = refl
budget-step false busy true true first d q = refl
budget-step false true true false first d q = refl
budget-step false false true false first d q = refl
budget-step false true false some first d q = refl
budget-step false false false some first d q = refl

-- what is left of each task after steps 1 and 2
pub opened-nth : (t : ℕ) (xs : List Task) (ls : List ℕ) → length xs ≤ length ls → (i : ℕ) (d : Task) → i < length xs → nth (opened_all t xs ls) i
    ≡ opened t (get_or xs i d) (nth ls i)
opened-nth t [] ls h i d q = absurd (omega arith)
opened-nth t (x ∷ xs) [] h i d q = absurd (omega arith)
opened-nth t (x ∷ xs) (l ∷ ls) h zero d q = refl
opened-nth t (x ∷ xs) (l ∷ ls) h (suc i) d q = opened-nth t xs ls (omega arith) i d (omega arith)
