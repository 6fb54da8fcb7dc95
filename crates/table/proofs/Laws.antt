-- The code asks by the library's words: `position` for the first bad task, `zip` and `all` for what is left of each. Here they are the words of the limits.
-- And set-up's state, with the fresh state beside a refusal.
use Rattle.std.specs.Prelude.{ℕ, zero, suc, ◌+◌, ◌≡◌, refl, Bool, true, false, cond, not, ◌&&◌, List, [], ◌∷◌, length, take, ltb, None, Some, position, Result, Ok, Err}
use Rattle.std.proofs.Common.{ap, arith, ◌∙◌}
use Rattle.std.specs.List.{zip, list_all, position_or_len}
use Rattle.std.specs.Result.{result_unwrap_or}
use Rattle.lists.specs.Lists.{all_with}
use Rattle.table.specs.declared.Task.{Task}
use Rattle.table.specs.declared.Table.{Table}
use Rattle.table.specs.declared.Refusal.{Refusal}
use Rattle.table.specs.Limits.{task_fits, first_bad}
use Rattle.table.specs.Refusal.{giving}
use Rattle.table.specs.State.{left_fits, fresh_state, table_check, set_up_call}

-- the index of the first bad task, or how many tasks there are
bad_place : (xs : List Task) → first_bad xs ≡ position_or_len (λ x. not (task_fits x)) xs
bad_place [] = refl
bad_place (x ∷ xs) = by (task_fits x) (bad_place xs)
  where
    by : (b : Bool) {m n : ℕ} → m ≡ n → cond b (suc m) 0 ≡ cond (not (not b)) (1 + n) 0
    by true e = omega (arith, e)
    by false e = refl

-- the first bad task, where there is one
pub bad_position : (xs : List Task) → position (λ x. not (task_fits x)) xs ≡ cond (ltb (first_bad xs) (length xs)) (Some (first_bad xs)) None
bad_position xs = rw (bad_place xs) refl

-- what is left of each of the first n tasks, paired with them up to the shorter end
lefts_zip : (n : ℕ) (xs : List Task) (ls : List ℕ) →
    list_all (λ p. left_fits p.0 p.1) (zip (take n xs) ls) ≡ all_with left_fits (take n xs) (take n ls)
lefts_zip zero xs ls = refl
lefts_zip (suc n) [] ls = refl
lefts_zip (suc n) (x ∷ xs) [] = refl
lefts_zip (suc n) (x ∷ xs) (l ∷ ls) = ap (λ b. left_fits x l && b) (lefts_zip n xs ls)

-- the same of the tasks in use, in hand
pub lefts_of : (n : ℕ) (ts xs : List Task) (ls : List ℕ) (b : Bool) → b ≡ list_all (λ p. left_fits p.0 p.1) (zip ts ls) → ts ≡ take n xs →
    b ≡ all_with left_fits (take n xs) (take n ls)
lefts_of n ts xs ls b e f = e ∙ rw f (lefts_zip n xs ls)

-- set-up's state, with the fresh state beside a refusal: the fresh state of every table
pub set_up_or_fresh : (t : Table) → result_unwrap_or (set_up_call t) (fresh_state t) ≡ fresh_state t
set_up_or_fresh t = by (table_check t)
  where
    by : (a : Result Unit Refusal) → result_unwrap_or (giving a (fresh_state t)) (fresh_state t) ≡ fresh_state t
    by (Ok u) = refl
    by (Err r) = refl
