-- The first slot of an array leaves, and the others move up by one, a slot at a time.
use Rattle.std.specs.Prelude.{ℕ, zero, suc, ◌+◌, ◌-◌, ◌≤◌, ◌<◌, ◌≡◌, refl, List, [], ◌∷◌, ◌++◌, length, take, drop, get_or, set}
use Rattle.std.proofs.Common.{arith, add-one, ap, length-take-le}
use Rattle.lists.specs.Lists.{overlay}

-- the first i slots have moved up
abbrev pub shifted : {A : Type 0} → List A → ℕ → List A
shifted l i = take i (drop 1 l) ++ drop i l

pub shift_step : {A : Type 0} (l : List A) (i : ℕ) (d : A) → i + 1 < length l →
    set (shifted l i) i (get_or (shifted l i) (i + 1) d) ≡ shifted l (i + 1)
shift_step {A} l i d h = rw add-one (rw (ahead l i (rw add-one at h)) (next l i (rw add-one at h)))
  where
    -- slots ahead are as they were
    ahead : (l : List A) (i : ℕ) → suc i < length l → get_or (shifted l i) (suc i) d ≡ get_or l (suc i) d
    ahead (x ∷ y ∷ l) zero h = refl
    ahead (x ∷ y ∷ l) (suc i) h = ahead (y ∷ l) i (omega arith)
    ahead (x ∷ []) i h = absurd (omega arith)
    ahead [] i h = absurd (omega arith)

    next : (l : List A) (i : ℕ) → suc i < length l → set (shifted l i) i (get_or l (suc i) d) ≡ shifted l (suc i)
    next (x ∷ y ∷ l) zero h = refl
    next (x ∷ y ∷ l) (suc i) h = ap (λ (r : List A). y ∷ r) (next (y ∷ l) i (omega arith))
    next (x ∷ []) i h = absurd (omega arith)
    next [] i h = absurd (omega arith)

-- all of the first n have moved up
pub shifted-all : {A : Type 0} (n : ℕ) (l : List A) → 1 ≤ n → n ≤ length l →
    (shifted l (n - 1) ≡ overlay (drop 1 (take n l)) l) × (n - 1 ≡ length (drop 1 (take n l)))
unfolding overlay
shifted-all zero l a h = absurd (omega arith)
shifted-all (suc m) [] a h = absurd (omega arith)
shifted-all (suc m) (x ∷ l) a h =
    let less : suc m - 1 ≡ m = omega arith in
    (rw (less, length-take-le m l (omega arith)), rw (less, length-take-le m l (omega arith)))
