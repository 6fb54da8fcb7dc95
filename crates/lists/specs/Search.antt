-- The search for a number in a list, as for a byte in a text.
use Rattle.std.specs.Prelude.{ℕ, suc, ◌+◌, ◌≤◌, ◌<◌, ◌≡◌, refl, Bool, true, false, cond, List, [], ◌∷◌, length, get_or, drop, eqb}
use Rattle.std.proofs.Common.{arith, add-one, eq-eqb, ne_eqb, drop_of_length-le, drop-cons}

-- how many stand before the first c
unfoldable pub up_to : ℕ → List ℕ → ℕ
up_to c [] = 0
up_to c (x ∷ xs) = cond (eqb x c) 0 (suc (up_to c xs))

-- ---- laws
-- the search stays inside
up_at : (c x : ℕ) (xs : List ℕ) (b : Bool) → eqb x c ≡ b → up_to c xs ≤ length xs → up_to c (x ∷ xs) ≤ suc (length xs)
unfolding up_to
up_at c x xs true e h = simp e (omega arith)
up_at c x xs false e h = simp e (omega arith)

pub up_le : (c : ℕ) (l : List ℕ) → up_to c l ≤ length l
unfolding up_to
up_le c [] = omega arith
up_le c (x ∷ xs) = up_at c x xs (eqb x c) refl (up_le c xs)

-- a step of it, at place i of s
module _ (c : ℕ) (s : List ℕ) (i : ℕ) where
  pub find_hit : i < length s → get_or s i 0 ≡ c → i + up_to c (drop i s) ≡ i
  unfolding up_to
  find_hit h e = rw (drop-cons s i 0) (simp (eq-eqb _ _ e) (omega arith))

  pub find_miss : i < length s → (get_or s i 0 ≡ c → ⊥) → i + up_to c (drop i s) ≡ (i + 1) + up_to c (drop (i + 1) s)
  unfolding up_to
  find_miss h e = rw (drop-cons s i 0) (simp (ne_eqb _ _ e, add-one) (omega arith))

  pub find_end : length s ≤ i → i + up_to c (drop i s) ≡ i
  unfolding up_to
  find_end h = rw (drop_of_length-le s h) (omega arith)
