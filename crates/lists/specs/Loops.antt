-- A test of each element in a loop: the first i passed, and the next does too or does not.
use Rattle.std.specs.Prelude.{ℕ, zero, suc, ◌<◌, ◌≡◌, refl, Bool, true, false, ◌&&◌, List, [], ◌∷◌, length, take, get_or}
use Rattle.std.proofs.Common.{arith}
use Rattle.lists.specs.Lists.{all, all_with}
use Rattle.lists.specs.Tests.{and_split, and_join}

pub and_false : (b : Bool) → b && false ≡ false
and_false true = refl
and_false false = refl

pub and_true : (b : Bool) → b && true ≡ b
and_true true = refl
and_true false = refl

module _ {A : Type 0} (f : A → Bool) (d : A) where
  pub all-step : (i : ℕ) (l : List A) → i < length l → all f (take i l) ≡ true → f (get_or l i d) ≡ true →
      all f (take (suc i) l) ≡ true
  all-step i [] h a p = absurd (omega arith)
  all-step zero (x ∷ l) h a p = and_join (f x) true p refl
  all-step (suc i) (x ∷ l) h a p =
      let s = and_split (f x) (all f (take i l)) a in
      and_join (f x) (all f (take (suc i) l)) s.0 (all-step i l (omega arith) s.1 p)

  pub all_fails : (i n : ℕ) (l : List A) → i < n → i < length l → f (get_or l i d) ≡ false → all f (take n l) ≡ false
  all_fails i zero l h k p = absurd (omega arith)
  all_fails i (suc n) [] h k p = absurd (omega arith)
  all_fails zero (suc n) (x ∷ l) h k p = rw p
  all_fails (suc i) (suc n) (x ∷ l) h k p = rw (all_fails i n l (omega arith) (omega arith) p) (and_false (f x))

  -- what every element passes, the one at i does
  pub all-at : (i n : ℕ) (l : List A) → i < n → i < length l → all f (take n l) ≡ true → f (get_or l i d) ≡ true
  all-at i zero l h k a = absurd (omega arith)
  all-at i (suc n) [] h k a = absurd (omega arith)
  all-at zero (suc n) (x ∷ l) h k a = (and_split (f x) (all f (take n l)) a).0
  all-at (suc i) (suc n) (x ∷ l) h k a =
      all-at i n l (omega arith) (omega arith) (and_split (f x) (all f (take n l)) a).1

-- the same of two lists
module _ {A B : Type 0} (f : A → B → Bool) (d : A) (e : B) where
  pub all_with-step : (i : ℕ) (xs : List A) (ys : List B) → i < length xs → i < length ys →
      all_with f (take i xs) (take i ys) ≡ true → f (get_or xs i d) (get_or ys i e) ≡ true →
      all_with f (take (suc i) xs) (take (suc i) ys) ≡ true
  all_with-step i [] ys h k a p = absurd (omega arith)
  all_with-step i (x ∷ xs) [] h k a p = absurd (omega arith)
  all_with-step zero (x ∷ xs) (y ∷ ys) h k a p = and_join (f x y) true p refl
  all_with-step (suc i) (x ∷ xs) (y ∷ ys) h k a p =
      let s = and_split (f x y) (all_with f (take i xs) (take i ys)) a in
      and_join (f x y) (all_with f (take (suc i) xs) (take (suc i) ys)) s.0
      (all_with-step i xs ys (omega arith) (omega arith) s.1 p)

  pub all_with_fails : (i n : ℕ) (xs : List A) (ys : List B) → i < n → i < length xs → i < length ys →
      f (get_or xs i d) (get_or ys i e) ≡ false → all_with f (take n xs) (take n ys) ≡ false
  all_with_fails i zero xs ys h k m p = absurd (omega arith)
  all_with_fails i (suc n) [] ys h k m p = absurd (omega arith)
  all_with_fails i (suc n) (x ∷ xs) [] h k m p = absurd (omega arith)
  all_with_fails zero (suc n) (x ∷ xs) (y ∷ ys) h k m p = rw p
  all_with_fails (suc i) (suc n) (x ∷ xs) (y ∷ ys) h k m p =
      rw (all_with_fails i n xs ys (omega arith) (omega arith) (omega arith) p) (and_false (f x y))
