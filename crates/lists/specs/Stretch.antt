-- A stretch of a list, and how many of its elements pass a test.
use Rattle.std.specs.Prelude.{ℕ, zero, suc, ◌+◌, ◌≤◌, ◌<◌, ◌≡◌, refl, Bool, true, false, cond, ◌&&◌, List, [], ◌∷◌, map, length, take, drop, get_or}
use Rattle.std.proofs.Common.{arith, sym, ap, ◌∙◌}
use Rattle.lists.specs.Lists.{count, zip_with}

-- the elements r to r + n − 1
abbrev pub stretch : {A : Type 0} → ℕ → ℕ → List A → List A
stretch r n xs = take n (drop r xs)

abbrev pub how_many : {A : Type 0} → (A → Bool) → List A → ℕ
how_many f xs = count (map f xs)

-- how many of the numbers r to r + n − 1 pass
abbrev pub tally : (ℕ → Bool) → ℕ → ℕ → ℕ
tally f r zero = 0
tally f r (suc n) = cond (f r) 1 0 + tally f (suc r) n

-- ---- laws
pub count_cons : (b : Bool) (bs : List Bool) → count (b ∷ bs) ≡ cond b 1 0 + count bs
count_cons true bs = refl
count_cons false bs = omega arith

tally_shift : (f : ℕ → Bool) (r n : ℕ) → tally (λ u. f (suc u)) r n ≡ tally f (suc r) n
tally_shift f r zero = refl
tally_shift f r (suc n) = ap (λ (k : ℕ). cond (f (suc r)) 1 0 + k) (tally_shift f (suc r) n)

-- how many of a stretch pass is told by their numbers
pub tally-stretch : {A : Type 0} (f : A → Bool) (d : A) (r n : ℕ) (xs : List A) → r + n ≤ length xs → how_many f (stretch r n xs)
    ≡ tally (λ u. f (get_or xs u d)) r n
tally-stretch f d zero zero xs h = refl
tally-stretch f d zero (suc n) [] h = absurd (omega arith)
tally-stretch f d zero (suc n) (x ∷ xs) h =
    count_cons (f x) (map f (take n xs)) ∙ ap (λ (k : ℕ). cond (f x) 1 0 + k)
    (tally-stretch f d zero n xs (omega arith) ∙ tally_shift (λ u. f (get_or (x ∷ xs) u d)) 0 n)
tally-stretch f d (suc r) n [] h = absurd (omega arith)
tally-stretch f d (suc r) n (x ∷ xs) h = tally-stretch f d r n xs (omega arith) ∙ tally_shift (λ u. f (get_or (x ∷ xs) u d)) r n

tally-none : (f : ℕ → Bool) → ((u : ℕ) → f u ≡ false) → (r n : ℕ) → tally f r n ≡ 0
tally-none f h r zero = refl
tally-none f h r (suc n) = omega (arith, ap {B = ℕ} (λ (b : Bool). cond b 1 0) (h r), tally-none f h (suc r) n)

-- how many pass of two lists joined by a test that nothing passes with b, as which the second list goes on
pub tally_zip : {A B : Type 0} (f : A → B → Bool) (a : A) (b : B) → ((x : A) → f x b ≡ false) → (xs : List A) (ys : List B) →
    count (zip_with f xs ys) ≡ tally (λ i. f (get_or xs i a) (get_or ys i b)) 0 (length xs)
tally_zip f a b none [] ys = refl
tally_zip f a b none (x ∷ xs) [] = sym (tally-none (λ i. f (get_or (x ∷ xs) i a) b) (λ i. none (get_or (x ∷ xs) i a)) 0 (suc (length xs)))
tally_zip f a b none (x ∷ xs) (y ∷ ys) =
    count_cons (f x y) (zip_with f xs ys) ∙ ap (λ (k : ℕ). cond (f x y) 1 0 + k)
    (tally_zip f a b none xs ys ∙ tally_shift (λ i. f (get_or (x ∷ xs) i a) (get_or (y ∷ ys) i b)) 0 (length xs))

-- what passes two tests passes the first
pub tally-both : (f g : ℕ → Bool) (r n : ℕ) → tally (λ u. f u && g u) r n ≤ tally f r n
tally-both f g r zero = omega arith
tally-both f g r (suc n) = go (f r) (g r) (tally-both f g (suc r) n)
  where
    go : (a b : Bool) → tally (λ u. f u && g u) (suc r) n ≤ tally f (suc r) n →
        cond (a && b) 1 0 + tally (λ u. f u && g u) (suc r) n ≤ cond a 1 0 + tally f (suc r) n
    go true true h = omega (arith, h)
    go true false h = omega (arith, h)
    go false b h = omega (arith, h)

-- two tests that agree on the stretch
pub tally-same : (f g : ℕ → Bool) (r n : ℕ) → ((u : ℕ) → r ≤ u → u < r + n → f u ≡ g u) → tally f r n ≡ tally g r n
tally-same f g r zero h = refl
tally-same f g r (suc n) h =
    omega (arith, ap {B = ℕ} (λ (b : Bool). cond b 1 0) (h r (omega arith) (omega arith)), tally-same f g (suc r) n (λ u a b. h u (omega arith) (omega arith)))
