-- Lists: two lists joined element by element, and a list laid over the front of an array.
use Rattle.std.specs.Prelude.{ℕ, zero, suc, pred, ◌+◌, ◌-◌, ◌≤◌, ◌<◌, ◌≡◌, refl, Bool, true, false, ◌&&◌, ◌||◌, List, [], ◌∷◌, ◌++◌, length, take, drop, get_or, set}
use Rattle.std.proofs.Common.{arith, le_of_suc-le-suc, not-suc-le-zero, ap, length-append, length-drop, length-take-le}
use Rattle.std.proofs.Math.Seq.{take-append_seam, paste}

-- the elements of two lists, joined one by one, as far as both go
abbrev pub zip_with : {A B C : Type 0} → (A → B → C) → List A → List B → List C
zip_with f [] ys = []
zip_with f (x ∷ xs) [] = []
zip_with f (x ∷ xs) (y ∷ ys) = f x y ∷ zip_with f xs ys

-- some element passes
abbrev pub any : {A : Type 0} → (A → Bool) → List A → Bool
any f [] = false
any f (x ∷ xs) = f x || any f xs

-- every element passes
abbrev pub all : {A : Type 0} → (A → Bool) → List A → Bool
all f [] = true
all f (x ∷ xs) = f x && all f xs

-- every two that stand at one place pass, as far as both lists go
abbrev pub all_with : {A B : Type 0} → (A → B → Bool) → List A → List B → Bool
all_with f [] ys = true
all_with f (x ∷ xs) [] = true
all_with f (x ∷ xs) (y ∷ ys) = f x y && all_with f xs ys

-- how many are true
abbrev pub count : List Bool → ℕ
count [] = 0
count (true ∷ bs) = 1 + count bs
count (false ∷ bs) = count bs

-- an array whose front is `new` and whose later slots are unchanged
unfoldable pub overlay : {A : Type 0} → List A → List A → List A
overlay new old = new ++ drop (length new) old

-- ---- laws
-- one slot more of a loop that writes f x y over y
pub overlay-step : {A B : Type 0} (f : A → B → B) (i : ℕ) (xs : List A) (ys : List B) (a : A) (b : B) →
    i < length xs → i < length ys →
    set (overlay (zip_with f (take i xs) (take i ys)) ys) i (f (get_or xs i a) (get_or ys i b)) ≡
    overlay (zip_with f (take (suc i) xs) (take (suc i) ys)) ys
unfolding overlay
overlay-step f zero [] ys a b p q = absurd (not-suc-le-zero p)
overlay-step f zero (x ∷ xs) [] a b p q = absurd (not-suc-le-zero q)
overlay-step f zero (x ∷ xs) (y ∷ ys) a b p q = refl
overlay-step f (suc i) [] ys a b p q = absurd (not-suc-le-zero p)
overlay-step f (suc i) (x ∷ xs) [] a b p q = absurd (not-suc-le-zero q)
overlay-step {B} f (suc i) (x ∷ xs) (y ∷ ys) a b p q =
    ap {B = List B} (λ r. f x y ∷ r) (overlay-step f i xs ys a b (le_of_suc-le-suc p) (le_of_suc-le-suc q))

-- the loop has not come to slot i yet
pub overlay-ahead : {A B : Type 0} (f : A → B → B) (i : ℕ) (xs : List A) (ys : List B) (b : B) →
    get_or (overlay (zip_with f (take i xs) (take i ys)) ys) i b ≡ get_or ys i b
unfolding overlay
overlay-ahead f zero xs ys b = refl
overlay-ahead f (suc i) [] ys b = refl
overlay-ahead f (suc i) (x ∷ xs) [] b = refl
overlay-ahead f (suc i) (x ∷ xs) (y ∷ ys) b = overlay-ahead f i xs ys b

-- nothing new: the array as it was
pub overlay_take : {A : Type 0} (n : ℕ) (xs : List A) → overlay (take n xs) xs ≡ xs
unfolding overlay
overlay_take zero xs = refl
overlay_take (suc n) [] = refl
overlay_take {A} (suc n) (x ∷ xs) = ap {B = List A} (λ r. x ∷ r) (overlay_take n xs)

-- one element more: a store behind the front
pub overlay-push : {A : Type 0} (n : ℕ) (xs : List A) (a : A) → n < length xs → overlay (take n xs ++ (a ∷ [])) xs ≡ set xs n a
unfolding overlay
overlay-push zero [] a h = absurd (not-suc-le-zero h)
overlay-push zero (x ∷ xs) a h = refl
overlay-push (suc n) [] a h = absurd (not-suc-le-zero h)
overlay-push {A} (suc n) (x ∷ xs) a h = ap {B = List A} (λ r. x ∷ r) (overlay-push n xs a (le_of_suc-le-suc h))

pub length_push : {A : Type 0} (n : ℕ) (xs : List A) (a : A) → n < length xs → length (take n xs ++ (a ∷ [])) ≡ suc n
length_push zero xs a h = refl
length_push (suc n) [] a h = absurd (not-suc-le-zero h)
length_push (suc n) (x ∷ xs) a h = ap suc (length_push n xs a (le_of_suc-le-suc h))

-- what was laid over an array is read back
pub take_overlay : {A : Type 0} (n : ℕ) (new old : List A) → length new ≡ n → take n (overlay new old) ≡ new
unfolding overlay
take_overlay n new old e = rw (← e) (take-append_seam new (drop (length new) old))

-- a list of equal length is joined to one of that length
pub zip_length : {A B C : Type 0} (f : A → B → C) (xs : List A) (ys : List B) → length xs ≡ length ys → length (zip_with f xs ys) ≡ length ys
zip_length f [] ys e = e
zip_length f (x ∷ xs) [] e = refl
zip_length f (x ∷ xs) (y ∷ ys) e = ap suc (zip_length f xs ys (ap pred e))

-- a longer list laid over the same front
pub overlay-again : {A : Type 0} (new first old : List A) → length first ≤ length new → overlay new (overlay first old) ≡ overlay new old
unfolding overlay
overlay-again {A} new first old h = ap (λ (xs : List A). new ++ xs) (go (length new) first old h)
  where
    none : (k : ℕ) → ◌≡◌ {A = List A} (drop k []) []
    none zero = refl
    none (suc k) = refl

    go : (n : ℕ) (first old : List A) → length first ≤ n → drop n (first ++ drop (length first) old) ≡ drop n old
    go n [] old h = refl
    go zero (x ∷ first) old h = absurd (not-suc-le-zero h)
    go (suc n) (x ∷ first) [] h = rw (none (length first), none n) at (go n first [] (le_of_suc-le-suc h))
    go (suc n) (x ∷ first) (y ∷ old) h = go n first old (le_of_suc-le-suc h)

-- it is as long as what it is laid over
pub overlay_length : {A : Type 0} (new old : List A) → length new ≤ length old → length (overlay new old) ≡ length old
unfolding overlay
overlay_length new old h = simp (length-append, length-drop) (omega arith)

-- the first slot of an array leaves, and the others of the first n move up by one
pub moved_up : {A : Type 0} (n : ℕ) (l : List A) → 1 ≤ n → n ≤ length l →
    (paste l 0 (drop 1 l) (n - 1) ≡ overlay (drop 1 (take n l)) l) × (n - 1 ≡ length (drop 1 (take n l)))
unfolding overlay
moved_up zero l a h = absurd (omega arith)
moved_up (suc m) [] a h = absurd (omega arith)
moved_up (suc m) (x ∷ l) a h =
    let less : suc m - 1 ≡ m = omega arith in
    let none : 0 + m ≡ m = omega arith in
    (rw (less, none, length-take-le m l (omega arith)), rw (less, length-take-le m l (omega arith)))
