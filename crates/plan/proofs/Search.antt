-- Laws of the search for a byte: where it ends, and how it parts a stretch of bytes.
use Rattle.std.specs.Prelude.{ℕ, suc, ◌+◌, ◌-◌, ◌≤◌, ◌<◌, ◌≡◌, refl, Option, Some, None, List, [], ◌∷◌, Bool, true, false, length, take, drop, nat_lt, ◌==◌, if◌then◌else◌, position}
use Rattle.std.specs.List.{position_or_len}
use Rattle.std.specs.Option.{option_map}
use Rattle.std.proofs.Common.{sym, ap, ◌∙◌, add-one, arith, length-drop, drop-drop, take_all, lt-ltb, le-ltb, ltb-true, ltb-false}
use Rattle.plan.specs.Text.{end, piece, split, end_from}

-- how many stand before the first c
abbrev pub up_to : ℕ → List ℕ → ℕ
up_to c l = position_or_len (λ x. x == c) l

up_next : (c x : ℕ) (xs : List ℕ) → (x == c) ≡ false → up_to c (x ∷ xs) ≡ suc (up_to c xs)
up_next c x xs e = simp e (omega arith)

-- a parting: the first piece and the rest
more-at :
    (c x : ℕ) (xs : List ℕ) (b : Bool) → (x == c) ≡ b
    → (up_to c xs < length xs → split c xs ≡ piece (take (up_to c xs) xs) (split c (drop (suc (up_to c xs)) xs)))
    → up_to c (x ∷ xs) < suc (length xs)
    → split c (x ∷ xs) ≡ piece (take (up_to c (x ∷ xs)) (x ∷ xs)) (split c (drop (up_to c (x ∷ xs)) xs))
unfolding split
more-at c x xs true e ih h = simp e
more-at c x xs false e ih h =
    let n = up_next c x xs e in
    let k : up_to c xs < length xs = omega arith in
    rw n (simp (e, ih k))

pub split-more : (c : ℕ) (l : List ℕ) → up_to c l < length l → split c l ≡ piece (take (up_to c l) l) (split c (drop (suc (up_to c l)) l))
split-more c [] h = absurd (omega arith)
split-more c (x ∷ xs) h = more-at c x xs (x == c) refl (split-more c xs) h

last-at :
    (c x : ℕ) (xs : List ℕ) (b : Bool) → (x == c) ≡ b → (length xs ≤ up_to c xs → split c xs ≡ end xs)
    → suc (length xs) ≤ up_to c (x ∷ xs) → split c (x ∷ xs) ≡ end (x ∷ xs)
unfolding split
last-at c x xs true e ih h = let k : suc (length xs) ≤ 0 = simp e at h in absurd (omega arith)
last-at c x xs false e ih h =
    let n = up_next c x xs e in
    let k : length xs ≤ up_to c xs = omega arith in
    simp (e, ih k)

pub split-last : (c : ℕ) (l : List ℕ) → length l ≤ up_to c l → split c l ≡ end l
unfolding split
split-last c [] h = refl
split-last c (x ∷ xs) h = last-at c x xs (x == c) refl (split-last c xs) h

-- the search stays inside
up_at : (c x : ℕ) (xs : List ℕ) (b : Bool) → (x == c) ≡ b → up_to c xs ≤ length xs → up_to c (x ∷ xs) ≤ suc (length xs)
up_at c x xs true e h = simp e (omega arith)
up_at c x xs false e h = rw (up_next c x xs e) (omega arith)

up_le : (c : ℕ) (l : List ℕ) → up_to c l ≤ length l
up_le c [] = omega arith
up_le c (x ∷ xs) = up_at c x xs (x == c) refl (up_le c xs)

-- the same from a place on: e is where the search ended
module _ (c : ℕ) (s : List ℕ) (a e : ℕ) (found : e ≡ a + up_to c (drop a s)) where
  pub found_le : a ≤ length s → e ≤ length s
  found_le h = omega (arith, up_le c (drop a s), length-drop a s)

  width : e - a ≡ up_to c (drop a s)
  width = omega arith

  pub part-more : e < length s → split c (drop a s) ≡ piece (take (e - a) (drop a s)) (split c (drop (e + 1) s))
  part-more h =
      let k : up_to c (drop a s) < length (drop a s) = omega (arith, length-drop a s) in
      let w : a + suc (up_to c (drop a s)) ≡ e + 1 = omega arith in
      split-more c (drop a s) k
      ∙ ap (λ (n : ℕ). piece (take n (drop a s)) (split c (drop (suc (up_to c (drop a s))) (drop a s)))) (sym width)
      ∙ ap (λ (l : List ℕ). piece (take (e - a) (drop a s)) (split c l)) (drop-drop (suc (up_to c (drop a s))) a s ∙ ap (λ (n : ℕ). drop n s) w)

  pub part-last : length s ≤ e → split c (drop a s) ≡ end (take (e - a) (drop a s))
  part-last h =
      let k : length (drop a s) ≤ up_to c (drop a s) = omega (arith, length-drop a s) in
      let m : length (drop a s) ≤ e - a = omega arith in
      split-last c (drop a s) k ∙ sym (ap end (take_all (e - a) (drop a s) m))

-- ---- the first c of a list, and what it parts
found_at : (c : ℕ) (l : List ℕ) (b : Bool) → nat_lt (up_to c l) (length l) ≡ b → position (λ x. x == c) l ≡ (if b then Some (up_to c l) else None)
found_at c l true q = simp q
found_at c l false q = simp q

pub record Parted (c : ℕ) (l : List ℕ) (n : ℕ) : Type 0 where
  pub inside : n < length l
  pub parts : split c l ≡ piece (take n l) (split c (drop (n + 1) l))

pub found : (c : ℕ) (l : List ℕ) (n : ℕ) → Some n ≡ position (λ x. x == c) l → Parted c l n
found c l n p = by (nat_lt (up_to c l) (length l)) refl
  where
    by : (b : Bool) → nat_lt (up_to c l) (length l) ≡ b → Parted c l n
    by true q =
        let k : Some n ≡ Some (up_to c l) = p ∙ found_at c l true q in
        let e : n ≡ up_to c l = cc in
        let h : up_to c l < length l = ltb-true _ _ q in
        record { inside = omega arith; parts = rw (e, add-one) (split-more c l h) }
    by false q = let k : Some n ≡ None = p ∙ found_at c l false q in absurd cc

pub missed : (c : ℕ) (l : List ℕ) → None ≡ position (λ x. x == c) l → split c l ≡ end l
missed c l p = by (nat_lt (up_to c l) (length l)) refl
  where
    by : (b : Bool) → nat_lt (up_to c l) (length l) ≡ b → split c l ≡ end l
    by true q = let k : None ≡ Some (up_to c l) = p ∙ found_at c l true q in absurd cc
    by false q = split-last c l (ltb-false _ _ q)

-- ---- the end of the stretch that starts at a
module _ (c : ℕ) (s : List ℕ) (a : ℕ) where
  -- where it is found
  pub record Ended (e : ℕ) : Type 0 where
    pub after : a ≤ e
    pub inside : e < length s
    pub parts : split c (drop a s) ≡ piece (take (e - a) (drop a s)) (split c (drop (e + 1) s))

  ended_at : (e n : ℕ) → e ≡ a + n → Parted c (drop a s) n → Ended e
  ended_at e n w p =
      let width : e - a ≡ n = omega arith in
      let next : a + (n + 1) ≡ e + 1 = omega arith in
      record {
        after = omega arith;
        inside = omega (arith, length-drop a s, p.inside);
        parts =
            p.parts ∙ ap (λ (k : ℕ). piece (take k (drop a s)) (split c (drop (n + 1) (drop a s)))) (sym width)
            ∙ ap (λ (l : List ℕ). piece (take (e - a) (drop a s)) (split c l)) (drop-drop (n + 1) a s ∙ ap (λ (k : ℕ). drop k s) next);
      }

  pub ended : (e : ℕ) → Some e ≡ end_from c s a → Ended e
  ended e p = by (position (λ x. x == c) (drop a s)) refl
    where
      by : (o : Option ℕ) → position (λ x. x == c) (drop a s) ≡ o → Ended e
      by (Some n) q =
          let k : Some e ≡ Some (a + n) = p ∙ ap (option_map (λ m. a + m)) q in
          ended_at e n (cc) (found c (drop a s) n (sym q))
      by None q = let k : Some e ≡ None = p ∙ ap (option_map (λ m. a + m)) q in absurd cc

  -- in the words of how many stand before it
  pub end_at : up_to c (drop a s) < length (drop a s) → Some (a + up_to c (drop a s)) ≡ end_from c s a
  end_at h = ap (option_map (λ m. a + m)) (sym (found_at c (drop a s) true (lt-ltb _ _ h)))

  pub end_none : length (drop a s) ≤ up_to c (drop a s) → None ≡ end_from c s a
  end_none h = ap (option_map (λ m. a + m)) (sym (found_at c (drop a s) false (le-ltb _ _ h)))

  -- where there is none
  pub unended : None ≡ end_from c s a → split c (drop a s) ≡ end (drop a s)
  unended p = by (position (λ x. x == c) (drop a s)) refl
    where
      by : (o : Option ℕ) → position (λ x. x == c) (drop a s) ≡ o → split c (drop a s) ≡ end (drop a s)
      by (Some n) q = let k : None ≡ Some (a + n) = p ∙ ap (option_map (λ m. a + m)) q in absurd cc
      by None q = missed c (drop a s) (sym q)
