-- Kind 4's array: what each way through the code gives, over a plain list and how many of its slots are in use.
use Prim.Native.Nat.{ℕ, zero, suc, ◌+◌, ◌-◌, ◌≤◌, ◌<◌}
use native.Mathlib.Omega.{arith}
use native.Mathlib.Numerals.{add-one}
use mathlib.Core.Path.{◌≡◌, refl, sym, ap, ◌∙◌}
use mathlib.Core.Bool.{Bool, true, false, cond, ◌||◌, ◌&&◌}
use mathlib.Core.List.{List, [], ◌∷◌, ◌++◌}
use borrow.Author.Tests.{leb-true, leb-false, ltb-true, le-leb, lt-leb, lt-ltb, le-ltb, eq-eqb, eqb-true}
use lib.Dec.{eqb, ltb, leb}
use lib.ListN.{length, take, drop, get_or, set}
use lib.Seq.{length-take-le, paste, set-get_or, take-length}
use Rattle.lists.specs.Tests.{never, and_split}
use Rattle.lists.specs.Lists.{overlay, overlay_take, overlay-push, length_push, moved_up}
use Rattle.server.specs.declared.Stretch.{Stretch}
use Rattle.server.specs.declared.Returns.{Returns}
use Rattle.server.specs.declared.Slot.{Slot}
use Rattle.server.specs.Returns.{max_held, end_of, returns_with, comes_back, returned, goes_on, grown, held_with}
use Rattle.server.specs.Advanced.{slot_for}

abbrev pub returns_of : List Stretch → ℕ → Returns
returns_of l n = record { stretches = l; n = n }

as_it_was : (l : List Stretch) (n : ℕ) → n ≤ length l → returns_of l n ≡ returns_with (returns_of l n) (take n l)
as_it_was l n h = rw (overlay_take n l, length-take-le n l h)

module _ (d : Stretch) where
  back_some : (P t : ℕ) (l : List Stretch) (n : ℕ) → 1 ≤ n → n ≤ length l → eqb ((get_or l 0 d).start + P) t ≡ comes_back P t (take n l)
  back_some P t l zero a h = absurd (omega arith)
  back_some P t [] (suc n) a h = absurd (omega arith)
  back_some P t (x ∷ l) (suc n) a h = refl

  on-last : (t : ℕ) (l : List Stretch) (i : ℕ) → i < length l → eqb (end_of (get_or l i d)) t ≡ goes_on t (take (suc i) l)
  on-last t [] i h = absurd (omega arith)
  on-last t (x ∷ l) zero h = refl
  on-last t (x ∷ []) (suc i) h = absurd (omega arith)
  on-last t (x ∷ y ∷ l) (suc i) h = on-last t (y ∷ l) i (omega arith)

  pub on_some : (t : ℕ) (l : List Stretch) (n : ℕ) → 1 ≤ n → n ≤ length l → eqb (end_of (get_or l (n - 1) d)) t ≡ goes_on t (take n l)
  on_some t l zero a h = absurd (omega arith)
  on_some t l (suc i) a h = let e : suc i - 1 ≡ i = omega arith in rw e (on-last t l i (omega arith))

  -- the last of a list, by its length
  pub on_back : (t : ℕ) (us : List Stretch) → 0 < length us → eqb (end_of (get_or us (length us - 1) d)) t ≡ goes_on t us
  on_back t us h = on_some t us (length us) (omega arith) (omega arith) ∙ ap (goes_on t) (take-length us)

  pub on_end : (t : ℕ) (l : List Stretch) (n : ℕ) → n ≤ length l → goes_on t (take n l) ≡ true → end_of (get_or l (n - 1) d) ≡ t
  on_end t l zero h e = never refl e
  on_end t l (suc n) h e = eqb-true _ _ (on_some t l (suc n) (omega arith) h ∙ e)

  -- step 3: the oldest tick has come back as the last of its stretch, or not the last, or none has
  gone_whole : (P t : ℕ) (l : List Stretch) (n : ℕ) → 1 ≤ n → n ≤ length l → (get_or l 0 d).start + P ≡ t → (get_or l 0 d).length ≤ 1 →
      returns_with (returns_of l n) (drop 1 (take n l)) ≡ returns_with (returns_of l n) (returned P t (take n l))
  gone_whole P t l zero a h q w = absurd (omega arith)
  gone_whole P t [] (suc n) a h q w = absurd (omega arith)
  gone_whole P t (x ∷ l) (suc n) a h q w = rw (eq-eqb _ _ q, le-leb x.length 1 w)

  gone_one : (P t : ℕ) (l : List Stretch) (n : ℕ) → 1 ≤ n → n ≤ length l → (get_or l 0 d).start + P ≡ t → 1 < (get_or l 0 d).length →
      returns_of (set l 0 (record { start = (get_or l 0 d).start + 1; length = (get_or l 0 d).length - 1 })) n ≡
      returns_with (returns_of l n) (returned P t (take n l))
  unfolding overlay
  gone_one P t l zero a h q w = absurd (omega arith)
  gone_one P t [] (suc n) a h q w = absurd (omega arith)
  gone_one P t (x ∷ l) (suc n) a h q w =
      rw (eq-eqb _ _ q, lt-leb x.length 1 w, length-take-le n l (omega arith))
      (ap (λ (r : List Stretch). returns_of (record { start = x.start + 1; length = x.length - 1 } ∷ r) (suc n)) (sym (again n l (omega arith))))
    where
      again : (m : ℕ) (l : List Stretch) → m ≤ length l → take m l ++ drop m l ≡ l
      again zero l h = refl
      again (suc m) [] h = refl
      again (suc m) (y ∷ l) h = ap (λ (r : List Stretch). y ∷ r) (again m l (omega arith))

  pub due-at : (P t : ℕ) (l : List Stretch) (n : ℕ) → n ≤ length l → comes_back P t (take n l) ≡ true → (1 ≤ n) × ((get_or l 0 d).start + P ≡ t)
  due-at P t l zero h e = never refl e
  due-at P t l (suc n) h e = (omega arith, eqb-true _ _ (back_some P t l (suc n) (omega arith) h ∙ e))

  pub given-whole : (P t : ℕ) (l xs : List Stretch) (n : ℕ) → n ≤ length l → comes_back P t (take n l) ≡ true → (get_or l 0 d).length ≤ 1 → xs ≡ paste l 0 (drop 1 l) (n - 1) →
      returns_of xs (n - 1) ≡ returns_with (returns_of l n) (returned P t (take n l))
  given-whole P t l xs n h e w x =
      let q = due-at P t l n h e in
      let up = moved_up n l q.0 h in
      ap (λ (x : List Stretch). returns_of x (n - 1)) (x ∙ up.0) ∙ ap (λ (m : ℕ). returns_of (overlay (drop 1 (take n l)) l) m) up.1 ∙ gone_whole P t l n q.0 h q.1 w

  pub given-later : (P t : ℕ) (l : List Stretch) (n : ℕ) → n ≤ length l → comes_back P t (take n l) ≡ false → returns_of l n ≡ returns_with (returns_of l n) (returned P t (take n l))
  given-later P t l n h e = rw e (as_it_was l n h)

  pub given-one : (P t : ℕ) (l : List Stretch) (n : ℕ) → n ≤ length l → comes_back P t (take n l) ≡ true → 1 < (get_or l 0 d).length →
      returns_of (set l 0 (record { start = (get_or l 0 d).start + 1; length = (get_or l 0 d).length - 1 })) n ≡
      returns_with (returns_of l n) (returned P t (take n l))
  given-one P t l n h e w = let q = due-at P t l n h e in gone_one P t l n q.0 h q.1 w

  -- step 5, on the last stretch
  on_array : (t : ℕ) (l : List Stretch) (i : ℕ) → i < length l → eqb (end_of (get_or l i d)) t ≡ true →
      set l i (record { start = (get_or l i d).start; length = (get_or l i d).length + 1 }) ≡ overlay (grown t (take (suc i) l)) l
  unfolding overlay
  on_array t [] i h e = absurd (omega arith)
  on_array t (x ∷ l) zero h e = rw e
  on_array t (x ∷ []) (suc i) h e = absurd (omega arith)
  on_array t (x ∷ y ∷ l) (suc i) h e = ap (λ (r : List Stretch). x ∷ r) (on_array t (y ∷ l) i (omega arith) e)

  on_length : (t : ℕ) (l : List Stretch) (i : ℕ) → i < length l → eqb (end_of (get_or l i d)) t ≡ true → length (grown t (take (suc i) l)) ≡ suc i
  on_length t [] i h e = absurd (omega arith)
  on_length t (x ∷ l) zero h e = rw e
  on_length t (x ∷ []) (suc i) h e = absurd (omega arith)
  on_length t (x ∷ y ∷ l) (suc i) h e = ap suc (on_length t (y ∷ l) i (omega arith) e)

  or_true : (a : Bool) → a || true ≡ true
  or_true true = refl
  or_true false = refl

  pub held_on : (t : ℕ) (l : List Stretch) (n : ℕ) → 1 ≤ n → n ≤ length l → goes_on t (take n l) ≡ true →
      returns_of (set l (n - 1) (record { start = (get_or l (n - 1) d).start; length = (get_or l (n - 1) d).length + 1 })) n ≡ held_with (returns_of l n) t
  held_on t l zero a h e = absurd (omega arith)
  held_on t l (suc i) a h e =
      let q : suc i - 1 ≡ i = omega arith in
      let o : eqb (end_of (get_or l i d)) t ≡ true = on-last t l i (omega arith) ∙ e in
      rw (q, e, or_true (ltb (length (take (suc i) l)) max_held), on_length t l i (omega arith) o)
      (ap (λ (r : List Stretch). returns_of r (suc i)) (on_array t l i (omega arith) o))

-- as one of its own
grown-push : (t : ℕ) (us : List Stretch) → goes_on t us ≡ false → grown t us ≡ us ++ (record { start = t; length = 1 } ∷ [])
grown-push t [] e = refl
grown-push t (u ∷ []) e = rw e
grown-push t (u ∷ v ∷ us) e = ap (λ (r : List Stretch). u ∷ r) (grown-push t (v ∷ us) e)

pub held_new : (t : ℕ) (l : List Stretch) (n : ℕ) → n < max_held → n < length l → goes_on t (take n l) ≡ false →
    returns_of (set l n (record { start = t; length = 1 })) (n + 1) ≡ held_with (returns_of l n) t
held_new t l n a h e =
    let u : Stretch = record { start = t; length = 1 } in
    rw (length-take-le n l (omega arith), lt-ltb n max_held a, grown-push t (take n l) e, overlay-push n l u h, length_push n l u h, add-one)

held-full : (t : ℕ) (l : List Stretch) (n : ℕ) → max_held ≤ n → n ≤ length l → goes_on t (take n l) ≡ false → returns_of l n ≡ held_with (returns_of l n) t
held-full t l n a h e = rw (length-take-le n l h, le-ltb n max_held a, e)

-- the slot
pub slot_on : (last : Stretch) (n t : ℕ) → ltb 0 n && eqb (end_of last) t ≡ true →
    record { at = n - 1; stretch = record { start = last.start; length = last.length + 1 }; n = n } ≡ slot_for last n t
slot_on last n t e = rw e

pub slot_full : (last : Stretch) (n t : ℕ) → ltb 0 n && eqb (end_of last) t ≡ false → max_held ≤ n → record { at = n - 1; stretch = last; n = n } ≡ slot_for last n t
slot_full last n t e h = rw (e, le-leb max_held n h)

pub slot_new : (last : Stretch) (n t : ℕ) → ltb 0 n && eqb (end_of last) t ≡ false → n < max_held →
    record { at = n; stretch = record { start = t; length = 1 }; n = n + 1 } ≡ slot_for last n t
slot_new last n t e h = rw (e, lt-leb max_held n h)

pub slot_some : (n : ℕ) (b : Bool) → ltb 0 n && b ≡ true → 0 < n
slot_some n b e = ltb-true 0 n (and_split (ltb 0 n) b e).0

-- a tick held in its slot
module _ (d : Stretch) (t : ℕ) (l : List Stretch) (n : ℕ) (few : n ≤ max_held) (long : length l ≡ max_held) where
  abbrev last : Stretch
  last = get_or l (n - 1) d

  pub on-all : ltb 0 n && eqb (end_of last) t ≡ goes_on t (take n l)
  on-all = go n (omega arith)
    where
      go : (n : ℕ) → n ≤ length l → ltb 0 n && eqb (end_of (get_or l (n - 1) d)) t ≡ goes_on t (take n l)
      go zero h = refl
      go (suc n) h = rw (lt-ltb 0 (suc n) (omega arith)) (on_some d t l (suc n) (omega arith) h)

  pub held_slot : returns_of (set l (slot_for last n t).at (slot_for last n t).stretch) (slot_for last n t).n ≡ held_with (returns_of l n) t
  held_slot = go (ltb 0 n && eqb (end_of last) t) refl (leb max_held n) refl
    where
      go : (b : Bool) → ltb 0 n && eqb (end_of last) t ≡ b → (f : Bool) → leb max_held n ≡ f →
          let h : Slot = cond b (record { at = n - 1; stretch = record { start = last.start; length = last.length + 1 }; n = n })
          (cond f (record { at = n - 1; stretch = last; n = n }) (record { at = n; stretch = record { start = t; length = 1 }; n = n + 1 })) in
          returns_of (set l h.at h.stretch) h.n ≡ held_with (returns_of l n) t
      go true e f q = held_on d t l n (slot_some n (eqb (end_of last) t) e) (omega arith) (sym on-all ∙ e)
      go false e true q =
          ap (λ (x : List Stretch). returns_of x n) (set-get_or l (n - 1) d) ∙ held-full t l n (leb-true max_held n q) (omega arith) (sym on-all ∙ e)
      go false e false q = held_new t l n (leb-false max_held n q) (omega (arith, leb-false max_held n q)) (sym on-all ∙ e)
