-- Bytes written into a lent buffer from a place on.
use Rattle.std.specs.Prelude.{ℕ, suc, ◌+◌, ◌≤◌, ◌<◌, ◌≡◌, refl, cond, List, [], ◌∷◌, ◌++◌, length, take, drop, set, leb}
use Rattle.std.proofs.Common.{sym, ap, ◌∙◌, subst, arith, le-leb, append_assoc, length-append, length-take, take_at, drop_at, drop-drop}
use borrow.Rule.Slice.PartMut.{put_mid}
use Rattle.std.proofs.lemmas.Bool.{lt-leb}
use Rattle.std.proofs.lemmas.List.Edits.{sets, sets-eq}
use Rattle.std.proofs.Math.Seq.{length-sets}

-- the list m is l with the bytes bs written from a place on, and r is the place after them
pub record Wrote (l : List ℕ) (at : ℕ) (bs : List ℕ) (m : List ℕ) (r : ℕ) : Type 0 where
  pub bytes : m ≡ sets l at bs
  pub next : r ≡ at + length bs

-- what goes into a buffer: the bytes, or nothing where fewer than `room` places are left
unfoldable pub if_room : ℕ → List ℕ → ℕ → List ℕ → List ℕ
if_room room l at bs = cond (leb (at + room) (length l)) bs []

-- ---- laws
pub has_room : (room : ℕ) (l : List ℕ) (at : ℕ) (bs : List ℕ) → at + room ≤ length l → if_room room l at bs ≡ bs
unfolding if_room
has_room room l at bs h = simp (le-leb _ _ h)

pub wrote-same : {l m xs bs : List ℕ} {at r : ℕ} → xs ≡ bs → Wrote l at xs m r → Wrote l at bs m r
wrote-same {l} {m} {xs} {bs} {at} {r} e w = subst (λ (k : List ℕ). Wrote l at k m r) e w

pub next-same : {l m bs : List ℕ} {at r q : ℕ} → r ≡ q → Wrote l at bs m q → Wrote l at bs m r
next-same e w = record { bytes = w.bytes; next = omega (arith, e, w.next) }

pub nothing_written : (l : List ℕ) (at : ℕ) → Wrote l at [] l at
nothing_written l at = record { bytes = refl; next = omega arith }

pub no_room : (room : ℕ) (l : List ℕ) (at : ℕ) (bs : List ℕ) → length l < at + room → Wrote l at (if_room room l at bs) l at
unfolding if_room
no_room room l at bs h = simp (lt-leb _ _ h) (nothing_written l at)

-- bytes that are put in the place of as many others are written
pub wrote-mid :
    {l xs bs : List ℕ} {at from n r : ℕ} → from ≡ at → n ≡ length bs → r ≡ at + n → at + n ≤ length l → xs ≡ bs → Wrote l at bs (put_mid from n l xs) r
wrote-mid {l} {xs} {bs} {at} f k q h e = record {
  bytes = rw (f, e, k) (
      sym (append_assoc (take at l) bs (drop (length bs) (drop at l)))
      ∙ ap (λ (z : List ℕ). take at l ++ bs ++ z) (drop-drop (length bs) at l)
      ∙ sym (sets-eq bs l at (omega (arith, k)))
      );
  next = omega (arith, k, q);
}

-- one run of stores after another
sets_append : (xs bs l : List ℕ) (i : ℕ) → sets (sets l i xs) (i + length xs) bs ≡ sets l i (xs ++ bs)
sets_append [] bs l i = let e : i + 0 ≡ i = omega arith in rw e refl
sets_append (a ∷ xs) bs l i = let e : i + suc (length xs) ≡ suc i + length xs = omega arith in rw e (sets_append xs bs (set l i a) (suc i))

-- what is written piece after piece is written
pub then : {l m n xs bs : List ℕ} {at r q : ℕ} → Wrote l at xs m r → Wrote m r bs n q → Wrote l at (xs ++ bs) n q
then {l} {m} {n} {xs} {bs} {at} {r} {q} v w = record {
  bytes = w.bytes ∙ ap (λ (x : ℕ). sets m x bs) v.next ∙ ap (λ (k : List ℕ). sets k (at + length xs) bs) v.bytes ∙ sets_append xs bs l at;
  next = omega (arith, length-append xs bs);
}

pub wrote_length : {l m bs : List ℕ} {at r : ℕ} → Wrote l at bs m r → length m ≡ length l
wrote_length {l} {m} {bs} {at} w = ap length w.bytes ∙ length-sets l at bs

-- bytes that fit were written: what stands before them, and what stands behind
module _ {l m bs : List ℕ} {at r : ℕ} (w : Wrote l at bs m r) (h : r ≤ length l) where
  parts : m ≡ take at l ++ bs ++ drop (at + length bs) l
  parts = w.bytes ∙ sets-eq bs l at (omega (arith, w.next))

  size : length (take at l ++ bs) ≡ r
  size = omega (arith, w.next, length-append (take at l) bs, length-take at l)

  pub front : take r m ≡ take at l ++ bs
  front = ap (take r) parts ∙ take_at (take at l ++ bs) (drop (at + length bs) l) r size

  pub behind : drop r m ≡ drop r l
  behind = ap (drop r) parts ∙ drop_at (take at l ++ bs) (drop (at + length bs) l) r size ∙ ap (λ (n : ℕ). drop n l) (sym w.next)
