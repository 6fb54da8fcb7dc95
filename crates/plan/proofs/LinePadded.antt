-- Padding changes nothing that is read: of a number, and of a line.
use Rattle.std.specs.Prelude.{ℕ, zero, suc, ◌+◌, ◌≤◌, ◌<◌, ◌≡◌, refl, Bool, true, false, ◌&&◌, Option, Some, None, option_and_then, List, [], ◌∷◌, length, nat_le, ◌==◌, if◌then◌else◌}
use Rattle.std.proofs.Common.{sym, ap, ◌∙◌, arith, le-leb, leb-true, eqb-true, ne_eqb}
use Rattle.std.proofs.lemmas.Bool.{lt-leb}
use Rattle.lists.specs.Tests.{and_split, never}
use Rattle.text.specs.Decimal.{max_digits, is_digit, digits, value_from}
use Rattle.plan.specs.declared.line.Line.{Line}
use Rattle.plan.specs.Text.{Pieces, end, piece, grow, split, number_tests, read_number}
use Rattle.plan.specs.Lines.{with_field, each_number, numbers, by_letter, line_of}
use Rattle.plan.specs.LinePadded.{zeros, leading, fits, allowed, padded}

-- ---- a number
pub length_zeros : (k : ℕ) (l : List ℕ) → length (zeros k l) ≡ k + length l
length_zeros zero l = omega arith
length_zeros (suc k) l = omega (arith, length_zeros k l)

digits-zeros : (k : ℕ) (l : List ℕ) → digits (zeros k l) ≡ digits l
unfolding digits
digits-zeros zero l = refl
digits-zeros (suc k) l = digits-zeros k l

value-zeros : (k : ℕ) (l : List ℕ) → value_from 0 (zeros k l) ≡ value_from 0 l
unfolding value_from
value-zeros zero l = refl
value-zeros (suc k) l = value-zeros k l

-- zeros before a number's digits, ten at most in all, read as the same number; before what is no number they make none
pub number-padded : (k : ℕ) (l : List ℕ) → 1 ≤ length l → k + length l ≤ max_digits → read_number (zeros k l) ≡ read_number l
unfolding read_number number_tests
number-padded k l some short =
    let some' : 1 ≤ length (zeros k l) = omega (arith, length_zeros k l) in
    let short' : length (zeros k l) ≤ max_digits = omega (arith, length_zeros k l) in
    let plain : length l ≤ max_digits = omega arith in
    simp (le-leb _ _ some', le-leb _ _ short', le-leb _ _ some, le-leb _ _ plain, digits-zeros k l, value-zeros k l)

-- what is not all digits is no number
not_digits : (l : List ℕ) → digits l ≡ false → read_number l ≡ None
unfolding read_number number_tests
not_digits l e = rw e (by (nat_le 1 (length l)) (nat_le (length l) max_digits))
  where
    by : (a b : Bool) → (if a && (b && false) then Some (value_from 0 l) else None) ≡ None
    by true true = refl
    by true false = refl
    by false b = refl

digits-leading : (f : List ℕ) → digits f ≡ true → leading f ≡ length f
unfolding digits leading
digits-leading [] h = refl
digits-leading (b ∷ f) h = by (is_digit b) h (digits-leading f)
  where
    by : (d : Bool) → (if d then digits f else false) ≡ true → (digits f ≡ true → leading f ≡ length f) → (if d then suc (leading f) else 0) ≡ suc (length f)
    by true e ih = ap suc (ih e)
    by false e ih = never refl e

-- a field's bytes, whatever they are
field_padded : (k : ℕ) (f : List ℕ) → read_number (zeros (allowed k (leading f)) f) ≡ read_number f
unfolding allowed
field_padded k f = by (digits f) refl (fits k (leading f)) refl
  where
    by : (d : Bool) → digits f ≡ d → (r : Bool) → fits k (leading f) ≡ r → read_number (zeros (if r then k else 0) f) ≡ read_number f
    by d e false q = refl
    by true e true q =
        let t = and_split _ _ q in
        let some : 1 ≤ leading f = leb-true _ _ t.0 in
        let short : k + leading f ≤ max_digits = leb-true _ _ t.1 in
        number-padded k f (omega (arith, digits-leading f e)) (omega (arith, digits-leading f e))
    by false e true q = not_digits (zeros k f) (digits-zeros k f ∙ e) ∙ sym (not_digits f e)

-- ---- a text parted at a byte c; its first piece, and something done to it
abbrev pub first_of : Pieces → List ℕ
first_of (end f) = f
first_of (piece f fs) = f

abbrev pub on_first : (List ℕ → List ℕ) → Pieces → Pieces
on_first put (end f) = end (put f)
on_first put (piece f fs) = piece (put f) fs

first-same : (ps : Pieces) → on_first (λ (f : List ℕ). f) ps ≡ ps
first-same (end f) = refl
first-same (piece f fs) = refl

first-grown : (put : List ℕ → List ℕ) (b : ℕ) (ps : Pieces) → on_first put (grow b ps) ≡ on_first (λ (f : List ℕ). put (b ∷ f)) ps
first-grown put b (end f) = refl
first-grown put b (piece f fs) = refl

module _ (c : ℕ) (low : c < 48) where
  -- zeros put before a text are put before its first piece
  pub first-zeros : (k : ℕ) (put : List ℕ → List ℕ) (l : List ℕ) → on_first put (split c (zeros k l)) ≡ on_first (λ (f : List ℕ). put (zeros k f)) (split c l)
  unfolding split
  first-zeros zero put l = refl
  first-zeros (suc k) put l =
      rw (ne_eqb 48 c (λ e. omega arith)) (first-grown put 48 (split c (zeros k l)) ∙ first-zeros k (λ (f : List ℕ). put (48 ∷ f)) l)

  -- a text starts with as many digits as its first piece
  pub leading-first : (l : List ℕ) → leading (first_of (split c l)) ≡ leading l
  unfolding leading split
  leading-first [] = refl
  leading-first (b ∷ l) = by (b == c) refl (split c l) (leading-first l)
    where
      by : (d : Bool) → (b == c) ≡ d → (ps : Pieces) → leading (first_of ps) ≡ leading l →
          leading (first_of (if d then piece [] ps else grow b ps)) ≡ (if is_digit b then suc (leading l) else 0)
      by true e ps h = let k : b < 48 = omega (arith, eqb-true b c e) in simp (lt-leb _ _ k)
      by false e (end f) h = ap (λ (n : ℕ). if is_digit b then suc n else 0) h
      by false e (piece f fs) h = ap (λ (n : ℕ). if is_digit b then suc n else 0) h

-- ---- a line's fields
-- two texts with the same numbers, whatever is put before both
SameNumbers : List ℕ → List ℕ → Type 0
SameNumbers m l = (put : List ℕ → List ℕ) → each_number (on_first put (split 44 m)) ≡ each_number (on_first put (split 44 l))

-- behind a comma
first-padded : (k : ℕ) (ps : Pieces) → each_number (on_first (zeros (allowed k (leading (first_of ps)))) ps) ≡ each_number ps
first-padded k (end f) = ap (λ (n : Option ℕ). with_field n (Some [])) (field_padded k f)
first-padded k (piece f fs) = ap (λ (n : Option ℕ). with_field n (each_number fs)) (field_padded k f)

numbers-at : (k : ℕ) (l m : List ℕ) → SameNumbers m l → numbers (zeros (allowed k (leading l)) m) ≡ numbers l
unfolding numbers SameNumbers
numbers-at k l m same =
    let j = allowed k (leading l) in
    ap each_number (sym (first-same (split 44 (zeros j m))) ∙ first-zeros 44 (omega arith) j (λ (f : List ℕ). f) m) ∙ same (zeros j)
    ∙ ap (λ (n : ℕ). each_number (on_first (zeros (allowed k n)) (split 44 l))) (sym (leading-first 44 (omega arith) l)) ∙ first-padded k (split 44 l)

fields-padded : (ks l : List ℕ) → SameNumbers (padded ks l) l
unfolding padded split numbers SameNumbers
fields-padded [] l = λ put. refl
fields-padded (k ∷ ks) [] = λ put. refl
fields-padded (k ∷ ks) (b ∷ l) = by (b == 44) refl (fields-padded ks l) (fields-padded (k ∷ ks) l)
  where
    by : (d : Bool) → (b == 44) ≡ d → SameNumbers (padded ks l) l → SameNumbers (padded (k ∷ ks) l) l →
        SameNumbers (if d then b ∷ zeros (allowed k (leading l)) (padded ks l) else b ∷ padded (k ∷ ks) l) (b ∷ l)
    by true e behind further put = rw e (ap (with_field (read_number (put []))) (numbers-at k l (padded ks l) behind))
    by false e behind further put =
        rw e (ap each_number (first-grown put b (split 44 (padded (k ∷ ks) l))) ∙ further (λ (f : List ℕ). put (b ∷ f)) ∙ sym (ap each_number (first-grown put b (split 44 l))))

numbers-padded : (k : ℕ) (ks l : List ℕ) → numbers (zeros (allowed k (leading l)) (padded ks l)) ≡ numbers l
numbers-padded k ks l = numbers-at k l (padded ks l) (fields-padded ks l)

-- ---- a line
none_both : (b : Bool) (o : Option Line) → o ≡ None → (if b then o else None) ≡ None
none_both true o e = e
none_both false o e = refl

no_letter : (ns : Option (List ℕ)) → option_and_then (by_letter 44) ns ≡ None
unfolding by_letter
no_letter None = refl
no_letter (Some vs) = refl

comma-first : (c : ℕ) (l : List ℕ) → (c == 44) ≡ true → line_of (c ∷ l) ≡ None
unfolding line_of
comma-first c [] e = refl
comma-first c (k ∷ l) e = rw (eqb-true c 44 e) (none_both (k == 44) (option_and_then (by_letter 44) (numbers l)) (no_letter (numbers l)))

-- "T, S, A and R change with it": a line says the same with its fields padded, and one that says nothing says nothing
pub line-padded : (ks l : List ℕ) → line_of (padded ks l) ≡ line_of l
unfolding padded line_of
line-padded [] l = refl
line-padded (k ∷ ks) [] = refl
line-padded (k ∷ ks) (c ∷ l) = letter (c == 44) refl
  where
    fields : (d : ℕ) (rest : List ℕ) (b : Bool) → (d == 44) ≡ b →
        line_of (c ∷ (if b then d ∷ zeros (allowed k (leading rest)) (padded ks rest) else d ∷ padded (k ∷ ks) rest)) ≡ line_of (c ∷ d ∷ rest)
    fields d rest true e = rw e (ap (option_and_then (by_letter c)) (numbers-padded k ks rest))
    fields d rest false e = rw e refl

    comma : (m : List ℕ) → line_of (c ∷ padded (k ∷ ks) m) ≡ line_of (c ∷ m)
    comma [] = refl
    comma (d ∷ rest) = fields d rest (d == 44) refl

    letter : (b : Bool) → (c == 44) ≡ b →
        line_of (if b then c ∷ zeros (allowed k (leading l)) (padded ks l) else c ∷ padded (k ∷ ks) l) ≡ line_of (c ∷ l)
    letter true e = comma-first c (zeros (allowed k (leading l)) (padded ks l)) e ∙ sym (comma-first c l e)
    letter false e = comma l
