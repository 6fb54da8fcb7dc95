-- Laws of the number writer: a turn of the writing, and its end.
use Prim.Native.Nat.{ℕ, suc, ◌+◌, ◌*◌, ◌/◌, ◌%◌, ◌^◌, ◌≤◌, ◌<◌}
use Rattle.std.specs.Prelude.{◌≡◌, Bool, true, false, List, [], ◌∷◌, ◌++◌, length, ltb}
use Rattle.std.proofs.Math.Path.{refl, ap}
use Rattle.std.proofs.Common.{sym, ◌∙◌, arith, length-append, pow-suc, ltb-true, ltb-false}
use native.Mathlib.Nat.{pow-le-pow_right, zero-lt-suc}
use Rattle.text.specs.declared.Part.{Part}
use Rattle.text.specs.Decimal.{max_digits, digits_of, decimal}
use Rattle.text.specs.Lines.{part_bytes}
use Rattle.text.specs.ReadBack.{ten_pos, length_digits, width_is}

-- the last digits of x, of the powers of ten below p, stand in front of l
pub record Digits (x p : ℕ) (l m : List ℕ) : Type 0 where
  pub count : ℕ
  pub power : p ≡ 10 ^ count
  pub needed : 0 < count → p ≤ x
  pub text : m ≡ digits_of count x ++ l

pub none : (x : ℕ) (l : List ℕ) → Digits x 1 l l
unfolding digits_of
none x l = record { count = 0; power = refl; needed = λ h. absurd (omega arith); text = refl }

module _ {x p : ℕ} {l m : List ℕ} (d : Digits x p l m) where
  pub power_some : 0 < p
  power_some = omega (arith, ten_pos d.count, d.power)

  pub count_few : x < 2 ^ 32 → d.count < max_digits
  count_few h = by (ltb d.count max_digits) refl
    where
      by : (b : Bool) → ltb d.count max_digits ≡ b → d.count < max_digits
      by true e = ltb-true d.count max_digits e
      by false e =
          let many : max_digits ≤ d.count = ltb-false d.count max_digits e in
          let up : 10 ^ max_digits ≤ 10 ^ d.count = pow-le-pow_right (zero-lt-suc 9) many in
          absurd (omega (arith, d.needed (omega arith), d.power))

  pub so_far : length m ≡ d.count + length l
  so_far = omega (arith, ap length d.text, length-append (digits_of d.count x) l, length_digits d.count x)

  -- the digit of the power p, in front
  digit : {q r : ℕ} → q ≡ p → r ≡ 10 → (48 + x / q % r) ∷ m ≡ digits_of (suc d.count) x ++ l
  unfolding digits_of
  digit its ten = rw (its, ten, d.text, d.power) refl

  pub one_more : {q r : ℕ} → q ≡ p → r ≡ 10 → p ≤ x / 10 → Digits x (p * 10) l ((48 + x / q % r) ∷ m)
  one_more its ten h = record {
    count = suc d.count;
    power = ap (λ (n : ℕ). n * 10) d.power ∙ sym (pow-suc 10 d.count);
    needed = λ some. omega arith;
    text = digit its ten;
  }

  pub all : {q r : ℕ} → q ≡ p → r ≡ 10 → x / 10 < p → x < 2 ^ 32 → (48 + x / q % r) ∷ m ≡ decimal x ++ l
  unfolding decimal
  all its ten h fits =
      let top : x < 10 ^ suc d.count = omega (arith, d.power, pow-suc 10 d.count) in
      let low : 0 < d.count → 10 ^ d.count ≤ x = λ some. omega (arith, d.needed some, d.power) in
      digit its ten ∙ ap (λ (w : ℕ). digits_of w x ++ l) (sym (width_is x d.count (omega arith) top low))

-- ---- parts, written from the last one on
-- parts that are still to come, in front of what is written
abbrev pub in_front : List Part → List ℕ → List ℕ
in_front [] l = l
in_front (p ∷ ps) l = part_bytes p ++ in_front ps l

pub in_front_last : (ps : List Part) (p : Part) (l : List ℕ) → in_front (ps ++ p ∷ []) l ≡ in_front ps (part_bytes p ++ l)
in_front_last [] p l = refl
in_front_last (q ∷ ps) p l = ap (λ (m : List ℕ). part_bytes q ++ m) (in_front_last ps p l)
