-- What is written of a number reads back as the number: its digits say it, there are 1 to max_digits of them, and the first is `0` only
-- where it stands alone.
use Prim.Native.Nat.{ℕ, zero, suc, ◌+◌, ◌-◌, ◌*◌, ◌/◌, ◌%◌, ◌^◌, ◌≤◌, ◌<◌}
use Rattle.std.specs.Prelude.{◌≡◌, Bool, true, false, cond, ltb}
use Rattle.std.proofs.Math.Path.{refl, ap}
use Rattle.std.proofs.Common.{sym, ◌∙◌, subst, arith, pow-suc, div-one, div-add-mod', mod-eq_of_lt, le-div_iff_mul-le, div-lt_iff_lt-mul, ltb-true, ltb-false, le-leb}
use native.Mathlib.Nat.{pow-le-pow_right, zero-lt-suc}
use Rattle.std.proofs.Math.Nat.{pow-zero, div-div-eq-div-mul, div-eq_of_lt}
use Rattle.std.proofs.Math.ListN.{length, get_or}
use Rattle.text.specs.Decimal.{max_digits, width_from, width_of, digits_of, decimal, digits, value_from}

pub ten_pos : (k : ℕ) → 0 < 10 ^ k
ten_pos zero = omega arith
ten_pos (suc k) = omega (arith, ten_pos k, pow-suc 10 k)

-- the number above the last w digits, read on through them, is the whole number
value-digits : (w x : ℕ) → value_from (x / 10 ^ w) (digits_of w x) ≡ x
unfolding value_from digits_of
value-digits zero x = ap (λ (n : ℕ). x / n) (pow-zero 10) ∙ div-one x
value-digits (suc w) x =
    let e : x / 10 ^ suc w ≡ x / 10 ^ w / 10 = ap (λ (n : ℕ). x / n) (pow-suc 10 w) ∙ sym (div-div-eq-div-mul x (10 ^ w) 10) in
    let d : x / 10 ^ suc w * 10 + ((48 + x / 10 ^ w % 10) - 48) ≡ x / 10 ^ w = omega (arith, e, div-add-mod' (x / 10 ^ w) 10) in
    ap (λ (n : ℕ). value_from n (digits_of w x)) d ∙ value-digits w x

pub length_digits : (w x : ℕ) → length (digits_of w x) ≡ w
unfolding digits_of
length_digits zero x = refl
length_digits (suc w) x = ap suc (length_digits w x)

all_digits : (w x : ℕ) → digits (digits_of w x) ≡ true
unfolding digits digits_of
all_digits zero x = refl
all_digits (suc w) x =
    let low : 48 ≤ 48 + x / 10 ^ w % 10 = omega arith in
    let high : 48 + x / 10 ^ w % 10 ≤ 57 = omega arith in
    simp (le-leb _ _ low, le-leb _ _ high) (all_digits w x)

-- what the search for the width finds, from w on
pub record Width (k w x m : ℕ) : Type 0 where
  pub least : w ≤ m
  pub most : m ≤ w + k
  pub fits : x < 10 ^ (w + k) → x < 10 ^ m
  pub needed : (p : ℕ) → m ≡ suc p → w ≤ p → 10 ^ p ≤ x

width-found : (k w x : ℕ) → Width k w x (width_from k w x)
unfolding width_from
width-found zero w x = record {
  least = omega arith;
  most = omega arith;
  fits = λ h. subst (λ (n : ℕ). x < 10 ^ n) (omega arith) h;
  needed = λ p e h. absurd (omega arith);
}
width-found (suc k) w x = by (ltb x (10 ^ w)) refl (width-found k (w + 1) x)
  where
    by : (b : Bool) → ltb x (10 ^ w) ≡ b → Width k (w + 1) x (width_from k (w + 1) x) → Width (suc k) w x (cond b w (width_from k (w + 1) x))
    by true e ih = record {
      least = omega arith;
      most = omega arith;
      fits = λ h. ltb-true x (10 ^ w) e;
      needed = λ p q h. absurd (omega arith);
    }
    by false e ih = record {
      least = omega (arith, ih.least);
      most = omega (arith, ih.most);
      fits = λ h. ih.fits (subst (λ (n : ℕ). x < 10 ^ n) (omega arith) h);
      needed = λ p q h. at p q h (ltb w p) refl;
    }
      where
        at : (p : ℕ) → width_from k (w + 1) x ≡ suc p → w ≤ p → (c : Bool) → ltb w p ≡ c → 10 ^ p ≤ x
        at p q h true f = ih.needed p q (omega (arith, ltb-true w p f))
        at p q h false f =
            let same : p ≡ w = omega (arith, ltb-false w p f) in
            rw same (ltb-false x (10 ^ w) e)

found : (x : ℕ) → Width (max_digits - 1) 1 x (width_of x)
unfolding width_of
found x = width-found (max_digits - 1) 1 x

-- the only width with which a number fits, and with no digit less
pub width_is : (x k : ℕ) → x < 10 ^ max_digits → x < 10 ^ suc k → (0 < k → 10 ^ k ≤ x) → width_of x ≡ suc k
width_is x k h fits needed = omega (arith, low, high)
  where
    low : suc k ≤ width_of x
    low = by (ltb (width_of x) (suc k)) refl
      where
        by : (b : Bool) → ltb (width_of x) (suc k) ≡ b → suc k ≤ width_of x
        by false e = ltb-false (width_of x) (suc k) e
        by true e =
            let less : width_of x ≤ k = omega (arith, ltb-true (width_of x) (suc k) e) in
            let some : 0 < k = omega (arith, (found x).least) in
            let up : 10 ^ width_of x ≤ 10 ^ k = pow-le-pow_right (zero-lt-suc 9) less in
            absurd (omega (arith, (found x).fits h, needed some))

    high : width_of x ≤ suc k
    high = by (width_of x) refl
      where
        by : (m : ℕ) → width_of x ≡ m → m ≤ suc k
        by zero e = omega arith
        by (suc p) e = at (ltb k p) refl
          where
            at : (b : Bool) → ltb k p ≡ b → suc p ≤ suc k
            at false f = omega (arith, ltb-false k p f)
            at true f =
                let more : suc k ≤ p = omega (arith, ltb-true k p f) in
                let up : 10 ^ suc k ≤ 10 ^ p = pow-le-pow_right (zero-lt-suc 9) more in
                absurd (omega (arith, fits, (found x).needed p e (omega arith)))

pub decimal-short : (x : ℕ) → length (decimal x) ≤ max_digits
unfolding decimal
decimal-short x = omega (arith, length_digits (width_of x) x, (found x).most)

pub decimal-some : (x : ℕ) → 1 ≤ length (decimal x)
unfolding decimal
decimal-some x = omega (arith, length_digits (width_of x) x, (found x).least)

pub decimal-digits : (x : ℕ) → digits (decimal x) ≡ true
unfolding decimal
decimal-digits x = all_digits (width_of x) x

-- numbers that fit into that many digits
module _ (x : ℕ) (h : x < 10 ^ max_digits) where
  pub decimal-value : value_from 0 (decimal x) ≡ x
  unfolding decimal
  decimal-value =
      ap (λ (n : ℕ). value_from n (digits_of (width_of x) x)) (sym (div-eq_of_lt ((found x).fits h))) ∙ value-digits (width_of x) x

  -- the first of two digits or more
  first : (p : ℕ) → width_of x ≡ suc p → 1 ≤ p → 1 ≤ x / 10 ^ p % 10
  first p e l =
      let low : 10 ^ p ≤ x = (found x).needed p e l in
      let high : x < 10 ^ p * 10 = subst (λ (n : ℕ). x < n) (ap (λ (n : ℕ). 10 ^ n) e ∙ pow-suc 10 p) ((found x).fits h) in
      let pos : 0 < 10 ^ p = ten_pos p in
      let one : 1 ≤ x / 10 ^ p = (le-div_iff_mul-le pos).1 (omega arith) in
      let ten : x / 10 ^ p < 10 = (div-lt_iff_lt-mul pos).1 (omega arith) in
      rw (mod-eq_of_lt ten) one

  -- 02: "What is printed stays unpadded."
  pub decimal-leads : get_or (decimal x) 0 0 ≡ 48 → length (decimal x) ≡ 1
  unfolding decimal digits_of
  decimal-leads z = by (width_of x) refl z
    where
      by : (m : ℕ) → width_of x ≡ m → get_or (digits_of m x) 0 0 ≡ 48 → length (digits_of m x) ≡ 1
      by zero e q = absurd (omega (arith, (found x).least))
      by (suc zero) e q = refl
      by (suc (suc p)) e q = absurd (omega (arith, first (suc p) e (omega arith)))
