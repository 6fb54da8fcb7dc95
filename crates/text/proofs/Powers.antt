-- Powers of ten by repeated multiplication: the next one, and that it fits into 32 bits; and digits that are stored from the last one on.
use Prim.Native.Nat.{ℕ, suc, ◌+◌, ◌-◌, ◌*◌, ◌/◌, ◌%◌, ◌^◌, ◌≤◌, ◌<◌}
use mathlib.Core.Path.{◌≡◌, refl, sym, ap, ◌∙◌}
use mathlib.Core.List.{List, [], ◌∷◌}
use native.Mathlib.Omega.{arith}
use native.Mathlib.Nat.{pow-suc, pow-le-pow_right, zero-lt-suc}
use native.Mathlib.Numerals.{add-one}
use lib.ListN.{set}
use lib.Seq.{sets, set_comm}
use Rattle.text.specs.Decimal.{max_digits, digits_of}

pub power_next : (p i : ℕ) → p ≡ 10 ^ i → p * 10 ≡ 10 ^ (i + 1)
power_next p i e = ap (λ (n : ℕ). n * 10) e ∙ sym (pow-suc 10 i) ∙ ap (λ (n : ℕ). 10 ^ n) (sym (add-one i))

pub power_fits : (p i : ℕ) → p ≡ 10 ^ i → i + 1 < max_digits → p * 10 < 2 ^ 32
power_fits p i e h =
    let k : i + 1 ≤ max_digits - 1 = omega arith in
    let most : 10 ^ (i + 1) ≤ 10 ^ (max_digits - 1) = pow-le-pow_right (zero-lt-suc 9) k in
    omega (arith, power_next p i e)

set_before : (vs l : List ℕ) (i j a : ℕ) → j < i → set (sets l i vs) j a ≡ sets (set l j a) i vs
set_before [] l i j a h = refl
set_before (v ∷ vs) l i j a h =
    set_before vs (set l i v) (suc i) j a (omega arith) ∙ ap (λ (k : List ℕ). sets k (suc i) vs) (set_comm l i j v a (λ e. omega arith))

pub digit-before :
    (l out : List ℕ) (at w last i x p : ℕ) → last + 1 ≡ at + w → i < w → p ≡ 10 ^ i → out ≡ sets l (at + (w - i)) (digits_of i x)
    → set out (last - i) (48 + x / p % 10) ≡ sets l (at + (w - (i + 1))) (digits_of (i + 1) x)
unfolding digits_of
digit-before l out at w last i x p e h q d =
    let a : last - i ≡ at + (w - (i + 1)) = omega arith in
    let b : at + (w - i) ≡ suc (at + (w - (i + 1))) = omega arith in
    rw (d, q, a, b, add-one i) (set_before (digits_of i x) l _ _ _ (omega arith))
