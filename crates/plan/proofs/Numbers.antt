-- Laws of a number and of the fields of a line.
use Rattle.std.specs.Prelude.{ℕ, ◌+◌, ◌-◌, ◌*◌, ◌^◌, ◌≤◌, ◌<◌, ◌≡◌, refl, Bool, true, false, ◌&&◌, Option, Some, None, Result, Ok, Err, OkIff, List, length, get_or, drop, nat_le, if◌then◌else◌}
use Rattle.std.proofs.Common.{ap, ◌∙◌, arith, add-one, le-leb, leb-true, drop_of_length-le, drop-cons}
use Rattle.std.proofs.lemmas.Bool.{lt-leb}
use Rattle.std.proofs.Math.Nat.{pow-suc, pow-le-pow_right}
use Rattle.std.specs.Result.{result_ok}
use Rattle.std.proofs.lemmas.Result.{OkIff-at_ok, OkIff-at_err}
use Rattle.lists.specs.Tests.{and_split}
use Rattle.text.specs.Decimal.{max_digits, is_digit, digits, value_from}
use Rattle.plan.specs.Text.{max_number, number_tests, read_number}

-- ---- a number: its digits from a place on, after v
unfoldable pub rest : ℕ → List ℕ → Option ℕ
rest v l = if digits l then (if nat_le (value_from v l) max_number then Some (value_from v l) else None) else None

nested : (a b : Bool) (x y : Option ℕ) → (if a && (b && true) then x else y) ≡ (if a then (if b then x else y) else y)
nested true true x y = refl
nested true false x y = refl
nested false b x y = refl

-- i digits hold less than that many tens
pub tens : (i : ℕ) → i < max_digits → 10 ^ i ≤ 1_000_000_000
tens i h = pow-le-pow_right {n = 10} (omega arith) {i = i} {j = 9} (omega arith)

pub tens_next : (i : ℕ) → 10 ^ (i + 1) ≡ 10 ^ i * 10
tens_next i = ap (λ (n : ℕ). 10 ^ n) (add-one i) ∙ pow-suc 10 i

pub digit_high : (b : ℕ) → is_digit b ≡ true → b ≤ 57
digit_high b e = leb-true _ _ (and_split (nat_le 48 b) (nat_le b 57) e).1

module _ (s : List ℕ) where
  pub starts : 1 ≤ length s → length s ≤ max_digits → read_number s ≡ rest 0 s
  unfolding read_number number_tests rest
  starts k m =
      simp (le-leb _ _ k, le-leb _ _ m) (nested (digits s) (nat_le (value_from 0 s) max_number) (Some (value_from 0 s)) None)

  module _ (v i : ℕ) (h : i < length s) where
    pub no_digit : is_digit (get_or s i 0) ≡ false → rest v (drop i s) ≡ None
    unfolding rest digits
    no_digit e = rw (drop-cons s i 0 h) (simp e)

    pub digit_on : is_digit (get_or s i 0) ≡ true → (d : ℕ) → d ≡ get_or s i 0 - 48 → rest v (drop i s) ≡ rest (v * 10 + d) (drop (i + 1) s)
    unfolding rest digits value_from
    digit_on e d f = rw (drop-cons s i 0 h) (simp (e, f, add-one))

  pub ends : (v i : ℕ) → length s ≤ i → rest v (drop i s) ≡ (if nat_le v max_number then Some v else None)
  unfolding rest digits value_from
  ends v i h = rw (drop_of_length-le s h) refl

-- what fits 32 bits is what a field may hold
pub in_32 : {E : Type 0} (r : Result ℕ E) (v : ℕ) → OkIff r (v < 4_294_967_296) v → result_ok r ≡ (if nat_le v max_number then Some v else None)
in_32 {E = E} (Ok x) v h =
    let q : (v < 4_294_967_296) × (x ≡ v) = OkIff-at_ok {E = E} (Ok x) (v < 4_294_967_296) v x h refl in
    let k : v ≤ max_number = omega arith in
    simp (le-leb _ _ k) (ap Some q.1)
in_32 {E = E} (Err d) v h =
    let q : v < 4_294_967_296 → ⊥ = OkIff-at_err {T = ℕ} (Err d) (v < 4_294_967_296) v d h refl in
    let k : max_number < v = omega arith in
    simp (lt-leb _ _ k)
