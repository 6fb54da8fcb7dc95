-- The part of the load that a period has: dividing by the period is multiplying by its part, and what recurs takes at least its part
-- of any length. So fixed work and a rate rule lengths out.
use Prim.Native.Nat.{ℕ, ◌+◌, ◌-◌, ◌*◌, ◌/◌, ◌%◌, ◌≤◌, ◌<◌}
use Rattle.std.specs.Int.{div_ceil}
use native.Mathlib.Decide.{dec_le}
use native.Mathlib.Omega.{arith}
use native.Mathlib.Nat.{div-add-mod', mod-lt, div-mul-le_self, div-le_self, le-div_iff_mul-le, div-lt_iff_lt-mul, lt_of_mul-lt-mul_right, mul-le-mul, mul-le-mul_left, mul-le-mul_right, add-mul, sub-add_cancel}
use mathlib.Core.Path.{◌≡◌, ap, sym, ◌∙◌}
use Rattle.lists.specs.Time.{ceil}
use Rattle.server.specs.Limits.{max_time}
use Rattle.admission.specs.Jumps.{whole, max_turns, most_term}
use Rattle.admission.proofs.Laws.{ceil_le}

-- so many periods reach the length
pub ceil_reaches : (L p : ℕ) → 1 ≤ p → L ≤ ceil L p * p
ceil_reaches L p h =
    let n = L + (p - 1) in
    omega (arith, div-add-mod' n p, mod-lt n {m = p} h)

-- a length has some turn
pub ceil-some : (x p : ℕ) → 1 ≤ x → 1 ≤ p → 1 ≤ ceil x p
ceil-some x p a h = (le-div_iff_mul-le {k = p} {x = 1} {y = x + (p - 1)} h).1 (omega arith)

-- a part in every tick of a period is no more than the whole
pub part_le : (p : ℕ) → whole / p * p ≤ whole
part_le p = div-mul-le_self whole p

-- ---- dividing by a period is multiplying by its part
module _ (n p : ℕ) (h : 1 ≤ p) (small : n * p < whole) where
  over : whole < (whole / p + 1) * p
  over = (div-lt_iff_lt-mul {k = p} {x = whole} {y = whole / p + 1} h).0 (omega arith)

  low : n / p ≤ n * (whole / p + 1) / whole
  low =
      let q = n / p in
      let v = whole / p + 1 in
      let a : q * whole ≤ q * (v * p) = mul-le-mul_left q (omega (arith, over)) in
      let b : q * p * v ≤ n * v = mul-le-mul_right v (div-mul-le_self n p) in
      (le-div_iff_mul-le {k = whole} {x = q} {y = n * v} (omega arith)).1 (omega arith)

  high : n * (whole / p + 1) / whole < n / p + 1
  high =
      let q = n / p + 1 in
      let v = whole / p in
      let a : n * (v * p) ≤ n * whole = mul-le-mul_left n (part_le p) in
      let b : n < q * p = (div-lt_iff_lt-mul {k = p} {x = n} {y = q} h).0 (omega arith) in
      let c : (n + 1) * whole ≤ q * p * whole = mul-le-mul_right whole (omega arith) in
      (div-lt_iff_lt-mul {k = whole} {x = n * (v + 1)} {y = q} (omega arith)).1
      (lt_of_mul-lt-mul_right p (omega arith))

  pub turns-by-part : n * (whole / p + 1) / whole ≡ n / p
  turns-by-part = omega (arith, low, high)

module _ (l p v : ℕ) (span : l ≤ max_time) where
  -- the product fits 64 bits
  pub product_le : p ≤ max_time → v ≡ whole / p → (l + (p - 1)) * (v + 1) ≤ max_turns * (whole + 1)
  product_le k e = mul-le-mul {n₁ = l + (p - 1)} {m₁ = v + 1} {n₂ = max_turns} {m₂ = whole + 1} (omega arith) (omega (arith, div-le_self whole p))

  pub turns-are : 1 ≤ p → p ≤ max_time → v ≡ whole / p →
      ((l + (p - 1)) * (v + 1) / whole ≡ ceil l p) × ((l + (p - 1)) * (v + 1) / whole ≤ max_turns)
  turns-are h k e =
      let small : (l + (p - 1)) * p ≤ most_term = mul-le-mul {n₁ = l + (p - 1)} {m₁ = p} {n₂ = max_turns} {m₂ = max_time} (omega arith) k in
      let t : (l + (p - 1)) * (v + 1) / whole ≡ ceil l p = rw e (turns-by-part (l + (p - 1)) p h (omega arith)) in
      (t, omega (arith, ceil_le l p span k))

-- a term of e ticks in each of c turns, which reach x, is at least its part of x
pub share_le : (e v p c x : ℕ) → v * p ≤ whole → x ≤ c * p → e * v * x ≤ whole * (c * e)
share_le e v p c x h k =
    let a : e * v * x ≤ e * v * (c * p) = mul-le-mul_left (e * v) k in
    let b : c * e * (v * p) ≤ c * e * whole = mul-le-mul_left (c * e) h in
    omega arith

-- a task's load is no more than the whole
pub load_le : (e p : ℕ) → e ≤ p → e * (whole / p) ≤ whole
load_le e p h =
    let a : e * (whole / p) ≤ p * (whole / p) = mul-le-mul_right (whole / p) h in
    omega (arith, part_le p)

-- ---- the first length that fixed work and a rate leave open
-- what is below the quotient, rounded up
below_ceil : (n r x : ℕ) → 1 ≤ r → x < div_ceil n r → x * r < n
below_ceil n r x h k = by (dec_le 1 (n % r))
  where
    by : Dec (1 ≤ n % r) → x * r < n
    by (yes s) = let a : x * r ≤ n / r * r = mul-le-mul_right r (omega arith) in omega (arith, div-add-mod' n r)
    by (no s) = let a : (x + 1) * r ≤ n / r * r = mul-le-mul_right r (omega arith) in omega (arith, div-add-mod' n r)

pub before_open : (fixed extra rate x : ℕ) → rate < whole → x < div_ceil (fixed * whole + extra) (whole - rate) →
    whole * x < whole * fixed + extra + rate * x
before_open fixed extra rate x below h =
    let rest = whole - rate in
    let a : x * rest < fixed * whole + extra = below_ceil (fixed * whole + extra) rest x (omega arith) h in
    let e : rest * x + rate * x ≡ whole * x = sym (add-mul rest rate x) ∙ ap (λ (n : ℕ). n * x) (sub-add_cancel {n = whole} {m = rate} (omega arith)) in
    omega arith

pub past-whole : (fixed extra rate x : ℕ) → 1 ≤ fixed → whole ≤ rate → whole * x < whole * fixed + extra + rate * x
past-whole fixed extra rate x h k = omega (arith, mul-le-mul_right x k)
