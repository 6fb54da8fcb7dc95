-- How often something that recurs falls due before a time, and what `ceil` says of a stretch of time.
use Prim.Native.Nat.{ℕ, suc, ◌+◌, ◌-◌, ◌*◌, ◌/◌, ◌%◌, ◌≤◌, ◌<◌}
use Rattle.std.specs.Prelude.{◌≡◌, true, false, ◌≢◌, leb, eqb}
use Rattle.std.proofs.Common.{ap, ◌∙◌, leb-true, eqb-true, le-leb, div-lt_iff_lt-mul, le-div_iff_mul-le, div-add-mod', mul-le-mul_right, le_of_mul-le-mul_right, lt_of_mul-lt-mul_right}
use Rattle.std.proofs.Math.Nat.{add-sub_cancel_left, mul-mod_left, zero-mod}
use native.Mathlib.Omega.{arith}
use Rattle.lists.specs.Tests.{and_split, never}
use Rattle.lists.specs.Time.{due, ceil}

-- how many of the times f, f + p, f + 2·p, .. lie before t: the least n with t ≤ f + n * p
unfoldable pub dues : ℕ → ℕ → ℕ → ℕ
dues f p t = (t + p - suc f) / p

module _ (f p : ℕ) (h : 0 < p) where
  pub dues_le : (t n : ℕ) → t ≤ f + n * p → dues f p t ≤ n
  unfolding dues
  dues_le t n b =
      let c : t + p - suc f < suc n * p = omega arith in
      omega (arith, (div-lt_iff_lt-mul h).1 c)

  pub lt_dues : (t n : ℕ) → f + n * p < t → n < dues f p t
  unfolding dues
  lt_dues t n b = (le-div_iff_mul-le h).1 (omega arith)

  pub le_next : (t : ℕ) → t ≤ f + dues f p t * p
  unfolding dues
  le_next t =
      let c : t + p - suc f < suc (dues f p t) * p = (div-lt_iff_lt-mul h).0 (omega arith) in
      omega arith

  pub dues_mono : (s t : ℕ) → s ≤ t → dues f p s ≤ dues f p t
  dues_mono s t b = dues_le s (dues f p t) (omega (arith, le_next t))

  -- at one of the times
  pub dues_rises : (t n : ℕ) → t ≡ f + n * p → suc (dues f p t) ≤ dues f p (suc t)
  dues_rises t n b = omega (arith, dues_le t n (omega arith), lt_dues (suc t) n (omega arith))

  -- until the next of them
  pub dues-period : (r n s : ℕ) → r ≡ f + n * p → s ≤ r + p → dues f p s ≤ dues f p (suc r)
  dues-period r n s b c = omega (arith, dues_le s (suc n) (omega arith), lt_dues (suc r) n (omega arith))

-- ---- ceil
-- ceil(n/p) periods are no shorter than n
pub ceil-up : (n p : ℕ) → 0 < p → n ≤ ceil n p * p
ceil-up n p h =
    let c : n + (p - 1) < suc (ceil n p) * p = (div-lt_iff_lt-mul h).0 (omega arith) in
    omega arith

-- a length of at most one period
pub ceil-one : (n p : ℕ) → 0 < n → n ≤ p → ceil n p ≡ 1
ceil-one n p a b =
    omega (
      arith,
      (div-lt_iff_lt-mul {k = p} {x = n + (p - 1)} {y = 2} (omega arith)).1 (omega arith),
      (le-div_iff_mul-le {k = p} {x = 1} {y = n + (p - 1)}
          (omega arith)).1 (omega arith),
    )

-- in n ticks it falls due at most ceil(n/p) times
pub dues_window : (f p : ℕ) → 0 < p → (s t n : ℕ) → t ≤ s + n → dues f p t ≤ dues f p s + ceil n p
dues_window f p h s t n b = dues_le f p h t (dues f p s + ceil n p) (omega (arith, le_next f p h s, ceil-up n p h))

-- ---- what the test says
pub due_true : (t f p : ℕ) → due t f p ≡ true → (n : ℕ) × (t ≡ f + n * p)
due_true t f p e =
    let g : (leb f t ≡ true) × (eqb ((t - f) % p) 0 ≡ true) = and_split (leb f t) (eqb ((t - f) % p) 0) e in
    ((t - f) / p, omega (arith, leb-true f t g.0, eqb-true ((t - f) % p) 0 g.1, div-add-mod' (t - f) p))

pub due-at : (f p n : ℕ) → due (f + n * p) f p ≡ true
due-at f p n = rw (add-sub_cancel_left f (n * p), mul-mod_left n p, le-leb f (f + n * p) (omega arith))

pub due_zero : (p : ℕ) → due 0 0 p ≡ true
due_zero p = rw (zero-mod p)

-- two of the times stand a period apart
pub due-apart : (r v f p : ℕ) → due r f p ≡ true → due v f p ≡ true → r < v → v < r + p → ⊥
due-apart r v f p e g l q =
    let c : (n : ℕ) × (r ≡ f + n * p) = due_true r f p e in
    let d : (n : ℕ) × (v ≡ f + n * p) = due_true v f p g in
    let lo : c.0 < d.0 = lt_of_mul-lt-mul_right p (omega (arith, c.1, d.1)) in
    let hi : d.0 < suc c.0 = lt_of_mul-lt-mul_right p (omega (arith, c.1, d.1)) in
    omega arith

-- ---- from time 0 on: how the count goes on
pub dues-due : (p : ℕ) → 0 < p → (t : ℕ) → due t 0 p ≡ true → (t ≡ dues 0 p t * p) × (dues 0 p (suc t) ≡ suc (dues 0 p t))
dues-due p h t e =
    let n : (n : ℕ) × (t ≡ 0 + n * p) = due_true t 0 p e in
    let a : dues 0 p t ≤ n.0 = dues_le 0 p h t n.0 (omega arith) in
    let b : n.0 ≤ dues 0 p t = le_of_mul-le-mul_right (omega (arith, le_next 0 p h t)) h in
    let c : dues 0 p (suc t) ≤ suc n.0 = dues_le 0 p h (suc t) (suc n.0) (omega arith) in
    (omega (arith, mul-le-mul_right p a, mul-le-mul_right p b), omega (arith, dues_rises 0 p h t n.0 n.1))

pub dues-same : (p : ℕ) → 0 < p → (t : ℕ) → due t 0 p ≡ false → dues 0 p (suc t) ≡ dues 0 p t
dues-same p h t e = omega (arith, dues_le 0 p h (suc t) (dues 0 p t) before, dues_mono 0 p h t (suc t) (omega arith))
  where
    apart : t ≢ 0 + dues 0 p t * p
    apart q = never e (ap (λ (s : ℕ). due s 0 p) q ∙ due-at 0 p (dues 0 p t))

    before : suc t ≤ 0 + dues 0 p t * p
    before = omega (arith, apart, le_next 0 p h t)
