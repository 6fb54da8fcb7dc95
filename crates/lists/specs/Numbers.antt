-- A flag as a number, the lesser of two numbers, and sums within 32 bits.
use Rattle.std.specs.Prelude.{ℕ, ◌+◌, ◌≤◌, ◌<◌, ◌≡◌, refl, Bool, true, false, cond, ltb, min}
use Rattle.std.proofs.Common.{arith, ltb-true, ltb-false, lt-ltb, le-ltb}

-- 1 for true, 0 for false
abbrev pub bit_of : Bool → ℕ
bit_of b = cond b 1 0

-- the lesser of two numbers
abbrev pub lesser_of : ℕ → ℕ → ℕ
lesser_of a b = cond (ltb b a) b a

-- the last number of 32 bits
abbrev pub last32 : ℕ
last32 = 4_294_967_295

-- the sum of two numbers; where 32 bits do not hold it, the last that they hold
abbrev pub capped_sum : ℕ → ℕ → ℕ
capped_sum a b = lesser_of (a + b) last32

-- ---- laws
pub lesser_left : (a b : ℕ) → lesser_of a b ≤ a
lesser_left a b = by (ltb b a) refl
  where
    by : (c : Bool) → ltb b a ≡ c → cond c b a ≤ a
    by true e = let lt = ltb-true b a e in omega arith
    by false e = omega arith

pub lesser_right : (a b : ℕ) → lesser_of a b ≤ b
lesser_right a b = by (ltb b a) refl
  where
    by : (c : Bool) → ltb b a ≡ c → cond c b a ≤ b
    by true e = omega arith
    by false e = let le = ltb-false b a e in omega arith

-- a sum that fits, and one that does not
pub sum_fits : (a b : ℕ) → a + b ≤ last32 → a + b ≡ capped_sum a b
sum_fits a b h = rw (le-ltb last32 (a + b) h) refl

pub sum_capped : (a b : ℕ) → last32 < a + b → last32 ≡ capped_sum a b
sum_capped a b h = rw (lt-ltb last32 (a + b) h) refl

-- std's lesser of two numbers and its sum that stops at the last of 32 bits are these
pub lesser_is : (a b : ℕ) → min a b ≡ lesser_of a b
lesser_is a b = by (ltb b a) refl
  where
    by : (c : Bool) → ltb b a ≡ c → min a b ≡ cond c b a
    by true e = omega (arith, ltb-true b a e)
    by false e = omega (arith, ltb-false b a e)

pub capped_is : (a b : ℕ) → min (a + b) last32 ≡ capped_sum a b
capped_is a b = lesser_is (a + b) last32
