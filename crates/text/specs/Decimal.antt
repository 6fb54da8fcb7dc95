-- Decimal text: a number as its digits, and digits as a number.
use Rattle.std.specs.Prelude.{ℕ, zero, suc, ◌+◌, ◌-◌, ◌*◌, ◌/◌, ◌%◌, ◌^◌, Bool, true, false, cond, ◌&&◌, List, [], ◌∷◌, ltb, leb}

-- "A number is 1 to 10 digits"
abbrev pub max_digits : ℕ
max_digits = 10

-- the least width from w on that x fits, at most k more
unfoldable pub width_from : ℕ → ℕ → ℕ → ℕ
width_from zero w x = w
width_from (suc k) w x = cond (ltb x (10 ^ w)) w (width_from k (w + 1) x)

-- the number of digits of a number: "1 to 10 digits"
unfoldable pub width_of : ℕ → ℕ
width_of x = width_from (max_digits - 1) 1 x

-- the last w digits of x, highest first; 48 is the byte `0`
unfoldable pub digits_of : ℕ → ℕ → List ℕ
digits_of zero x = []
digits_of (suc w) x = (48 + x / 10 ^ w % 10) ∷ digits_of w x

-- a number as text: "plans and output write them in decimal", with no leading zero but `0` itself
unfoldable pub decimal : ℕ → List ℕ
decimal x = digits_of (width_of x) x

-- a byte from `0` to `9`
abbrev pub is_digit : ℕ → Bool
is_digit b = leb 48 b && leb b 57

unfoldable pub digits : List ℕ → Bool
digits [] = true
digits (b ∷ bs) = cond (is_digit b) (digits bs) false

-- what digits say, read on from v
unfoldable pub value_from : ℕ → List ℕ → ℕ
value_from v [] = v
value_from v (b ∷ bs) = value_from (v * 10 + (b - 48)) bs
