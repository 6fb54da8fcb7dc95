-- Padding: zeros put before a number's digits, ten digits at most in all.
use Rattle.std.specs.Prelude.{ℕ, zero, suc, ◌+◌, Bool, ◌&&◌, List, [], ◌∷◌, nat_le, ◌==◌, if◌then◌else◌}
use Rattle.text.specs.Decimal.{max_digits, is_digit}

-- k zeros before a text; 48 is the byte `0`
abbrev pub zeros : ℕ → List ℕ → List ℕ
zeros zero l = l
zeros (suc k) l = 48 ∷ zeros k l

-- how many digits a text starts with
unfoldable pub leading : List ℕ → ℕ
leading [] = 0
leading (b ∷ l) = if is_digit b then suc (leading l) else 0

-- 02: "A number may now have leading zeros; it still has 1 to 10 digits." k zeros may stand before w digits if there is a digit, and ten
-- at most with the zeros
abbrev pub fits : ℕ → ℕ → Bool
fits k w = nat_le 1 w && nat_le (k + w) max_digits

-- of k zeros, those that may: all, or none
unfoldable pub allowed : ℕ → ℕ → ℕ
allowed k w = if fits k w then k else 0

-- a text with its fields padded: a field starts behind a comma, and the list says for each comma how many zeros
unfoldable pub padded : List ℕ → List ℕ → List ℕ
padded [] l = l
padded (k ∷ ks) [] = []
padded (k ∷ ks) (b ∷ l) = if b == 44 then b ∷ zeros (allowed k (leading l)) (padded ks l) else b ∷ padded (k ∷ ks) l
