-- Text: a stretch of bytes parted at a byte, and a decimal number.
use Rattle.std.specs.Prelude.{ℕ, ◌+◌, Bool, Option, Some, None, List, [], ◌∷◌, length, drop, nat_le, ◌==◌, if◌then◌else◌, position}
use Rattle.std.specs.Option.{option_map}
use Rattle.lists.specs.Tests.{every}
use Rattle.text.specs.Decimal.{max_digits, digits, value_from}

-- the pieces between the bytes c, one more than there are c's: what stands before each, and what follows the last
pub data Pieces : Type 0 where
  end : List ℕ → Pieces
  piece : List ℕ → Pieces → Pieces

-- a byte more in front of the first piece
abbrev pub grow : ℕ → Pieces → Pieces
grow x (end l) = end (x ∷ l)
grow x (piece l ps) = piece (x ∷ l) ps

-- the pieces of a stretch of bytes
unfoldable pub split : ℕ → List ℕ → Pieces
split c [] = end []
split c (x ∷ xs) = if x == c then piece [] (split c xs) else grow x (split c xs)

-- the pieces of which the first is known, and the stretch of the others, if there are more
abbrev pub parted : ℕ → List ℕ → Option (List ℕ) → Pieces
parted c first None = end first
parted c first (Some others) = piece first (split c others)

-- the place of the first c from a place on
abbrev pub end_from : ℕ → List ℕ → ℕ → Option ℕ
end_from c s from = option_map (λ n. from + n) (position (λ x. x == c) (drop from s))

-- "at most 4,294,967,295"
abbrev pub max_number : ℕ
max_number = 4_294_967_295

-- "A number is 1 to 10 digits, .. at most 4,294,967,295."; 02: "A number may now have leading zeros; it still has 1 to 10 digits."
unfoldable pub number_tests : List ℕ → List Bool
number_tests l = nat_le 1 (length l) ∷ nat_le (length l) max_digits ∷ digits l ∷ nat_le (value_from 0 l) max_number ∷ []

-- the number that a field's bytes say; 02: "Every line kind reads by the same number rule"
unfoldable pub read_number : List ℕ → Option ℕ
read_number l = if every (number_tests l) then Some (value_from 0 l) else None
