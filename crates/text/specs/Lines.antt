-- A line and its bytes.
use Rattle.std.specs.Prelude.{ℕ, ◌+◌, ◌*◌, List, [], ◌∷◌, ◌++◌}
use Rattle.text.specs.declared.Part.{Part}
use Rattle.text.specs.Decimal.{max_digits, decimal}

-- the most bytes of a part: its comma and a number's digits
abbrev pub part_room : ℕ
part_room = 1 + max_digits

-- the most parts of a line
abbrev pub most_parts : ℕ
most_parts = 5

-- the most bytes of a line: its letter, five parts and the line feed
abbrev pub line_room : ℕ
line_room = 2 + most_parts * part_room

pub record Line : Type 0 where
  pub letter : ℕ
  pub parts : List Part

-- a comma and the part
abbrev pub part_bytes : Part → List ℕ
part_bytes (Part.Number x) = 44 ∷ decimal x
part_bytes (Part.Letter c) = 44 ∷ c ∷ []

-- the parts of a line and its line feed
abbrev pub parts_bytes : List Part → List ℕ
parts_bytes [] = 10 ∷ []
parts_bytes (p ∷ ps) = part_bytes p ++ parts_bytes ps

-- "Fields in fixed order parted by commas, no quoting, each line closed by a line feed"
unfoldable pub line_bytes : Line → List ℕ
line_bytes l = l.letter ∷ parts_bytes l.parts
