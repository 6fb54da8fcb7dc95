-- How many bytes a line has at most: its letter, its parts and the line feed.
use Rattle.std.specs.Prelude.{◌+◌, ◌*◌, ◌≤◌, List, [], ◌∷◌, length}
use Rattle.std.proofs.Common.{arith, length-append}
use Rattle.text.specs.declared.Part.{Part}
use Rattle.text.specs.Lines.{Line, part_room, line_room, part_bytes, parts_bytes, line_bytes}
use Rattle.text.specs.ReadBack.{decimal-short}

pub part_short : (p : Part) → length (part_bytes p) ≤ part_room
part_short (Part.Number x) = omega (arith, decimal-short x)
part_short (Part.Letter c) = omega arith

pub parts_short : (ps : List Part) → length (parts_bytes ps) ≤ 1 + length ps * part_room
parts_short [] = omega arith
parts_short (p ∷ ps) = omega (arith, length-append (part_bytes p) (parts_bytes ps), part_short p, parts_short ps)

pub line_short : (l : Line) → length l.parts ≤ 5 → length (line_bytes l) ≤ line_room
unfolding line_bytes
line_short l h = omega (arith, parts_short l.parts)
