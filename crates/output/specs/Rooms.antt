-- How many bytes a step's text has at most: so many must be free in a buffer before a step begins.
use Rattle.std.specs.Prelude.{ℕ, ◌*◌}
use Rattle.text.specs.Lines.{line_room}

-- an X line and an F line
abbrev pub step_room : ℕ
step_room = 2 * line_room
