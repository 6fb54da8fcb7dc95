-- How many bytes the head and the verdict have at most: so many must be free in a buffer before they are written into it.
use Rattle.std.specs.Prelude.{ℕ, ◌+◌, ◌*◌}
use Rattle.table.specs.Limits.{max_tasks}
use Rattle.text.specs.Lines.{line_room}

-- the verdict: the server's B line and the V line
abbrev pub verdict_room : ℕ
verdict_room = 2 * line_room

-- the head: a B line for each task, the server's, and the V line
abbrev pub head_room : ℕ
head_room = (max_tasks + 2) * line_room
