-- The lines of the tasks so far stand in the buffer.
use Rattle.std.proofs.Common.{◌*◌, ◌≡◌, ◌≤◌, length, take}
use Rattle.text.specs.Buffer.{Wrote}
use Rattle.text.specs.Lines.{line_room}
use Rattle.heading.specs.Heading.{bounds_text}
use Rattle.heading.proofs.lent.bounds_lines.Given as goal

abbrev pub invariant-loop-row : goal.invariant-loop-row
invariant-loop-row l = record {
  room : l.at ≤ l.row * line_room;
  size : length l.out ≡ length l.initial.out;
  written : Wrote l.initial.out 0 (bounds_text 0 (take l.row l.bounds)) l.out l.at;
}
