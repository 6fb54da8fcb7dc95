-- The lines of the ticks so far stand in the buffer.
use Rattle.std.proofs.Common.{◌+◌, ◌*◌, ◌≡◌, ◌≤◌, length, take}
use Rattle.text.specs.Buffer.{Wrote}
use Rattle.text.specs.Lines.{line_room}
use Rattle.output.specs.Blocks.{block_text}
use Rattle.output.proofs.lent.block_lines.Given as goal

abbrev pub invariant-loop-i : goal.invariant-loop-i
invariant-loop-i l = record {
  room : l.end ≤ l.at + l.i * line_room;
  size : length l.out ≡ length l.initial.out;
  written : Wrote l.initial.out l.at (block_text l.t (take l.i l.entries)) l.out l.end;
}
