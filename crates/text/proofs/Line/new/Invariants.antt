use Rattle.std.proofs.Common.{◌≡◌, ◌+◌, ◌*◌, ◌≤◌, length, take}
use Rattle.std.specs.Iterator.Adapters.{rev_source}
use Rattle.std.specs.Slice.Iter.{iter_rest}
use Rattle.text.specs.Lines.{most_parts, part_room, parts_bytes}
use Rattle.text.proofs.Laws.{in_front}
use Rattle.text.proofs.Line.new.Given as goal

abbrev pub invariant-loop-part : goal.invariant-loop-part
invariant-loop-part l = record {
  text : in_front (iter_rest (rev_source l.part-iterator)) l.line ≡ parts_bytes (take most_parts l.parts);
  room : length l.line + length (iter_rest (rev_source l.part-iterator)) * part_room ≤ 1 + most_parts * part_room;
}
