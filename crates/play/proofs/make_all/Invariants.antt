use Rattle.std.proofs.Common.{◌≡◌}
use Rattle.std.specs.Slice.Iter.{chunks_exact_rest, chunks_exact_size}
use Rattle.play.proofs.Laws.{Ahead}
use Rattle.play.proofs.make_all.Given as goal

-- what the calls so far reported, and what those that remain report, is what the whole list reports
abbrev pub invariant-loop-numbers : goal.invariant-loop-numbers
invariant-loop-numbers l = record {
  again : (goal.iterator-loop-numbers).can_next l.numbers-iterator;
  ends : (goal.iterator-loop-numbers).is_finite l.numbers-iterator;
  three : chunks_exact_size l.numbers-iterator ≡ 3;
  ahead : Ahead l.initial.state l.calls l.state l.tally.ticks l.tally.drops (chunks_exact_rest l.numbers-iterator);
}
