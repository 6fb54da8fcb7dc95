-- What was printed so far, and what is to be printed from the place on, are all that is to be printed.
use Rattle.std.proofs.Common.{◌≡◌, length}
use Rattle.text.specs.Printing.{Printing}
use Rattle.output.specs.Steps.{first_place}
use Rattle.output.specs.Rest.{text_from}
use Rattle.output.proofs.Rest.{steps_left}
use Rattle.output.proofs.print_ticks.Given as goal

abbrev pub invariant-loop-place : goal.invariant-loop-place
invariant-loop-place g l = record {
  printed : Printing (g.W.Write.contents l.initial.out) (g.W.Write.contents l.out) (text_from l.text l.fn.plan.ticks (first_place l.text l.fn.plan.table)) (text_from l.text l.fn.plan.ticks l.place);
  room : length l.buffer ≡ length l.initial.buffer;
}

abbrev pub decreases-loop-place : goal.decreases-loop-place
decreases-loop-place g l = steps_left l.text l.fn.plan.ticks l.place
