-- Some steps from the first place are taken, into the buffer from its start.
use Rattle.std.proofs.Common.{ℕ}
use Rattle.output.specs.Steps.{steps_from, Taken}
use Rattle.output.proofs.Rest.{steps_left}
use Rattle.output.proofs.lent.fill.Given as goal

abbrev pub invariant-loop-place : goal.invariant-loop-place
invariant-loop-place l = (steps : ℕ) × Taken (steps_from l.plan l.ticks steps l.initial.place) l.initial.out 0 l.out l.at l.place

abbrev pub decreases-loop-place : goal.decreases-loop-place
decreases-loop-place l = steps_left l.plan l.ticks l.place
