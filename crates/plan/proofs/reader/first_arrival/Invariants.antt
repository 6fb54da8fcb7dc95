-- What is next from the start is next from here on.
use Rattle.std.proofs.Common.{◌-◌, ◌≡◌, length}
use Rattle.plan.specs.Plan.{next_from}
use Rattle.plan.proofs.reader.first_arrival.Given as goal

abbrev pub invariant-loop-end : goal.invariant-loop-end
invariant-loop-end l = next_from l.plan l.from ≡ next_from l.plan l.at

abbrev pub decreases-loop-end : goal.decreases-loop-end
decreases-loop-end l = length l.plan - l.at
