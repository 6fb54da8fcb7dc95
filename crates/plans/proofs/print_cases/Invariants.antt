-- Each case is shorter than what stood before it.
use Rattle.std.proofs.Common.{length}
use Rattle.plans.proofs.print_cases.Given as goal

abbrev pub decreases-loop-name : goal.decreases-loop-name
decreases-loop-name g l = length l.rest
