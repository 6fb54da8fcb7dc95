use Rattle.std.proofs.Common.{length}
use Rattle.scheduler.proofs.Runs.{Going}
use Rattle.scheduler.proofs.run_ticks.Given as goal

-- the ticks that are left give the state and the list of the whole run
abbrev pub invariant-loop-entry : goal.invariant-loop-entry
invariant-loop-entry l = Going l.initial.state l.initial.entries (length l.initial.entries) l.state l.calm l.entries l.entry-index
