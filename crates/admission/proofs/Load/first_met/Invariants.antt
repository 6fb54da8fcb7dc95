use Rattle.std.proofs.Common.{◌-◌, ◌+◌, ◌*◌, ◌≤◌}
use Rattle.server.specs.Limits.{max_time}
use Rattle.admission.specs.Jumps.{demanded, OpenFrom}
use Rattle.admission.proofs.Load.first_met.Given as goal

-- no length before l meets the demand
abbrev pub invariant-loop-l : goal.invariant-loop-l
invariant-loop-l l = record {
  ruled : OpenFrom (demanded l.self.table.now l.demand) l.l;
  near : l.near ≤ 2 * (max_time + 1);
}

abbrev pub decreases-loop-l : goal.decreases-loop-l
decreases-loop-l l = max_time + 1 - l.l
