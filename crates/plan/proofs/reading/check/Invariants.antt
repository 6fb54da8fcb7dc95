-- The plan is what the reading so far and the lines that are left make it; each line has a byte at least.
use Rattle.std.proofs.Common.{◌-◌, ◌+◌, ◌≤◌, ◌≡◌, length, drop}
use Rattle.plan.specs.Text.{split}
use Rattle.plan.specs.Plan.{plan_of, reads}
use Rattle.plan.proofs.reading.check.Given as goal

abbrev pub invariant-loop-end : goal.invariant-loop-end
invariant-loop-end l = record {
  numbered : l.line ≤ l.at + 1;
  inside : l.at ≤ length l.plan;
  short : length l.plan ≤ 65536;
  same : plan_of l.plan ≡ reads l.reading l.line (split 10 (drop l.at l.plan));
}

abbrev pub decreases-loop-end : goal.decreases-loop-end
decreases-loop-end l = length l.plan - l.at
