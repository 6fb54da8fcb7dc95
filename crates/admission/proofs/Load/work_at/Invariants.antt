use Rattle.std.proofs.Common.{◌+◌, ◌*◌, ◌≤◌, length, take}
use Rattle.server.specs.Limits.{max_time}
use Rattle.bounds.specs.Demand.{tasks_demand}
use Rattle.admission.specs.Jumps.{whole, DemandAt, most_term}
use Rattle.admission.proofs.Load.work_at.Given as goal

-- the work is own work and the terms of the tasks so far
abbrev pub invariant-loop-task : goal.invariant-loop-task
invariant-loop-task l = record {
  at : DemandAt (λ x. l.demand.own + tasks_demand (take (length l.yielded) l.self.table.now.tasks) x) l.l l.work;
  most : l.work.all ≤ max_time + most_term * length l.yielded;
  fixed : l.work.fixed ≤ l.work.all;
  extra : l.work.extra ≤ 0;
  rate : l.work.rate ≤ whole * length l.yielded;
}
