use Rattle.std.proofs.Common.{◌≡◌, take}
use Rattle.std.specs.Prelude.{leb}
use Rattle.lists.specs.Lists.{overlay}
use Rattle.table.specs.Model.{task_set_of}
use Rattle.bounds.specs.Demand.{bounds_from}
use Rattle.bounds.specs.Admission.{no_bounds}
use Rattle.bounds.specs.Terms.{demand_of}
use Rattle.admission.specs.Jumps.{OpenFrom}
use Rattle.admission.proofs.Load.task_bounds.Given as goal

-- the first i slots hold the bounds of the first i tasks, and no length before `from` meets even the demand of the tasks before the next
abbrev pub invariant-loop-i : goal.invariant-loop-i
invariant-loop-i l = record {
  bounds : l.bounds ≡ overlay (bounds_from (task_set_of l.self.table.now) 0 (take l.i l.self.table.now.tasks)) no_bounds;
  ruled : OpenFrom (demand_of (task_set_of l.self.table.now) l.i 0 (leb l.self.table.now.server.place l.i)) l.from;
}
