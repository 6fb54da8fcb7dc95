use Rattle.std.proofs.Common.{◌≡◌, ◌≤◌}
use Rattle.scheduler.specs.Opening.{soonest, left_opened, drops_of}
use Rattle.scheduler.proofs.opening.open_tasks.Given as goal

-- after i turns the first i tasks are opened
abbrev pub invariant-loop-i : goal.invariant-loop-i
invariant-loop-i l = record {
  opens : l.left ≡ left_opened l.t l.table.tasks l.initial.left l.i;
  drops : l.drops ≡ drops_of l.t l.table.tasks l.initial.left l.i;
  few : l.drops ≤ l.i;
  calm : l.calm ≡ soonest l.t l.table.tasks l.i;
}
