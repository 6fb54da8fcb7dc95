use Rattle.std.proofs.Common.{◌≡◌, length}
use Rattle.table.specs.Limits.{max_tasks}
use Rattle.admission.specs.Jumps.{TaskParts}
use Rattle.admission.proofs.task_parts.Given as goal

-- the first i slots hold the parts of the first i tasks
abbrev pub invariant-loop-i : goal.invariant-loop-i
invariant-loop-i l = record { sized : length l.parts ≡ max_tasks; known : TaskParts l.tasks l.i l.parts }
