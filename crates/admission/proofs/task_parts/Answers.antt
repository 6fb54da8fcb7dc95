use Rattle.std.proofs.Common.{arith, add-one, ◌<◌, length-take}
use Rattle.std.proofs.Math.ListN.{length-set}
use Rattle.std.proofs.lemmas.List.{get_or-take}
use Rattle.table.specs.Facts.{no_task}
use Rattle.admission.proofs.Jumps.{parts-step}
use Rattle.admission.proofs.task_parts.Goals as goal

pub loop-i-preserved : goal.loop-i-preserved
loop-i-preserved c =
    let tasks = c.args.tasks.now in
    let i = c.loop-i.i in
    let used : i < c.args.n = omega (arith, length-take c.args.n tasks) in
    let part = rw (get_or-take c.args.n tasks i no_task used) at c.part.ensures in
    record {
      sized = simp length-set c.loop-i.invariant.sized;
      known = rw add-one (parts-step tasks c.loop-i.parts i _ (omega arith) c.loop-i.invariant.known part);
    }
