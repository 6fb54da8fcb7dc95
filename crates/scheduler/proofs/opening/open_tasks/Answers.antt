use Rattle.std.proofs.Common.{arith, add-one, refl, ◌∙◌, ◌<◌, length-take, get_or-take}
use Rattle.lists.specs.Lists.{overlay}
use Rattle.table.specs.Facts.{task_at_lem, no_task}
use Rattle.scheduler.proofs.Laws.{open_step}
use Rattle.scheduler.proofs.opening.open_tasks.Goals as goal

pub loop-i-init : goal.loop-i-init
unfolding overlay
loop-i-init c = record { opens = refl; drops = refl; few = omega arith; calm = refl }

pub loop-i-preserved : goal.loop-i-preserved
loop-i-preserved c =
    let a = c.args in
    let v = c.loop-i.invariant in
    let n : c.loop-i.i < a.table.now.n = omega (arith, length-take a.table.now.n a.table.now.tasks) in
    let step = rw (get_or-take a.table.now.n a.table.now.tasks c.loop-i.i no_task n) at c.step_task-step.ensures in
    let more = open_step a.t a.table.now.tasks a.left.now c.loop-i.i (omega (arith, length-take a.table.now.n a.table.now.tasks)) (omega (arith, c.requires.table.count)) c.loop-i.left c.loop-i.drops c.loop-i.calm c.step_task-step.result v.opens v.drops v.calm step in
    record {
      opens = rw add-one more.0;
      drops = rw add-one more.1;
      few = omega (arith, more.2);
      calm = c.min.ensures ∙ rw add-one more.3;
    }

pub step_task-step-requires : goal.step_task-step-requires
step_task-step-requires c =
    let x = c.args.table.now in
    let n : c.loop-i.i < x.n = omega (arith, length-take x.n x.tasks) in
    let task = task_at_lem x c.loop-i.i c.requires.table n (omega (arith, length-take x.n x.tasks)) in
    record { limits = rw (get_or-take x.n x.tasks c.loop-i.i no_task n) task; early = c.requires.early }
