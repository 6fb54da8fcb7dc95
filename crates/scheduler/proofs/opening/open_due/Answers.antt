-- A calm tick leaves the tasks as they are.
use Rattle.std.proofs.Common.{arith}
use Rattle.scheduler.proofs.Due.{calm-left, calm-drops}
use Rattle.scheduler.proofs.opening.open_due.Goals as goal

pub returns-then-t-calm-clause-left : goal.returns-then-t-calm-clause-left
returns-then-t-calm-clause-left c =
    let x = c.args.table.now in
    calm-left c.args.t x.tasks c.args.left.now x.n c.args.calm.now (omega (arith, c.requires.table.count)) c.requires.calm c.if-t-calm.true

pub returns-then-t-calm-clause-drops : goal.returns-then-t-calm-clause-drops
returns-then-t-calm-clause-drops c =
    let x = c.args.table.now in
    calm-drops c.args.t x.tasks c.args.left.now x.n c.args.calm.now (omega (arith, c.requires.table.count)) c.requires.calm c.if-t-calm.true
