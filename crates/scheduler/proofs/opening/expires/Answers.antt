use Rattle.std.proofs.Common.{arith}
use Rattle.scheduler.proofs.Due.{expires_short, expires_long, expires_between}
use Rattle.scheduler.proofs.opening.expires.Goals as goal

pub returns-then-task : goal.returns-then-task
returns-then-task c =
    let a = c.args in
    rw c.requires.ago (expires_short a.t a.task c.requires.limits a.left c.requires.from (omega arith) c.if-task.true)

pub returns-then-ago-eq0 : goal.returns-then-ago-eq0
returns-then-ago-eq0 c =
    let a = c.args in
    expires_long a.t a.task c.requires.limits a.left c.requires.from (omega arith) c.if-task.false (rw c.requires.ago at c.if-ago-eq0.true)

pub returns-else-ago-eq0 : goal.returns-else-ago-eq0
returns-else-ago-eq0 c =
    let a = c.args in
    rw c.requires.ago (expires_between a.t a.task c.requires.limits a.left c.requires.from (omega arith) c.if-task.false (rw c.requires.ago at c.if-ago-eq0.false))
