use Rattle.std.proofs.Common.{arith, ◌∙◌}
use Rattle.lists.specs.Numbers.{capped_is}
use Rattle.queue.proofs.Laws.{push-room}
use Rattle.queue.proofs.Queue.push.Goals as goal

pub returns-then-self-lt-CAPACITY : goal.returns-then-self-lt-CAPACITY
returns-then-self-lt-CAPACITY c =
    let q = c.args.self.now in
    push-room q.requests q.n q.backlog _ c.args.id c.args.work c.args.arrival (omega arith) (omega arith) (c.saturating_add-self.ensures ∙ capped_is _ _)
