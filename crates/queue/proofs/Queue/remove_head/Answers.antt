use Rattle.std.proofs.Common.{arith, ◌∙◌, ap, ◌-◌, drop, take, ℕ, List}
use Rattle.lists.specs.Lists.{overlay, moved_up}
use Rattle.queue.specs.declared.Request.{Request}
use Rattle.queue.specs.declared.Queue.{Queue}
use Rattle.queue.proofs.Queue.remove_head.Goals as goal

pub returns : goal.returns
returns c =
    let q = c.args.self.now in
    let up = moved_up q.n q.requests (omega arith) (omega arith) in
    ap {B = Queue} (λ (x : List Request). record { requests = x; n = q.n - 1; backlog = q.backlog }) (c.copy_within.ensures.after ∙ up.0)
    ∙ ap {B = Queue} (λ (n : ℕ). record { requests = overlay (drop 1 (take q.n q.requests)) q.requests; n = n; backlog = q.backlog }) up.1
