use Rattle.std.proofs.Common.{arith, ◌∙◌, ap, ◌-◌, drop, take, length, ℕ}
use Rattle.queue.specs.declared.Request.{Request}
use Rattle.lists.specs.Lists.{overlay}
use Rattle.queue.specs.declared.Queue.{Queue}
use Rattle.queue.proofs.Laws.{serve_stays, serve_leaves}
use Rattle.queue.proofs.Queue.serve.Goals as goal
use Rattle.queue.proofs.Queue.serve.Goals.{then-self-le1, else-self-le1}

abbrev none : Request
none = record { id = 0; work = 0; arrival = 0 }

pub returns : goal.returns
returns c =
    let q = c.args.self.now in
    let paid = c.saturating_sub-self.ensures in
    elim c.if-self-le1.branch [
      | then-self-le1 w ↦
          let is = w.self-is ∙ w.remove_head.ensures in
          ap {B = Queue} (λ (x : Queue). record { requests = x.requests; n = x.n; backlog = c.saturating_sub-self.result }) is
          ∙ ap {B = Queue} (λ (b : ℕ). record { requests = overlay (drop 1 (take q.n q.requests)) q.requests; n = length (drop 1 (take q.n q.requests)); backlog = b }) (paid ∙ ap (λ (x : Queue). x.backlog - 1) is)
          ∙ serve_leaves none q.requests q.n q.backlog (omega arith) (omega arith) (omega arith) w.if-self-le1.true
      | else-self-le1 w ↦
          ap {B = Queue} (λ (x : Queue). record { requests = x.requests; n = x.n; backlog = c.saturating_sub-self.result }) w.self-is
          ∙ serve_stays none q.requests q.n q.backlog c.saturating_sub-self.result (omega arith) (omega arith) (omega arith) w.if-self-le1.false (paid ∙ ap (λ (x : Queue). x.backlog - 1) w.self-is)
    ]
