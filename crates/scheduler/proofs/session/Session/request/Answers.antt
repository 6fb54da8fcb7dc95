use Rattle.std.proofs.Common.{◌≡◌, true}
use Rattle.scheduler.proofs.Known.{known-asked}
use Rattle.scheduler.proofs.session.Session.request.Goals as goal

pub invariant_of-self : goal.invariant_of-self
invariant_of-self c =
    let a = c.self.inside in
    let fits : a.fit ≡ true = c.if-not-self.false in
    rw (c.fit_request.ensures.next, fits) (known-asked a.state c.args.id c.args.work a.calm (rw fits at c.self.invariant))
