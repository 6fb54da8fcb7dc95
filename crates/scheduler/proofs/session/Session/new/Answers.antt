use Rattle.std.proofs.Common.{sym}
use Rattle.scheduler.proofs.Known.{known-first}
use Rattle.scheduler.proofs.session.Session.new.Goals as goal

pub invariant_of-result : goal.invariant_of-result
invariant_of-result c = known-first _ _ (sym c.fit-fit.ensures) c.know_sizes.ensures
