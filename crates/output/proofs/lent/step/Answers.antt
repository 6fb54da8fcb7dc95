use Rattle.output.proofs.Steps.{presented-taken}
use Rattle.output.proofs.lent.step.Goals as goal

pub returns-then-arrival-place : goal.returns-then-arrival-place
returns-then-arrival-place c = presented-taken _ _ c.args.place.now c.requires.early _ _ c.in-Some.is c.if-arrival-place.true c.present.ensures
