use Rattle.std.proofs.Common.{◌∙◌}
use Rattle.admission.proofs.Laws.{admission_unwrapped}
use Rattle.admission.proofs.bounds_of.Goals as goal

pub returns : goal.returns
returns c = c.unwrap_or.ensures ∙ rw (c.admit.ensures.answer, c.no_admission.ensures) (admission_unwrapped c.args.table.now)
