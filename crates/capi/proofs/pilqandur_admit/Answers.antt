use Rattle.std.proofs.Common.{◌∙◌}
use Rattle.capi.proofs.Laws.{flag-number, admission-passed, admission-refused}
use Rattle.capi.proofs.pilqandur_admit.Goals as goal

pub returns-in-Ok : goal.returns-in-Ok
returns-in-Ok c =
    let a = c.in-Ok.admission in
    admission-passed c.args.table a c.from.result c.in-Ok.ensures.answer c.in-Ok.ensures.in_figures (c.from.ensures ∙ flag-number a.admitted)

pub returns-in-Err : goal.returns-in-Err
returns-in-Err c =
    admission-refused c.args.table c.in-Err.refusal c.number.result c.value_of.result c.in-Err.ensures.answer c.in-Err.ensures.in_figures c.number.ensures c.value_of.ensures
