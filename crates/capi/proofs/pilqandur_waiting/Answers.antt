use Rattle.std.proofs.Common.{Ok, Err, refl}
use Rattle.capi.proofs.Laws.{waiting-is}
use Rattle.capi.proofs.pilqandur_waiting.Goals as goal

pub returns-in-Ok : goal.returns-in-Ok
returns-in-Ok c = waiting-is c.args.state c.taken.result (Ok c.in-Ok.work) 0 c.taken.ensures refl c.in-Ok.ensures.answer c.in-Ok.ensures.in_figures

pub returns-in-Err : goal.returns-in-Err
returns-in-Err c = waiting-is c.args.state c.taken.result (Err c.in-Err.refusal) _ c.taken.ensures c.number.ensures c.in-Err.ensures.answer c.in-Err.ensures.in_figures
