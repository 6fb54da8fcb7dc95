use Rattle.capi.proofs.Laws.{tick_is}
use Rattle.capi.proofs.pilqandur_tick.Goals as goal

pub returns : goal.returns
returns c =
    let ticked = c.tick-answer in
    tick_is c.args.state _ ticked.new.state ticked.result _ c.taken-moved.ensures c.tick_result.ensures ticked.ensures.next ticked.ensures.in_figures
