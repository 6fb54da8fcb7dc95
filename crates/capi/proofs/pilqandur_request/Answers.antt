use Rattle.capi.proofs.Laws.{request-is}
use Rattle.capi.proofs.pilqandur_request.Goals as goal

pub returns : goal.returns
returns c =
    let asked = c.request-answer in
    request-is c.args.state c.args.id c.args.work _ asked.new.state asked.result _ c.taken-moved.ensures c.moved_result.ensures asked.ensures.next asked.ensures.in_figures
