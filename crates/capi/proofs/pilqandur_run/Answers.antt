use Rattle.std.proofs.Common.{length}
use Rattle.capi.proofs.Laws.{run_is, list-is}
use Rattle.capi.proofs.pilqandur_run.Goals as goal

pub returns-clause-answer : goal.returns-clause-answer
returns-clause-answer c =
    let ran = c.run-answer in
    run_is c.args.state c.args.k (length c.args.entries.now) _ ran.new.state ran.result _ c.taken-moved.ensures c.moved_result.ensures ran.ensures.next ran.ensures.in_figures

pub returns-clause-record : goal.returns-clause-record
returns-clause-record c = list-is c.args.state c.args.k c.args.entries.now _ _ c.taken-moved.ensures c.run-answer.ensures.record
