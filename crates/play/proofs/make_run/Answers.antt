use Rattle.std.proofs.Common.{ap, ◌∙◌}
use Rattle.play.specs.Report.{made_at}
use Rattle.play.proofs.Laws.{drops-sum, block-ran, block-room, block-refused}
use Rattle.play.proofs.make_run.Goals as goal

pub shared_ref_as_front-sum_drops : goal.shared_ref_as_front-sum_drops
shared_ref_as_front-sum_drops c =
    let b = c.run_block-block in
    block-room c.args.state.now c.args.k b.new.state b.ensures.next b.result.answer b.ensures.answer c.in-Ok.is

pub returns-in-Ok : goal.returns-in-Ok
returns-in-Ok c =
    let b = c.run_block-block in
    ap (made_at b.new.state c.args.k) (c.sum_drops.ensures ∙ drops-sum _)
    ∙ block-ran c.args.state.now c.args.k b.new.state b.ensures.next b.result.answer b.ensures.answer c.in-Ok.is b.result.entries b.ensures.record

pub returns-in-Err : goal.returns-in-Err
returns-in-Err c =
    let b = c.run_block-block in
    block-refused c.args.state.now c.args.k b.new.state b.ensures.next b.result.answer b.ensures.answer c.in-Err.field-0 c.in-Err.is
