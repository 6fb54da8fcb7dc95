use Rattle.std.proofs.Common.{ℕ, List, sym, ◌∙◌, subst, arith}
use Rattle.text.specs.Lines.{line_room}
use Rattle.text.specs.Printing.{Prints, more, some_more, the_rest, failed}
use Rattle.output.proofs.Pieces.{filled_length, filled-fewer, filled-text}
use Rattle.output.proofs.Whole.{left_there, closing_left}
use Rattle.output.proofs.print_ticks.Goals as goal

pub loop-place-smaller : goal.loop-place-smaller
loop-place-smaller g c = filled-fewer c.fill-end.ensures c.loop-place-test.true (omega (arith, c.loop-place.invariant.room))

pub loop-place-preserved : goal.loop-place-preserved
loop-place-preserved g c = record {
  printed = more c.loop-place.invariant.printed _ _ (filled-text c.fill-end.ensures) c.in_ok-print.ensures;
  room = filled_length c.fill-end.ensures ∙ c.loop-place.invariant.room;
}

pub returns-in_err-print : goal.returns-in_err-print
returns-in_err-print g c =
    failed c.from_residual.result c.from_residual.ensures.0
    (some_more c.loop-place.invariant.printed _ _ (filled-text c.fill-end.ensures) c.in_err-print.ensures)

pub returns : goal.returns
returns g c =
    let w = c.closing-last.ensures in
    let last =
    left_there line_room (omega (arith, c.loop-place.invariant.room)) w.room w.written
    ∙ sym (closing_left c.args.text.now c.args.plan.ticks c.loop-place.place c.loop-place-test.false) in
    let out = g.W.Write.contents c.print-2.new.out in
    the_rest c.loop-place.invariant.printed out c.print-2.result
    (subst (λ (l : List ℕ). Prints (g.W.Write.contents c.loop-place.out) out c.print-2.result l) last c.print-2.ensures)
