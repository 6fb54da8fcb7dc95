use Rattle.std.proofs.Common.{◌++◌, ℕ, List, sym, ap, ◌∙◌, subst, arith}
use Rattle.text.specs.Lines.{line_room}
use Rattle.text.specs.Printing.{Prints, begun, more, some_more, the_rest, failed}
use Rattle.heading.specs.Rooms.{head_room}
use Rattle.output.specs.Steps.{first_place}
use Rattle.output.specs.Rest.{text_from}
use Rattle.output.specs.Output.{schedule_text}
use Rattle.output.proofs.Whole.{refused-whole, accepted-whole, left_there}
use Rattle.output.proofs.schedule.Goals as goal

pub returns-in-Err : goal.returns-in-Err
returns-in-Err g c =
    let w = c.refused-end.ensures in
    let whole = left_there line_room (omega arith) w.room w.written ∙ sym (refused-whole c.args.text.now c.in-Err.rejection (sym c.in-Err.ensures.plan)) in
    subst (λ (l : List ℕ). Prints (g.W.Write.contents c.args.out.now) (g.W.Write.contents c.print.new.out) c.print.result l) whole c.print.ensures

-- the head was not printed whole
pub returns-in_err-print-in-Ok : goal.returns-in_err-print-in-Ok
returns-in_err-print-in-Ok g c =
    let w = c.head-end.ensures in
    let p = c.in-Ok.plan in
    let rest = text_from c.args.text.now p.ticks (first_place c.args.text.now p.table) in
    let whole = accepted-whole c.args.text.now p (sym c.in-Ok.ensures.plan) ∙ ap (λ (l : List ℕ). l ++ rest) (sym (left_there head_room (omega arith) w.room w.written)) in
    failed c.from_residual.result c.from_residual.ensures.0
    (some_more (begun (g.W.Write.contents c.args.out.now) (schedule_text c.args.text.now)) _ _ whole c.in_err-print-in-Ok.ensures)

pub returns-in_ok-print-in-Ok : goal.returns-in_ok-print-in-Ok
returns-in_ok-print-in-Ok g c =
    let w = c.head-end.ensures in
    let p = c.in-Ok.plan in
    let rest = text_from c.args.text.now p.ticks (first_place c.args.text.now p.table) in
    let whole = accepted-whole c.args.text.now p (sym c.in-Ok.ensures.plan) ∙ ap (λ (l : List ℕ). l ++ rest) (sym (left_there head_room (omega arith) w.room w.written)) in
    the_rest
    (more (begun (g.W.Write.contents c.args.out.now) (schedule_text c.args.text.now)) _ _ whole c.in_ok-print-in-Ok.ensures)
    (g.W.Write.contents c.print_ticks.new.out) c.print_ticks.result c.print_ticks.ensures
