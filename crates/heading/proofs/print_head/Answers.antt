use Rattle.std.proofs.Common.{arith, take}
use Rattle.text.specs.Printing.{begun, more, some_more, the_rest, failed}
use Rattle.bounds.specs.Admission.{admission_of}
use Rattle.heading.specs.Heading.{head_text, verdict_text}
use Rattle.heading.proofs.Laws.{head_whole, head-on, head-end}
use Rattle.heading.proofs.print_head.Goals as goal

pub loop-row-init : goal.loop-row-init
loop-row-init g c =
    let a = c.bounds_of-admission.result in
    rw (← c.bounds_of-admission.ensures)
    (rw (← head_whole c.args.table.now.n c.min-n.result a (omega (arith, c.min-n.ensures))) (begun (g.W.Write.contents c.args.out.now) (head_text c.args.table.now.n a)))

pub returns-in_err-print : goal.returns-in_err-print
returns-in_err-print g c =
    failed c.from_residual.result c.from_residual.ensures.0
    (some_more c.loop-row.invariant _ _ (head-on (take c.min-n.result c.bounds_of-admission.result.bounds) (admission_of c.args.table.now) c.loop-row.row (omega arith))
    (rw c.task_bound_line.ensures at c.in_err-print.ensures))

pub loop-row-preserved : goal.loop-row-preserved
loop-row-preserved g c =
    more c.loop-row.invariant _ _ (head-on (take c.min-n.result c.bounds_of-admission.result.bounds) (admission_of c.args.table.now) c.loop-row.row (omega arith))
    (rw c.task_bound_line.ensures at c.in_ok-print.ensures)

pub returns-in_err-print-2 : goal.returns-in_err-print-2
unfolding verdict_text
returns-in_err-print-2 g c =
    let end = head-end (take c.min-n.result c.bounds_of-admission.result.bounds) (admission_of c.args.table.now) c.loop-row.row (omega arith) in
    failed c.from_residual-in_err-print-2.result c.from_residual-in_err-print-2.ensures.0
    (some_more c.loop-row.invariant _ _ end (rw (c.server_bound_line.ensures, c.bounds_of-admission.ensures) at c.in_err-print-2.ensures))

pub returns : goal.returns
unfolding verdict_text
returns g c =
    let end = head-end (take c.min-n.result c.bounds_of-admission.result.bounds) (admission_of c.args.table.now) c.loop-row.row (omega arith) in
    the_rest (more c.loop-row.invariant _ _ end (rw (c.server_bound_line.ensures, c.bounds_of-admission.ensures) at c.in_ok-print-2.ensures))
    (g.W.Write.contents c.print-3.new.out) c.print-3.result (rw (c.admitted_line.ensures, c.bounds_of-admission.ensures) at c.print-3.ensures)
