use Rattle.std.proofs.Common.{refl, ◌∙◌, arith, zero-add}
use Rattle.text.specs.Buffer.{wrote_length}
use Rattle.lines.specs.Lines.{task_bound_line}
use Rattle.heading.specs.Laws.{numbered_next, numbered-none}
use Rattle.heading.proofs.lent.bounds_lines.Goals as goal

pub loop-row-init : goal.loop-row-init
loop-row-init c = record { room = omega arith; size = refl; written = numbered-none task_bound_line c.args.bounds.now 0 _ 0 }

pub loop-row-preserved : goal.loop-row-preserved
loop-row-preserved c =
    let a = c.loop-row.invariant in
    record {
      room = omega arith;
      size = wrote_length c.write_line-at.ensures.written ∙ a.size;
      written = numbered_next task_bound_line c.args.bounds.now 0 0 c.loop-row.row _ (omega arith) (rw (zero-add c.loop-row.row) refl) (omega arith) a.written (rw c.task_bound_line.ensures at c.write_line-at.ensures.written);
    }
