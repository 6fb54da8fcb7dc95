use Rattle.std.proofs.Common.{refl, ◌∙◌, arith}
use Rattle.text.specs.Buffer.{wrote_length}
use Rattle.heading.specs.Laws.{numbered_next, numbered-none}
use Rattle.output.specs.Blocks.{entry_line}
use Rattle.output.proofs.lent.block_lines.Goals as goal

pub loop-i-init : goal.loop-i-init
loop-i-init c = record { room = omega arith; size = refl; written = numbered-none entry_line c.args.entries.now c.args.t _ c.args.at }

pub loop-i-preserved : goal.loop-i-preserved
loop-i-preserved c =
    let a = c.loop-i.invariant in
    record {
      room = omega arith;
      size = wrote_length c.write_line-end.ensures.written ∙ a.size;
      written = numbered_next entry_line c.args.entries.now (record { kind = 0; id = 0; drops = 0 }) c.args.t c.loop-i.i _ (omega arith) refl (omega arith) a.written (rw c.entry_line.ensures at c.write_line-end.ensures.written);
    }
