use Rattle.std.proofs.Common.{arith}
use Rattle.text.specs.Buffer.{then, wrote-same, has_room}
use Rattle.text.specs.Lines.{line_room}
use Rattle.output.proofs.lent.tick_lines.Goals as goal

pub returns-in-Ok-clause-written : goal.returns-in-Ok-clause-written
returns-in-Ok-clause-written c =
    rw c.in-Ok.is
    (then (wrote-same (has_room line_room _ _ _ (omega arith)) (rw c.occupant_line.ensures at c.write_line-behind.ensures.written)) c.finish_line.ensures.written)
