use Rattle.std.proofs.Common.{arith}
use Rattle.text.specs.Buffer.{wrote-same, has_room}
use Rattle.text.specs.Lines.{line_room}
use Rattle.output.proofs.lent.answer_line.Goals as goal

pub returns-in-Err-clause-written : goal.returns-in-Err-clause-written
returns-in-Err-clause-written c =
    rw c.in-Err.is (wrote-same (has_room line_room _ _ _ (omega arith)) (rw (c.refused_line.ensures, c.number.ensures) at c.write_line.ensures.written))
