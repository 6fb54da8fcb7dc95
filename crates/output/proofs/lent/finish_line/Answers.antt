use Rattle.std.proofs.Common.{arith}
use Rattle.text.specs.Buffer.{wrote-same, has_room}
use Rattle.text.specs.Lines.{line_room}
use Rattle.output.proofs.lent.finish_line.Goals as goal

pub returns-in-Some-clause-written : goal.returns-in-Some-clause-written
returns-in-Some-clause-written c =
    rw c.in-Some.is (wrote-same (has_room line_room _ _ _ (omega arith)) (rw c.finish_line.ensures at c.write_line.ensures.written))
