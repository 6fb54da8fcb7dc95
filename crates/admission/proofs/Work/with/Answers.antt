use Rattle.std.proofs.Common.{arith}
use Rattle.admission.proofs.Work.with.Goals as goal

pub returns-then-term-from : goal.returns-then-term-from
returns-then-term-from c =
    rw c.from-exec.ensures (record {
      all = omega arith;
      fixed = omega arith;
      some = omega arith;
      extra = omega arith;
      rate = omega arith;
      sure = λ L y a b. omega arith;
    })
