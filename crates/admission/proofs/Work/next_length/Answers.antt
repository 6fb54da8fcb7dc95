use Rattle.std.proofs.Common.{arith}
use Rattle.admission.proofs.Shares.{before_open}
use Rattle.admission.proofs.Work.next_length.Goals as goal

pub returns : goal.returns
returns c =
    let w = c.args.self in
    record {
      past = omega arith;
      moves = λ x h k. omega arith;
      none = λ x h k. before_open w.fixed w.extra w.rate x (omega arith) (omega arith);
    }
