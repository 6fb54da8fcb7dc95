use Rattle.std.proofs.Common.{rules}
use Rattle.text.specs.Printing.{Prints}
use Rattle.schedule.proofs.Laws.{prints_all, none_printed}
use Rattle.schedule.proofs.schedule.Goals as goal

pub returns-in_err-n : goal.returns-in_err-n
returns-in_err-n g c = none_printed _ (g.W.Write.contents c.args.out.now) c.from_residual.result c.from_residual.ensures.0

pub returns : goal.returns
returns g c =
    let r = c.in_ok-n.ensures in
    prints_all _ _ _ c.in_ok-n.n (Prints (g.W.Write.contents c.args.out.now) (g.W.Write.contents c.schedule.new.out) c.schedule.result) r.in_bounds (search rules) r.bytes r.end c.schedule.ensures
