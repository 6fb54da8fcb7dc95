use Rattle.std.proofs.Common.{refl}
use Rattle.output.specs.Steps.{first_place}
use Rattle.output.proofs.Laws.{all_none}
use Rattle.output.proofs.lent.first.Goals as goal

pub returns : goal.returns
unfolding first_place
returns c =
    let e = c.default.ensures in
    rw (c.first_arrival.ensures, c.fresh.ensures, all_none e.0 e.1.0 e.1.1.0 e.1.1.1) refl
