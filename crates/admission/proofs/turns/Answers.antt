use Rattle.admission.proofs.Shares.{turns-are}
use Rattle.admission.proofs.turns.Goals as goal

pub returns : goal.returns
returns c =
    let are = turns-are c.args.l c.args.period c.args.part c.requires.span c.requires.some c.requires.short c.requires.known in
    rw c.from.ensures (record { count = are.0; most = are.1 })
