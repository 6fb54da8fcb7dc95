use Rattle.std.proofs.Common.{arith}
use Rattle.admission.proofs.Jumps.{server_share, deferrable_leads}
use Rattle.admission.proofs.Load.server_lead.Goals as goal

pub returns-in-2 : goal.returns-in-2
returns-in-2 c =
    let t = c.args.table.now in
    rw c.from-budget.ensures (deferrable_leads t.server t.n c.args.part c.requires.facts.server c.requires.known c.in-2.is)

pub returns-in_default : goal.returns-in_default
returns-in_default c =
    let t = c.args.table.now in
    record { most = omega arith; sure = λ x. omega (arith, server_share t.server t.n c.args.part c.requires.facts.server c.requires.known x) }
