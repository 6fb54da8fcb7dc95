use Rattle.std.proofs.Common.{arith}
use Rattle.admission.proofs.Laws.{admission_joined}
use Rattle.admission.proofs.Load.admission.Goals as goal

pub returns : goal.returns
returns c =
    let load = c.args.self.now in
    admission_joined load.table.now _ _ _ _ (omega (arith, load.facts.count, load.sized)) c.task_bounds-bounds.ensures
    c.server_bound-serverbound.ensures c.all_bounded-every.ensures c.server_admitted-own.ensures
