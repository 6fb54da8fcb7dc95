use Rattle.std.proofs.Common.{◌∙◌}
use Rattle.table.specs.Model.{task_set_of}
use Rattle.bounds.proofs.Laws.{own-least}
use Rattle.admission.specs.Jumps.{demanded}
use Rattle.admission.proofs.Laws.{server_demanded}
use Rattle.admission.proofs.Jumps.{met_least}
use Rattle.admission.proofs.Load.own_bound.Goals as goal

pub returns : goal.returns
returns c =
    let t = c.args.self.now.table.now in
    c.within.ensures
    ∙ met_least (demanded t (server_demanded t)) t.server.period c.first_met.result c.first_met.ensures
    ∙ own-least (task_set_of t) t.server.period
