-- What admission, set-up and the calls answer by their contracts, in one report.
use Rattle.std.proofs.Common.{arith, ◌∙◌, ◌≡◌, ap}
use Rattle.table.specs.declared.State.{State}
use Rattle.bounds.specs.declared.Admission.{Admission}
use Rattle.rules.specs.Calls.{told}
use Rattle.play.specs.Numbers.{calls_of}
use Rattle.play.specs.Report.{made, reported}
use Rattle.play.specs.declared.Report.{Report}
use Rattle.play.specs.Promise.{Promise}
use Rattle.play.proofs.Laws.{set_up-fresh, told-or, played}
use Rattle.play.proofs.play.Goals as goal
use Rattle.play.proofs.play.Goals.{After-unwrap_or}

pub make_all-tally-requires : goal.make_all-tally-requires
make_all-tally-requires c =
    rw (set_up-fresh c.args.table c.set_up.result c.fresh.result c.unwrap_or-state.result c.set_up.ensures.answer c.fresh.ensures c.unwrap_or-state.ensures) (omega arith)

reports : (c : After-unwrap_or) →
    let r : Report = record { admitted = c.bounds_of.result.admitted; ticks = c.make_all-tally.result.ticks; drops = c.make_all-tally.result.drops; waiting = c.unwrap_or.result; state = c.make_all-tally.new.state } in
    (r ≡ reported c.args.table (calls_of c.args.calls.now)) × Promise c.args.table (calls_of c.args.calls.now) r
reports c =
    let all = c.make_all-tally in
    let fresh = set_up-fresh c.args.table c.set_up.result c.fresh.result c.unwrap_or-state.result c.set_up.ensures.answer c.fresh.ensures c.unwrap_or-state.ensures in
    let starts = all.ensures ∙ ap (λ (s : State). made s (calls_of c.args.calls.now)) fresh in
    played c.args.table c.bounds_of.result.admitted all.new.state all.result.ticks all.result.drops c.unwrap_or.result (calls_of c.args.calls.now) (omega arith)
    (ap (λ (x : Admission). x.admitted) c.bounds_of.ensures) starts (c.unwrap_or.ensures ∙ told-or c.waiting.result ∙ ap told c.waiting.ensures.answer)

pub returns-clause-reports : goal.returns-clause-reports
returns-clause-reports c = (reports (goal.at.returns-clause-reports c).After-unwrap_or).0

pub returns-clause-keeps : goal.returns-clause-keeps
returns-clause-keeps c = (reports (goal.at.returns-clause-keeps c).After-unwrap_or).1
