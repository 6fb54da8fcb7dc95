-- The parts of a tick put together.
use Rattle.std.proofs.Common.{arith, ◌∙◌, ap, ℕ, cond, length-take}
use Rattle.server.specs.Advanced.{edge_within, advanced, moves}
use Rattle.scheduler.proofs.Together.{may-table, says-is, next-is}
use Rattle.scheduler.proofs.Answers.{tick-may}
use Rattle.scheduler.proofs.Known.{known-on}
use Rattle.scheduler.proofs.ticking.advance.Goals as goal

pub open_due-drops-requires-clause-table : goal.open_due-drops-requires-clause-table
open_due-drops-requires-clause-table c = may-table c.args.state.now (tick-may c.args.state.now c.requires.known.flag c.requires.early)

pub first_open-first-requires : goal.first_open-first-requires
first_open-first-requires c =
    let count = (may-table c.args.state.now (tick-may c.args.state.now c.requires.known.flag c.requires.early)).count in
    omega (arith, length-take c.args.state.now.table.n c.open_due-drops.new.left, count)

pub returns-clause-says : goal.returns-clause-says
returns-clause-says c =
    let s = c.args.state.now in
    let edge = c.edge-edge.ensures ∙ ap (λ (P : ℕ). edge_within P s.progress.clock s.returns) c.delay-period.ensures in
    says-is s (tick-may s c.requires.known.flag c.requires.early) c.requires.known.sized c.edge-edge.result c.open_due-drops.new.left c.first_open-first.result c.replenish-full.result c.may_serve-may.result c.choose_turn-turn.result
    edge c.open_due-drops.ensures.left c.first_open-first.ensures c.replenish-full.ensures c.may_serve-may.ensures c.choose_turn-turn.ensures
    c.occupant_of-occupant.result c.open_due-drops.result c.work_request-finished.result
    c.occupant_of-occupant.ensures c.open_due-drops.ensures.drops c.work_request-finished.ensures.finishes

pub returns-clause-next : goal.returns-clause-next
returns-clause-next c =
    let s = c.args.state.now in
    let edge = c.edge-edge.ensures ∙ ap (λ (P : ℕ). edge_within P s.progress.clock s.returns) c.delay-period.ensures in
    let serves = c.by_budget-serves.result in
    next-is s (tick-may s c.requires.known.flag c.requires.early) c.requires.known.sized c.edge-edge.result c.open_due-drops.new.left c.first_open-first.result c.replenish-full.result c.may_serve-may.result c.choose_turn-turn.result
    edge c.open_due-drops.ensures.left c.first_open-first.ensures c.replenish-full.ensures c.may_serve-may.ensures c.choose_turn-turn.ensures
    serves c.work_task.new.left c.work_request-finished.new.queue c.consume-state.result c.move_returns.new.returns
    c.by_budget-serves.ensures c.work_task.ensures c.work_request-finished.ensures.serves c.consume-state.ensures
    (c.move_returns.ensures ∙ ap (λ (P : ℕ). cond (moves c.edge-edge.result serves) (advanced P s.progress.clock serves s.returns) s.returns) c.delay-period.ensures)

pub returns-clause-calm : goal.returns-clause-calm
returns-clause-calm c = c.open_due-drops.ensures.calm

pub returns-clause-known : goal.returns-clause-known
returns-clause-known c = known-on c.args.state.now c.args.calm.now _ _ c.requires.known c.requires.early (returns-clause-next c) (returns-clause-calm c)
