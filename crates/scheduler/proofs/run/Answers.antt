use Rattle.std.proofs.Common.{arith, rules, ◌≡◌, ◌≤◌, ◌∙◌, sym, length, Ok, ap, true, leb-true, ◌+◌, refl, length-take, length-take-le}
use Rattle.server.specs.Limits.{last_clock}
use Rattle.table.specs.Refusal.{figures}
use Rattle.rules.specs.Calls.{run_check}
use Rattle.rules.proofs.Figures.{run_figures_lem}
use Rattle.scheduler.specs.Allowance.{allowance}
use Rattle.scheduler.proofs.Ask.{run-says}
use Rattle.scheduler.proofs.Known.{known-first}
use Rattle.scheduler.proofs.Runs.{Allowed, allowed, state_passed, list_passed}
use Rattle.scheduler.proofs.run.Goals as goal
use Rattle.scheduler.proofs.run.Goals.{In_ok-check_run}

passes : (c : In_ok-check_run) → run_check c.args.state.now c.args.k (length c.args.entries.now) ≡ Ok tt
unfolding allowance
passes c = sym c.check_run.ensures ∙ c.in_ok-check_run.was

fits : (c : In_ok-check_run) → Allowed c.args.state.now c.args.k (length c.args.entries.now)
fits c = allowed c.args.state.now c.args.k (length c.args.entries.now) (passes c)

pub returns-in_err-check_run-clause-in_figures : goal.returns-in_err-check_run-clause-in_figures
returns-in_err-check_run-clause-in_figures c =
    let s = c.args.state.now in
    let n = length c.args.entries.now in
    let e : c.from_residual.result ≡ (allowance s c.args.k n).answer = search rules in
    ap figures e ∙ run-says s c.args.k n

pub slice_bounds-run_ticks-end : goal.slice_bounds-run_ticks-end
slice_bounds-run_ticks-end c = (fits (goal.at.slice_bounds-run_ticks-end c).In_ok-check_run).room

pub slice_bounds-run_ticks-end-2 : goal.slice_bounds-run_ticks-end-2
slice_bounds-run_ticks-end-2 c = sym (length-take-le _ _ (fits (goal.at.slice_bounds-run_ticks-end-2 c).In_ok-check_run).room)

pub run_ticks-requires-clause-known : goal.run_ticks-requires-clause-known
run_ticks-requires-clause-known c = known-first c.args.state.now true (fits (goal.at.run_ticks-requires-clause-known c).In_ok-check_run).fits c.know_sizes.ensures

pub run_ticks-requires-clause-clock : goal.run_ticks-requires-clause-clock
run_ticks-requires-clause-clock c =
    let end : c.args.state.now.progress.clock + c.args.k ≤ last_clock = leb-true _ _ (fits (goal.at.run_ticks-requires-clause-clock c).In_ok-check_run).clock in
    omega (arith, length-take c.args.k c.args.entries.now)

pub returns-clause-next : goal.returns-clause-next
returns-clause-next c =
    let before = (goal.at.returns-clause-next c).In_ok-check_run in
    c.run_ticks.ensures.next ∙ rw (length-take-le _ _ (fits before).room) (state_passed c.args.state.now c.args.k (length c.args.entries.now) (passes before))

pub returns-clause-record : goal.returns-clause-record
returns-clause-record c =
    let before = (goal.at.returns-clause-record c).In_ok-check_run in
    rw (c.run_ticks.ensures.record, length-take-le _ _ (fits before).room) (list_passed c.args.state.now c.args.k c.args.entries.now (passes before))

pub returns-clause-in_figures : goal.returns-clause-in_figures
returns-clause-in_figures c = sym (ap figures (passes (goal.at.returns-clause-in_figures c).In_ok-check_run)) ∙ run_figures_lem c.args.state.now c.args.k (length c.args.entries.now)
