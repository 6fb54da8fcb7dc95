use Rattle.std.proofs.Common.{Some, None, ◌∙◌, arith}
use Rattle.plan.proofs.Fields.{short, no_comma, task_said, server_said, arrival_said, run_said, none_said}
use Rattle.plan.proofs.line.parse.Goals as goal

pub returns-in_default : goal.returns-in_default
returns-in_default c = short _ c.in_default.len_below

pub returns-in_default-2 : goal.returns-in_default-2
returns-in_default-2 c = no_comma _ c.in_default.len_at_least (λ e. omega arith)

pub returns-in_err-phase-in-84 : goal.returns-in_err-phase-in-84
returns-in_err-phase-in-84 c =
    c.from_residual.ensures ∙ task_said _ c.in-44.len_at_least (omega arith) c.in-84.is None c.in_err-phase-in-84.ensures

pub returns-in_ok-phase-in-84 : goal.returns-in_ok-phase-in-84
returns-in_ok-phase-in-84 c =
    task_said _ c.in-44.len_at_least (omega arith) c.in-84.is (Some c.in_ok-phase-in-84.field-0) c.in_ok-phase-in-84.ensures

pub returns-in_err-kind-in-83 : goal.returns-in_err-kind-in-83
returns-in_err-kind-in-83 c =
    c.from_residual-in_err-kind-in-83.ensures ∙ server_said _ c.in-44.len_at_least (omega arith) c.in-83.is None c.in_err-kind-in-83.ensures

pub returns-in_ok-kind-in-83 : goal.returns-in_ok-kind-in-83
returns-in_ok-kind-in-83 c =
    server_said _ c.in-44.len_at_least (omega arith) c.in-83.is (Some c.in_ok-kind-in-83.field-0) c.in_ok-kind-in-83.ensures

pub returns-in_err-tick-in-65 : goal.returns-in_err-tick-in-65
returns-in_err-tick-in-65 c =
    c.from_residual-in_err-tick-in-65.ensures ∙ arrival_said _ c.in-44.len_at_least (omega arith) c.in-65.is None c.in_err-tick-in-65.ensures

pub returns-in_ok-tick-in-65 : goal.returns-in_ok-tick-in-65
returns-in_ok-tick-in-65 c =
    arrival_said _ c.in-44.len_at_least (omega arith) c.in-65.is (Some c.in_ok-tick-in-65.field-0) c.in_ok-tick-in-65.ensures

pub returns-in_err-ticks-in-82 : goal.returns-in_err-ticks-in-82
returns-in_err-ticks-in-82 c =
    c.from_residual-in_err-ticks-in-82.ensures ∙ run_said _ c.in-44.len_at_least (omega arith) c.in-82.is None c.in_err-ticks-in-82.ensures

pub returns-in_ok-ticks-in-82 : goal.returns-in_ok-ticks-in-82
returns-in_ok-ticks-in-82 c =
    c.then_some.ensures ∙ run_said _ c.in-44.len_at_least (omega arith) c.in-82.is (Some c.in_ok-ticks-in-82.field-0) c.in_ok-ticks-in-82.ensures

pub returns-in_default-letter : goal.returns-in_default-letter
returns-in_default-letter c =
    none_said _ c.in-44.len_at_least (omega arith) (λ e. omega arith) (λ e. omega arith) (λ e. omega arith) (λ e. omega arith)
