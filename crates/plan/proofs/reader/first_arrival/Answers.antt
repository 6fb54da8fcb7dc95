use Rattle.std.proofs.Common.{sym, ◌∙◌}
use Rattle.plan.proofs.Arrivals.{walk-on, walk-found, walk-last}
use Rattle.plan.proofs.reader.first_arrival.Goals as goal

pub returns-in-Some-parse_arrival : goal.returns-in-Some-parse_arrival
returns-in-Some-parse_arrival c = sym (c.loop-end.invariant ∙ walk-found _ _ _ c.in-Some.ensures _ c.in-Some-parse_arrival.ensures)

pub loop-end-preserved : goal.loop-end-preserved
loop-end-preserved c = c.loop-end.invariant ∙ walk-on _ _ _ c.in-Some.ensures c.in_default-parse_arrival.ensures

pub returns : goal.returns
returns c = sym (c.loop-end.invariant ∙ walk-last _ _ c.in_default.ensures)
