use Rattle.std.proofs.Common.{arith, refl, ◌∙◌}
use Rattle.scheduler.proofs.Runs.{ran-all, going_on, going_ends}
use Rattle.scheduler.proofs.run_ticks.Goals as goal

pub loop-entry-preserved : goal.loop-entry-preserved
loop-entry-preserved c =
    going_on _ _ _ _ _ _ _ c.loop-entry.invariant c.loop-entry-test.true c.advance.new.state c.advance.new.calm c.advance.result c.entry.result c.advance.ensures.next
    c.advance.ensures.known c.advance.ensures.says c.entry.ensures

pub returns-clause-next : goal.returns-clause-next
returns-clause-next c = (going_ends _ _ _ _ _ _ _ c.loop-entry.invariant (omega arith)).0

pub returns-clause-record : goal.returns-clause-record
returns-clause-record c = (going_ends _ _ _ _ _ _ _ c.loop-entry.invariant (omega arith)).1 ∙ ran-all _ _ _ refl
