use Rattle.std.proofs.Common.{ap, length, arith, length-append}
use Rattle.text.specs.Decimal.{decimal}
use Rattle.text.specs.ReadBack.{decimal-short}
use Rattle.text.proofs.Laws.{none, power_some, count_few, one_more, all, so_far}
use Rattle.text.proofs.Line.number.Goals as goal

pub loop-power-init : goal.loop-power-init
loop-power-init c = none c.args.x c.args.self.now

pub nonzero_div-x : goal.nonzero_div-x
nonzero_div-x c = omega (arith, power_some c.loop-power.invariant)

pub put-requires : goal.put-requires
put-requires c = let d = c.loop-power.invariant in omega (arith, count_few d (omega arith), so_far d)

pub loop-power-smaller : goal.loop-power-smaller
loop-power-smaller c = omega (arith, power_some c.loop-power.invariant)

pub loop-power-preserved : goal.loop-power-preserved
loop-power-preserved c =
    let d = c.loop-power.invariant in
    rw c.put.ensures (one_more d (omega (arith, power_some d)) (omega arith) (omega arith))

pub returns-then-x-power-clause-text : goal.returns-then-x-power-clause-text
returns-then-x-power-clause-text c =
    let d = c.loop-power.invariant in
    rw c.put.ensures (all d (omega (arith, power_some d)) (omega arith) (omega (arith, power_some d)) (omega arith))

pub returns-then-x-power-clause-short : goal.returns-then-x-power-clause-short
returns-then-x-power-clause-short c =
    omega (arith, ap length (returns-then-x-power-clause-text c), length-append (decimal c.args.x) c.args.self.now, decimal-short c.args.x)
