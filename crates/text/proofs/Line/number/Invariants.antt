use Rattle.std.proofs.Common.{◌-◌}
use Rattle.text.proofs.Laws.{Digits}
use Rattle.text.proofs.Line.number.Given as goal

abbrev pub invariant-loop-power : goal.invariant-loop-power
invariant-loop-power l = Digits l.x l.power l.initial.self l.self

abbrev pub decreases-loop-power : goal.decreases-loop-power
decreases-loop-power l = l.x - l.power
