use Rattle.text.specs.Printing.{Printing}
use Rattle.text.proofs.print.Given as goal

abbrev pub invariant-loop : goal.invariant-loop
invariant-loop g l = Printing (g.W.Write.contents l.initial.out) (g.W.Write.contents l.out) l.bytes l.rest
