use Rattle.text.specs.Printing.{Printing}
use Rattle.bounds.specs.Admission.{admission_of}
use Rattle.heading.specs.Heading.{head_text}
use Rattle.heading.proofs.Laws.{head_from}
use Rattle.heading.proofs.print_head.Given as goal

abbrev pub invariant-loop-row : goal.invariant-loop-row
invariant-loop-row g l =
    Printing (g.W.Write.contents l.initial.out) (g.W.Write.contents l.out) (head_text l.table.n (admission_of l.table)) (head_from l.row l.bound-items (admission_of l.table))
