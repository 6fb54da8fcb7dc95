use Rattle.std.proofs.Common.{sym, take-append-drop, take, drop}
use Rattle.std.proofs.lemmas.List.{take_rest}
use Rattle.text.specs.Printing.{more, kept}
use Rattle.text.proofs.print.Goals as goal
use Rattle.text.proofs.print.Goals.{in-Ok, in-Err+else-ne}

pub loop-preserved : goal.loop-preserved
loop-preserved g c =
    elim c.match-write.branch [
      | in-Ok w ↦
          rw (w.rest-is, take_rest c.loop.rest.now w.in-Ok.n)
          (more c.loop.invariant (take w.in-Ok.n c.loop.rest.now) (drop w.in-Ok.n c.loop.rest.now) (sym (take-append-drop w.in-Ok.n c.loop.rest.now)) w.in-Ok.ensures.bytes)
      | in-Err+else-ne w ↦ rw w.rest-is (kept c.loop.invariant w.in-Err.ensures.bytes)
    ]
