use Rattle.std.proofs.Common.{sym, ap, ◌∙◌, arith, length}
use Rattle.text.specs.Buffer.{wrote-same, next-same, wrote-mid, has_room, no_room}
use Rattle.text.specs.Lines.{line_room}
use Rattle.text.proofs.write_line.Goals.{then-out-at-via-then-out-at, then-out-at-via-else-out-at+then-out-at-lt-LINE_ROOM}
use Rattle.text.proofs.write_line.Goals as goal

pub returns-then-out-at-clause-written : goal.returns-then-out-at-clause-written
returns-then-out-at-clause-written c = elim c.then-out-at.branch [
  | then-out-at-via-then-out-at w ↦ next-same (omega arith) (no_room line_room _ _ _ (omega arith))
  | then-out-at-via-else-out-at+then-out-at-lt-LINE_ROOM w ↦ next-same (omega arith) (no_room line_room _ _ _ (omega arith))
]

pub returns-clause-written : goal.returns-clause-written
returns-clause-written c =
    let same = c.copy_from_slice.ensures.after ∙ c.as_bytes-bytes.ensures.bytes in
    let long = ap length c.as_bytes-bytes.ensures.bytes in
    wrote-same (sym (has_room line_room _ _ _ (omega arith))) (wrote-mid (omega arith) (omega (arith, long)) (omega arith) (omega arith) same)
