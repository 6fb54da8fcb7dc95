use Rattle.std.proofs.Common.{ℕ, ◌≡◌, List, length, sym, ap, ◌∙◌, arith, take}
use Rattle.std.specs.Prelude.{min}
use Rattle.std.proofs.lemmas.List.{take_min}
use Rattle.text.specs.Buffer.{then, wrote-same, has_room, no_room}
use Rattle.text.specs.Lines.{line_room}
use Rattle.heading.specs.Rooms.{head_room}
use Rattle.heading.specs.Heading.{bounds_text, verdict_text, head_text}
use Rattle.heading.proofs.lent.head.Goals as goal

pub returns-then-out-lt-HEAD_ROOM-clause-written : goal.returns-then-out-lt-HEAD_ROOM-clause-written
returns-then-out-lt-HEAD_ROOM-clause-written c = no_room head_room _ 0 _ (omega arith)

pub returns-clause-written : goal.returns-clause-written
unfolding head_text verdict_text
returns-clause-written c =
    let bounds : List ℕ = c.bounds_of-admission.result.bounds in
    let n : ℕ = c.args.table.now.n in
    let e : c.min-n.result ≡ min n (length bounds) = omega (arith, c.min-n.ensures) in
    let rows : bounds_text 0 (take c.min-n.result bounds) ≡ bounds_text 0 (take n bounds) = ap (λ (k : ℕ). bounds_text 0 (take k bounds)) e ∙ ap (bounds_text 0) (take_min n bounds) in
    let server = wrote-same (has_room line_room _ _ _ (omega arith)) (rw c.server_bound_line.ensures at c.write_line-behind.ensures.written) in
    let verdict = wrote-same (has_room line_room _ _ _ (omega arith)) (rw c.admitted_line.ensures at c.write_line.ensures.written) in
    rw (← c.bounds_of-admission.ensures) (wrote-same (sym (has_room head_room _ 0 _ (omega arith))) (then (wrote-same rows c.bounds_lines-at.ensures.written) (then server verdict)))
