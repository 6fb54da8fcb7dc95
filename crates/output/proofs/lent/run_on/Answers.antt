use Rattle.std.proofs.Common.{◌≡◌, ◌+◌, ◌≤◌, refl, arith, length, length-take-le}
use Rattle.scheduler.specs.Allowance.{Recording, block_call}
use Rattle.output.proofs.Steps.{tick-taken}
use Rattle.output.proofs.Blocks.{block_taken}
use Rattle.output.proofs.Free.{free_less}
use Rattle.output.proofs.lent.run_on.Goals as goal

pub returns-in-Ok : goal.returns-in-Ok
returns-in-Ok c = λ bytes.
    let p = c.args.place.now in
    let j = c.with_room-k.result in
    let e = c.run_copy.ensures in
    let b : Recording = record { answer = c.run_copy.result.0.answer; entries = c.run_copy.result.0.entries; state = c.run_copy.result.1 } in
    let is : b ≡ block_call p.state j = rw (e.answer, e.record, e.next) refl in
    let free = free_less c.args.ticks p c.free_ticks.result j c.with_room-k.ensures.few (c.free_ticks.ensures (omega arith)) in
    let listed : j ≤ length b.entries = omega (arith, free.few) in
    let room = rw (length-take-le j b.entries listed) at c.block_lines-end.ensures.room in
    block_taken bytes c.args.ticks p _ j b (omega arith) c.with_room-k.ensures.room room free e.sized is c.in-Ok.is c.block_lines-end.ensures.written
    (rw c.count_block-place.ensures refl)

pub returns : goal.returns
returns c = λ bytes. tick-taken bytes c.args.ticks c.args.place.now c.requires.early c.requires.none_due c.run_tick.ensures
