use Rattle.std.proofs.Common.{arith, ap, ◌∙◌, slice_set}
use Rattle.server.specs.declared.Returns.{Returns}
use Rattle.server.specs.declared.Slot.{Slot}
use Rattle.server.proofs.Slots.{held_slot}
use Rattle.server.proofs.Returns.hold.Goals as goal

pub returns : goal.returns
returns c =
    let r = c.args.self.now in
    ap {B = Returns} (λ (h : Slot). record { stretches = slice_set r.stretches h.at h.stretch; n = h.n }) c.slot_for-held.ensures
    ∙ held_slot (record { start = 0; length = 0 }) c.args.t r.stretches r.n (omega arith) (omega arith)
