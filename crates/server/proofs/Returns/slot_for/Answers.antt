use Rattle.std.proofs.Common.{arith, sym, ◌∙◌}
use Rattle.server.specs.declared.Stretch.{Stretch}
use Rattle.server.specs.Advanced.{last_of}
use Rattle.server.proofs.Slots.{on-all, on_end, slot_on, slot_full, slot_new}
use Rattle.server.proofs.Returns.slot_for.Goals as goal

abbrev blank : Stretch
blank = record { start = 0; length = 0 }

pub overflow_add-result : goal.overflow_add-result
overflow_add-result c =
    let r = c.args.self.now in
    omega (arith, on_end blank c.args.t r.stretches r.n (omega arith) (sym c.goes_on.ensures ∙ c.if-goes_on.true))

pub returns-then-goes_on : goal.returns-then-goes_on
returns-then-goes_on c =
    let r = c.args.self.now in
    slot_on (last_of r) r.n c.args.t (on-all blank c.args.t r.stretches r.n (omega arith) (omega arith) ∙ sym c.goes_on.ensures ∙ c.if-goes_on.true)

pub returns-then-n-ge-CAPACITY : goal.returns-then-n-ge-CAPACITY
returns-then-n-ge-CAPACITY c =
    let r = c.args.self.now in
    slot_full (last_of r) r.n c.args.t (on-all blank c.args.t r.stretches r.n (omega arith) (omega arith) ∙ sym c.goes_on.ensures ∙ c.if-goes_on.false) (omega arith)

pub returns : goal.returns
returns c =
    let r = c.args.self.now in
    slot_new (last_of r) r.n c.args.t (on-all blank c.args.t r.stretches r.n (omega arith) (omega arith) ∙ sym c.goes_on.ensures ∙ c.if-goes_on.false) (omega arith)
