use Rattle.std.proofs.Common.{arith, sym, ◌∙◌}
use Rattle.server.proofs.Slots.{given-later, given-whole, given-one}
use Rattle.server.proofs.Returns.give_back.Goals as goal

pub returns-then-not-comes_back : goal.returns-then-not-comes_back
returns-then-not-comes_back c =
    let a = c.args in
    given-later (record { start = 0; length = 0 }) a.period a.t a.self.now.stretches a.self.now.n (omega arith) (sym c.comes_back.ensures ∙ c.if-not-comes_back.true)

pub returns-then-oldest-le1 : goal.returns-then-oldest-le1
returns-then-oldest-le1 c =
    let a = c.args in
    given-whole (record { start = 0; length = 0 }) a.period a.t a.self.now.stretches c.copy_within.new.self a.self.now.n (omega arith) (sym c.comes_back.ensures ∙ c.if-not-comes_back.false) c.if-oldest-le1.true c.copy_within.ensures.after

pub returns-else-oldest-le1 : goal.returns-else-oldest-le1
returns-else-oldest-le1 c =
    let a = c.args in
    given-one (record { start = 0; length = 0 }) a.period a.t a.self.now.stretches a.self.now.n (omega arith) (sym c.comes_back.ensures ∙ c.if-not-comes_back.false) c.if-oldest-le1.false
