use Rattle.std.proofs.Common.{sym, ◌∙◌, arith, length, option_copied, take, ◌<◌, length-set}
use Rattle.plan.proofs.Fields.{one_read, none_read, too_many, as_many}
use Rattle.plan.proofs.line.read_numbers.Goals as goal

pub returns-in_err-number : goal.returns-in_err-number
returns-in_err-number g c =
    c.from_residual-in_err-number.ensures
    ∙ none_read c.args.fields.now (take c.loop-number.number-index c.loop-number.number-items) c.loop-number.rest c.in_ok-rest.field-0 c.in_ok-rest.was
    c.cut.result.0.now (option_copied c.cut.result.1) c.cut.ensures c.loop-number.invariant.same g.row.N c.in_err-number.ensures

pub loop-number-preserved : goal.loop-number-preserved
loop-number-preserved g c =
    let h = c.loop-number.invariant in
    let k : c.loop-number.number-index < length c.loop-number.number-items = omega (arith, h.many) in
    record {
      many = length-set _ _ _ ∙ h.many;
      same = one_read c.args.fields.now c.loop-number.number-index c.loop-number.number-items k c.loop-number.rest c.in_ok-rest.field-0 c.in_ok-rest.was
          c.cut.result.0.now (option_copied c.cut.result.1) c.cut.ensures h.same c.in_ok-number.field-0 c.in_ok-number.ensures;
    }

pub returns-then-is_some : goal.returns-then-is_some
returns-then-is_some g c =
    let h = c.loop-number.invariant in
    too_many c.args.fields.now g.row.N c.loop-number.number-index c.loop-number.number-items c.loop-number.rest h.many c.loop-number-test.false
    (sym c.is_some.ensures ∙ c.if-is_some.true) h.same

pub returns : goal.returns
returns g c =
    let h = c.loop-number.invariant in
    as_many c.args.fields.now g.row.N c.loop-number.number-index c.loop-number.number-items c.loop-number.rest h.many c.loop-number-test.false
    (sym c.is_some.ensures ∙ c.if-is_some.false) h.same
