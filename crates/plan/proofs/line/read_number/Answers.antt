use Rattle.std.proofs.Common.{arith, sym, ◌∙◌, get_or, ◌≡◌, true}
use Rattle.text.specs.Decimal.{is_digit}
use Rattle.plan.proofs.Numbers.{tens, tens_next, no_digit, digit_on, digit_high, ends, in_32}
use Rattle.plan.proofs.line.read_number.Goals as goal

pub returns-then-not-is_ascii_digit : goal.returns-then-not-is_ascii_digit
returns-then-not-is_ascii_digit c =
    sym (c.loop-byte.invariant.same ∙ no_digit _ _ _ c.loop-byte-test.true (sym c.is_ascii_digit.ensures.value ∙ c.if-not-is_ascii_digit.true))

pub overflow_mul-value : goal.overflow_mul-value
overflow_mul-value c =
    let t = tens c.loop-byte.byte-index (omega arith) in
    omega (arith, c.loop-byte.invariant.below)

pub overflow_add-value : goal.overflow_add-value
overflow_add-value c =
    let t = tens c.loop-byte.byte-index (omega arith) in
    let e = c.from.ensures in
    omega (arith, c.loop-byte.invariant.below)

pub loop-byte-preserved : goal.loop-byte-preserved
loop-byte-preserved c =
    let e = c.from.ensures in
    let d : is_digit (get_or c.args.field.now c.loop-byte.byte-index 0) ≡ true = sym c.is_ascii_digit.ensures.value ∙ c.if-not-is_ascii_digit.false in
    let high = digit_high (get_or c.args.field.now c.loop-byte.byte-index 0) d in
    let t = tens_next c.loop-byte.byte-index in
    record {
      short = omega arith;
      below = omega arith;
      same = c.loop-byte.invariant.same ∙ digit_on _ _ _ c.loop-byte-test.true d _ e;
    }

pub returns : goal.returns
returns c =
    c.ok.ensures.value ∙ in_32 _ _ c.try_from.ensures ∙ sym (c.loop-byte.invariant.same ∙ ends _ _ _ c.loop-byte-test.false)
