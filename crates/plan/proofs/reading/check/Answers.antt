use Rattle.std.proofs.Common.{arith, sym, ap, ◌∙◌, Err, ◌≡◌}
use Rattle.plan.proofs.Search.{ended}
use Rattle.plan.proofs.Figures.{plan-says}
use Rattle.plan.specs.Plan.{plan_of}
use Rattle.plan.proofs.Steps.{too_long, starts, refused_line, taken_line, unclosed, finished}
use Rattle.plan.proofs.reading.check.Goals as goal

pub returns-then-plan-gt-MAX_BYTES : goal.returns-then-plan-gt-MAX_BYTES
returns-then-plan-gt-MAX_BYTES c =
    let e : Err c.at.result ≡ plan_of c.args.plan.now = ap Err c.at.ensures ∙ too_long _ c.if-plan-gt-MAX_BYTES.true in
    record { plan = e; figures = (plan-says _ _ e).1 }

pub loop-end-init : goal.loop-end-init
loop-end-init c = record {
  numbered = omega arith;
  inside = omega arith;
  short = omega arith;
  same = starts _ c.if-plan-gt-MAX_BYTES.false _ c.new-reading.ensures;
}

pub returns-in-Err : goal.returns-in-Err
returns-in-Err c =
    let e : Err c.at-in-Err.result ≡ plan_of c.args.plan.now = ap Err c.at-in-Err.ensures
    ∙ sym (c.loop-end.invariant.same ∙ refused_line c.args.plan.now c.loop-end.reading c.loop-end.line c.loop-end.at c.in-Some.end c.in-Some.ensures _ c.in-Err.ensures.answer) in
    record { plan = e; figures = (plan-says _ _ e).1 }

pub loop-end-preserved : goal.loop-end-preserved
loop-end-preserved c =
    let i = c.loop-end.invariant in
    let e = ended 10 c.args.plan.now c.loop-end.at c.in-Some.end c.in-Some.ensures in
    let after = e.after in
    let inside = e.inside in record {
      numbered = omega arith;
      inside = omega arith;
      short = i.short;
      same = i.same ∙ taken_line c.args.plan.now c.loop-end.reading c.loop-end.line c.loop-end.at c.in-Some.end c.in-Some.ensures _ c.in_default-take.ensures.answer _ c.in_default-take.ensures.taken;
    }

pub returns-then-at-plan : goal.returns-then-at-plan
returns-then-at-plan c =
    let e : Err c.at-then-at-plan.result ≡ plan_of c.args.plan.now =
    ap Err c.at-then-at-plan.ensures ∙ sym (c.loop-end.invariant.same ∙ unclosed _ _ _ _ c.in_default.ensures c.if-at-plan.true) in
    record { plan = e; figures = (plan-says _ _ e).1 }

pub returns : goal.returns
returns c =
    let e : c.close.result ≡ plan_of c.args.plan.now =
    c.close.ensures ∙ sym (c.loop-end.invariant.same ∙ finished _ _ _ _ c.in_default.ensures c.if-at-plan.false) in
    record { plan = e; figures = (plan-says _ _ e).1 }
