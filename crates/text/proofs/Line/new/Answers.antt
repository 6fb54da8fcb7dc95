use Rattle.std.proofs.Common.{sym, ap, ◌∙◌, arith, length}
use Rattle.std.proofs.lemmas.List.{length_push}
use Rattle.std.specs.Iterator.Adapters.{rev_source}
use Rattle.std.specs.Slice.Iter.{iter_rest}
use Rattle.text.proofs.Laws.{in_front, in_front_last}
use Rattle.text.proofs.Line.new.Goals as goal

pub loop-part-preserved : goal.loop-part-preserved
loop-part-preserved c =
    let rest = iter_rest (rev_source c.next.new.self) in
    record {
      text = ap (in_front rest) c.part.ensures.text ∙ sym (in_front_last rest c.in-Some.part.now c.loop-part.line) ∙ ap (λ l. in_front l c.loop-part.line) (sym c.in-Some.ensures.steps) ∙ c.loop-part.invariant.text;
      room = omega (arith, ap length c.in-Some.ensures.steps, length_push rest c.in-Some.part.now, c.part.ensures.short);
    }
