-- A plan that is too long: what is printed of it shows in its first bytes.
use Rattle.std.specs.Prelude.{ℕ, ◌+◌, ◌<◌, ◌≡◌, refl, Bool, true, false, List, length, take, ltb}
use Rattle.std.proofs.Common.{arith, sym, ap, ◌∙◌, length-take-le, lt-ltb, ltb-true, ltb-false}
use Rattle.std.proofs.Math.Seq.{take_all}
use Rattle.text.specs.Lines.{line_bytes}
use Rattle.lines.specs.Lines.{plan_refused_line}
use Rattle.plan.specs.declared.refusal.PlanRefusal.{PlanRefusal}
use Rattle.plan.specs.Refusal.{number}
use Rattle.plan.specs.Plan.{max_bytes, plan_of}
use Rattle.output.specs.Output.{text_by, schedule_text}

-- every text that is too long prints the same
too_long : (bytes : List ℕ) → max_bytes < length bytes → schedule_text bytes ≡ line_bytes (plan_refused_line (number PlanRefusal.TooLong) 0)
unfolding schedule_text text_by plan_of
too_long bytes h = simp (lt-ltb _ _ h)

-- one byte more than a plan may have shows it
pub schedule_front : (bytes : List ℕ) → schedule_text (take (max_bytes + 1) bytes) ≡ schedule_text bytes
schedule_front bytes = by (ltb max_bytes (length bytes)) refl
  where
    by : (b : Bool) → ltb max_bytes (length bytes) ≡ b → schedule_text (take (max_bytes + 1) bytes) ≡ schedule_text bytes
    by true e =
        let long : max_bytes < length bytes = ltb-true max_bytes (length bytes) e in
        let size : length (take (max_bytes + 1) bytes) ≡ max_bytes + 1 = length-take-le (max_bytes + 1) bytes (omega arith) in
        too_long (take (max_bytes + 1) bytes) (omega arith) ∙ sym (too_long bytes long)
    by false e = ap schedule_text (take_all (max_bytes + 1) bytes (omega (arith, ltb-false max_bytes (length bytes) e)))
