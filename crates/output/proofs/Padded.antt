-- A plan whose fields are padded prints the same bytes.
use Rattle.std.specs.Prelude.{ℕ, ◌≤◌, ◌≡◌, refl, List, length, Result, Ok, Err}
use Rattle.std.proofs.Common.{ap, ◌∙◌}
use Rattle.plan.specs.LinePadded.{padded}
use Rattle.plan.specs.declared.reading.Plan.{Plan}
use Rattle.plan.specs.declared.refusal.Rejection.{Rejection}
use Rattle.plan.specs.Plan.{max_bytes, plan_of, arrivals_from}
use Rattle.plan.proofs.Padded.{plan-padded, arrivals-padded}
use Rattle.output.specs.Output.{text_by, schedule_text}

-- of two texts with the same A lines
same_text : (a : Result Plan Rejection) (l m : List ℕ) → arrivals_from m 0 ≡ arrivals_from l 0 → text_by a m ≡ text_by a l
unfolding text_by
same_text (Ok p) l m e = rw e refl
same_text (Err r) l m e = refl

pub schedule_padded : (ks text : List ℕ) → length (padded ks text) ≤ max_bytes → schedule_text (padded ks text) ≡ schedule_text text
unfolding schedule_text
schedule_padded ks text h =
    ap (λ (a : Result Plan Rejection). text_by a (padded ks text)) (plan-padded ks text h)
    ∙ same_text (plan_of text) text (padded ks text) (arrivals-padded ks text)
