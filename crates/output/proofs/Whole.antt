-- The text of a plan, whole: the Z line of a refused one; of an accepted one its head, then its filled buffers and the closing line.
use Rattle.std.specs.Prelude.{ℕ, ◌-◌, ◌≡◌, ◌<◌, ◌≤◌, refl, length, take, Result, Ok, Err}
use Rattle.std.proofs.Common.{sym, ◌∙◌, lt-ltb}
use Rattle.std.proofs.Math.Path.{ap}
use mathlib.Core.List.{List, ◌++◌}
use native.Mathlib.Omega.{arith}
use Rattle.table.specs.State.{fresh_state}
use Rattle.bounds.specs.Admission.{admission_of}
use Rattle.text.specs.Buffer.{Wrote, if_room, has_room, front}
use Rattle.text.specs.Lines.{line_bytes}
use Rattle.lines.specs.Lines.{plan_refused_line}
use Rattle.plan.specs.declared.line.Arrival.{Arrival}
use Rattle.plan.specs.declared.reading.Plan.{Plan}
use Rattle.plan.specs.declared.refusal.PlanRefusal.{PlanRefusal}
use Rattle.plan.specs.declared.refusal.Rejection.{Rejection}
use Rattle.plan.specs.Refusal.{number}
use Rattle.plan.specs.Plan.{max_bytes, plan_of, next_from, unrolled}
use Rattle.plan.proofs.Arrivals.{walked}
use Rattle.heading.specs.Heading.{head_text}
use Rattle.output.specs.declared.lent.Place.{Place}
use Rattle.output.specs.Totals.{no_totals, closing_text}
use Rattle.output.specs.Output.{ticks_text, text_by, schedule_text}
use Rattle.output.specs.Steps.{first_place}
use Rattle.output.specs.Rest.{text_from}
use Rattle.output.proofs.Pieces.{Fills, joined, pieces_whole}

-- a refused plan
pub refused-whole :
    (bytes : List ℕ) (r : Rejection) → plan_of bytes ≡ Err r →
    schedule_text bytes ≡ line_bytes (plan_refused_line (number r.refusal) r.line)
unfolding schedule_text text_by
refused-whole bytes r e = ap (λ (a : Result Plan Rejection). text_by a bytes) e

-- an accepted plan
module _ (bytes : List ℕ) (p : Plan) (ok : plan_of bytes ≡ Ok p) where
  -- its head
  abbrev pub top : List ℕ
  top = head_text p.table.n (admission_of p.table)

  -- what is to be printed from the first place on
  abbrev pub rest : List ℕ
  rest = text_from bytes p.ticks (first_place bytes p.table)

  pub accepted-whole : schedule_text bytes ≡ top ++ rest
  unfolding schedule_text text_by text_from first_place
  accepted-whole =
      let all : p.ticks ≡ p.ticks - 0 = omega arith in
      ap (λ (a : Result Plan Rejection). text_by a bytes) ok
      ∙ ap (λ (r : List Arrival). top ++ ticks_text p.ticks 0 no_totals (fresh_state p.table) r) (walked bytes 0).left
      ∙ ap (λ (k : ℕ). top ++ ticks_text k 0 no_totals (fresh_state p.table) (unrolled bytes (next_from bytes 0))) all

  -- the head, then the filled buffers up to the last tick, then the closing line
  pub schedule_whole : {ps : List (List ℕ)} → Fills bytes p.ticks (first_place bytes p.table) ps → top ++ joined ps ≡ schedule_text bytes
  schedule_whole ps = ap (λ (x : List ℕ). top ++ x) (pieces_whole ps) ∙ sym accepted-whole

-- ---- for whoever hands the bytes on
-- what stands in a buffer that had room, up to the place that was returned
pub left_there : {l m bs : List ℕ} {r : ℕ} (room : ℕ) → room ≤ length l → r ≤ room → Wrote l 0 (if_room room l 0 bs) m r → take r m ≡ bs
left_there {l} {bs = bs} room there short w = front w (omega arith) ∙ has_room room l 0 bs (omega arith)

-- where no tick is left, the closing line is still to be printed, and nothing else
pub closing_left : (bytes : List ℕ) (ticks : ℕ) (p : Place) → ticks ≤ p.tick → text_from bytes ticks p ≡ closing_text p.tick p.totals
unfolding text_from ticks_text
closing_left bytes ticks p h = let none : ticks - p.tick ≡ 0 = omega arith in rw none refl

-- every text that is too long prints the same
too_long : (bytes : List ℕ) → max_bytes < length bytes → schedule_text bytes ≡ line_bytes (plan_refused_line (number PlanRefusal.TooLong) 0)
unfolding plan_of
too_long bytes h =
    refused-whole bytes (record { refusal = PlanRefusal.TooLong; line = 0 }) (simp (lt-ltb _ _ h))

pub too_long_alike : (x y : List ℕ) → max_bytes < length x → max_bytes < length y → schedule_text x ≡ schedule_text y
too_long_alike x y h k = too_long x h ∙ sym (too_long y k)
