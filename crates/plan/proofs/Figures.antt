-- The answer to a plan says the figures of specs/Figures, each refusal in its order.
use Rattle.std.specs.Prelude.{ℕ, suc, ◌≡◌, refl, Bool, true, false, not, Option, Some, None, Result, Ok, Err, List, [], ◌∷◌, length, nat_lt, nat_le, ◌==◌, if◌then◌else◌}
use Rattle.std.proofs.Common.{ap, ◌∙◌}
use Rattle.lists.specs.Tests.{above}
use Rattle.queue.specs.Queue.{work_fits}
use Rattle.table.specs.declared.Refusal.{Refusal}
use Rattle.table.specs.declared.Table.{Table}
use Rattle.table.specs.Refusal.{Figures, figures}
use Rattle.table.specs.State.{table_check, table_figures}
use Rattle.table.specs.Facts.{check_figures}
use Rattle.plan.specs.declared.line.Line.{Line}
use Rattle.plan.specs.declared.refusal.PlanRefusal.{PlanRefusal}
use Rattle.plan.specs.declared.refusal.Rejection.{Rejection}
use Rattle.plan.specs.declared.reading.Stage.{Stage}
use Rattle.plan.specs.declared.reading.Reading.{Reading}
use Rattle.plan.specs.declared.reading.Plan.{Plan}
use Rattle.plan.specs.Text.{Pieces, end, piece, split}
use Rattle.plan.specs.Lines.{line_of}
use Rattle.plan.specs.Plan.{fresh_reading, misplaced, bad_work, judged, moved, refused_plan, tabled, closed, closing, ending, or_else, reads, max_bytes, plan_of}
use Rattle.plan.specs.Figures.{PlanFigures, answer_figures, closed_figures, closing_figures, ending_figures, line_number, lines_figures, number_at, plan_figures}

-- ---- the answer says these figures
-- an answer to a line, as a number
SaysLine : Result Unit PlanRefusal → ℕ → Type 0
SaysLine a n = (line : ℕ) (later : Result Plan Rejection) →
    answer_figures (or_else a line later) ≡ (if n == 0 then answer_figures later else number_at n line)

accepted-says : SaysLine (Ok tt) 0
unfolding SaysLine
accepted-says line later = refl

misplaced-says : SaysLine misplaced 9
unfolding SaysLine
misplaced-says line later = refl

bad_work-says : SaysLine bad_work 4
unfolding SaysLine
bad_work-says line later = refl

bad-line-says : SaysLine (Err PlanRefusal.BadLine) 8
unfolding SaysLine
bad-line-says line later = refl

first_says : (b : Bool) → SaysLine (if b then Ok tt else misplaced) (if b then 0 else 9)
first_says true = accepted-says
first_says false = misplaced-says

line-says : (stage : Stage) (l : Option Line) → SaysLine (judged stage l) (line_number stage l)
unfolding judged
line-says stage None = bad-line-says
line-says Stage.Tasks (Some (Line.Task x)) = accepted-says
line-says Stage.Tasks (Some (Line.Server s)) = accepted-says
line-says Stage.Tasks (Some (Line.Arrival a)) = misplaced-says
line-says Stage.Tasks (Some (Line.Run n)) = misplaced-says
line-says (Stage.Arrivals t) (Some (Line.Task x)) = misplaced-says
line-says (Stage.Arrivals t) (Some (Line.Server s)) = misplaced-says
line-says (Stage.Arrivals t) (Some (Line.Arrival a)) = rw (above t a.tick) (by (nat_le t a.tick) (work_fits a.work))
  where
    by : (f w : Bool) →
        SaysLine (if f then (if w then Ok tt else bad_work) else misplaced) (if not f then 9 else (if w then 0 else 4))
    by false w = misplaced-says
    by true false = bad_work-says
    by true true = accepted-says
line-says (Stage.Arrivals t) (Some (Line.Run n)) = accepted-says
line-says (Stage.Complete k) (Some (Line.Task x)) = misplaced-says
line-says (Stage.Complete k) (Some (Line.Server s)) = misplaced-says
line-says (Stage.Complete k) (Some (Line.Arrival a)) = misplaced-says
line-says (Stage.Complete k) (Some (Line.Run n)) = misplaced-says

table-says : (t : Table) (ticks : ℕ) →
    answer_figures (tabled (table_check t) t ticks) ≡ record { number = (table_figures t).number; value = (table_figures t).value; line = 0 }
unfolding tabled
table-says t ticks = by (table_check t) ∙ ap (λ (f : Figures). record { number = f.number; value = f.value; line = 0 }) (check_figures t)
  where
    by : (c : Result Unit Refusal) → answer_figures (tabled c t ticks) ≡ record { number = (figures c).number; value = (figures c).value; line = 0 }
    by (Ok u) = refl
    by (Err r) = refl

closed-says : (stage : Stage) (t : Table) (line : ℕ) → answer_figures (closed stage t line) ≡ closed_figures stage t line
unfolding closed
closed-says Stage.Tasks t line = refl
closed-says (Stage.Arrivals tick) t line = refl
closed-says (Stage.Complete ticks) t line = table-says t ticks

closing-says : (r : Reading) (line : ℕ) → answer_figures (closing r line) ≡ closing_figures r line
closing-says r line = closed-says r.stage r.table line

ending-says : (r : Reading) (line : ℕ) (l : List ℕ) → answer_figures (ending r line l) ≡ ending_figures r line l
unfolding ending
ending-says r line [] = closing-says r line
ending-says r line (x ∷ l) = refl

lines_say : (r : Reading) (line : ℕ) (ps : Pieces) → answer_figures (reads r line ps) ≡ lines_figures r line ps
unfolding reads SaysLine
lines_say r line (end l) = ending-says r line l
lines_say r line (piece l ls) =
    line-says r.stage (line_of l) line (reads (moved r (line_of l)) (suc line) ls)
    ∙ ap (λ (f : PlanFigures). if line_number r.stage (line_of l) == 0 then f else number_at (line_number r.stage (line_of l)) line)
    (lines_say (moved r (line_of l)) (suc line) ls)

pub plan_figures_lem : (text : List ℕ) → answer_figures (plan_of text) ≡ plan_figures text
unfolding plan_of
plan_figures_lem text = by (nat_lt max_bytes (length text))
  where
    by : (b : Bool) →
        answer_figures (if b then refused_plan PlanRefusal.TooLong 0 else reads fresh_reading 1 (split 10 text)) ≡
        (if b then number_at 7 0 else lines_figures fresh_reading 1 (split 10 text))
    by true = refl
    by false = lines_say fresh_reading 1 (split 10 text)

-- an answer that is the definition's says its figures
pub plan-says : (text : List ℕ) (p : Result Plan Rejection) → p ≡ plan_of text → (p ≡ plan_of text) × (answer_figures p ≡ plan_figures text)
plan-says text p e = (e, ap answer_figures e ∙ plan_figures_lem text)
