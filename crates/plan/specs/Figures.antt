-- The answer to a plan in document 01's figures: its number, 0 where it is accepted, the value that comes with it, and its line. "A plan: 7
-- (line 0), then line by line from 1: 8, 9, 4; an unclosed last line is 8; a seventeenth T is left to 1; no R is 9 at the line after the
-- last; then 1, 2, 3 with line 0."
use Rattle.std.specs.Prelude.{ℕ, suc, Option, Some, None, Result, Ok, Err, List, [], ◌∷◌, length, nat_lt, ◌==◌, if◌then◌else◌}
use Rattle.queue.specs.Queue.{work_fits}
use Rattle.table.specs.declared.Table.{Table}
use Rattle.table.specs.State.{table_figures}
use Rattle.plan.specs.declared.line.Line.{Line}
use Rattle.plan.specs.declared.refusal.Rejection.{Rejection}
use Rattle.plan.specs.declared.reading.Stage.{Stage}
use Rattle.plan.specs.declared.reading.Reading.{Reading}
use Rattle.plan.specs.declared.reading.Plan.{Plan}
use Rattle.plan.specs.Text.{Pieces, end, piece, split}
use Rattle.plan.specs.Lines.{line_of}
use Rattle.plan.specs.Refusal.{number_of, value_of}
use Rattle.plan.specs.Plan.{fresh_reading, moved, max_bytes}

pub record PlanFigures : Type 0 where
  pub number : ℕ
  pub value : ℕ
  pub line : ℕ

-- the line of an answer: 0 where the plan is accepted
abbrev pub line_of_answer : Result Plan Rejection → ℕ
line_of_answer (Ok p) = 0
line_of_answer (Err r) = r.line

-- what an answer says
abbrev pub answer_figures : Result Plan Rejection → PlanFigures
answer_figures p = record { number = number_of p; value = value_of p; line = line_of_answer p }

-- ---- what is said of a plan's bytes
-- a number at a line, without a value
abbrev pub number_at : ℕ → ℕ → PlanFigures
number_at n line = record { number = n; value = 0; line = line }

-- A line at a stage: 8 if it is no line; else 9 if it may not stand there or its tick falls; else 4 if its work is 0 or above 60,000; else 0.
abbrev pub line_number : Stage → Option Line → ℕ
line_number stage None = 8
line_number Stage.Tasks (Some (Line.Task x)) = 0
line_number Stage.Tasks (Some (Line.Server s)) = 0
line_number (Stage.Arrivals t) (Some (Line.Arrival a)) = if nat_lt a.tick t then 9 else (if work_fits a.work then 0 else 4)
line_number (Stage.Arrivals t) (Some (Line.Run n)) = 0
line_number _ _ = 9

-- after the last line, with the next line's number: 9 there if there was no R; else 1, 2 or 3 with line 0, or 0
abbrev pub closed_figures : Stage → Table → ℕ → PlanFigures
closed_figures Stage.Tasks t line = number_at 9 line
closed_figures (Stage.Arrivals tick) t line = number_at 9 line
closed_figures (Stage.Complete ticks) t line = record { number = (table_figures t).number; value = (table_figures t).value; line = 0 }

abbrev pub closing_figures : Reading → ℕ → PlanFigures
closing_figures r line = closed_figures r.stage r.table line

-- what follows the last line feed: nothing, or an unclosed line
abbrev pub ending_figures : Reading → ℕ → List ℕ → PlanFigures
ending_figures r line [] = closing_figures r line
ending_figures r line (x ∷ l) = number_at 8 line

-- the lines that are left, from the one numbered `line` on: the first that is refused decides
abbrev pub lines_figures : Reading → ℕ → Pieces → PlanFigures
lines_figures r line (end l) = ending_figures r line l
lines_figures r line (piece l ls) =
    if line_number r.stage (line_of l) == 0 then lines_figures (moved r (line_of l)) (suc line) ls else
    number_at (line_number r.stage (line_of l)) line

-- 7 with line 0 above 65,536 bytes; else by its lines
abbrev pub plan_figures : List ℕ → PlanFigures
plan_figures text = if nat_lt max_bytes (length text) then number_at 7 0 else lines_figures fresh_reading 1 (split 10 text)
