-- What an accepted plan keeps: its table has the declared length and passes its checks, and its ticks keep their limit.
use Rattle.std.specs.Prelude.{ℕ, suc, ◌≤◌, ◌≡◌, refl, Bool, true, false, Option, Some, None, option_and_then, Result, Ok, Err, IfOk, List, [], ◌∷◌, length, nat_lt, nat_le, ◌==◌, if◌then◌else◌}
use Rattle.std.proofs.Common.{ap, ◌∙◌, length-set, leb-true}
use Rattle.lists.specs.Tests.{either}
use Rattle.table.specs.declared.Table.{Table}
use Rattle.table.specs.declared.Task.{Task}
use Rattle.table.specs.declared.Refusal.{Refusal}
use Rattle.table.specs.Limits.{max_tasks}
use Rattle.table.specs.Refusal.{passed}
use Rattle.table.specs.State.{table_check}
use Rattle.plan.specs.declared.line.Line.{Line}
use Rattle.plan.specs.declared.refusal.PlanRefusal.{PlanRefusal}
use Rattle.plan.specs.declared.refusal.Rejection.{Rejection}
use Rattle.plan.specs.declared.reading.Stage.{Stage}
use Rattle.plan.specs.declared.reading.Reading.{Reading}
use Rattle.plan.specs.declared.reading.Plan.{Plan}
use Rattle.plan.specs.Text.{Pieces, end, piece, split}
use Rattle.plan.specs.Lines.{numbers, task_line, server_line, arrival_line, run_line, max_ticks, by_letter, line_of}
use Rattle.plan.specs.Plan.{blank, fresh_reading, judged, with_task, moved, refused_plan, tabled, closed, closing, ending, or_else, reads, max_bytes, plan_of}

-- of an accepted plan
pub record Keeps (p : Plan) : Type 0 where
  pub sized : length p.table.tasks ≡ max_tasks
  pub passes : passed (table_check p.table) ≡ true
  pub ticks : p.ticks ≤ max_ticks

-- of a plan, if it is accepted
abbrev IfAccepted : Result Plan Rejection → Type 0
IfAccepted p = IfOk p Keeps

refused-keeps : (k : PlanRefusal) (line : ℕ) → IfAccepted (refused_plan k line)
refused-keeps k line = tt

-- an R line's number keeps its limit
abbrev Limited : Option Line → Type 0
Limited (Some (Line.Run n)) = n ≤ max_ticks
Limited _ = Unit {0}

task_limited : (vs : List ℕ) → Limited (task_line vs)
task_limited [] = tt
task_limited (a ∷ []) = tt
task_limited (a ∷ b ∷ []) = tt
task_limited (a ∷ b ∷ c ∷ []) = tt
task_limited (a ∷ b ∷ c ∷ d ∷ []) = tt
task_limited (a ∷ b ∷ c ∷ d ∷ e ∷ vs) = tt

server_limited : (vs : List ℕ) → Limited (server_line vs)
server_limited [] = tt
server_limited (a ∷ []) = tt
server_limited (a ∷ b ∷ []) = tt
server_limited (a ∷ b ∷ c ∷ []) = tt
server_limited (a ∷ b ∷ c ∷ d ∷ []) = tt
server_limited (a ∷ b ∷ c ∷ d ∷ e ∷ vs) = tt

arrival_limited : (vs : List ℕ) → Limited (arrival_line vs)
arrival_limited [] = tt
arrival_limited (a ∷ []) = tt
arrival_limited (a ∷ b ∷ []) = tt
arrival_limited (a ∷ b ∷ c ∷ []) = tt
arrival_limited (a ∷ b ∷ c ∷ d ∷ vs) = tt

run_limited : (vs : List ℕ) → Limited (run_line vs)
run_limited [] = tt
run_limited (n ∷ []) = by (nat_le n max_ticks) refl
  where
    by : (b : Bool) → nat_le n max_ticks ≡ b → Limited (if b then Some (Line.Run n) else None)
    by true e = leb-true n max_ticks e
    by false e = tt
run_limited (a ∷ b ∷ vs) = tt

letter_limited : (c : ℕ) (ns : Option (List ℕ)) → Limited (option_and_then (by_letter c) ns)
unfolding by_letter
letter_limited c None = tt
letter_limited c (Some vs) =
    either Limited (c == 84) (task_limited vs)
    (either Limited (c == 83) (server_limited vs) (either Limited (c == 65) (arrival_limited vs) (either Limited (c == 82) (run_limited vs) tt)))

line_limited : (l : List ℕ) → Limited (line_of l)
unfolding line_of
line_limited [] = tt
line_limited (c ∷ []) = tt
line_limited (c ∷ k ∷ rest) = either Limited (k == 44) (letter_limited c (numbers rest)) tt

-- what a reading keeps
abbrev Within : Stage → Type 0
Within (Stage.Complete n) = n ≤ max_ticks
Within _ = Unit {0}

record Kept (r : Reading) : Type 0 where
  sized : length r.table.tasks ≡ max_tasks
  ticks : Within r.stage

fresh_kept : Kept fresh_reading
unfolding fresh_reading blank
fresh_kept = record { sized = refl; ticks = tt }

with_sized : (t : Table) (x : Task) → length t.tasks ≡ max_tasks → length (with_task t x).tasks ≡ max_tasks
unfolding with_task
with_sized t x h = either (λ (z : Table). length z.tasks ≡ max_tasks) (nat_lt t.n max_tasks) (length-set t.tasks t.n x ∙ h) h

moved-kept : (r : Reading) (l : Option Line) → Limited l → Kept r → Kept (moved r l)
unfolding moved
moved-kept r None h k = k
moved-kept r (Some (Line.Task x)) h k = record { sized = with_sized r.table x k.sized; ticks = k.ticks }
moved-kept r (Some (Line.Server s)) h k = record { sized = k.sized; ticks = tt }
moved-kept r (Some (Line.Arrival a)) h k = record { sized = k.sized; ticks = tt }
moved-kept r (Some (Line.Run n)) h k = record { sized = k.sized; ticks = h }

closed-keeps : (stage : Stage) (t : Table) (line : ℕ) → length t.tasks ≡ max_tasks → Within stage → IfAccepted (closed stage t line)
unfolding closed tabled
closed-keeps Stage.Tasks t line h w = refused-keeps PlanRefusal.Misplaced line
closed-keeps (Stage.Arrivals tick) t line h w = refused-keeps PlanRefusal.Misplaced line
closed-keeps (Stage.Complete n) t line h w = by (table_check t) refl
  where
    by : (a : Result Unit Refusal) → table_check t ≡ a → IfAccepted (tabled a t n)
    by (Ok u) e = record { sized = h; passes = ap passed e; ticks = w }
    by (Err r) e = refused-keeps (PlanRefusal.Call r) 0

closing-keeps : (r : Reading) (line : ℕ) → Kept r → IfAccepted (closing r line)
closing-keeps r line k = closed-keeps r.stage r.table line k.sized k.ticks

reads-keeps : (r : Reading) (line : ℕ) (ps : Pieces) → Kept r → IfAccepted (reads r line ps)
unfolding reads ending
reads-keeps r line (end []) k = closing-keeps r line k
reads-keeps r line (end (x ∷ l)) k = refused-keeps PlanRefusal.BadLine line
reads-keeps r line (piece l ls) k =
    by (judged r.stage (line_of l)) (reads (moved r (line_of l)) (suc line) ls) (reads-keeps (moved r (line_of l)) (suc line) ls (moved-kept r (line_of l) (line_limited l) k))
  where
    by : (a : Result Unit PlanRefusal) (p : Result Plan Rejection) → IfAccepted p → IfAccepted (or_else a line p)
    by (Ok u) p h = h
    by (Err e) p h = refused-keeps e line

pub accepted-keeps : (text : List ℕ) → IfOk (plan_of text) Keeps
unfolding plan_of
accepted-keeps text =
    either IfAccepted (nat_lt max_bytes (length text)) (refused-keeps PlanRefusal.TooLong 0) (reads-keeps fresh_reading 1 (split 10 text) fresh_kept)
