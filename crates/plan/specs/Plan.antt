-- A plan: its lines in order, through a small state; its refusal with the line; its A lines.
use Rattle.std.specs.Prelude.{ℕ, suc, ◌+◌, Option, Some, None, Result, Ok, Err, List, [], ◌∷◌, length, drop, slice_set, replicate, nat_lt, nat_le, if◌then◌else◌}
use Rattle.queue.specs.Queue.{work_fits}
use Rattle.server.specs.declared.Server.{Server}
use Rattle.table.specs.declared.Task.{Task}
use Rattle.table.specs.declared.Table.{Table}
use Rattle.table.specs.declared.Refusal.{Refusal}
use Rattle.table.specs.Limits.{max_tasks}
use Rattle.table.specs.State.{table_check}
use Rattle.plan.specs.declared.line.Arrival.{Arrival}
use Rattle.plan.specs.declared.line.Line.{Line}
use Rattle.plan.specs.declared.refusal.PlanRefusal.{PlanRefusal}
use Rattle.plan.specs.declared.refusal.Rejection.{Rejection}
use Rattle.plan.specs.declared.reading.Stage.{Stage}
use Rattle.plan.specs.declared.reading.Reading.{Reading}
use Rattle.plan.specs.declared.reading.Plan.{Plan}
use Rattle.plan.specs.Text.{Pieces, end, piece, split}
use Rattle.plan.specs.Lines.{line_of, rules as line_rules}

-- a table with nothing in it
unfoldable pub blank : Table
blank = record {
  tasks = replicate max_tasks (record { phase = 0; period = 0; exec = 0; deadline = 0 });
  n = 0;
  server = record { kind = 0; place = 0; period = 0; budget = 0 };
}

-- the reading before the first line
unfoldable pub fresh_reading : Reading
fresh_reading = record { table = blank; stage = Stage.Tasks }

-- "9 line misplaced"
abbrev pub misplaced : Result Unit PlanRefusal
misplaced = Err PlanRefusal.Misplaced

-- "4 bad work: work 0 or above 60,000"
abbrev pub bad_work : Result Unit PlanRefusal
bad_work = Err (PlanRefusal.Call Refusal.BadWork)

-- Whether a line may stand at a stage: before S, after it with the last A line's tick, after R. "9 line misplaced: order of letters,
-- falling tick, anything after R"; "line by line from 1: 8, 9, 4".
unfoldable pub judged : Stage → Option Line → Result Unit PlanRefusal
judged stage None = Err PlanRefusal.BadLine
judged Stage.Tasks (Some (Line.Task x)) = Ok tt
judged Stage.Tasks (Some (Line.Server s)) = Ok tt
judged (Stage.Arrivals t) (Some (Line.Arrival a)) =
    if nat_le t a.tick then (if work_fits a.work then Ok tt else bad_work) else misplaced
judged (Stage.Arrivals t) (Some (Line.Run n)) = Ok tt
judged _ _ = misplaced

-- the table with one task more; "a seventeenth T is left to 1": it only makes the count 17
unfoldable pub with_task : Table → Task → Table
with_task t x =
    if nat_lt t.n max_tasks then record { tasks = slice_set t.tasks t.n x; n = t.n + 1; server = t.server } else
    (record { tasks = t.tasks; n = max_tasks + 1; server = t.server })

abbrev pub with_server : Table → Server → Table
with_server t s = record { tasks = t.tasks; n = t.n; server = s }

-- the reading after a line that is in place
unfoldable pub moved : Reading → Option Line → Reading
moved r None = r
moved r (Some (Line.Task x)) = record { table = with_task r.table x; stage = r.stage }
moved r (Some (Line.Server s)) = record { table = with_server r.table s; stage = Stage.Arrivals 0 }
moved r (Some (Line.Arrival a)) = record { table = r.table; stage = Stage.Arrivals a.tick }
moved r (Some (Line.Run n)) = record { table = r.table; stage = Stage.Complete n }

-- a refused plan, and an accepted one
abbrev pub refused_plan : PlanRefusal → ℕ → Result Plan Rejection
refused_plan k line = Err (record { refusal = k; line = line })

abbrev pub accepted_plan : Table → ℕ → Result Plan Rejection
accepted_plan t ticks = Ok (record { table = t; ticks = ticks })

-- "then 1, 2, 3 with line 0"
unfoldable pub tabled : Result Unit Refusal → Table → ℕ → Result Plan Rejection
tabled (Ok u) t ticks = accepted_plan t ticks
tabled (Err r) t ticks = refused_plan (PlanRefusal.Call r) 0

-- after the last line, with the next line's number: "no R is 9 at the line after the last"
unfoldable pub closed : Stage → Table → ℕ → Result Plan Rejection
closed Stage.Tasks t line = refused_plan PlanRefusal.Misplaced line
closed (Stage.Arrivals tick) t line = refused_plan PlanRefusal.Misplaced line
closed (Stage.Complete ticks) t line = tabled (table_check t) t ticks

abbrev pub closing : Reading → ℕ → Result Plan Rejection
closing r line = closed r.stage r.table line

-- what follows the last line feed: nothing, or "an unclosed last line is 8"
unfoldable pub ending : Reading → ℕ → List ℕ → Result Plan Rejection
ending r line [] = closing r line
ending r line (x ∷ l) = refused_plan PlanRefusal.BadLine line

-- the first refusal decides
abbrev pub or_else : Result Unit PlanRefusal → ℕ → Result Plan Rejection → Result Plan Rejection
or_else (Ok u) line later = later
or_else (Err k) line later = refused_plan k line

-- the lines that are left, from the one numbered `line` on
unfoldable pub reads : Reading → ℕ → Pieces → Result Plan Rejection
reads r line (end l) = ending r line l
reads r line (piece l ls) = or_else (judged r.stage (line_of l)) line (reads (moved r (line_of l)) (suc line) ls)

-- "7 plan too long: above 65,536 bytes"
abbrev pub max_bytes : ℕ
max_bytes = 65_536

-- "A plan: 7 (line 0), then line by line from 1"
unfoldable pub plan_of : List ℕ → Result Plan Rejection
plan_of text =
    if nat_lt max_bytes (length text) then refused_plan PlanRefusal.TooLong 0 else reads fresh_reading 1 (split 10 text)

-- ---- the A lines
-- what an A line says
abbrev pub arrival_of : Option Line → Option Arrival
arrival_of (Some (Line.Arrival a)) = Some a
arrival_of _ = None

abbrev pub arrival_in : Option Line → List Arrival → List Arrival
arrival_in (Some (Line.Arrival a)) rest = a ∷ rest
arrival_in _ rest = rest

unfoldable pub arrivals : Pieces → List Arrival
arrivals (end l) = []
arrivals (piece l ls) = arrival_in (line_of l) (arrivals ls)

-- those from a position on, in their order
unfoldable pub arrivals_from : List ℕ → ℕ → List Arrival
arrivals_from text at = arrivals (split 10 (drop at text))

-- the first A line of the pieces that start at a position, and where the line after it starts
abbrev pub or_next : Option Line → ℕ → Option (Arrival × ℕ) → Option (Arrival × ℕ)
or_next (Some (Line.Arrival a)) p later = Some (a, p)
or_next _ p later = later

unfoldable pub next_in : ℕ → Pieces → Option (Arrival × ℕ)
next_in p (end l) = None
next_in p (piece l ls) = or_next (line_of l) (p + length l + 1) (next_in (p + length l + 1) ls)

unfoldable pub next_from : List ℕ → ℕ → Option (Arrival × ℕ)
next_from text at = next_in at (split 10 (drop at text))

-- where a reader stands after it has read: behind the A line, or where it stood if there is none
abbrev pub behind : Option (Arrival × ℕ) → ℕ → ℕ
behind None at = at
behind (Some found) at = found.1

-- the A lines from a found one on
unfoldable pub unrolled : List ℕ → Option (Arrival × ℕ) → List Arrival
unrolled text None = []
unrolled text (Some found) = found.0 ∷ arrivals_from text found.1

-- all of the definitions open, to compute with
unfoldable pub rules : Unit {0}
unfolding line_rules blank fresh_reading judged with_task moved tabled closed ending reads plan_of arrivals arrivals_from next_in next_from unrolled
rules = tt
