-- How many bytes a step of the printing has at most: an X line and an F line.
use Rattle.std.specs.Prelude.{ℕ, ◌*◌, ◌≤◌, List, length, Option, Some, None, Result, Ok, Err}
use Rattle.std.proofs.Common.{arith, length-append}
use Rattle.queue.specs.declared.Finished.{Finished}
use Rattle.table.specs.declared.Refusal.{Refusal}
use Rattle.table.specs.Refusal.{number}
use Rattle.rules.specs.declared.Entry.{Entry}
use Rattle.rules.specs.declared.Occupant.{Occupant}
use Rattle.rules.specs.declared.Ticked.{Ticked}
use Rattle.rules.specs.Calls.{tick_call}
use Rattle.text.specs.Lines.{line_room, line_bytes}
use Rattle.text.proofs.Short.{line_short}
use Rattle.lines.specs.Lines.{refused_line, finish_line, totals_line, plan_refused_line}
use Rattle.heading.proofs.Short.{numbered_short}
use Rattle.output.specs.declared.totals.Totals.{Totals}
use Rattle.output.specs.Totals.{closing_text}
use Rattle.output.specs.Output.{answer_text, occupant_line, finish_text, tick_text, arrival_call}
use Rattle.output.specs.declared.lent.Place.{Place}
use Rattle.output.specs.Rooms.{step_room}
use Rattle.output.specs.Steps.{Step, step_from}
use Rattle.output.specs.Blocks.{entry_line, block_text}
use Rattle.output.proofs.Steps.{step-kinds}

-- a Z line, and the closing one
pub refused_short : (number line : ℕ) → length (line_bytes (plan_refused_line number line)) ≤ line_room
refused_short number line = line_short (plan_refused_line number line) (omega arith)

pub closing_short : (ticks : ℕ) (t : Totals) → length (closing_text ticks t) ≤ line_room
closing_short ticks t = line_short (totals_line ticks t.idle t.tasks t.requests t.drops) (omega arith)

-- the N line of a refused request, the X line, and the F line
pub answer_short : (t id : ℕ) (a : Result (Unit {0}) Refusal) → length (answer_text t id a) ≤ line_room
answer_short t id (Ok x) = omega arith
answer_short t id (Err r) = line_short (refused_line t id (number r)) (omega arith)

pub occupant_short : (t : ℕ) (o : Occupant) (drops : ℕ) → length (line_bytes (occupant_line t o drops)) ≤ line_room
occupant_short t Occupant.Idle drops = line_short (occupant_line t Occupant.Idle drops) (omega arith)
occupant_short t (Occupant.Task i) drops = line_short (occupant_line t (Occupant.Task i) drops) (omega arith)
occupant_short t (Occupant.Request id) drops = line_short (occupant_line t (Occupant.Request id) drops) (omega arith)

pub finish_short : (t : ℕ) (x : Option Finished) → length (finish_text t x) ≤ line_room
finish_short t None = omega arith
finish_short t (Some x) = line_short (finish_line t x.id x.response) (omega arith)

pub tick_short : (t : ℕ) (a : Result Ticked Refusal) → length (tick_text t a) ≤ step_room
tick_short t (Ok x) =
    omega (arith, length-append (line_bytes (occupant_line t x.occupant x.drops)) (finish_text t x.finished), occupant_short t x.occupant x.drops, finish_short t x.finished)
tick_short t (Err r) = omega arith

-- a step, whichever it is
pub step_short : (bytes : List ℕ) (ticks : ℕ) (p : Place) → length (step_from bytes ticks p).text ≤ step_room
step_short bytes ticks p =
    step-kinds bytes ticks p (λ (s : Step). length s.text ≤ step_room)
    (λ h. omega arith)
    (λ a q early found due. omega (arith, answer_short p.tick a.id (arrival_call p.state a).answer))
    (λ early idle. tick_short p.tick (tick_call p.state).answer)

-- the X lines of a record
pub block_short : (t : ℕ) (es : List Entry) → length (block_text t es) ≤ length es * line_room
block_short t es = numbered_short entry_line t es (λ j e. line_short (entry_line j e) (omega arith))
