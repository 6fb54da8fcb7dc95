-- What `schedule` prints: bytes from the bytes of a plan, by the library's calls.
use Rattle.std.specs.Prelude.{ℕ, zero, suc, cond, List, [], ◌∷◌, ◌++◌, eqb, Err, None, Ok, Option, Result, Some}
use Rattle.queue.specs.declared.Finished.{Finished}
use Rattle.table.specs.declared.Refusal.{Refusal}
use Rattle.table.specs.declared.State.{State}
use Rattle.table.specs.Refusal.{number}
use Rattle.table.specs.State.{fresh_state}
use Rattle.bounds.specs.Admission.{admission_of}
use Rattle.rules.specs.declared.Occupant.{Occupant}
use Rattle.rules.specs.declared.Ticked.{Ticked}
use Rattle.rules.specs.Calls.{Called, request_call, tick_call}
use Rattle.text.specs.Lines.{Line, line_bytes}
use Rattle.lines.specs.Lines.{refused_line, tick_line, finish_line, plan_refused_line}
use Rattle.plan.specs.declared.line.Arrival.{Arrival}
use Rattle.plan.specs.declared.reading.Plan.{Plan}
use Rattle.plan.specs.declared.refusal.Rejection.{Rejection}
use Rattle.plan.specs.Refusal as plan
use Rattle.plan.specs.Plan.{plan_of, arrivals_from}
use Rattle.heading.specs.Heading as heading
use Rattle.output.specs.declared.totals.Totals.{Totals}
use Rattle.output.specs.Totals.{no_totals, answered, closing_text}

-- ---- one tick
-- "A request refused for a full queue prints `N,tick,id,5`": the number is the refusal's; of an accepted plan no other comes
abbrev pub answer_text : ℕ → ℕ → Result (Unit {0}) Refusal → List ℕ
answer_text t id (Ok x) = []
answer_text t id (Err r) = line_bytes (refused_line t id (number r))

-- "X: tick, I idle or T row or A request, row or id, drops."
abbrev pub occupant_line : ℕ → Occupant → ℕ → Line
occupant_line t Occupant.Idle drops = tick_line t 73 0 drops
occupant_line t (Occupant.Task i) drops = tick_line t 84 i drops
occupant_line t (Occupant.Request id) drops = tick_line t 65 id drops

-- "F, after its X: tick, id, response."
abbrev pub finish_text : ℕ → Option Finished → List ℕ
finish_text t None = []
finish_text t (Some x) = line_bytes (finish_line t x.id x.response)

-- the lines of a tick call's answer; of an accepted plan none is refused
abbrev pub tick_text : ℕ → Result Ticked Refusal → List ℕ
tick_text t (Ok x) = line_bytes (occupant_line t x.occupant x.drops) ++ finish_text t x.finished
tick_text t (Err r) = []

-- ---- the A lines of a tick: "An A line is presented before its tick; one at or past the end isn't."
-- the request call of an A line
abbrev pub arrival_call : State → Arrival → Called (Unit {0})
arrival_call s a = request_call s a.id a.work

-- those of tick t at the front of a list: what presenting them prints, the state after them, and the A lines that are left
unfoldable pub due_text : ℕ → State → List Arrival → List ℕ
due_text t s [] = []
due_text t s (a ∷ rest) = cond (eqb a.tick t) (answer_text t a.id (arrival_call s a).answer ++ due_text t (arrival_call s a).state rest) []

unfoldable pub after_due : ℕ → State → List Arrival → State
after_due t s [] = s
after_due t s (a ∷ rest) = cond (eqb a.tick t) (after_due t (arrival_call s a).state rest) s

unfoldable pub later : ℕ → List Arrival → List Arrival
later t [] = []
later t (a ∷ rest) = cond (eqb a.tick t) (later t rest) (a ∷ rest)

-- ---- k ticks from tick t on, with the totals of the ticks before, and the closing line after them
unfoldable pub ticks_text : ℕ → ℕ → Totals → State → List Arrival → List ℕ
ticks_text zero t sums s rest = closing_text t sums
ticks_text (suc k) t sums s rest =
    due_text t s rest
    ++ (tick_text t (tick_call (after_due t s rest)).answer
    ++ ticks_text k (suc t) (answered sums (tick_call (after_due t s rest)).answer) (tick_call (after_due t s rest)).state (later t rest))

-- ---- the whole
-- "A refused plan prints only `Z,number,line`"; "a table not admitted runs too"; 02: "A refused plan still prints only its Z line."
unfoldable pub text_by : Result Plan Rejection → List ℕ → List ℕ
text_by (Err r) bytes = line_bytes (plan_refused_line (plan.number r.refusal) r.line)
text_by (Ok p) bytes =
    heading.head_text p.table.n (admission_of p.table)
    ++ ticks_text p.ticks 0 no_totals (fresh_state p.table) (arrivals_from bytes 0)

unfoldable pub schedule_text : List ℕ → List ℕ
schedule_text bytes = text_by (plan_of bytes) bytes

-- all of the definitions open, to compute with
unfoldable pub rules : Unit {0}
unfolding heading.rules due_text after_due later ticks_text text_by schedule_text
rules = tt
