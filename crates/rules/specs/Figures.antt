-- The calls' answers in document 01's figures. "If an answer is an enum, a definition gives this paper's number and values for every case of
-- the enum, and the promises use that definition." The answer of a request and of a run is a `Result Unit Refusal`: table/specs/Refusal gives its
-- figures. A tick's answer has its own here, its occupant's by `entry_by` and its finished request's by `finish_figures`.
use Rattle.std.specs.Prelude.{ℕ, ◌+◌, Bool, cond, not, leb, ltb, Err, None, Ok, Result}
use Rattle.server.specs.Limits.{last_clock}
use Rattle.queue.specs.Queue.{max_waiting, work_fits, FinishFigures, finish_figures}
use Rattle.table.specs.declared.State.{State}
use Rattle.table.specs.declared.Refusal.{Refusal}
use Rattle.table.specs.Refusal.{number, Figures, ground, no_ground}
use Rattle.table.specs.State.{fit}
use Rattle.rules.specs.declared.Entry.{Entry}
use Rattle.rules.specs.declared.Ticked.{Ticked}
use Rattle.rules.specs.Tick.{Tick}
use Rattle.rules.specs.Calls.{ticked, entry_by, entry_of}

-- ---- what each call says, by the state and what is asked
-- "request 11, 4, 5": 11 if the state is unfit; else 4 if the work is 0 or above 60,000; else 5 if the queue is full; else 0
abbrev pub request_figures : State → ℕ → Figures
request_figures s work =
    ground (not (fit s)) 11
    (ground (not (work_fits work)) 4
    (ground (leb max_waiting s.queue.n) 5
    no_ground))

-- "the ticks wanted pass 4,000,000,000"
abbrev pub clock_passed : State → ℕ → Bool
clock_passed s k = ltb last_clock (s.progress.clock + k)

-- "run 11, 6, 10": 11 if the state is unfit; else 6 if k ticks pass the last clock; else 10 if fewer entries are lent than ticks; else 0
abbrev pub run_figures : State → ℕ → ℕ → Figures
run_figures s k lent =
    ground (not (fit s)) 11
    (ground (clock_passed s k) 6
    (ground (ltb lent k) 10
    no_ground))

-- 8/13, "checks refusal 11 only": 11 if the state is unfit; else 0
abbrev pub waiting_figures : State → Figures
waiting_figures s = ground (not (fit s)) 11 no_ground

-- a tick's number, its entry ("occupant kind (0 idle, 1 row, 2 request), its row or id (0 for idle) and the drops") and what it finished
pub record TickFigures : Type 0 where
  pub number : ℕ
  pub entry : Entry
  pub finish : FinishFigures

-- of a refused tick all but the number is 0
abbrev pub refused_figures : ℕ → TickFigures
refused_figures n = record { number = n; entry = record { kind = 0; id = 0; drops = 0 }; finish = finish_figures None }

abbrev pub answer_figures : Result Ticked Refusal → TickFigures
answer_figures (Ok x) = record { number = 0; entry = entry_by x.occupant x.drops; finish = finish_figures x.finished }
answer_figures (Err r) = refused_figures (number r)

abbrev pub ran_figures : Tick → TickFigures
ran_figures x = record { number = 0; entry = entry_of x; finish = finish_figures x.finish }

-- "tick 11, 6": 11 if the state is unfit; else 6 if the tick passes the last clock; else 0, with what the tick says
abbrev pub tick_figures : State → TickFigures
tick_figures s =
    cond (not (fit s)) (refused_figures 11)
    (cond (clock_passed s 1) (refused_figures 6)
    (ran_figures (ticked s)))
