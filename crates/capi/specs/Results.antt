-- Each answer as C reads it: document 01's figures (table/specs/Refusal, rules/specs/Figures) as numbers, with the state beside them.
use Rattle.std.specs.Prelude.{ℕ, cond, List}
use Rattle.lists.specs.Numbers.{bit_of}
use Rattle.table.specs.declared.State.{State}
use Rattle.table.specs.Refusal.{Figures}
use Rattle.bounds.specs.declared.Admission.{Admission}
use Rattle.rules.specs.declared.Entry.{Entry}
use Rattle.rules.specs.Calls.{run_list}
use Rattle.rules.specs.Figures.{TickFigures, refused_figures}
use Rattle.capi.specs.declared.SetUpResult.{SetUpResult}
use Rattle.capi.specs.declared.AdmissionResult.{AdmissionResult}
use Rattle.capi.specs.declared.MovedResult.{MovedResult}
use Rattle.capi.specs.declared.TickResult.{TickResult}
use Rattle.capi.specs.declared.WaitingResult.{WaitingResult}
use Rattle.capi.specs.declared.boundary.CState.{CState}
use Rattle.capi.specs.Boundary.{flags_fit, state_from, state_to}

-- the number of this header and archive
abbrev pub version : ℕ
version = 5

-- "A refusal returns its number, and for 2 the index"
abbrev pub set_up_result : Figures → State → SetUpResult
set_up_result f s = record { number = f.number; index = f.value; state = state_to s }

-- "V: admitted 1 or 0"
abbrev pub admission_result : Figures → Admission → AdmissionResult
admission_result f x = record {
  number = f.number;
  index = f.value;
  bounds = x.bounds;
  serverbound = x.serverbound;
  admitted = bit_of x.admitted;
}

-- the answer of a request and of a run: its number and the state after it
abbrev pub moved_at : ℕ → CState → MovedResult
moved_at n s = record { number = n; state = s }

-- of a state whose flags do not fit: 11, and the state as it came
abbrev pub moved_result : CState → Figures → State → MovedResult
moved_result s f next = cond (flags_fit s) (moved_at f.number (state_to next)) (moved_at 11 s)

-- the lent list after a run
abbrev pub lent_after : CState → ℕ → List Entry → List Entry
lent_after s k lent = cond (flags_fit s) (run_list (state_from s) k lent) lent

-- the answer of a tick: its number, its record, what it finished, and the state after it
abbrev pub tick_at : TickFigures → CState → TickResult
tick_at f s = record {
  number = f.number;
  kind = f.entry.kind;
  id = f.entry.id;
  drops = f.entry.drops;
  finished = f.finish.finished;
  request = f.finish.id;
  response = f.finish.response;
  state = s;
}

-- of a state whose flags do not fit: 11, and the state as it came
abbrev pub tick_result : CState → TickFigures → State → TickResult
tick_result s f next = cond (flags_fit s) (tick_at f (state_to next)) (tick_at (refused_figures 11) s)

-- the answer of the waiting call (8/13): its number and the figure
abbrev pub waiting_at : ℕ → ℕ → WaitingResult
waiting_at n work = record { number = n; work = work }

-- of a state whose flags do not fit: 11, and no figure
abbrev pub waiting_result : CState → Figures → ℕ → WaitingResult
waiting_result s f work = cond (flags_fit s) (waiting_at f.number work) (waiting_at 11 0)
