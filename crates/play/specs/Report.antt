-- What a list of calls leaves and reports, by the definitions: the state after it, how many ticks ran in it, and the sum of their drops.
use Rattle.std.specs.Prelude.{ℕ, ◌+◌, List, [], ◌∷◌, map, length}
use Rattle.table.specs.declared.Table.{Table}
use Rattle.table.specs.declared.State.{State}
use Rattle.table.specs.State.{fresh_state}
use Rattle.bounds.specs.Admission.{admission_of}
use Rattle.rules.specs.declared.Entry.{Entry}
use Rattle.rules.specs.Calls.{waiting_call, told}
use Rattle.guarantee.specs.Calls.{Call, final, events, RanTick, ticks_from, ticks}
use Rattle.play.specs.declared.Report.{Report}

-- the sum of the drops of a list of entries
abbrev pub drops_in : List Entry → ℕ
drops_in [] = 0
drops_in (e ∷ es) = e.drops + drops_in es

-- the sum of the drops of ticks that ran: each "what its tick call returns, or what its run has written into that tick's entry"
abbrev pub drops_of : List RanTick → ℕ
drops_of xs = drops_in (map (λ x. x.entry) xs)

-- what calls leave and report: the state after them, how many ticks ran, and the sum of the drops of these ticks
pub record Made : Type 0 where
  pub state : State
  pub ticks : ℕ
  pub drops : ℕ

abbrev pub made_at : State → ℕ → ℕ → Made
made_at s n d = record { state = s; ticks = n; drops = d }

-- what a list of calls from a state on leaves and reports
abbrev pub made : State → List Call → Made
made s calls = record {
  state = final s calls;
  ticks = length (ticks_from 0 (events s calls));
  drops = drops_of (ticks_from 0 (events s calls));
}

-- what is reported of a table and a list of calls, which starts from the state that set-up gives the table; the waiting call is made last
abbrev pub reported : Table → List Call → Report
reported t calls = record {
  admitted = (admission_of t).admitted;
  ticks = length (ticks t calls);
  drops = drops_of (ticks t calls);
  waiting = told (waiting_call (final (fresh_state t) calls));
  state = final (fresh_state t) calls;
}
