-- The text of a plan's ticks, step by step: where it stands after some steps, and what they print. `fill` prints by them, as far as a lent buffer has room.
use Prim.Native.Nat.{ℕ, zero, suc, ◌+◌, ◌≤◌, ◌<◌}
use Rattle.std.specs.Prelude.{◌≡◌, cond, length, eqb, leb}
use mathlib.Core.List.{List, [], ◌++◌}
use Rattle.table.specs.declared.Table.{Table}
use Rattle.table.specs.State.{fresh_state}
use Rattle.rules.specs.Calls.{tick_call}
use Rattle.text.specs.Buffer.{Wrote}
use Rattle.plan.specs.declared.line.Arrival.{Arrival}
use Rattle.std.specs.Prelude.{Option, Some, None}
use Rattle.plan.specs.Plan.{next_from}
use Rattle.output.specs.declared.lent.Place.{Place}
use Rattle.output.specs.Totals.{no_totals, answered}
use Rattle.output.specs.Output.{answer_text, tick_text, arrival_call}

-- where the printing of an accepted plan starts
unfoldable pub first_place : List ℕ → Table → Place
first_place bytes table = record { tick = 0; next = next_from bytes 0; state = fresh_state table; totals = no_totals }

-- a step: the place after it, and what it prints
pub record Step : Type 0 where
  pub place : Place
  pub text : List ℕ

-- no step: the place stays, and nothing is printed
abbrev pub no_step : Place → Step
no_step p = record { place = p; text = [] }

-- "An A line is presented before its tick": its request call, whose refusal is printed; the next A line is looked for from q on
abbrev pub presented : List ℕ → Place → Arrival → ℕ → Step
presented bytes p a q = record {
  place = record { tick = p.tick; next = next_from bytes q; state = (arrival_call p.state a).state; totals = p.totals };
  text = answer_text p.tick a.id (arrival_call p.state a).answer;
}

-- a tick is run: its X line, and its F line if it finished a request; it is counted
abbrev pub tick_run : Place → Step
tick_run p = record {
  place = record {
    tick = p.tick + 1;
    next = p.next;
    state = (tick_call p.state).state;
    totals = answered p.totals (tick_call p.state).answer;
  };
  text = tick_text p.tick (tick_call p.state).answer;
}

-- the step of a place before the last tick: the next A line is presented if it is due, or else the tick is run
abbrev pub step_by : List ℕ → Place → Option (Arrival × ℕ) → Step
step_by bytes p (Some (a, q)) = cond (eqb a.tick p.tick) (presented bytes p a q) (tick_run p)
step_by bytes p None = tick_run p

-- the step of a place: none where no tick is left
unfoldable pub step_from : List ℕ → ℕ → Place → Step
step_from bytes ticks p = cond (leb ticks p.tick) (no_step p) (step_by bytes p p.next)

-- one step and then another
abbrev pub and_then : Step → Step → Step
and_then s t = record { place = t.place; text = s.text ++ t.text }

-- n steps from a place
unfoldable pub steps_from : List ℕ → ℕ → ℕ → Place → Step
steps_from bytes ticks zero p = no_step p
steps_from bytes ticks (suc n) p = and_then (step_from bytes ticks p) (steps_from bytes ticks n (step_from bytes ticks p).place)

-- a step is taken: what it prints stands in the buffer l from `at` on, which so becomes m, filled up to r, and q is the place after it
pub record Taken (s : Step) (l : List ℕ) (at : ℕ) (m : List ℕ) (r : ℕ) (q : Place) : Type 0 where
  pub place : q ≡ s.place
  pub wrote : Wrote l at s.text m r
  pub fits : r ≤ length l

-- some steps from p are taken, one at least
pub record Stepped (bytes : List ℕ) (ticks : ℕ) (l : List ℕ) (at : ℕ) (p : Place) (m : List ℕ) (r : ℕ) (q : Place) : Type 0 where
  pub steps : ℕ
  pub some : 0 < steps
  pub taken : Taken (steps_from bytes ticks steps p) l at m r q

-- the next A line, if there is one, is not due at tick t
abbrev pub NotDue : Option (Arrival × ℕ) → ℕ → Type 0
NotDue (Some (a, q)) t = a.tick ≡ t → ⊥
NotDue None t = Unit {0}
