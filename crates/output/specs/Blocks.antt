-- Ticks that may be run at once, of which none finishes a request and before whose last no A line is due, and their X lines, from their record.
use Rattle.std.specs.Prelude.{ℕ, ◌+◌, ◌≤◌, ◌<◌, cond, List, [], ◌∷◌, eqb}
use Rattle.queue.specs.declared.Request.{Request}
use Rattle.queue.specs.Queue.{waiting_of}
use Rattle.rules.specs.declared.Entry.{Entry}
use Rattle.rules.specs.Calls.{entry_of, ticked, state_after, run_state, run_entries}
use Rattle.rules.specs.Block.{block_ticks}
use Rattle.text.specs.Lines.{Line, line_bytes}
use Rattle.lines.specs.Lines.{tick_line}
use Rattle.std.specs.Prelude.{Option, Some, None}
use Rattle.plan.specs.declared.line.Arrival.{Arrival}
use Rattle.output.specs.declared.lent.Place.{Place}
use Rattle.heading.specs.Heading.{numbered}
use Rattle.output.specs.declared.totals.Totals.{Totals}
use Rattle.output.specs.Totals.{counted}
use Rattle.output.specs.Steps.{Step}

-- "X: tick, I idle or T row or A request, row or id, drops", from "occupant kind (0 idle, 1 row, 2 request), its row or id .. and the drops"
abbrev pub letter : ℕ → ℕ
letter kind = cond (eqb kind 0) 73 (cond (eqb kind 1) 84 65)

abbrev pub entry_line : ℕ → Entry → Line
entry_line t e = tick_line t (letter e.kind) e.id e.drops

-- the X lines of a record, from tick t on
abbrev pub block_text : ℕ → List Entry → List ℕ
block_text t es = numbered entry_line t es

-- the head, if one waits, has work left after k ticks of service
abbrev pub Unfinished : List Request → ℕ → Type 0
Unfinished [] k = Unit {0}
Unfinished (r ∷ q) k = k < r.work

-- the next A line, if there is one, is not due before tick t
abbrev pub Undisturbed : Option (Arrival × ℕ) → ℕ → Type 0
Undisturbed (Some (a, q)) t = t ≤ a.tick
Undisturbed None t = Unit {0}

-- k ticks that may be run at once from a place
pub record Free (ticks : ℕ) (p : Place) (k : ℕ) : Type 0 where
  pub few : k ≤ block_ticks
  pub ends : p.tick + k ≤ ticks
  pub next : Undisturbed p.next (p.tick + k)
  pub head : Unfinished (waiting_of p.state.queue) k

-- the totals with the ticks of a record
unfoldable pub block_totals : Totals → List Entry → Totals
block_totals t [] = t
block_totals t (e ∷ es) = block_totals (counted t e) es

-- ---- the ticks of a block
-- k ticks are run at once: their X lines; they are counted
abbrev pub ticks_run : ℕ → Place → Step
ticks_run k p = record {
  place = record {
    tick = p.tick + k;
    next = p.next;
    state = run_state k p.state;
    totals = block_totals p.totals (run_entries k p.state);
  };
  text = block_text p.tick (run_entries k p.state);
}

-- one of them: its X line
abbrev pub quiet_tick : Place → Step
quiet_tick p = record {
  place = record {
    tick = p.tick + 1;
    next = p.next;
    state = state_after p.state;
    totals = counted p.totals (entry_of (ticked p.state));
  };
  text = line_bytes (entry_line p.tick (entry_of (ticked p.state)));
}
