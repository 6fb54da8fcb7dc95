-- Request 2/13: "Rows above the server don't notice requests." What two lists of calls from the fresh state of one table, with equally many
-- accepted ticks, have in common, whatever their requests are. That they have it is the theorem `unnoticed` in proofs/Kept.
use Rattle.std.specs.Prelude.{ℕ, ◌+◌, ◌<◌, ◌≡◌, Bool, cond, List, [], ◌∷◌, length, get_or}
use Rattle.lists.specs.Stretch.{tally}
use Rattle.table.specs.declared.Table.{Table}
use Rattle.table.specs.declared.State.{State}
use Rattle.table.specs.Refusal.{passed}
use Rattle.table.specs.Model.{model_of}
use Rattle.table.specs.State.{fresh_state}
use Rattle.rules.specs.Tick.{expires}
use Rattle.rules.specs.Calls.{ticks_check, ticked, run_check, entry_of}
use Rattle.guarantee.specs.Calls.{Call, request, tick, run, after, ticks, tick_at, state_before, has_task}
use Rattle.guarantee.specs.Guarantee.{tasks_of, task_at}

-- ---- "accepted ticks, a run of k counting k"
abbrev pub accepted_by : State → Call → ℕ
accepted_by s (request id work) = 0
accepted_by s tick = cond (passed (ticks_check s 1)) 1 0
accepted_by s (run k lent) = cond (passed (run_check s k (length lent))) k 0

abbrev pub accepted_from : State → List Call → ℕ
accepted_from s [] = 0
accepted_from s (c ∷ cs) = accepted_by s c + accepted_from (after s c) cs

abbrev pub accepted_ticks : Table → List Call → ℕ
accepted_ticks t calls = accepted_from (fresh_state t) calls

-- ---- a task in a tick
-- "row above the server": task i is one of the table's, and "rows 0 to s−1 are above it"
abbrev pub Above : Table → ℕ → Type 0
Above t i = (i < length (tasks_of t)) × (i < t.server.place)

-- task i "runs in" tick u: it is the occupant
abbrev pub runs_in : Table → List Call → ℕ → ℕ → Bool
runs_in t calls i u = has_task i (tick_at t calls u)

-- task i "is dropped in" tick u: step 1 at the state before it. "An open row with t ≥ f + D and (t − D − f) divisible by p loses its job .."
abbrev pub loses_job : ℕ → State → Bool
loses_job i s = expires s.progress.clock (task_at (tasks_of s.table) i) (get_or (model_of s).lefts i 0)

-- (of a tick that ran: past the last one it would be step 1 at the state after the list, and nothing is promised there)
abbrev pub dropped_in : Table → List Call → ℕ → ℕ → Bool
dropped_in t calls i u = loses_job i (state_before t calls u)

-- ---- "Every row above the server runs in the same ticks, and is dropped in the same ticks, in both." Tick u is one of both: the theorem asks
-- for equally many.
pub record Unnoticed (t : Table) (calls calls' : List Call) : Type 0 where
  pub runs : (i u : ℕ) → Above t i → u < accepted_ticks t calls → runs_in t calls i u ≡ runs_in t calls' i u
  pub drops : (i u : ℕ) → Above t i → u < accepted_ticks t calls → dropped_in t calls i u ≡ dropped_in t calls' i u

-- ---- what the calls report of these ticks, in every list of calls
pub record AsReported (t : Table) (calls : List Call) : Type 0 where
  -- they are as many as the ticks of demand 3
  pub counted : length (ticks t calls) ≡ accepted_ticks t calls
  -- tick u is the rules' tick at the state before it, where the clock stands at u
  pub clock : (u : ℕ) → u < accepted_ticks t calls → (state_before t calls u).progress.clock ≡ u
  pub entry : (u : ℕ) → u < accepted_ticks t calls → (tick_at t calls u).entry ≡ entry_of (ticked (state_before t calls u))
  -- "one drop" for each: the drops of tick u are the number of tasks dropped in it, above the server and below
  pub drops : (u : ℕ) → u < accepted_ticks t calls →
      (tick_at t calls u).entry.drops ≡ tally (λ i. dropped_in t calls i u) 0 (length (tasks_of t))
