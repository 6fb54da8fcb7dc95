-- Which ticks a run may run, by its check: none where it refuses; and what the run call gives with a block of idle entries: answer,
-- entries and state.
use Rattle.std.specs.Prelude.{ℕ, zero, suc, ◌≤◌, ◌≡◌, refl, Bool, true, false, cond, List, leb, Result, Ok}
use Rattle.std.proofs.Common.{arith, leb-true}
use Rattle.lists.specs.Tests.{and_join}
use Rattle.server.specs.Advanced.{delay_by}
use Rattle.table.specs.declared.State.{State}
use Rattle.table.specs.declared.Refusal.{Refusal}
use Rattle.table.specs.Refusal.{passed}
use Rattle.table.specs.State.{fit}
use Rattle.rules.specs.declared.Entry.{Entry}
use Rattle.rules.specs.Calls.{unless, clock_allows, run_check, run_call, run_list}
use Rattle.rules.specs.Block.{block_ticks, idle_entries}
use Rattle.scheduler.specs.Parts.{may_run}

-- ---- a run
-- which run is allowed: its answer, how many ticks it then runs, and the server's delay
pub record Allowed : Type 0 where
  pub answer : Result Unit Refusal
  pub ticks : ℕ
  pub period : ℕ

abbrev pub allowed_by : Result Unit Refusal → ℕ → ℕ → Allowed
allowed_by c k period = record { answer = c; ticks = cond (passed c) k 0; period = period }

-- the same of a run of k ticks with a list of so many entries lent
unfoldable pub allowance : State → ℕ → ℕ → Allowed
allowance s k lent = allowed_by (run_check s k lent) k (delay_by s.table.server)

-- ---- the ticks allowed fit in the list, and the state may run them
by_cases : (s : State) (k lent : ℕ) (f a b : Bool) → fit s ≡ f → clock_allows s k ≡ a → leb k lent ≡ b →
    let g = allowed_by (unless f Refusal.UnfitState (unless a Refusal.ClockSpent (unless b Refusal.ShortRecord (Ok tt)))) k (delay_by s.table.server) in
    (g.ticks ≤ lent) × (may_run g.ticks s ≡ true)
unfolding may_run
by_cases s zero lent true true true ef ea eb = (omega arith, refl)
by_cases s (suc k) lent true true true ef ea eb = (leb-true (suc k) lent eb, and_join (fit s) (clock_allows s (suc k)) ef ea)
by_cases s k lent true true false ef ea eb = (omega arith, refl)
by_cases s k lent true false b ef ea eb = (omega arith, refl)
by_cases s k lent false a b ef ea eb = (omega arith, refl)

allowed : (s : State) (k lent : ℕ) → ((allowance s k lent).ticks ≤ lent) × (may_run (allowance s k lent).ticks s ≡ true)
unfolding allowance
allowed s k lent = by_cases s k lent (fit s) (clock_allows s k) (leb k lent) refl refl refl

pub ticks_le : (s : State) (k lent : ℕ) → (allowance s k lent).ticks ≤ lent
ticks_le s k lent = (allowed s k lent).0

-- the period is the server's delay
pub allowed-period : (s : State) (k lent : ℕ) → (allowance s k lent).period ≡ delay_by s.table.server
unfolding allowance
allowed-period s k lent = refl

pub starts : (s : State) (k lent : ℕ) → may_run (allowance s k lent).ticks s ≡ true
starts s k lent = (allowed s k lent).1

-- ---- a block: the run call with a list of idle entries
pub record Recording : Type 0 where
  pub answer : Result Unit Refusal
  pub entries : List Entry
  pub state : State

-- what the run call answers, the list and the state that it leaves
unfoldable pub block_call : State → ℕ → Recording
block_call s k = record { answer = (run_call s k block_ticks).answer; entries = run_list s k idle_entries; state = (run_call s k block_ticks).state }
