-- Demand 3: what an admitted table keeps, whatever the calls are. That it does is the theorem `guarantee` in proofs/Kept.
use Rattle.std.specs.Prelude.{ℕ, ◌+◌, ◌≤◌, ◌<◌, ◌≡◌, Bool, true, false, ◌&&◌, List, ltb, length, get_or}
use Rattle.lists.specs.Time.{due}
use Rattle.lists.specs.Stretch.{stretch, how_many, tally}
use Rattle.server.specs.Kind.{Kind, background, polling, deferrable, sporadic, returning, kind_of}
use Rattle.table.specs.declared.Task.{Task}
use Rattle.table.specs.declared.Table.{Table}
use Rattle.table.specs.declared.State.{State}
use Rattle.table.specs.Model.{task_set_of, model_of, no_task}
use Rattle.bounds.specs.Admission.{admission_of}
use Rattle.rules.specs.Tick.{server_at}
use Rattle.guarantee.specs.Calls.{Call, ticks, tick_at, state_before, clock_after, has_task, has_request}

-- ---- a table's rows, their bounds, and its kind of service
-- the tasks in use (document 01's rows) in their order, and task i; past the last there is none
abbrev pub tasks_of : Table → List Task
tasks_of t = (task_set_of t).tasks

abbrev pub task_at : List Task → ℕ → Task
task_at xs i = get_or xs i no_task

-- the bound that the admission call gives task i
abbrev pub bound_at : Table → ℕ → ℕ
bound_at t i = get_or (admission_of t).bounds i 0

-- "under polling and deferrable service"
abbrev pub exact : Kind → Bool
exact background = false
exact polling = true
exact deferrable = true
exact sporadic = false
exact returning = false

-- Demand 3's "queue not empty": before tick a, and after each of the ticks a to a + P − 1
abbrev pub NeverEmpty : Table → List Call → ℕ → Type 0
NeverEmpty t calls a =
    (0 < (tick_at t calls a).before) × ((u : ℕ) → a ≤ u → u < a + t.server.period → 0 < (tick_at t calls u).after)

-- "A server period is whole if all ticks from a to a + P − 1 ran, with P dividing a; under polling and deferrable service, with the queue
-- as demand 3 says"
abbrev pub Loaded : Table → List Call → ℕ → Type 0
Loaded t calls a =
    (exact (kind_of t.server.kind) ≡ true) × (due a 0 t.server.period ≡ true) × (a + t.server.period ≤ clock_after t calls) × NeverEmpty t calls a

-- 5/13: "ticks by budget (b above 0 at step 4), the only request ticks that demand 3 counts from now on": b at step 4, which is b after
-- step 3, of the tick of a state; and a request has tick u with b above 0, as the state before it tells
abbrev pub budget_at : State → ℕ
budget_at s = (server_at (task_set_of s.table) (model_of s)).part.budget

abbrev pub by_budget_in : Table → List Call → ℕ → Bool
by_budget_in t calls u = has_request (tick_at t calls u) && ltb 0 (budget_at (state_before t calls u))

-- ---- the guarantee of a list of calls: a field for each promise
pub record Guarantee (t : Table) (calls : List Call) : Type 0 where
  -- "numbered from 0 in their order": as many as the clock after the list says
  pub numbered : length (ticks t calls) ≡ clock_after t calls
  -- "No drop means that every tick's drops are 0."
  pub nodrop : (u : ℕ) → u < clock_after t calls → (tick_at t calls u).entry.drops ≡ 0
  -- "A row's job is released at each tick r with r ≥ f and (r − f) divisible by p. It has had its whole execution if exactly e of the
  -- ticks r to r + bound − 1 have this row as occupant; this is claimed where the clock after the list is at r + bound or later."
  pub whole : (i r : ℕ) → i < length (tasks_of t) →
      due r (task_at (tasks_of t) i).phase (task_at (tasks_of t) i).period ≡ true →
      r + bound_at t i ≤ clock_after t calls →
      how_many (has_task i) (stretch r (bound_at t i) (ticks t calls)) ≡ (task_at (tasks_of t) i).exec
  -- 5/13: "a whole server period with the queue as demand 3 says still gives exactly the budget's ticks by budget"
  pub budget : (a : ℕ) → Loaded t calls a → tally (by_budget_in t calls) a t.server.period ≡ t.server.budget
  -- "and with its idle ticks now at least as many": of ticks that have a request as occupant
  pub atleast : (a : ℕ) → Loaded t calls a → t.server.budget ≤ how_many has_request (stretch a t.server.period (ticks t calls))
