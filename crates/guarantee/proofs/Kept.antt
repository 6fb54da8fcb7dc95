-- The theorems: an admitted table keeps the guarantee, whatever the calls are (demand 3), and tasks above the server do not notice requests
-- (request 2/13), and the figure of the work that waits is the sum over the queue (request 8/13). What their proofs stand on is beside this file.
use Rattle.std.specs.Prelude.{ℕ, ◌≤◌, ◌<◌, ◌≡◌, true, List, length}
use Rattle.std.proofs.Common.{arith, sym, ap, ◌∙◌, length-take}
use Rattle.server.specs.Kind.{kind_of}
use Rattle.table.specs.declared.Table.{Table}
use Rattle.table.specs.Limits.{max_tasks}
use Rattle.table.specs.Model.{task_set_of, model_of}
use Rattle.bounds.specs.Admission.{admission_of}
use Rattle.rules.specs.Tick.{by_budget, turn_at}
use Rattle.guarantee.specs.Calls.{Call, RanTick, state_before}
use Rattle.guarantee.specs.Guarantee.{tasks_of, exact, by_budget_in, Guarantee}
use Rattle.guarantee.specs.Unnoticed.{accepted_ticks, Above, runs_in, dropped_in, Unnoticed, AsReported}
use Rattle.guarantee.specs.Waiting.{WaitingKept}
use Rattle.guarantee.proofs.Admitted.{good}
use Rattle.guarantee.proofs.Period.{served-turn}
use Rattle.guarantee.proofs.Together.{kept}
use Rattle.guarantee.proofs.Played.{N, clock-is}
use Rattle.guarantee.proofs.Reports.{ticks-long, tick_is, served-is}
use Rattle.guarantee.proofs.Waiting as waiting
use Rattle.guarantee.proofs.Quiet.{accepted-is, drops-are, same-ticks, same-drops}

-- If the admission call admits the table, every list of calls keeps the guarantee.
pub guarantee : (t : Table) → (admission_of t).admitted ≡ true → (calls : List Call) → Guarantee t calls
guarantee t e calls = kept t (good t e) calls

-- What demand 3 counts, a request as occupant with b above 0 at step 4, is what the rules call a turn by the budget.
pub counts-turns : (t : Table) (calls : List Call) → exact (kind_of t.server.kind) ≡ true → (u : ℕ) → u < accepted_ticks t calls →
    by_budget_in t calls u ≡ by_budget (turn_at (task_set_of t) (model_of (state_before t calls u)))
counts-turns t calls e u h =
    served-is t calls u (omega (arith, accepted-is t calls)) ∙ served-turn (task_set_of t) (model_of (state_before t calls u)) e

-- A table's slots hold its n tasks: the guarantee speaks of tasks 0 to n − 1.
pub tasks-number : (t : Table) → length t.tasks ≡ max_tasks → t.n ≤ max_tasks → length (tasks_of t) ≡ t.n
tasks-number t e h = omega (arith, e, length-take t.n t.tasks)

-- Tasks above the server do not notice requests: of every two lists of calls, in each tick that ran in both.
pub quiet : (t : Table) (calls calls' : List Call) (i u : ℕ) → Above t i → u < accepted_ticks t calls → u < accepted_ticks t calls' →
    (runs_in t calls i u ≡ runs_in t calls' i u) × (dropped_in t calls i u ≡ dropped_in t calls' i u)
quiet t calls calls' i u a h h' = (same-ticks t calls calls' i u a.0 place ran ran', same-drops t calls calls' i u a.0 place ran ran')
  where
    -- by arithmetic, so that a claim of the place itself fails as a fact
    place : i < t.server.place
    place = omega (arith, a.1)

    ran : u < N t calls
    ran = omega (arith, h, accepted-is t calls)

    ran' : u < N t calls'
    ran' = omega (arith, h', accepted-is t calls')

-- "Take two lists of request, tick and run calls from the same fresh state, with equally many accepted ticks, a run of k counting k. Every
-- row above the server runs in the same ticks, and is dropped in the same ticks, in both. This holds admitted or not, for every kind and for
-- refused requests. Rows below are not covered."
pub unnoticed : (t : Table) (calls calls' : List Call) → accepted_ticks t calls ≡ accepted_ticks t calls' → Unnoticed t calls calls'
unnoticed t calls calls' e = record {
  runs = λ i u a h. (quiet t calls calls' i u a h (omega (arith, e))).0;
  drops = λ i u a h. (quiet t calls calls' i u a h (omega (arith, e))).1;
}

-- What the calls report of their ticks.
pub as_reported : (t : Table) (calls : List Call) → AsReported t calls
as_reported t calls = record {
  counted = ticks-long t calls ∙ sym (accepted-is t calls);
  clock = λ u h. clock-is t calls u (omega (arith, accepted-is t calls));
  entry = λ u h. ap (λ (x : RanTick). x.entry) (tick_is t calls u (omega (arith, accepted-is t calls)));
  drops = λ u h. drops-are t calls u (omega (arith, accepted-is t calls));
}

-- "The state shall hold this sum. A request adds its work; a tick that goes to a request, under any kind, takes one off. A new call returns the
-- figure and it equals the sum over the queue, after every call."
pub waiting_kept : (t : Table) (calls : List Call) → WaitingKept t calls
waiting_kept = waiting.kept
