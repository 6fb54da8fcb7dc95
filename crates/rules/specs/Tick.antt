-- One tick, steps 1 to 6 of document 01, in parts: the tasks (steps 1 and 2), the server (step 3), the choice (step 4), and what
-- the choice does to the tasks, the queue and the server (step 5). Only the queue's part looks inside the queue: the others see
-- whether a request waits, and the server also whether none waits after the tick's work.
use Rattle.std.specs.Prelude.{ℕ, suc, ◌+◌, ◌-◌, Bool, true, false, cond, not, ◌&&◌, List, [], ◌∷◌, take, get_or, set, ltb, None, Option}
use Rattle.lists.specs.Lists.{any, count, zip_with}
use Rattle.lists.specs.Time.{due}
use Rattle.server.specs.declared.Seen.{Seen}
use Rattle.server.specs.Kind.{Kind, kind_of}
use Rattle.server.specs.Whole.{Whole, replenish_whole, eligible_whole, consume_whole}
use Rattle.queue.specs.declared.Request.{Request}
use Rattle.queue.specs.declared.Finished.{Finished}
use Rattle.queue.specs.Queue.{waits, head_id, served, finished}
use Rattle.table.specs.declared.Task.{Task}
use Rattle.table.specs.Model.{TaskSet, Model}
use Rattle.rules.specs.declared.Occupant.{Occupant}
use Rattle.rules.specs.declared.Turn.{Turn}

-- ---- steps 1 and 2: the tasks
-- "A row is open if it has execution left."
abbrev pub is_open : ℕ → Bool
is_open left = ltb 0 left

abbrev pub any_open : List ℕ → Bool
any_open ls = any is_open ls

-- Step 1: "An open row with t ≥ f + D and (t − D − f) divisible by p loses its job and has 0 left: one drop."
abbrev pub expires : ℕ → Task → ℕ → Bool
expires t x l = is_open l && due t (x.phase + x.deadline) x.period

abbrev pub dropped : ℕ → List Task → List ℕ → ℕ
dropped t xs ls = count (zip_with (expires t) xs ls)

abbrev pub after_drop : ℕ → Task → ℕ → ℕ
after_drop t x l = cond (expires t x l) 0 l

-- Step 2: "A row with t ≥ f and (t − f) divisible by p opens with e left."
abbrev pub released : ℕ → Task → ℕ → ℕ
released t x l = cond (due t x.phase x.period) x.exec l

abbrev pub opened : ℕ → Task → ℕ → ℕ
opened t x l = released t x (after_drop t x l)

abbrev pub opened_all : ℕ → List Task → List ℕ → List ℕ
opened_all t xs ls = zip_with (opened t) xs ls

-- ---- step 4: the choice
-- the index of the first open task
abbrev pub first_open : List ℕ → ℕ
first_open [] = 0
first_open (l ∷ ls) = cond (is_open l) 0 (suc (first_open ls))

-- 5/13: "At the end of step 4, for every kind, a tick that would be idle goes to the head request if there is one."
abbrev pub idle_turn : Bool → Turn
idle_turn waiting = cond waiting Turn.Spare Turn.Nobody

-- Step 4: "the first open row above; else the head request if the queue isn't empty and b > 0; else the first open row below; else ..".
-- `above`: a task above the server is open; `busy`: any task is; `may`: the server is
-- eligible; `first`: the first open task
abbrev pub choose : Bool → Bool → Bool → Bool → ℕ → Turn
choose above busy waiting may first =
    cond above (Turn.Task first)
    (cond may Turn.Budget
    (cond busy (Turn.Task first)
    (idle_turn waiting)))

-- a turn by the server's budget: a served tick. 5/13: an idle tick that a request has "takes no budget, doesn't count as service and sets no
-- sporadic or kind 4 mark".
abbrev pub by_budget : Turn → Bool
by_budget Turn.Nobody = false
by_budget (Turn.Task i) = false
by_budget Turn.Budget = true
by_budget Turn.Spare = false

-- a turn that goes to a request: by the budget, or idle
abbrev pub to_request : Turn → Bool
to_request Turn.Nobody = false
to_request (Turn.Task i) = false
to_request Turn.Budget = true
to_request Turn.Spare = true

-- ---- step 5: the occupant's work
-- "The occupant loses one tick of work": a task
abbrev pub worked_tasks : Turn → List ℕ → List ℕ
worked_tasks Turn.Nobody ls = ls
worked_tasks (Turn.Task i) ls = set ls i (get_or ls i 0 - 1)
worked_tasks Turn.Budget ls = ls
worked_tasks Turn.Spare ls = ls

-- or the head request
abbrev pub worked_queue : Turn → List Request → List Request
worked_queue Turn.Nobody q = q
worked_queue (Turn.Task i) q = q
worked_queue Turn.Budget q = served q
worked_queue Turn.Spare q = served q

-- 8/13: "a tick that goes to a request, under any kind, takes one off"
abbrev pub worked_backlog : Turn → ℕ → ℕ
worked_backlog turn backlog = cond (to_request turn) (backlog - 1) backlog

abbrev pub finish_of : ℕ → Turn → List Request → Option Finished
finish_of t Turn.Nobody q = None
finish_of t (Turn.Task i) q = None
finish_of t Turn.Budget q = finished t q
finish_of t Turn.Spare q = finished t q

abbrev pub occupant_of : Turn → List Request → Occupant
occupant_of Turn.Nobody q = Occupant.Idle
occupant_of (Turn.Task i) q = Occupant.Task i
occupant_of Turn.Budget q = Occupant.Request (head_id q)
occupant_of Turn.Spare q = Occupant.Request (head_id q)

-- ---- the tick of a task set p at a model m, by the names of its parts
abbrev pub kind_at : TaskSet → Kind
kind_at p = kind_of p.server.kind

-- the execution left after steps 1 and 2
abbrev pub lefts_at : TaskSet → Model → List ℕ
lefts_at p m = opened_all m.clock p.tasks m.lefts

-- "Open in a tick means after its step 2": a task above the server, and any task
abbrev pub above_at : TaskSet → Model → Bool
above_at p m = any_open (take p.server.place (lefts_at p m))

abbrev pub busy_at : TaskSet → Model → Bool
busy_at p m = any_open (lefts_at p m)

-- the server after step 3
abbrev pub server_at : TaskSet → Model → Whole
server_at p m = replenish_whole (kind_at p) p.server m.server m.clock (busy_at p m)

-- its eligibility
abbrev pub may_at : TaskSet → Model → Bool
may_at p m = eligible_whole (kind_at p) m.clock (waits m.queue) (server_at p m)

-- step 4
abbrev pub turn_at : TaskSet → Model → Turn
turn_at p m = choose (above_at p m) (busy_at p m) (waits m.queue) (may_at p m) (first_open (lefts_at p m))

-- what step 5 shows the server
abbrev pub seen_by : ℕ → List Request → Turn → Bool → Bool → Seen
seen_by t q turn above busy = record {
  t = t;
  above = above;
  busy = busy;
  serves = by_budget turn;
  waited = waits q;
  emptied = not (waits (worked_queue turn q));
}

abbrev pub seen_at : TaskSet → Model → Seen
seen_at p m = seen_by m.clock m.queue (turn_at p m) (above_at p m) (busy_at p m)

-- what a tick says, and the model after it
pub record Tick : Type 0 where
  pub occupant : Occupant
  pub drops : ℕ
  pub finish : Option Finished
  pub next : Model

-- Steps 1 to 6. "The clock rises by 1."
abbrev pub tick : TaskSet → Model → Tick
tick p m = record {
  occupant = occupant_of (turn_at p m) m.queue;
  drops = dropped m.clock p.tasks m.lefts;
  finish = finish_of m.clock (turn_at p m) m.queue;
  next = record {
    lefts = worked_tasks (turn_at p m) (lefts_at p m);
    queue = worked_queue (turn_at p m) m.queue;
    backlog = worked_backlog (turn_at p m) m.backlog;
    server = consume_whole (kind_at p) p.server (server_at p m) (seen_at p m);
    clock = m.clock + 1;
  };
}
