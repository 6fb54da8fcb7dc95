-- Request 8/13: "The work that waits, kept as a figure." What holds of the figure after every list of calls from the fresh state of a table,
-- refused calls included. That it does is the theorem `waiting_kept` in proofs/Kept.
use Rattle.std.specs.Prelude.{ℕ, ◌+◌, ◌≤◌, ◌≡◌, true, cond, List, [], ◌∷◌, length, Ok}
use Rattle.lists.specs.Stretch.{how_many}
use Rattle.queue.specs.Queue.{max_backlog, waiting_work, waiting_of}
use Rattle.table.specs.declared.Table.{Table}
use Rattle.table.specs.declared.State.{State}
use Rattle.table.specs.Limits.{max_tasks}
use Rattle.table.specs.Refusal.{passed}
use Rattle.table.specs.State.{fresh_state, table_check}
use Rattle.rules.specs.Calls.{request_check, waiting_call}
use Rattle.guarantee.specs.Calls.{Call, request, tick, run, after, final, ticks, has_request}

-- the state after the list, and "the sum over the queue" in it
abbrev pub state_after_all : Table → List Call → State
state_after_all t calls = final (fresh_state t) calls

abbrev pub sum_after : Table → List Call → ℕ
sum_after t calls = waiting_work (waiting_of (state_after_all t calls).queue)

-- the works of the requests that were accepted, in all
abbrev pub work_by : State → Call → ℕ
work_by s (request id work) = cond (passed (request_check s work)) work 0
work_by s tick = 0
work_by s (run k lent) = 0

abbrev pub work_from : State → List Call → ℕ
work_from s [] = 0
work_from s (c ∷ cs) = work_by s c + work_from (after s c) cs

abbrev pub accepted_work : Table → List Call → ℕ
accepted_work t calls = work_from (fresh_state t) calls

pub record WaitingKept (t : Table) (calls : List Call) : Type 0 where
  -- "The state shall hold this sum", "after every call"
  pub held : (state_after_all t calls).queue.backlog ≡ sum_after t calls
  -- "A new call returns the figure and it equals the sum over the queue": of a table that set-up accepts (its slots are 16, by its type)
  pub returned : length t.tasks ≡ max_tasks → passed (table_check t) ≡ true →
      waiting_call (state_after_all t calls) ≡ Ok (sum_after t calls)
  -- "A request adds its work; a tick that goes to a request, under any kind, takes one off": over the whole list, by what its calls report
  pub balanced : (state_after_all t calls).queue.backlog + how_many has_request (ticks t calls) ≡ accepted_work t calls
  -- it is at most 24 × 60,000
  pub most : (state_after_all t calls).queue.backlog ≤ max_backlog
