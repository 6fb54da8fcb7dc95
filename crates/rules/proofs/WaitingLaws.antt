-- Request 8/13: what follows for the work that waits.
use Rattle.std.specs.Prelude.{◌≤◌, ◌≡◌, refl, Bool, true, false, cond, ◌&&◌, ltb, Ok}
use Rattle.std.proofs.Common.{arith, length-take}
use Rattle.lists.specs.Tests.{never}
use Rattle.server.specs.Whole.{room_for}
use Rattle.queue.specs.Queue.{max_backlog, waiting_work, waits, waiting_of}
use Rattle.queue.specs.Laws.{most_work_lem}
use Rattle.table.specs.declared.State.{State}
use Rattle.table.specs.Model.{TaskSet, Model}
use Rattle.table.specs.State.{fit}
use Rattle.table.specs.Facts.{StateFacts, fit-facts}
use Rattle.rules.specs.declared.Turn.{Turn}
use Rattle.rules.specs.Calls.{waiting_call}
use Rattle.rules.specs.Tick.{to_request, first_open, lefts_at, kind_at, above_at, busy_at, server_at, turn_at}

-- a tick goes to a request only where one waits
pub request-waits : (p : TaskSet) (m : Model) → to_request (turn_at p m) ≡ true → waits m.queue ≡ true
request-waits p m e =
    go (above_at p m) (busy_at p m) (waits m.queue) (room_for (kind_at p) m.clock (server_at p m).returns) (ltb 0 (server_at p m).part.budget) e
  where
    go : (above busy waiting room some : Bool) →
        to_request (cond above (Turn.Task (first_open (lefts_at p m))) (cond (room && (waiting && some)) Turn.Budget
        (cond busy (Turn.Task (first_open (lefts_at p m))) (cond waiting Turn.Spare Turn.Nobody)))) ≡ true → waiting ≡ true
    go true busy waiting room some e = never refl e
    go false busy true room some e = refl
    go false true false true some e = never refl e
    go false false false true some e = never refl e
    go false true false false some e = never refl e
    go false false false false some e = never refl e

-- "A new call returns the figure and it equals the sum over the queue": of every fit state
pub waiting-sum : (s : State) → fit s ≡ true → waiting_call s ≡ Ok (waiting_work (waiting_of s.queue))
waiting-sum s e = rw (e, (fit-facts s e).backlog)

-- the figure of a fit state is at most 24 × 60,000
pub figure_most : (s : State) → fit s ≡ true → s.queue.backlog ≤ max_backlog
figure_most s e =
    let f : StateFacts s = fit-facts s e in
    omega (arith, f.backlog, f.waiting, most_work_lem s.progress.clock (waiting_of s.queue) f.requests, length-take s.queue.n s.queue.requests)
