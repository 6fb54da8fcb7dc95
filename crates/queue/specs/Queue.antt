-- The requests that wait, as a list with the head first, and the array that holds them.
use Rattle.std.specs.Prelude.{ℕ, ◌+◌, ◌-◌, ◌*◌, Bool, true, false, cond, ◌&&◌, List, [], ◌∷◌, ◌++◌, length, take, replicate, leb, None, Option, Some}
use Rattle.lists.specs.Lists.{overlay, all}
use Rattle.lists.specs.Tests.{between}
use Rattle.queue.specs.declared.Request.{Request}
use Rattle.queue.specs.declared.Queue.{Queue}
use Rattle.queue.specs.declared.Finished.{Finished}

-- 6/13: "The queue's limit becomes 24 in the state, the request call and refusal 11."
abbrev pub max_waiting : ℕ
max_waiting = 24

-- "Each has .. work left (1 to 60,000)."
abbrev pub max_work : ℕ
max_work = 60_000

abbrev pub work_fits : ℕ → Bool
work_fits work = between 1 max_work work

-- 8/13: "the ticks of work waiting", "the sum over the queue"
abbrev pub waiting_work : List Request → ℕ
waiting_work [] = 0
waiting_work (r ∷ q) = r.work + waiting_work q

-- as much as can wait: a full queue of the longest works
abbrev pub max_backlog : ℕ
max_backlog = max_waiting * max_work

-- what waits in the array
abbrev pub waiting_of : Queue → List Request
waiting_of q = take q.n q.requests

-- the array with a list of waiting requests laid over its front: slots that the list does not reach keep what they held; and the figure
-- that stands beside it
abbrev pub queue_with : Queue → List Request → ℕ → Queue
queue_with q rs backlog = record { requests = overlay rs q.requests; n = length rs; backlog = backlog }

-- a fresh queue: "nothing is .. waiting", and every slot and the figure are 0
abbrev pub fresh_queue : Queue
fresh_queue = record { requests = replicate max_waiting (record { id = 0; work = 0; arrival = 0 }); n = 0; backlog = 0 }

-- some request waits
abbrev pub waits : List Request → Bool
waits [] = false
waits (r ∷ q) = true

-- the head's id; 0 where none waits
abbrev pub head_id : List Request → ℕ
head_id [] = 0
head_id (r ∷ q) = r.id

-- "first come first served": a request that is presented goes to the end, with "its arrival tick, which is the current tick"
abbrev pub presented : ℕ → ℕ → ℕ → List Request → List Request
presented id work t q = q ++ (record { id = id; work = work; arrival = t } ∷ [])

-- Step 5: "The occupant loses one tick of work; a request at zero leaves the queue"
abbrev pub served : List Request → List Request
served [] = []
served (r ∷ q) = cond (leb r.work 1) q (record { id = r.id; work = r.work - 1; arrival = r.arrival } ∷ q)

-- "and is finished, with response t + 1 − arrival."
abbrev pub finished : ℕ → List Request → Option Finished
finished t [] = None
finished t (r ∷ q) = cond (leb r.work 1) (Some (record { id = r.id; response = t + 1 - r.arrival })) None

-- what a tick finished, in figures: 1, the request's id and its response; 0 in each where it finished none
pub record FinishFigures : Type 0 where
  pub finished : ℕ
  pub id : ℕ
  pub response : ℕ

abbrev pub finish_figures : Option Finished → FinishFigures
finish_figures None = record { finished = 0; id = 0; response = 0 }
finish_figures (Some f) = record { finished = 1; id = f.id; response = f.response }

-- Refusal 11: "a waiting work outside 1 to 60,000", or "an arrival .. after the clock".
abbrev pub request_fits : ℕ → Request → Bool
request_fits clock r = work_fits r.work && leb r.arrival clock

abbrev pub requests_fit : ℕ → List Request → Bool
requests_fit clock q = all (request_fits clock) q
