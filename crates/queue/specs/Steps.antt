-- What a request and a served tick do to the queue's array, and when it is fit.
use Rattle.std.specs.Prelude.{ℕ, ◌-◌, Bool, cond, ◌&&◌, List, leb, ltb, eqb}
use Rattle.lists.specs.Numbers.{capped_sum}
use Rattle.lists.specs.Tests.{between}
use Rattle.queue.specs.declared.Request.{Request}
use Rattle.queue.specs.declared.Queue.{Queue}
use Rattle.queue.specs.Queue.{max_waiting, waiting_work, waiting_of, queue_with, presented, served, requests_fit}

-- a request presented: at the end; 8/13: "A request adds its work", within 32 bits, which a fit queue's figure does not pass. A full queue
-- stays as it is.
abbrev pub pushed_queue : Queue → ℕ → ℕ → ℕ → Queue
pushed_queue q id work t =
    cond (ltb q.n max_waiting) (queue_with q (presented id work t (waiting_of q)) (capped_sum q.backlog work)) q

-- a served tick: "The occupant loses one tick of work; a request at zero leaves the queue". The others move up, and slots that
-- they do not reach keep what they held. 8/13: it "takes one off". An empty queue stays as it is, and one that says more wait than may.
abbrev pub served_queue : Queue → Queue
served_queue q = cond (between 1 max_waiting q.n) (queue_with q (served (waiting_of q)) (q.backlog - 1)) q

-- 8/13: "A state whose stored figure differs from that sum is unfit"
abbrev pub backlog_fits : ℕ → List Request → Bool
backlog_fits backlog q = eqb backlog (waiting_work q)

-- Refusal 11: more than 24 waiting (6/13), "a waiting work outside 1 to 60,000, .. an arrival .. after the clock", another figure (8/13)
abbrev pub queue_fits : ℕ → Queue → Bool
queue_fits clock q = leb q.n max_waiting && requests_fit clock (waiting_of q) && backlog_fits q.backlog (waiting_of q)
