-- Cases of the queue's rules, worked out apart from the definitions.
use Rattle.std.specs.Prelude.{ℕ, ◌*◌, ◌≡◌, refl, true, false, [], ◌∷◌, map, length, replicate, None, Some}
use Rattle.lists.specs.Lists.{overlay}
use Rattle.lists.specs.Numbers.{lesser_of}
use Rattle.queue.specs.declared.Request.{Request}
use Rattle.queue.specs.declared.Queue.{Queue}
use Rattle.queue.specs.Queue.{max_waiting, work_fits, waiting_work, max_backlog, waiting_of, queue_with, fresh_queue, waits, head_id, presented, served, finished, finish_figures, request_fits, requests_fit}
use Rattle.queue.specs.Steps.{pushed_queue, served_queue, queue_fits}

-- id, work left, arrival
abbrev ask : ℕ → ℕ → ℕ → Request
ask i w a = record { id = i; work = w; arrival = a }

-- three slots, two in use: enough to see what moves and what stays
abbrev three : Queue
three = record { requests = ask 7 1 3 ∷ ask 8 2 5 ∷ ask 9 9 9 ∷ []; n = 2; backlog = 3 }

-- every slot holds r, n are in use, and the figure is the work of these slots: what is unfit at 25 is the count alone
abbrev pub filled : Request → ℕ → Queue
filled r n = record { requests = replicate max_waiting r; n = n; backlog = lesser_of n max_waiting * r.work }

-- two wait, with 1 and 2 ticks of work, and the figure is b
abbrev figured : ℕ → Queue
figured b = record { requests = three.requests; n = 2; backlog = b }

pub record QueueCases : Type 0 where
  pub fresh-slots : length fresh_queue.requests ≡ 24
  pub fresh-waits : waits (waiting_of fresh_queue) ≡ false
  pub fresh-backlog : fresh_queue.backlog ≡ 0
  pub in_use : waiting_of three ≡ ask 7 1 3 ∷ ask 8 2 5 ∷ []
  pub head-waits : waits (waiting_of three) ≡ true
  pub head : head_id (waiting_of three) ≡ 7
  pub last_come : presented 4 6 5 (waiting_of three) ≡ ask 7 1 3 ∷ ask 8 2 5 ∷ ask 4 6 5 ∷ []
  pub leaves_at_zero : served (waiting_of three) ≡ ask 8 2 5 ∷ []
  pub works-on : served (ask 8 2 5 ∷ ask 7 1 3 ∷ []) ≡ ask 8 1 5 ∷ ask 7 1 3 ∷ []
  pub none-served : served [] ≡ []
  pub responds : finished 6 (waiting_of three) ≡ Some (record { id = 7; response = 4 })
  pub unfinished : finished 6 (ask 8 2 5 ∷ []) ≡ None
  pub none-finished : finished 6 [] ≡ None
  pub finish_figures_lem : finish_figures (finished 6 (waiting_of three)) ≡ record { finished = 1; id = 7; response = 4 }
  pub no_finish_figures : finish_figures (finished 6 []) ≡ record { finished = 0; id = 0; response = 0 }
  -- a slot that the list does not reach keeps what it held
  pub slots_kept : queue_with three (served (waiting_of three)) 2 ≡ record { requests = ask 8 2 5 ∷ ask 8 2 5 ∷ ask 9 9 9 ∷ []; n = 1; backlog = 2 }
  pub work-limits : map work_fits (0 ∷ 1 ∷ 60_000 ∷ 60_001 ∷ []) ≡ false ∷ true ∷ true ∷ false ∷ []
  pub arrival-limits : map (λ a. request_fits 5 (ask 0 1 a)) (0 ∷ 5 ∷ 6 ∷ []) ≡ true ∷ true ∷ false ∷ []
  pub every-request : requests_fit 5 (ask 0 1 5 ∷ ask 0 0 5 ∷ []) ≡ false
  -- 6/13: 24 may wait: a 25th is not taken, and a queue that says 25 is not fit and is not served
  pub fits-limits : map (λ n. queue_fits 5 (filled (ask 7 1 3) n)) (23 ∷ 24 ∷ 25 ∷ []) ≡ true ∷ true ∷ false ∷ []
  pub push-limits : map (λ n. (pushed_queue (filled (ask 7 1 3) n) 4 6 5).n) (23 ∷ 24 ∷ 25 ∷ []) ≡ 24 ∷ 24 ∷ 25 ∷ []
  pub serve_limits : map (λ n. (served_queue (filled (ask 7 1 3) n)).n) (24 ∷ 25 ∷ []) ≡ 23 ∷ 25 ∷ []
  -- 8/13: the sum over those that wait, not over every slot; what each call makes of the figure; and a figure that is no such sum
  pub sums : map (λ n. waiting_work (waiting_of (record { requests = three.requests; n = n; backlog = 0 }))) (0 ∷ 1 ∷ 2 ∷ 3 ∷ []) ≡ 0 ∷ 1 ∷ 3 ∷ 12 ∷ []
  pub most : max_backlog ≡ 1_440_000
  pub adds : (pushed_queue (filled (ask 7 2 3) 3) 4 6 5).backlog ≡ 12
  pub full-adds-none : (pushed_queue (filled (ask 7 2 3) 24) 4 6 5).backlog ≡ 48
  pub takes-one_off : map (λ w. (served_queue (filled (ask 7 w 3) 3)).backlog) (1 ∷ 2 ∷ 5 ∷ []) ≡ 2 ∷ 5 ∷ 14 ∷ []
  -- a queue that is not fit: the figure stops at the last number of 32 bits and at 0, and an empty queue that is served keeps its own
  pub adds-up_to : (pushed_queue (figured 4_294_967_290) 4 6 5).backlog ≡ 4_294_967_295
  pub takes_down_to : (served_queue (figured 0)).backlog ≡ 0
  pub empty-kept : (served_queue (record { requests = three.requests; n = 0; backlog = 5 })).backlog ≡ 5
  pub figures : map (λ b. queue_fits 5 (figured b)) (0 ∷ 2 ∷ 3 ∷ 4 ∷ 12 ∷ []) ≡ false ∷ false ∷ true ∷ false ∷ false ∷ []

pub queue-cases : QueueCases
unfolding overlay
queue-cases = record {
  fresh-slots = refl;
  fresh-waits = refl;
  fresh-backlog = refl;
  in_use = refl;
  head-waits = refl;
  head = refl;
  last_come = refl;
  leaves_at_zero = refl;
  works-on = refl;
  none-served = refl;
  responds = refl;
  unfinished = refl;
  none-finished = refl;
  finish_figures_lem = refl;
  no_finish_figures = refl;
  slots_kept = refl;
  work-limits = refl;
  arrival-limits = refl;
  every-request = refl;
  fits-limits = refl;
  push-limits = refl;
  serve_limits = refl;
  sums = refl;
  most = refl;
  adds = refl;
  full-adds-none = refl;
  takes-one_off = refl;
  adds-up_to = refl;
  takes_down_to = refl;
  empty-kept = refl;
  figures = refl;
}
