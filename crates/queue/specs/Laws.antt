-- Laws of the queue for those who call it: the list that waits after a call, what the array's front shows of it, fitness kept, and the work
-- that waits.
use Rattle.std.specs.Prelude.{ℕ, zero, suc, ◌+◌, ◌-◌, ◌*◌, ◌≤◌, ◌<◌, ◌≡◌, refl, Bool, true, false, cond, not, ◌&&◌, List, [], ◌∷◌, length, take, get_or, leb, None, Some}
use Rattle.std.proofs.Common.{arith, sym, ap, le-leb, lt-ltb, leb-true, leb-false, length-take-le}
use Rattle.std.proofs.lemmas.Bool.{lt-leb}
use Rattle.lists.specs.Lists.{take_overlay}
use Rattle.lists.specs.Numbers.{last32, sum_fits}
use Rattle.lists.specs.Tests.{and_split, and_join, either, never}
use Rattle.queue.specs.declared.Request.{Request}
use Rattle.queue.specs.declared.Queue.{Queue}
use Rattle.queue.specs.Queue.{max_waiting, max_work, work_fits, waiting_work, waiting_of, queue_with, waits, presented, served, finished, request_fits, requests_fit}
use Rattle.queue.specs.Steps.{pushed_queue, served_queue}

-- a request that was served one tick and stays
abbrev worked : Request → Request
worked r = record { id = r.id; work = r.work - 1; arrival = r.arrival }

-- ---- the list and the array
-- what waits after a list is laid over the array is that list
pub waiting_with : (q : Queue) (rs : List Request) (backlog : ℕ) → waiting_of (queue_with q rs backlog) ≡ rs
waiting_with q rs backlog = take_overlay (length rs) rs q.requests refl

pub waiting_length : (q : Queue) → q.n ≤ length q.requests → length (waiting_of q) ≡ q.n
waiting_length q h = length-take-le q.n q.requests h

-- where a request waits, the count is no 0
pub waits-some : (q : Queue) → waits (waiting_of q) ≡ true → 1 ≤ q.n
waits-some q e = go q.n e
  where
    go : (n : ℕ) → waits (take n q.requests) ≡ true → 1 ≤ n
    go zero e = never refl e
    go (suc n) e = omega arith

-- a queue that is not full takes a request; one in which some wait, and no more than may, is served
pub pushed_with : (q : Queue) (id work t : ℕ) → q.n < max_waiting → q.backlog + work ≤ last32 →
    pushed_queue q id work t ≡ queue_with q (presented id work t (waiting_of q)) (q.backlog + work)
pushed_with q id work t h f = rw (lt-ltb q.n max_waiting h, sym (sum_fits q.backlog work f))

pub served_with : (q : Queue) → 1 ≤ q.n → q.n ≤ max_waiting → served_queue q ≡ queue_with q (served (waiting_of q)) (q.backlog - 1)
served_with q s h = rw (le-leb 1 q.n s, le-leb q.n max_waiting h)

-- ---- lengths
pub presented_length : (id work t : ℕ) (q : List Request) → length (presented id work t q) ≡ suc (length q)
presented_length id work t [] = refl
presented_length id work t (r ∷ q) = ap suc (presented_length id work t q)

pub served_length : (q : List Request) → length (served q) ≤ length q
served_length [] = omega arith
served_length (r ∷ q) =
    either (λ (rs : List Request). length rs ≤ suc (length q)) (leb r.work 1) (omega arith) (omega arith)

-- ---- what the front of an array of n waiting requests shows, where some wait; d stands for no request
module _ (d : Request) where
  pub head-finished : (t n : ℕ) (l : List Request) → 0 < n → n ≤ length l →
      finished t (take n l) ≡
      cond (leb (get_or l 0 d).work 1) (Some (record { id = (get_or l 0 d).id; response = t + 1 - (get_or l 0 d).arrival })) None
  head-finished t zero l a h = absurd (omega arith)
  head-finished t (suc n) [] a h = absurd (omega arith)
  head-finished t (suc n) (r ∷ l) a h = refl

  -- none waits after a served tick: the head was alone and had one tick of work left
  pub served_empties : (n : ℕ) (l : List Request) → 0 < n → n ≤ length l →
      not (waits (served (take n l))) ≡ leb (get_or l 0 d).work 1 && leb n 1
  served_empties zero l a h = absurd (omega arith)
  served_empties (suc n) [] a h = absurd (omega arith)
  served_empties (suc zero) (r ∷ l) a h = by (leb r.work 1)
    where
      by : (b : Bool) → not (waits (cond b [] (worked r ∷ []))) ≡ b && leb 1 1
      by true = refl
      by false = refl
  served_empties (suc (suc n)) (r ∷ []) a h = absurd (omega arith)
  served_empties (suc (suc n)) (r ∷ s ∷ l) a h = rw (lt-leb (suc (suc n)) 1 (omega arith)) (by (leb r.work 1))
    where
      by : (b : Bool) → not (waits (cond b (s ∷ take n l) (worked r ∷ s ∷ take n l))) ≡ b && false
      by true = refl
      by false = refl

-- ---- fitness of what waits: "a waiting work outside 1 to 60,000", "an arrival .. after the clock"
pub record Fits (clock : ℕ) (r : Request) : Type 0 where
  pub some : 1 ≤ r.work
  pub work : r.work ≤ max_work
  pub arrival : r.arrival ≤ clock

pub request_fits_lem : (clock : ℕ) (r : Request) → request_fits clock r ≡ true → Fits clock r
request_fits_lem clock r e =
    let s = and_split (work_fits r.work) (leb r.arrival clock) e in
    let w = and_split (leb 1 r.work) (leb r.work max_work) s.0 in
    record { some = leb-true _ _ w.0; work = leb-true _ _ w.1; arrival = leb-true _ _ s.1 }

pub fits-request : (clock : ℕ) (r : Request) → Fits clock r → request_fits clock r ≡ true
fits-request clock r f =
    and_join (work_fits r.work) (leb r.arrival clock)
    (and_join (leb 1 r.work) (leb r.work max_work) (le-leb _ _ f.some) (le-leb _ _ f.work))
    (le-leb _ _ f.arrival)

-- a later clock, a request more, a served tick
pub fit-later : (clock : ℕ) (q : List Request) → requests_fit clock q ≡ true → requests_fit (clock + 1) q ≡ true
fit-later clock [] e = refl
fit-later clock (r ∷ q) e =
    let s = and_split (request_fits clock r) (requests_fit clock q) e in
    let f = request_fits_lem clock r s.0 in
    and_join (request_fits (clock + 1) r) (requests_fit (clock + 1) q)
    (fits-request (clock + 1) r (record { some = f.some; work = f.work; arrival = omega (arith, f.arrival) }))
    (fit-later clock q s.1)

pub fit-presented : (clock id work : ℕ) (q : List Request) → work_fits work ≡ true → requests_fit clock q ≡ true →
    requests_fit clock (presented id work clock q) ≡ true
fit-presented clock id work [] w e =
    and_join _ true (and_join (work_fits work) (leb clock clock) w (le-leb clock clock (omega arith))) refl
fit-presented clock id work (r ∷ q) w e =
    let s = and_split (request_fits clock r) (requests_fit clock q) e in
    and_join (request_fits clock r) (requests_fit clock (presented id work clock q)) s.0 (fit-presented clock id work q w s.1)

pub fit-served : (clock : ℕ) (q : List Request) → requests_fit clock q ≡ true → requests_fit clock (served q) ≡ true
fit-served clock [] e = refl
fit-served clock (r ∷ q) e = by (leb r.work 1) refl
  where
    by : (b : Bool) → leb r.work 1 ≡ b → requests_fit clock (cond b q (worked r ∷ q)) ≡ true
    by true h = (and_split (request_fits clock r) (requests_fit clock q) e).1
    by false h =
        let s = and_split (request_fits clock r) (requests_fit clock q) e in
        let f = request_fits_lem clock r s.0 in
        let more = leb-false r.work 1 h in
        and_join (request_fits clock (worked r)) (requests_fit clock q)
        (fits-request clock (worked r) (record { some = omega (arith, more); work = omega (arith, f.work); arrival = f.arrival }))
        s.1

-- ---- the work that waits (8/13)
-- a request adds its work
pub presented-work : (id work t : ℕ) (q : List Request) → waiting_work (presented id work t q) ≡ waiting_work q + work
presented-work id work t [] = omega arith
presented-work id work t (r ∷ q) = omega (arith, presented-work id work t q)

-- a served tick takes one off
pub served-work : (clock : ℕ) (q : List Request) → requests_fit clock q ≡ true → waiting_work (served q) ≡ waiting_work q - 1
served-work clock [] e = omega arith
served-work clock (r ∷ q) e = by (leb r.work 1) refl
  where
    f : Fits clock r
    f = request_fits_lem clock r (and_split (request_fits clock r) (requests_fit clock q) e).0

    by : (b : Bool) → leb r.work 1 ≡ b → waiting_work (cond b q (worked r ∷ q)) ≡ waiting_work (r ∷ q) - 1
    by true h = omega (arith, f.some, leb-true r.work 1 h)
    by false h = omega (arith, leb-false r.work 1 h)

-- where a request waits, work does; and no more than the longest work of each
pub some-work : (clock : ℕ) (q : List Request) → requests_fit clock q ≡ true → waits q ≡ true → 1 ≤ waiting_work q
some-work clock [] e w = never refl w
some-work clock (r ∷ q) e w = omega (arith, (request_fits_lem clock r (and_split (request_fits clock r) (requests_fit clock q) e).0).some)

pub most_work_lem : (clock : ℕ) (q : List Request) → requests_fit clock q ≡ true → waiting_work q ≤ max_work * length q
most_work_lem clock [] e = omega arith
most_work_lem clock (r ∷ q) e =
    let s = and_split (request_fits clock r) (requests_fit clock q) e in
    omega (arith, (request_fits_lem clock r s.0).work, most_work_lem clock q s.1)
