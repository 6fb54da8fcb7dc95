-- What serving and a request do to the front of an array, and the work of its front.
use Prim.Native.Nat.{ℕ, zero, suc, ◌+◌, ◌-◌, ◌≤◌, ◌<◌}
use native.Mathlib.Omega.{arith}
use native.Mathlib.Numerals.{add-one}
use mathlib.Core.Path.{◌≡◌, refl, sym, ap}
use mathlib.Core.List.{List, [], ◌∷◌, ◌++◌}
use borrow.Author.Tests.{le-leb, lt-leb, lt-ltb}
use lib.ListN.{length, take, drop, get_or, set}
use lib.Seq.{length-take-le}
use Rattle.lists.specs.Lists.{overlay, overlay-push, length_push}
use Rattle.lists.specs.Numbers.{capped_sum}
use Rattle.queue.specs.declared.Request.{Request}
use Rattle.queue.specs.declared.Queue.{Queue}
use Rattle.queue.specs.Queue.{max_waiting, waiting_work, queue_with}
use Rattle.queue.specs.Steps.{pushed_queue, served_queue}

-- an array, how many of its slots are in use, and the figure
abbrev queue_of : List Request → ℕ → ℕ → Queue
queue_of l n b = record { requests = l; n = n; backlog = b }

-- the work of one request more
pub work_step : (d : Request) (i : ℕ) (l : List Request) → i < length l → waiting_work (take (suc i) l) ≡ waiting_work (take i l) + (get_or l i d).work
work_step d i [] h = absurd (omega arith)
work_step d zero (r ∷ l) h = omega arith
work_step d (suc i) (r ∷ l) h = omega (arith, work_step d i l (omega arith))

-- a store behind the front
pub push-room : (l : List Request) (n b c id work t : ℕ) → n < max_waiting → n < length l → c ≡ capped_sum b work →
    queue_of (set l n (record { id = id; work = work; arrival = t })) (n + 1) c ≡ pushed_queue (queue_of l n b) id work t
push-room l n b c id work t h k e =
    let r : Request = record { id = id; work = work; arrival = t } in
    rw (lt-ltb n max_waiting h, overlay-push n l r k, length_push n l r k, add-one, e)

-- serving: the head leaves; the head stays with one tick of work less
module _ (d : Request) where
  pub serve_leaves : (l : List Request) (n b : ℕ) → 1 ≤ n → n ≤ max_waiting → n ≤ length l → (get_or l 0 d).work ≤ 1 →
      queue_with (queue_of l n b) (drop 1 (take n l)) (b - 1) ≡ served_queue (queue_of l n b)
  serve_leaves l zero b a h k w = absurd (omega arith)
  serve_leaves [] (suc m) b a h k w = absurd (omega arith)
  serve_leaves (x ∷ l) (suc m) b a h k w = rw (le-leb 1 (suc m) a, le-leb (suc m) max_waiting h, le-leb x.work 1 w)

  pub serve_stays : (l : List Request) (n b c : ℕ) → 1 ≤ n → n ≤ max_waiting → n ≤ length l → 1 < (get_or l 0 d).work → c ≡ b - 1 →
      queue_of (set l 0 (record { id = (get_or l 0 d).id; work = (get_or l 0 d).work - 1; arrival = (get_or l 0 d).arrival })) n c ≡
      served_queue (queue_of l n b)
  unfolding overlay
  serve_stays l zero b c a h k w e = absurd (omega arith)
  serve_stays [] (suc m) b c a h k w e = absurd (omega arith)
  serve_stays (x ∷ l) (suc m) b c a h k w e =
      rw (le-leb 1 (suc m) a, le-leb (suc m) max_waiting h, lt-leb x.work 1 w, length-take-le m l (omega arith), e)
      (ap (λ (r : List Request). queue_of (record { id = x.id; work = x.work - 1; arrival = x.arrival } ∷ r) (suc m) (b - 1)) (sym (again m l (omega arith))))
    where
      again : (m : ℕ) (l : List Request) → m ≤ length l → take m l ++ drop m l ≡ l
      again zero l h = refl
      again (suc m) [] h = refl
      again (suc m) (y ∷ l) h = ap (λ (r : List Request). y ∷ r) (again m l (omega arith))
