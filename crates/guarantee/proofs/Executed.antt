-- Each job of a task with a bound R has its whole execution in the R ticks from its release on, and no job is dropped.
use Rattle.std.specs.Prelude.{ℕ, zero, suc, ◌+◌, ◌*◌, ◌≤◌, ◌<◌, ◌≡◌, refl, Bool, true, false, cond, ◌&&◌, List, [], ◌∷◌, ◌⊎◌, length, take, get_or}
use Rattle.std.proofs.Common.{arith, sym, ap, ◌∙◌}
use Rattle.lists.specs.Lists.{count, zip_with}
use Rattle.lists.specs.Tests.{never}
use Rattle.lists.specs.Time.{due}
use Rattle.lists.specs.Count.{due_true, due-at, due-apart}
use Rattle.lists.specs.Stretch.{tally}
use Rattle.queue.specs.Queue.{waits}
use Rattle.table.specs.declared.Task.{Task}
use Rattle.table.specs.Model.{TaskSet, Model, no_task}
use Rattle.rules.specs.Tick.{is_open, expires, dropped, after_drop, opened, kind_at, lefts_at, may_at, tick}
use Rattle.rules.specs.Calls.{entry_of}
use Rattle.guarantee.proofs.Items.{server, Cells, items_demand}
use Rattle.guarantee.proofs.Chain.{SoundAll}
use Rattle.guarantee.proofs.Window.{Plain, Sole}
use Rattle.guarantee.proofs.Done.{left_at, done}
use Rattle.guarantee.proofs.TieLaws.{items, nth}
use Rattle.guarantee.proofs.Places.{pos, pos-holds, pos-left}
use Rattle.guarantee.proofs.Run.{Run, reads, run-states}
use Rattle.guarantee.specs.Calls.{by_task}
use Rattle.guarantee.specs.Guarantee.{task_at}
use Rattle.guarantee.proofs.Entries.{task_step_lem, opened-nth}

abbrev pub task_of : TaskSet → ℕ → Task
task_of p i = task_at p.tasks i

-- R is a length within the deadline of task i that meets the demand of the items down to it
pub record InTime (p : TaskSet) (i R : ℕ) : Type 0 where
  pub some : 0 < R
  pub soon : R ≤ (task_of p i).deadline
  pub early : (task_of p i).deadline ≤ (task_of p i).period
  pub meets : items_demand (take (suc (pos p.server.place i)) (items p)) R ≤ R

-- a deadline is D after a release
deadline : (x : Task) (t : ℕ) → due t (x.phase + x.deadline) x.period ≡ true → (r : ℕ) × (due r x.phase x.period ≡ true) × (t ≡ r + x.deadline)
deadline x t e =
    let n : (n : ℕ) × (t ≡ x.phase + x.deadline + n * x.period) = due_true t (x.phase + x.deadline) x.period e in
    (x.phase + n.0 * x.period, due-at x.phase x.period n.0, omega arith)

-- the ticks that a task has are the ticks of work that it loses
pub left-next : (p : TaskSet) (m : ℕ → Model) (N : ℕ) → Run p m N → (i : ℕ) → i < length p.tasks → (u : ℕ) → u < N →
    cond (by_task i (entry_of (tick p (m u)))) 1 0 + nth (m (suc u)).lefts i ≡ opened u (task_of p i) (nth (m u).lefts i)
left-next p m N run i b u h =
    ap (λ (n : ℕ). cond (by_task i (entry_of (tick p (m u)))) 1 0 + n) (run.lefts u h i b)
    ∙ task_step_lem p.server.place (waits (m u).queue) (may_at p (m u)) (lefts_at p (m u)) (m u).queue
    (dropped (m u).clock p.tasks (m u).lefts) i
    ∙ opened-nth (m u).clock p.tasks (m u).lefts (run.covers u (omega arith)) i no_task b
    ∙ ap (λ (t : ℕ). opened t (task_of p i) (nth (m u).lefts i)) (run.clocks u (omega arith))

module _ (p : TaskSet) (m : ℕ → Model) (N : ℕ) (run : Run p m N) (sound : SoundAll (items p)) (mix : Plain (items p) ⊎ Sole (items p)) where
  module _ (i : ℕ) (b : i < length p.tasks) (R : ℕ) (k : InTime p i R) where
    abbrev x : Task
    x = task_of p i

    abbrev left : ℕ → ℕ
    left u = nth (m u).lefts i

    -- task i has tick u
    abbrev pub has : ℕ → Bool
    has u = by_task i (entry_of (tick p (m u)))

    -- nothing is left from R ticks after a release until the next
    over : (r u : ℕ) → due r x.phase x.period ≡ true → r + R ≤ u → u ≤ r + x.period → u ≤ N → left u ≡ 0
    over r u e c q n =
        sym (pos-left p.server.place p.tasks (server (kind_at p) p.server) (nth (m u).lefts) (m u).server i b)
        ∙ ap (λ (c : Cells (items p)). left_at (items p) c (pos p.server.place i)) (run-states p m N run u n)
        ∙ done (items p) sound mix (reads p m) (pos p.server.place i) x
        (pos-holds p.server.place p.tasks (server (kind_at p) p.server) i no_task b) R k.some k.meets r u e c q

    -- so nothing is dropped
    pub kept : (u : ℕ) → u ≤ N → expires u x (left u) ≡ false
    kept u n = go (due u (x.phase + x.deadline) x.period) refl
      where
        go : (d : Bool) → due u (x.phase + x.deadline) x.period ≡ d → (is_open (left u) && d) ≡ false
        go true e =
            let r : (r : ℕ) × (due r x.phase x.period ≡ true) × (u ≡ r + x.deadline) = deadline x u e in
            let z : left u ≡ 0 = over r.0 u r.1 (omega (arith, r.2, k.soon)) (omega (arith, r.2, k.early)) n in
            ap (λ (l : ℕ). is_open l && true) z
        go false e = shut (is_open (left u))
          where
            shut : (o : Bool) → (o && false) ≡ false
            shut true = refl
            shut false = refl

    -- where nothing is released after t, the ticks that the task has and what is left of it come to what it had inside t
    had : (n t u z : ℕ) → t + n ≡ u → u ≤ N → (n ≡ 0 → left t ≡ z) → (0 < n → opened t x (left t) ≡ z) →
        ((v : ℕ) → t < v → v < u → opened v x (left v) ≡ left v) →
        tally has t n + left u ≡ z
    had zero t u z e l a s h = let q : u ≡ t = omega arith in omega (arith, ap left q, a refl)
    had (suc n) t u z e l a s h =
        omega (
          arith,
          left-next p m N run i b t (omega arith),
          s (omega arith),
          had n (suc t) u (left (suc t)) (omega arith) l (λ _. refl)
              (λ q. h (suc t) (omega arith) (omega arith)) (λ v y c. h v (omega arith) c),
        )

    released : (r l : ℕ) → due r x.phase x.period ≡ true → opened r x l ≡ x.exec
    released r l e = ap (λ (c : Bool). cond c x.exec (after_drop r x l)) e

    still : (r v : ℕ) → due r x.phase x.period ≡ true → r < v → v < r + x.period → v ≤ N → opened v x (left v) ≡ left v
    still r v e l q n = go (due v x.phase x.period) refl
      where
        go : (d : Bool) → due v x.phase x.period ≡ d → cond d x.exec (after_drop v x (left v)) ≡ left v
        go true f = absurd (due-apart r v x.phase x.period e f l q)
        go false f = ap (λ (c : Bool). cond c 0 (left v)) (kept v n)

    pub executed : (r : ℕ) → due r x.phase x.period ≡ true → r + R ≤ N → tally has r R ≡ x.exec
    executed r e n =
        omega (
          arith,
          had R r (r + R) x.exec refl n (λ q. absurd (omega (arith, k.some))) (λ _. released r (left r) e)
              (λ v a c. still r v e a (omega (arith, k.soon, k.early)) (omega arith)),
          over r (r + R) e (omega arith) (omega (arith, k.soon, k.early)) n,
        )

  -- every tick's drops are 0
  pub no_drop : ((i : ℕ) → i < length p.tasks → (R : ℕ) × InTime p i R) → (u : ℕ) → u ≤ N → dropped (m u).clock p.tasks (m u).lefts ≡ 0
  no_drop h u n = none p.tasks (m u).lefts (λ i b. ap (λ (t : ℕ). expires t (task_of p i) (nth (m u).lefts i)) (run.clocks u n)
      ∙ kept i b (h i b).0 (h i b).1 u n)
    where
      none : (xs : List Task) (ls : List ℕ) → ((i : ℕ) → i < length xs → expires (m u).clock (get_or xs i no_task) (nth ls i) ≡ false) →
          count (zip_with (expires (m u).clock) xs ls) ≡ 0
      none [] ls h = refl
      none (x ∷ xs) [] h = refl
      none (x ∷ xs) (l ∷ ls) h = one (expires (m u).clock x l) (h 0 (omega arith)) (none xs ls (λ i b. h (suc i) (omega arith)))
        where
          one : (b : Bool) → b ≡ false → count (zip_with (expires (m u).clock) xs ls) ≡ 0 → count (b ∷ zip_with (expires (m u).clock) xs ls) ≡ 0
          one true e ih = never e refl
          one false e ih = ih
