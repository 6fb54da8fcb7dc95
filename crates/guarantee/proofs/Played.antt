-- The ticks of a list of calls, played from the fresh state of a table that says no more tasks are in use than it has slots, are a run
-- of its task set.
use Rattle.std.specs.Prelude.{ℕ, zero, suc, ◌≤◌, ◌<◌, ◌≡◌, refl, List, [], ◌∷◌, ◌++◌, length, take, drop, replicate}
use Rattle.std.proofs.Common.{arith, ap, ap₂, ◌∙◌, length-append, length-take, le-leb}
use Rattle.lists.specs.Lists.{overlay, zip_with}
use Rattle.server.specs.declared.Stretch.{Stretch}
use Rattle.server.specs.Returns.{max_held}
use Rattle.server.specs.Whole.{whole, fresh_whole}
use Rattle.server.proofs.Written.{few-reread}
use Rattle.queue.specs.Queue.{waits}
use Rattle.queue.specs.Laws.{waiting_with}
use Rattle.table.specs.declared.Task.{Task}
use Rattle.table.specs.declared.Table.{Table}
use Rattle.table.specs.declared.Progress.{Progress}
use Rattle.table.specs.declared.State.{State}
use Rattle.table.specs.Limits.{max_tasks}
use Rattle.table.specs.Model.{TaskSet, Model, task_set_of, model_of}
use Rattle.table.specs.State.{fresh_state}
use Rattle.rules.specs.Tick.{opened, kind_at, lefts_at, turn_at, Tick, tick}
use Rattle.rules.specs.Calls.{ticked, state_after}
use Rattle.rules.proofs.Laws.{worked_length}
use Rattle.rules.proofs.ServerKept.{held_after}
use Rattle.guarantee.specs.Calls.{Call, final, begins, state_before}
use Rattle.guarantee.proofs.Items.{Item, server, Cells, fresh, fresh_all}
use Rattle.guarantee.proofs.TieLaws.{only_tasks, insert, task_cells, insert_cell, nth}
use Rattle.guarantee.proofs.Places.{cells_same}
use Rattle.guarantee.proofs.Run.{Run}
use Rattle.guarantee.proofs.Lift.{Behind, linked, linked-first, linked-next}

-- ---- lists
zip_short : {A B C : Type 0} (f : A → B → C) (xs : List A) (ys : List B) → length xs ≤ length ys → length (zip_with f xs ys) ≡ length xs
zip_short f [] ys h = refl
zip_short f (x ∷ xs) [] h = absurd (omega arith)
zip_short f (x ∷ xs) (y ∷ ys) h = ap suc (zip_short f xs ys (omega arith))

overlay-long : (new old : List ℕ) → length new ≤ length (overlay new old)
unfolding overlay
overlay-long new old = omega (arith, length-append new (drop (length new) old))

overlay-front : (n : ℕ) (new old : List ℕ) (i : ℕ) → i < length new → i < n → nth (take n (overlay new old)) i ≡ nth new i
unfolding overlay
overlay-front n new old i a b = front n new (drop (length new) old) i a b
  where
    front : (n : ℕ) (new rest : List ℕ) (i : ℕ) → i < length new → i < n → nth (take n (new ++ rest)) i ≡ nth new i
    front zero new rest i a b = absurd (omega arith)
    front (suc n) [] rest i a b = absurd (omega arith)
    front (suc n) (l ∷ new) rest zero a b = refl
    front (suc n) (l ∷ new) rest (suc i) a b = front n new rest i (omega arith) (omega arith)

zeros : (n k i : ℕ) → nth (take n (replicate k 0)) i ≡ 0
zeros zero k i = refl
zeros (suc n) zero i = refl
zeros (suc n) (suc k) zero = refl
zeros (suc n) (suc k) (suc i) = zeros n k i

-- ---- the fresh cells
only_fresh : (xs : List Task) → task_cells xs (λ _. 0) ≡ fresh_all (only_tasks xs)
unfolding fresh_all
only_fresh [] = refl
only_fresh (x ∷ xs) = ap (λ (r : Cells (only_tasks xs)). (0, r)) (only_fresh xs)

insert-fresh : (s : ℕ) (xs : List Task) (z : Item) → insert_cell s xs z (λ _. 0) (fresh z) ≡ fresh_all (insert s xs z)
unfolding fresh_all
insert-fresh zero xs z = ap (λ (r : Cells (only_tasks xs)). (fresh z, r)) (only_fresh xs)
insert-fresh (suc s) [] z = refl
insert-fresh (suc s) (x ∷ xs) z = ap (λ (r : Cells (insert s xs z)). (0, r)) (insert-fresh s xs z)

-- the model before tick u
abbrev pub model_before : Table → List Call → ℕ → Model
model_before t calls u = model_of (state_before t calls u)

module _ (t : Table) (calls : List Call) where
  abbrev p : TaskSet
  p = task_set_of t

  -- how many ticks ran
  abbrev pub N : ℕ
  N = length (begins t calls)

  abbrev at : ℕ → State
  at u = state_before t calls u

  abbrev m : ℕ → Model
  m u = model_before t calls u

  first : Behind (fresh_state t) (at 0)
  first = linked-first (fresh_state t) (final (fresh_state t) calls) (begins t calls) (linked calls (fresh_state t))

  next : (u : ℕ) → u < N → Behind (state_after (at u)) (at (suc u))
  next u h = linked-next (fresh_state t) (final (fresh_state t) calls) (begins t calls) (linked calls (fresh_state t)) u h

  pub table_is : (u : ℕ) → u ≤ N → (at u).table ≡ t
  table_is zero h = first.table
  table_is (suc u) h = (next u h).table ∙ table_is u (omega arith)

  pub clock-is : (u : ℕ) → u ≤ N → (at u).progress.clock ≡ u
  clock-is zero h = ap (λ (q : Progress). q.clock) first.progress
  clock-is (suc u) h = omega (arith, ap (λ (q : Progress). q.clock) (next u h).progress, clock-is u (omega arith))

  -- the tick of a state is that of the task set at its model
  pub ticked-is : (u : ℕ) → u ≤ N → ticked (at u) ≡ tick p (m u)
  ticked-is u h = ap (λ (y : Table). tick (task_set_of y) (m u)) (table_is u h)

  few-tasks : length p.tasks ≤ t.n
  few-tasks = omega (arith, length-take t.n t.tasks)

  long : (u : ℕ) → u ≤ N → length p.tasks ≤ length (at u).progress.left → length p.tasks ≤ length (m u).lefts
  long u h l = omega (arith, l, few-tasks, length-take (at u).table.n (at u).progress.left, ap (λ (y : Table). y.n) (table_is u h))

  new_long : (u : ℕ) → length p.tasks ≤ length (m u).lefts → length (tick p (m u)).next.lefts ≡ length p.tasks
  new_long u l =
      worked_length (turn_at p (m u)) (lefts_at p (m u)) ∙ zip_short (opened (m u).clock) p.tasks (m u).lefts l

  left-next : (u : ℕ) → u < N → (at (suc u)).progress.left ≡ overlay (tick p (m u)).next.lefts (at u).progress.left
  left-next u h =
      ap (λ (q : Progress). q.left) (next u h).progress ∙ ap (λ (x : Tick). overlay x.next.lefts (at u).progress.left) (ticked-is u (omega arith))

  -- at most 32 stretches are held
  few-held : (u : ℕ) → u ≤ N → (at u).returns.n ≤ max_held
  few-held zero h = first.few (omega arith)
  few-held (suc u) h =
      let n : (at u).returns.n ≤ max_held = few-held u (omega arith) in
      (next u h).few
      (rw (le-leb _ _ n)
      (held_after (task_set_of (at u).table) (m u) (omega (arith, length-take (at u).returns.n (at u).returns.stretches, n))))

  -- where the table says that no more tasks are in use than it has slots
  module _ (few : t.n ≤ max_tasks) where
    array_long : (u : ℕ) → u ≤ N → length p.tasks ≤ length (at u).progress.left
    array_long zero h = omega (arith, few, few-tasks, ap (λ (q : Progress). length q.left) first.progress)
    array_long (suc u) h =
        omega (
          arith,
          ap length (left-next u h),
          overlay-long (tick p (m u)).next.lefts (at u).progress.left,
          new_long u
              (long u (omega arith) (array_long u (omega arith))),
        )

    pub played : Run p m N
    played = record {
      clocks = clock-is;
      covers = λ u h. long u h (array_long u h);
      first =
          ap₂ (λ (q : Progress) (us : List Stretch). insert_cell t.server.place p.tasks (server (kind_at p) t.server)
          (nth (take (at 0).table.n q.left)) (whole q.server us))
          first.progress first.held
          ∙ cells_same t.server.place p.tasks (server (kind_at p) t.server) (nth (take (at 0).table.n (replicate max_tasks 0))) (λ _. 0)
          (fresh_whole (kind_at p) t.server) (λ i _. zeros (at 0).table.n max_tasks i)
          ∙ insert-fresh t.server.place p.tasks (server (kind_at p) t.server);
      servers = λ u h.
          ap₂ whole (ap (λ (q : Progress). q.server) (next u h).progress)
          ((next u h).held ∙ few-reread (at u).returns (ticked (at u)).next.server.returns (few-held u (omega arith)))
          ∙ ap (λ (x : Tick). x.next.server) (ticked-is u (omega arith));
      lefts = λ u h i b.
          ap₂ (λ (n : ℕ) (ls : List ℕ). nth (take n ls) i) (ap (λ (y : Table). y.n) (table_is (suc u) h)) (left-next u h)
          ∙ overlay-front t.n (tick p (m u)).next.lefts (at u).progress.left i
          (omega (arith, new_long u (long u (omega arith) (array_long u (omega arith))))) (omega (arith, few-tasks));
      stays = λ u h w.
          (next u h).queue (ap waits (waiting_with (at u).queue (ticked (at u)).next.queue (ticked (at u)).next.backlog)
          ∙ ap (λ (x : Tick). waits x.next.queue) (ticked-is u (omega arith)) ∙ w);
    }
