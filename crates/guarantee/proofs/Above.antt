-- What stands above the server is told by the tasks alone: in two runs of one task set as much is left of a task above the server, so it
-- is dropped in the same ticks and has the same ticks.
use Rattle.std.specs.Prelude.{ℕ, zero, suc, ◌+◌, ◌-◌, ◌≤◌, ◌<◌, ◌≡◌, refl, Bool, true, false, cond, ◌&&◌, not, List, [], ◌∷◌, length, take}
use Rattle.std.proofs.Common.{arith, sym, ap, ◌∙◌}
use Rattle.server.proofs.Account.{Bits}
use Rattle.table.specs.declared.Task.{Task}
use Rattle.table.specs.Model.{TaskSet, Model}
use Rattle.rules.specs.Tick.{is_open, expires, opened, kind_at, tick}
use Rattle.rules.specs.Calls.{entry_of}
use Rattle.guarantee.specs.Calls.{by_task}
use Rattle.guarantee.proofs.Items.{Item, task, server, Cells, start, wants, finish, later, chain, some_open, tick_items, states}
use Rattle.guarantee.proofs.Window.{cut, chain-cut, Tasks}
use Rattle.guarantee.proofs.Done.{left_at, left_cut}
use Rattle.guarantee.proofs.TieLaws.{insert, items, nth, cells}
use Rattle.guarantee.proofs.Places.{pos, pos-left}
use Rattle.guarantee.proofs.Run.{Run, reads, run-states}
use Rattle.guarantee.proofs.Executed.{task_of, left-next}

-- ---- a list of tasks alone
tasks-same : (xs : List Item) → Tasks xs → (t : ℕ) (busy busy' free : Bool) (w w' : ℕ → Bits) (cs : Cells xs) → chain xs t busy free w cs
    ≡ chain xs t busy' free w' cs
unfolding chain start wants finish
tasks-same [] h t busy busy' free w w' cs = refl
tasks-same (task x ∷ xs) h t busy busy' free w w' cs =
    ap (λ (r : Cells xs). (cond free (opened t x cs.0 - 1) (opened t x cs.0), r))
    (tasks-same xs h t busy busy' (free && not (is_open (opened t x cs.0))) (later w) (later w') cs.1)
tasks-same (server k s ∷ xs) h t busy busy' free w w' cs = absurd h

-- the first n items, if they are tasks
quiet-items : (n : ℕ) (xs : List Item) → Tasks (take n xs) → (w w' : ℕ → ℕ → Bits) (t : ℕ) → cut n xs (states xs w t) ≡ cut n xs (states xs w' t)
unfolding states tick_items
quiet-items n xs h w w' zero = refl
quiet-items n xs h w w' (suc t) =
    chain-cut n xs t (some_open xs t (states xs w t)) true (w t) (states xs w t)
    ∙ ap (chain (take n xs) t (some_open xs t (states xs w t)) true (w t)) (quiet-items n xs h w w' t)
    ∙ tasks-same (take n xs) h t (some_open xs t (states xs w t)) (some_open xs t (states xs w' t)) true (w t) (w' t) (cut n xs (states xs w' t))
    ∙ sym (chain-cut n xs t (some_open xs t (states xs w' t)) true (w' t) (states xs w' t))

-- the tasks above the server are the first items
above-tasks : (s n : ℕ) (xs : List Task) (z : Item) → n ≤ s → n ≤ length xs → Tasks (take n (insert s xs z))
above-tasks s zero xs z a b = tt
above-tasks zero (suc n) xs z a b = absurd (omega arith)
above-tasks (suc s) (suc n) [] z a b = absurd (omega arith)
above-tasks (suc s) (suc n) (x ∷ xs) z a b = above-tasks s n xs z (omega arith) (omega arith)

above-pos : (s i : ℕ) → i < s → pos s i ≡ i
above-pos zero i h = absurd (omega arith)
above-pos (suc s) zero h = refl
above-pos (suc s) (suc i) h = ap suc (above-pos s i (omega arith))

-- ---- two runs of one task set
module _ (p : TaskSet) (m m' : ℕ → Model) (N N' : ℕ) (run : Run p m N) (run' : Run p m' N') (i : ℕ) (b : i < length p.tasks) (a : i < p.server.place) where
  -- as much is left of a task above the server
  pub quiet-left : (u : ℕ) → u ≤ N → u ≤ N' → nth (m u).lefts i ≡ nth (m' u).lefts i
  quiet-left u h h' = told m N run h ∙ ap (λ (c : Cells (take (suc i) (items p))). left_at (take (suc i) (items p)) c i) same ∙ sym (told m' N' run' h')
    where
      same : cut (suc i) (items p) (states (items p) (reads p m) u) ≡ cut (suc i) (items p) (states (items p) (reads p m') u)
      same = quiet-items (suc i) (items p) (above-tasks p.server.place (suc i) p.tasks (server (kind_at p) p.server) a b) (reads p m) (reads p m') u

      told : (m : ℕ → Model) (N : ℕ) → Run p m N → u ≤ N → nth (m u).lefts i
          ≡ left_at (take (suc i) (items p)) (cut (suc i) (items p) (states (items p) (reads p m) u)) i
      told m N run h =
          sym (pos-left p.server.place p.tasks (server (kind_at p) p.server) (nth (m u).lefts) (m u).server i b)
          ∙ ap (left_at (items p) (cells p (m u))) (above-pos p.server.place i a)
          ∙ ap (λ (c : Cells (items p)). left_at (items p) c i) (run-states p m N run u h)
          ∙ sym (left_cut (suc i) (items p) (states (items p) (reads p m) u) i (omega arith))

  -- so it is dropped in the same ticks, and has the same ticks
  pub quiet-drop : (u : ℕ) → u ≤ N → u ≤ N' → expires u (task_of p i) (nth (m u).lefts i) ≡ expires u (task_of p i) (nth (m' u).lefts i)
  quiet-drop u h h' = ap (expires u (task_of p i)) (quiet-left u h h')

  pub quiet-has : (u : ℕ) → u < N → u < N' → by_task i (entry_of (tick p (m u))) ≡ by_task i (entry_of (tick p (m' u)))
  quiet-has u h h' =
      equal (by_task i (entry_of (tick p (m u)))) (by_task i (entry_of (tick p (m' u)))) (nth (m (suc u)).lefts i) (nth (m' (suc u)).lefts i)
      (quiet-left (suc u) h h')
      (left-next p m N run i b u h ∙ ap (opened u (task_of p i)) (quiet-left u (omega arith) (omega arith)) ∙ sym (left-next p m' N' run' i b u h'))
    where
      equal : (a c : Bool) (l l' : ℕ) → l ≡ l' → cond a 1 0 + l ≡ cond c 1 0 + l' → a ≡ c
      equal true true l l' e q = refl
      equal true false l l' e q = absurd (omega arith)
      equal false true l l' e q = absurd (omega arith)
      equal false false l l' e q = refl
