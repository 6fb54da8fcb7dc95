-- Ticks one after another: the models at which they begin, with requests presented in between. The cells of the items go with them.
use Rattle.std.specs.Prelude.{ℕ, zero, suc, ◌≤◌, ◌<◌, ◌≡◌, true, length}
use Rattle.std.proofs.Common.{arith, ap, ap₂, ◌∙◌}
use Rattle.server.proofs.Account.{Bits}
use Rattle.queue.specs.Queue.{waits}
use Rattle.table.specs.Model.{TaskSet, Model}
use Rattle.rules.specs.Tick.{kind_at, tick}
use Rattle.guarantee.proofs.Items.{server, Cells, tick_items, fresh_all, states}
use Rattle.guarantee.proofs.TieLaws.{items, insert_cell, nth, cells, bits_of, tick_tie}
use Rattle.guarantee.proofs.Places.{cells_same}

-- tick u begins at the model m u; N ticks ran, and m N is the model after them
pub record Run (p : TaskSet) (m : ℕ → Model) (N : ℕ) : Type 0 where
  pub clocks : (u : ℕ) → u ≤ N → (m u).clock ≡ u
  pub covers : (u : ℕ) → u ≤ N → length p.tasks ≤ length (m u).lefts
  pub first : cells p (m 0) ≡ fresh_all (items p)
  -- between two ticks only the queue moves, and it does not run empty
  pub servers : (u : ℕ) → u < N → (m (suc u)).server ≡ (tick p (m u)).next.server
  pub lefts : (u : ℕ) → u < N → (i : ℕ) → i < length p.tasks → nth (m (suc u)).lefts i ≡ nth (tick p (m u)).next.lefts i
  pub stays : (u : ℕ) → u < N → waits (tick p (m u)).next.queue ≡ true → waits (m (suc u)).queue ≡ true

-- what tick u reads of the queue
abbrev pub reads : TaskSet → (ℕ → Model) → ℕ → ℕ → Bits
reads p m u i = bits_of p (m u)

pub run-states : (p : TaskSet) (m : ℕ → Model) (N : ℕ) → Run p m N → (u : ℕ) → u ≤ N → cells p (m u) ≡ states (items p) (reads p m) u
unfolding states
run-states p m N r zero h = r.first
run-states p m N r (suc u) h =
    ap (insert_cell p.server.place p.tasks (server (kind_at p) p.server) (nth (m (suc u)).lefts)) (r.servers u h)
    ∙ cells_same p.server.place p.tasks (server (kind_at p) p.server) (nth (m (suc u)).lefts) (nth (tick p (m u)).next.lefts)
    (tick p (m u)).next.server (r.lefts u h)
    ∙ tick_tie p (m u) (r.covers u (omega arith))
    ∙ ap₂ (λ (t : ℕ) (c : Cells (items p)). tick_items (items p) t (λ _. bits_of p (m u)) c) (r.clocks u (omega arith)) (run-states p m N r u (omega arith))
