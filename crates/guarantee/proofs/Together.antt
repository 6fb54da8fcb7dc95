-- The fields of the guarantee, one by one: the ticks that ran are a run of the table's task set, and what they report is what its
-- ticks say.
use Rattle.std.specs.Prelude.{ℕ, ◌+◌, ◌≤◌, ◌≡◌, List, ltb, take}
use Rattle.std.proofs.Common.{arith, sym, ap, ◌∙◌}
use Rattle.lists.specs.Stretch.{tally, tally-stretch, tally-both, tally-same}
use Rattle.table.specs.declared.Table.{Table}
use Rattle.table.specs.Limits.{max_tasks}
use Rattle.table.specs.Model.{TaskSet, Model, task_set_of}
use Rattle.bounds.specs.Demand.{own_bound}
use Rattle.bounds.proofs.Bounds.{OwnBound}
use Rattle.rules.specs.declared.Entry.{Entry}
use Rattle.rules.specs.Tick.{kind_at}
use Rattle.guarantee.specs.Calls.{Call, ticks, no_tick, tick_at, state_before, clock_after, by_task, has_request}
use Rattle.guarantee.specs.Guarantee.{bound_at, Loaded, budget_at, by_budget_in, Guarantee}
use Rattle.guarantee.proofs.Items.{server, items_demand}
use Rattle.guarantee.proofs.Places.{seat, seat-demand}
use Rattle.guarantee.proofs.TieLaws.{items}
use Rattle.guarantee.proofs.Executed.{executed, no_drop}
use Rattle.guarantee.proofs.Period.{served, exactly}
use Rattle.guarantee.proofs.Admitted.{Good}
use Rattle.guarantee.proofs.Played.{N, model_before, played}
use Rattle.guarantee.proofs.Reports.{ticks-long, clock_after_lem, entry-is, served-is, counted, backlog}

module _ (t : Table) (g : Good t) (calls : List Call) where
  abbrev few : t.n ≤ max_tasks
  few = g.few

  abbrev p : TaskSet
  p = task_set_of t

  abbrev m : ℕ → Model
  m u = model_before t calls u

  -- the clock after the list is the number of ticks that ran
  clock : clock_after t calls ≡ N t calls
  clock = clock_after_lem t calls

  -- a whole server period with the queue never empty gives exactly the budget's ticks by budget
  by_budget_lem : (a : ℕ) → Loaded t calls a → tally (by_budget_in t calls) a t.server.period ≡ t.server.budget
  by_budget_lem a (k, e, h, w) =
      let o : OwnBound p (own_bound p) = g.own k in
      let d : p.server.budget + items_demand (take (seat p.server.place p.tasks) (items p)) (own_bound p) ≤ own_bound p =
      omega (arith, o.meets, seat-demand t.server.place p.tasks (server (kind_at p) t.server) (own_bound p)) in
      tally-same (by_budget_in t calls) (served p m (N t calls) (played t calls few) k) a t.server.period (λ u b c. served-is t calls u (omega (arith, clock)))
      ∙ exactly p m (N t calls) (played t calls few) k g.sound (g.plain k) (own_bound p) o.some o.soon d a e (omega (arith, clock))
      (backlog t calls few a (omega (arith, clock)) w)

  pub kept : Guarantee t calls
  kept = record {
    numbered = ticks-long t calls ∙ sym clock;
    nodrop = λ u h.
        ap (λ (x : Entry). x.drops) (entry-is t calls u (omega (arith, clock)))
        ∙ no_drop p m (N t calls) (played t calls few) g.sound g.mix (λ i b. (bound_at t i, g.tasks i b)) u (omega (arith, clock));
    whole = λ i r b e h.
        omega (
          arith,
          counted t calls (by_task i) r (bound_at t i) (omega (arith, clock)),
          executed p m (N t calls) (played t calls few) g.sound g.mix i b (bound_at t i) (g.tasks i b) r e (omega (arith, clock)),
        );
    budget = λ a w. omega (arith, by_budget_lem a w);
    atleast = λ a w.
        omega (
          arith,
          clock,
          by_budget_lem a w,
          tally-both (λ u. has_request (tick_at t calls u)) (λ u. ltb 0 (budget_at (state_before t calls u))) a t.server.period,
          tally-stretch has_request no_tick a t.server.period (ticks t calls) (omega (arith, w.2, ticks-long t calls, clock)),
        );
  }
