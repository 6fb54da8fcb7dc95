-- Where the guarantee and the code meet: what `play` promises of its report besides that it is what the definitions say. The ticks that it
-- counts are the clock's, where it reports a table admitted, it reports no drop, and the list of calls keeps the guarantee, and the work that
-- waits is the sum over the queue.
use Rattle.std.specs.Prelude.{ℕ, suc, ◌<◌, ◌≡◌, refl, true, List, [], ◌∷◌, length, get_or}
use Rattle.std.proofs.Common.{arith, sym, ap, ◌∙◌}
use Rattle.queue.specs.Queue.{waiting_work, waiting_of}
use Rattle.table.specs.declared.Table.{Table}
use Rattle.table.specs.Limits.{max_tasks}
use Rattle.table.specs.Refusal.{passed}
use Rattle.table.specs.State.{fresh_state, table_check}
use Rattle.rules.specs.Calls.{told}
use Rattle.guarantee.specs.Calls.{Call, RanTick, no_tick, ticks, clock_after}
use Rattle.guarantee.specs.Guarantee.{Guarantee}
use Rattle.guarantee.proofs.Kept.{guarantee, waiting_kept}
use Rattle.play.specs.declared.Report.{Report}
use Rattle.play.specs.Report.{drops_of, reported}
use Rattle.play.specs.Laws.{made-clock}

-- what is promised of a table, a list of calls, and what is reported of them
pub record Promise (t : Table) (calls : List Call) (r : Report) : Type 0 where
  -- the clock that the guarantee speaks of is the one of the state handed back
  pub clock : r.state.progress.clock ≡ clock_after t calls
  -- that clock is the number of the ticks reported
  pub numbered : r.ticks ≡ r.state.progress.clock
  -- where the table is reported admitted, no drop is reported, and the list keeps the guarantee
  pub nodrop : r.admitted ≡ true → r.drops ≡ 0
  pub guarantee : r.admitted ≡ true → Guarantee t calls
  -- 8/13: the waiting call tells "the sum over the queue" of the state handed back, of a table that set-up accepts
  pub waiting : passed (table_check t) ≡ true → r.waiting ≡ waiting_work (waiting_of r.state.queue)

-- ticks without a drop have none together
none_dropped : (xs : List RanTick) → ((u : ℕ) → u < length xs → (get_or xs u no_tick).entry.drops ≡ 0) → drops_of xs ≡ 0
none_dropped [] h = refl
none_dropped (x ∷ xs) h = omega (arith, h 0 (omega arith), none_dropped xs (λ u b. h (suc u) (omega arith)))

-- what the definitions say keeps the promise
pub promise : (t : Table) (calls : List Call) (r : Report) → length t.tasks ≡ max_tasks → r ≡ reported t calls → Promise t calls r
promise t calls r z e = record {
  clock = ap (λ (x : Report). x.state.progress.clock) e;
  numbered = omega (arith, ap (λ (x : Report). x.ticks) e, ap (λ (x : Report). x.state.progress.clock) e, made-clock calls (fresh_state t));
  nodrop = λ h. ap (λ (x : Report). x.drops) e ∙ none_dropped (ticks t calls) (λ u b. (kept h).nodrop u (omega (arith, (kept h).numbered)));
  guarantee = kept;
  waiting = λ h. ap (λ (x : Report). x.waiting) e
      ∙ ap told ((waiting_kept t calls).returned z h)
      ∙ sym (ap (λ (x : Report). waiting_work (waiting_of x.state.queue)) e);
}
  where
    kept : r.admitted ≡ true → Guarantee t calls
    kept h = guarantee t (rw e at h) calls
