-- Totals of a record one tick longer; and how many ticks may be run at once: fewer may be too.
use Rattle.std.specs.Prelude.{ℕ, zero, suc, ◌+◌, ◌≤◌, ◌<◌, ◌≡◌, refl, List, [], ◌∷◌, length, take, get_or}
use Rattle.std.proofs.Common.{arith}
use Rattle.queue.specs.Queue.{waiting_of}
use Rattle.rules.specs.declared.Entry.{Entry}
use Rattle.output.specs.declared.totals.Totals.{Totals}
use Rattle.output.specs.Totals.{counted}
use Rattle.output.specs.declared.lent.Place.{Place}
use Rattle.output.specs.Blocks.{Free, block_totals}
use Rattle.output.proofs.Blocks.{unfinished-less, undisturbed_less}

-- the totals with one tick more of a record
pub block_on :
    (t : Totals) (es : List Entry) (i : ℕ) (d : Entry) → i < length es →
    counted (block_totals t (take i es)) (get_or es i d) ≡ block_totals t (take (suc i) es)
unfolding block_totals
block_on t [] i d h = absurd (omega arith)
block_on t (e ∷ es) zero d h = refl
block_on t (e ∷ es) (suc i) d h = block_on (counted t e) es i d (omega arith)

-- fewer of them may be run at once too
pub free_less : (ticks : ℕ) (p : Place) (k j : ℕ) → j ≤ k → Free ticks p k → Free ticks p j
free_less ticks p k j h f = record {
  few = omega (arith, f.few);
  ends = omega (arith, f.ends);
  next = undisturbed_less p.next (p.tick + k) (p.tick + j) (omega arith) f.next;
  head = unfinished-less (waiting_of p.state.queue) k j h f.head;
}
