-- What follows of the drops that are reported.
use Rattle.std.specs.Prelude.{ℕ, ◌≤◌, ◌<◌, ◌≡◌, List, length}
use Rattle.std.proofs.Common.{arith, sym, ◌∙◌}
use Rattle.lists.specs.Stretch.{tally-same}
use Rattle.table.specs.declared.Table.{Table}
use Rattle.guarantee.specs.Calls.{Call, tick_at}
use Rattle.guarantee.specs.Guarantee.{tasks_of}
use Rattle.guarantee.specs.Unnoticed.{accepted_ticks, dropped_in}
use Rattle.guarantee.proofs.Kept.{unnoticed, as_reported}

-- The reported drops hold all tasks: they are the same in both lists where no task stands below the server.
pub drops-unnoticed : (t : Table) (calls calls' : List Call) → accepted_ticks t calls ≡ accepted_ticks t calls' →
    length (tasks_of t) ≤ t.server.place →
    (u : ℕ) → u < accepted_ticks t calls → (tick_at t calls u).entry.drops ≡ (tick_at t calls' u).entry.drops
drops-unnoticed t calls calls' e top u h =
    (as_reported t calls).drops u h
    ∙ tally-same (λ i. dropped_in t calls i u) (λ i. dropped_in t calls' i u) 0 (length (tasks_of t))
    (λ i _ b. (unnoticed t calls calls' e).drops i u (omega arith, omega (arith, top)) h)
    ∙ sym ((as_reported t calls').drops u (omega (arith, e)))
