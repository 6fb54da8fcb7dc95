-- What is still to be printed at a place, the closing line included.
use Prim.Native.Nat.{ℕ, ◌-◌}
use mathlib.Core.List.{List}
use Rattle.plan.specs.Plan.{unrolled}
use Rattle.output.specs.declared.lent.Place.{Place}
use Rattle.output.specs.Output.{ticks_text}

-- what is still to be printed at a place, of a plan's bytes and its ticks
unfoldable pub text_from : List ℕ → ℕ → Place → List ℕ
text_from bytes ticks p = ticks_text (ticks - p.tick) p.tick p.totals p.state (unrolled bytes p.next)
