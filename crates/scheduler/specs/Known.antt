-- What is known of a state between two calls.
use Rattle.std.specs.Prelude.{ℕ, ◌≡◌, Bool}
use Rattle.table.specs.declared.State.{State}
use Rattle.table.specs.State.{fit}
use Rattle.rules.specs.Laws.{Sized}
use Rattle.scheduler.specs.Opening.{CalmFor}

-- whether it is fit, the lengths of its arrays, and the ticks from its clock on that are calm
pub record Known (s : State) (fits : Bool) (c : ℕ) : Type 0 where
  pub flag : fit s ≡ fits
  pub sized : Sized s
  pub calm : CalmFor s.table s.progress c
