-- A buffer of the output, filled: what `fill` promises.
use Prim.Native.Nat.{ℕ, ◌+◌, ◌≤◌, ◌<◌}
use Rattle.std.specs.Prelude.{List, ◌⊎◌, length}
use Rattle.output.specs.Rooms.{step_room}
use Rattle.output.specs.declared.lent.Place.{Place}
use Rattle.output.specs.Steps.{steps_from, Taken}

-- A filled buffer. How many steps it holds is left free, and nothing else: they are taken from p on, into the buffer from its start,
-- and lead to q; they stop where no tick is left or a further step might not fit; and if a step fits at all, there is one.
pub record Filled (bytes : List ℕ) (ticks : ℕ) (l : List ℕ) (p : Place) (m : List ℕ) (r : ℕ) (q : Place) : Type 0 where
  pub steps : ℕ
  pub taken : Taken (steps_from bytes ticks steps p) l 0 m r q
  pub stops : (ticks ≤ q.tick) ⊎ (length l < r + step_room)
  pub some : p.tick < ticks → step_room ≤ length l → 0 < steps
