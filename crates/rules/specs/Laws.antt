-- What the laws of the calls ask of a state.
use Rattle.std.specs.Prelude.{◌≡◌, length}
use Rattle.server.specs.Returns.{max_held}
use Rattle.queue.specs.Queue.{max_waiting}
use Rattle.table.specs.declared.State.{State}
use Rattle.table.specs.Limits.{max_tasks}

-- ---- the arrays of a struct have their declared lengths
pub record Sized (s : State) : Type 0 where
  pub tasks : length s.table.tasks ≡ max_tasks
  pub left : length s.progress.left ≡ max_tasks
  pub requests : length s.queue.requests ≡ max_waiting
  pub stretches : length s.returns.stretches ≡ max_held
