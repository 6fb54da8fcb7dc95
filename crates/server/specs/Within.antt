-- The limits of refusal 11 on a server's state as facts. That the steps keep them is shown in proofs/Within.
use Rattle.std.specs.Prelude.{ℕ, ◌≤◌}
use Rattle.server.specs.Limits.{last_nr}
use Rattle.server.specs.declared.Server.{Server}
use Rattle.server.specs.declared.Sporadic.{Sporadic}
use Rattle.server.specs.declared.ServerState.{ServerState}

-- no "tr or begin after the clock, or nr above 4,000,060,000"
pub record Timed (clock : ℕ) (x : Sporadic) : Type 0 where
  pub tr : x.tr ≤ clock
  pub begin : x.begin ≤ clock
  pub nr : x.nr ≤ last_nr

-- and no "b above B"
pub record Within (s : Server) (clock : ℕ) (x : ServerState) : Type 0 where
  pub budget : x.budget ≤ s.budget
  pub times : Timed clock x.sporadic
