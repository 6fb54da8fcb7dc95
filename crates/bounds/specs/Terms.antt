-- The demand of a task and of the server in one form.
use Rattle.std.specs.Prelude.{ℕ, ◌+◌, Bool, cond, take}
use Rattle.server.specs.Kind.{kind_of}
use Rattle.server.specs.Server.{server_demand}
use Rattle.table.specs.Model.{TaskSet}
use Rattle.bounds.specs.Demand.{tasks_demand}

-- own work, "plus ceil(L/p) × e for each row before" i, plus, where `beside`, the server's term
abbrev pub demand_of : TaskSet → ℕ → ℕ → Bool → ℕ → ℕ
demand_of p i own beside L =
    own + tasks_demand (take i p.tasks) L + cond beside (server_demand (kind_of p.server.kind) p.server L) 0
