-- The time demand, and the bounds that it gives.
use Rattle.std.specs.Prelude.{ℕ, suc, ◌+◌, ◌*◌, Bool, true, cond, ◌&&◌, List, [], ◌∷◌, take, leb, ltb}
use Rattle.lists.specs.Lists.{all}
use Rattle.lists.specs.Time.{ceil}
use Rattle.server.specs.declared.Server.{Server}
use Rattle.server.specs.Kind.{Kind, background, polling, deferrable, sporadic, returning, kind_of}
use Rattle.server.specs.Server.{server_demand}
use Rattle.table.specs.declared.Task.{Task}
use Rattle.table.specs.Model.{TaskSet}
use Rattle.bounds.specs.Least.{least}

-- "ceil(L/p) × e for each row"
abbrev pub tasks_demand : List Task → ℕ → ℕ
tasks_demand [] L = 0
tasks_demand (x ∷ xs) L = ceil L x.period * x.exec + tasks_demand xs L

-- "Rows 0 to s−1 are above it, the others below."
abbrev pub below : Server → ℕ → Bool
below s i = leb s.place i

-- "For row i and length L from 1 to D, the demand is e of row i, plus ceil(L/p) × e for each row before it, plus, if the row is
-- below a server of kinds 1 to 3" (3/13: or 4), the server's term.
abbrev pub demand : TaskSet → ℕ → Task → ℕ → ℕ
demand p i x L =
    x.exec + tasks_demand (take i p.tasks) L
    + cond (below p.server i) (server_demand (kind_of p.server.kind) p.server L) 0

-- "The bound is the least L with demand ≤ L, or 0 if none", L from 1 to D.
abbrev pub task_bound : TaskSet → ℕ → Task → ℕ
task_bound p i x = least (demand p i x) x.deadline 1

-- every task's bound, in order; i counts the tasks before
abbrev pub bounds_from : TaskSet → ℕ → List Task → List ℕ
bounds_from p i [] = []
bounds_from p i (x ∷ xs) = task_bound p i x ∷ bounds_from p (suc i) xs

abbrev pub bounds : TaskSet → List ℕ
bounds p = bounds_from p 0 p.tasks

-- "The server's own bound, kinds 1 to 3, is the least L up to P with B plus the terms of the rows above at most L, or 0; kind 0
-- has server bound 0."
abbrev pub own_demand : TaskSet → ℕ → ℕ
own_demand p L = p.server.budget + tasks_demand (take p.server.place p.tasks) L

abbrev pub own_bound : TaskSet → ℕ
own_bound p = least (own_demand p) p.server.period 1

abbrev pub server_bound_by : Kind → TaskSet → ℕ
server_bound_by background p = 0
server_bound_by polling p = own_bound p
server_bound_by deferrable p = own_bound p
server_bound_by sporadic p = own_bound p
-- 3/13: "The server's limits and own bound are those of kinds 1 to 3"
server_bound_by returning p = own_bound p

abbrev pub server_bound : TaskSet → ℕ
server_bound p = server_bound_by (kind_of p.server.kind) p

-- "The table is admitted if every row's bound is above 0 and, for kinds 1 to 3, the server's too."
abbrev pub server_admitted : Kind → ℕ → Bool
server_admitted background R = true
server_admitted polling R = ltb 0 R
server_admitted deferrable R = ltb 0 R
server_admitted sporadic R = ltb 0 R
-- 3/13: kind 4 as kinds 1 to 3
server_admitted returning R = ltb 0 R

abbrev pub admitted : TaskSet → Bool
admitted p = all (ltb 0) (bounds p) && server_admitted (kind_of p.server.kind) (server_bound p)
