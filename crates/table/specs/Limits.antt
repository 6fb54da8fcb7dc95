-- The limits of a table: refusals 1, 2 and 3, over the tasks in use.
use Rattle.std.specs.Prelude.{ℕ, suc, Bool, cond, ◌&&◌, List, [], ◌∷◌, length, leb, ltb, eqb, Err, Ok, Result}
use Rattle.lists.specs.Tests.{between, every}
use Rattle.server.specs.Limits.{max_time}
use Rattle.server.specs.declared.Server.{Server}
use Rattle.server.specs.Kind.{Kind, background, polling, deferrable, sporadic, returning, kind_of}
use Rattle.table.specs.declared.Task.{Task}
use Rattle.table.specs.declared.Refusal.{Refusal}

-- "There are n rows, 1 to 16, numbered from 0, highest priority first."
abbrev pub max_tasks : ℕ
max_tasks = 16

-- "1 ≤ e ≤ D ≤ p ≤ 60,000 and f ≤ 60,000."
abbrev pub task_tests : Task → List Bool
task_tests x =
    leb 1 x.exec ∷ leb x.exec x.deadline ∷ leb x.deadline x.period ∷ leb x.period max_time
    ∷ leb x.phase max_time ∷ []

abbrev pub task_fits : Task → Bool
task_fits x = every (task_tests x)

-- the index of the first task that breaks its limits, or how many there are
abbrev pub first_bad : List Task → ℕ
first_bad [] = 0
first_bad (x ∷ xs) = cond (task_fits x) (suc (first_bad xs)) 0

-- "Kinds 1 to 3: s ≤ n, 1 ≤ B ≤ P ≤ 60,000."
abbrev pub budget_tests : Server → ℕ → List Bool
budget_tests s n =
    leb s.place n ∷ leb 1 s.budget ∷ leb s.budget s.period ∷ leb s.period max_time ∷ []

-- "Kind 0: s = n, P = B = 0."
abbrev pub background_tests : Server → ℕ → List Bool
background_tests s n = eqb s.place n ∷ eqb s.period 0 ∷ eqb s.budget 0 ∷ []

abbrev pub server_tests : Kind → Server → ℕ → List Bool
server_tests background s n = background_tests s n
server_tests polling s n = budget_tests s n
server_tests deferrable s n = budget_tests s n
server_tests sporadic s n = budget_tests s n
-- 3/13: "The server's limits .. are those of kinds 1 to 3"
server_tests returning s n = budget_tests s n

-- 3/13: "refusal 3 now begins at kind 5"
abbrev pub last_kind : ℕ
last_kind = 4

abbrev pub server_fits : Server → ℕ → Bool
server_fits s n = leb s.kind last_kind && every (server_tests (kind_of s.kind) s n)

-- Refusals "1 row count: no row, or more than 16", "2 bad row: .. the first such index comes with it", "3 bad server", in this order.
abbrev pub check_server : Server → ℕ → Result Unit Refusal
check_server s n = cond (server_fits s n) (Ok tt) (Err Refusal.BadServer)

abbrev pub check_tasks : List Task → Server → ℕ → Result Unit Refusal
check_tasks xs s n =
    cond (ltb (first_bad xs) (length xs)) (Err (Refusal.BadTask (first_bad xs))) (check_server s n)

abbrev pub check_table : List Task → Server → ℕ → Result Unit Refusal
check_table xs s n = cond (between 1 max_tasks n) (check_tasks xs s n) (Err Refusal.TaskCount)
