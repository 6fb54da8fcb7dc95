-- The fresh state, the fit state (refusal 11) and set-up.
use Rattle.std.specs.Prelude.{ℕ, Bool, not, ◌&&◌, length, replicate, leb, ltb, Result}
use Rattle.lists.specs.Lists.{all_with}
use Rattle.lists.specs.Tests.{between}
use Rattle.server.specs.Limits.{last_clock, last_nr}
use Rattle.server.specs.declared.Server.{Server}
use Rattle.server.specs.declared.Sporadic.{Sporadic}
use Rattle.server.specs.declared.ServerState.{ServerState}
use Rattle.server.specs.Kind.{kind_of}
use Rattle.server.specs.Server.{fresh_server}
use Rattle.server.specs.Returns.{fresh_returns}
use Rattle.server.specs.Whole.{whole_fits}
use Rattle.queue.specs.Queue.{max_waiting, fresh_queue, requests_fit}
use Rattle.queue.specs.Steps.{backlog_fits}
use Rattle.table.specs.declared.Refusal.{Refusal}
use Rattle.table.specs.declared.Task.{Task}
use Rattle.table.specs.declared.Table.{Table}
use Rattle.table.specs.declared.State.{State}
use Rattle.table.specs.Limits.{max_tasks, first_bad, server_fits, check_table}
use Rattle.table.specs.Refusal.{passed, giving, Figures, ground_with, ground, no_ground}
use Rattle.table.specs.Model.{TaskSet, Model, task_set_of, model_of}

-- "A fresh state .. its clock, times and marks are 0, and nothing is open or waiting."
abbrev pub fresh_state : Table → State
fresh_state t = record {
  table = t;
  progress = record { left = replicate max_tasks 0; server = fresh_server (kind_of t.server.kind) t.server; clock = 0 };
  queue = fresh_queue;
  returns = fresh_returns;
}

-- refusals 1, 2 and 3 of a table
abbrev pub table_check : Table → Result Unit Refusal
table_check t = check_table (task_set_of t).tasks t.server t.n

-- the same in figures: 1 if there is no row or more than 16; else 2, with the first such index, if a row breaks its limits; else 3 if the
-- server breaks its limits; else 0
abbrev pub table_figures : Table → Figures
table_figures t =
    ground (not (between 1 max_tasks t.n)) 1
    (ground_with (ltb (first_bad (task_set_of t).tasks) (length (task_set_of t).tasks)) 2 (first_bad (task_set_of t).tasks)
    (ground (not (server_fits t.server t.n)) 3
    no_ground))

-- Refusal 11: "a row's work above e"
abbrev pub left_fits : Task → ℕ → Bool
left_fits x l = leb l x.exec

-- "b above B, .. tr or begin after the clock, or nr above 4,000,060,000"
abbrev pub sporadic_fits : ℕ → Sporadic → Bool
sporadic_fits clock x = leb x.tr clock && leb x.begin clock && leb x.nr last_nr

abbrev pub server_state_fits : Server → ℕ → ServerState → Bool
server_state_fits s clock x = leb x.budget s.budget && sporadic_fits clock x.sporadic

-- "a waiting work outside 1 to 60,000, .. a clock above its limit, an arrival .. after the clock"; 8/13: "A state whose stored figure differs
-- from that sum is unfit and gives refusal 11."
abbrev pub model_fits : TaskSet → Model → Bool
model_fits p m =
    leb m.clock last_clock && all_with left_fits p.tasks m.lefts
    && server_state_fits p.server m.clock m.server.part && requests_fit m.clock m.queue
    && backlog_fits m.backlog m.queue

-- 3/13: "A state of kind 4 is also unfit if .."
abbrev pub state_returns_fit : State → Bool
state_returns_fit s = whole_fits (kind_of s.table.server.kind) s.table.server s.progress.clock s.progress.server.budget s.returns

-- "An 11 is a state whose table breaks 1 to 3, ..", more than 24 waiting (6/13), or as above
abbrev pub fit : State → Bool
fit s =
    passed (table_check s.table) && leb s.queue.n max_waiting && state_returns_fit s
    && model_fits (task_set_of s.table) (model_of s)

-- Set-up checks 1, 2, 3, and gives the fresh state of a table that passes.
abbrev pub set_up_call : Table → Result State Refusal
set_up_call t = giving (table_check t) (fresh_state t)
