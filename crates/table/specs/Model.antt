-- What the structs stand for: the tasks in use, what is left of each, the requests that wait and their work, the server's state and the clock.
-- The rules are defined over this model; the structs' unused slots are no part of it.
use Rattle.std.specs.Prelude.{ℕ, List, take}
use Rattle.lists.specs.Lists.{overlay}
use Rattle.server.specs.declared.Server.{Server}
use Rattle.server.specs.Returns.{held_of, written_returns}
use Rattle.server.specs.Whole.{Whole, whole}
use Rattle.queue.specs.declared.Request.{Request}
use Rattle.queue.specs.Queue.{waiting_of, queue_with}
use Rattle.table.specs.declared.Task.{Task}
use Rattle.table.specs.declared.Table.{Table}
use Rattle.table.specs.declared.State.{State}

-- what never changes: the tasks, highest priority first, and the server
pub record TaskSet : Type 0 where
  pub tasks : List Task
  pub server : Server

-- what a call moves: each task's execution left, the requests in their order, the figure of the work that waits (8/13: "The state shall hold
-- this sum"), the server's state, the clock
pub record Model : Type 0 where
  pub lefts : List ℕ
  pub queue : List Request
  pub backlog : ℕ
  pub server : Whole
  pub clock : ℕ

-- what stands past the end of the tasks
abbrev pub no_task : Task
no_task = record { phase = 0; period = 0; exec = 0; deadline = 0 }

abbrev pub task_set_of : Table → TaskSet
task_set_of t = record { tasks = take t.n t.tasks; server = t.server }

abbrev pub model_of : State → Model
model_of s = record {
  lefts = take s.table.n s.progress.left;
  queue = waiting_of s.queue;
  backlog = s.queue.backlog;
  server = whole s.progress.server (held_of s.returns);
  clock = s.progress.clock;
}

-- the state with a model written over it: slots that the model does not reach keep what they held
abbrev pub written : State → Model → State
written s m = record {
  table = s.table;
  progress = record { left = overlay m.lefts s.progress.left; server = m.server.part; clock = m.clock };
  queue = queue_with s.queue m.queue m.backlog;
  returns = written_returns s.returns m.server.returns;
}
