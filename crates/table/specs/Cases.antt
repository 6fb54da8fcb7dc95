-- Cases of the limits, each at its edge: refusals 1, 2, 3 and 11, in their order.
use Rattle.std.specs.Prelude.{ℕ, ◌≡◌, refl, true, false, List, [], ◌∷◌, map, replicate, Result, Ok}
use Rattle.lists.specs.Lists.{overlay}
use Rattle.server.specs.Returns.{fresh_returns}
use Rattle.server.specs.Whole.{whole}
use Rattle.server.specs.declared.Server.{Server}
use Rattle.server.specs.declared.Stretch.{Stretch}
use Rattle.queue.specs.declared.Queue.{Queue}
use Rattle.queue.specs.Queue.{fresh_queue, waiting_of, queue_with}
use Rattle.queue.specs.Cases.{filled}
use Rattle.table.specs.declared.Task.{Task}
use Rattle.table.specs.declared.Table.{Table}
use Rattle.table.specs.declared.State.{State}
use Rattle.table.specs.declared.Refusal.{Refusal}
use Rattle.table.specs.Limits.{max_tasks, task_fits}
use Rattle.table.specs.Refusal.{number, value, number_of, value_of}
use Rattle.table.specs.Model.{model_of, written}
use Rattle.table.specs.State.{fresh_state, table_check, fit, set_up_call}

abbrev task : ℕ → ℕ → ℕ → ℕ → Task
task f p e d = record { phase = f; period = p; exec = e; deadline = d }

abbrev server : ℕ → ℕ → ℕ → ℕ → Server
server k s p b = record { kind = k; place = s; period = p; budget = b }

abbrev held : ℕ → ℕ → Stretch
held a n = record { start = a; length = n }

-- a table of n tasks, where a list of tasks is laid over blank ones
abbrev table : List Task → ℕ → Server → Table
table xs n s = record { tasks = overlay xs (replicate max_tasks (task 0 0 0 0)); n = n; server = s }

-- a refusal's number and value, 0 and 0 for a table that passes
abbrev says : {A : Type 0} → Result A Refusal → ℕ × ℕ
says c = (number_of c, value_of c)

abbrev good : Task
good = task 3 6 2 6

abbrev bad : Task
bad = task 3 6 2 7

abbrev fine : Server
fine = server 2 0 5 2

-- what the check says of two good tasks with a server
abbrev server_says : Server → ℕ
server_says s = number_of (table_check (table (good ∷ good ∷ []) 2 s))

-- ---- states that break one limit each, and states that stand at it
abbrev stood : Server → List ℕ → ℕ → ℕ → ℕ → ℕ → ℕ → Queue → State
stood s left b tr begin nr clock q = record {
  table = table (good ∷ []) 1 s;
  progress = record {
    left = overlay left (replicate max_tasks 0);
    server = record { budget = b; sporadic = record { tr = tr; begin = begin; nr = nr; served = true; late = true; above = true; busy = true } };
    clock = clock;
  };
  queue = q;
  returns = fresh_returns;
}

abbrev waiting : ℕ → ℕ → Queue
waiting w a = queue_with fresh_queue (record { id = 0; work = w; arrival = a } ∷ []) w

pub record LimitCases : Type 0 where
  -- "1 ≤ e ≤ D ≤ p ≤ 60,000 and f ≤ 60,000"
  pub tasks-fit : map task_fits (task 60_000 60_000 1 60_000 ∷ task 0 1 1 1 ∷ task 0 60_000 60_000 60_000 ∷ []) ≡ true ∷ true ∷ true ∷ []
  pub tasks-bad :
      map task_fits (task 0 6 0 6 ∷ task 0 6 3 2 ∷ task 0 6 2 7 ∷ task 0 60_001 2 6 ∷ task 60_001 6 2 6 ∷ []) ≡
      false ∷ false ∷ false ∷ false ∷ false ∷ []
  -- refusal 1: "no row, or more than 16"
  pub no_task_lem : says (table_check (table (bad ∷ []) 0 fine)) ≡ (1, 0)
  pub sixteen-tasks : says (table_check (table (replicate 16 good) 16 fine)) ≡ (0, 0)
  pub many_tasks : says (table_check (table (replicate 16 bad) 17 fine)) ≡ (1, 0)
  -- refusal 2: "the first such index comes with it"; a task past the n in use is not looked at
  pub second_bad : says (table_check (table (good ∷ bad ∷ bad ∷ []) 3 (server 9 9 9 9))) ≡ (2, 1)
  pub last-bad : says (table_check (table (good ∷ good ∷ bad ∷ []) 3 fine)) ≡ (2, 2)
  pub unused_bad : says (table_check (table (good ∷ good ∷ bad ∷ []) 2 fine)) ≡ (0, 0)
  -- refusal 3, kinds 1 to 3: "s ≤ n, 1 ≤ B ≤ P ≤ 60,000"; kind 0: "s = n, P = B = 0"; no other kind
  pub servers-fit :
      map server_says (server 0 2 0 0 ∷ server 1 2 5 5 ∷ server 2 0 60_000 60_000 ∷ server 3 1 1 1 ∷ []) ≡ 0 ∷ 0 ∷ 0 ∷ 0 ∷ []
  pub polling_bad : map server_says (server 1 3 5 2 ∷ server 1 2 5 0 ∷ server 1 2 5 6 ∷ server 1 2 60_001 2 ∷ []) ≡ 3 ∷ 3 ∷ 3 ∷ 3 ∷ []
  pub deferrable_bad : map server_says (server 2 3 5 2 ∷ server 2 2 5 0 ∷ server 2 2 5 6 ∷ server 2 2 60_001 2 ∷ []) ≡ 3 ∷ 3 ∷ 3 ∷ 3 ∷ []
  pub sporadic_bad : map server_says (server 3 3 5 2 ∷ server 3 2 5 0 ∷ server 3 2 5 6 ∷ server 3 2 60_001 2 ∷ []) ≡ 3 ∷ 3 ∷ 3 ∷ 3 ∷ []
  pub background_bad : map server_says (server 0 1 0 0 ∷ server 0 3 0 0 ∷ server 0 2 1 0 ∷ server 0 2 0 1 ∷ []) ≡ 3 ∷ 3 ∷ 3 ∷ 3 ∷ []
  -- 3/13: kind 4 as kinds 1 to 3, "refusal 3 now begins at kind 5"
  pub returning_fit : map server_says (server 4 2 5 5 ∷ server 4 0 60_000 1 ∷ []) ≡ 0 ∷ 0 ∷ []
  pub returning_bad : map server_says (server 4 3 5 2 ∷ server 4 2 5 0 ∷ server 4 2 5 6 ∷ server 4 2 60_001 2 ∷ []) ≡ 3 ∷ 3 ∷ 3 ∷ 3 ∷ []
  pub other-kinds : map server_says (server 5 0 5 2 ∷ server 5 2 0 0 ∷ []) ≡ 3 ∷ 3 ∷ []
  -- the numbers and values of document 01's table
  pub numbers :
      map number (Refusal.TaskCount ∷ Refusal.BadTask 5 ∷ Refusal.BadServer ∷ Refusal.BadWork ∷ Refusal.QueueFull ∷ Refusal.ClockSpent ∷ Refusal.ShortRecord ∷ Refusal.UnfitState ∷ []) ≡
      1 ∷ 2 ∷ 3 ∷ 4 ∷ 5 ∷ 6 ∷ 10 ∷ 11 ∷ []
  pub values :
      map value (Refusal.TaskCount ∷ Refusal.BadTask 5 ∷ Refusal.BadServer ∷ Refusal.BadWork ∷ Refusal.QueueFull ∷ Refusal.ClockSpent ∷ Refusal.ShortRecord ∷ Refusal.UnfitState ∷ []) ≡
      0 ∷ 5 ∷ 0 ∷ 0 ∷ 0 ∷ 0 ∷ 0 ∷ 0 ∷ []
  -- set-up: the fresh state with the answer; a refused table's state is unfit
  pub set_up-passes : says (set_up_call (table (good ∷ []) 1 fine)) ≡ (0, 0)
  pub set_up-fresh :
      set_up_call (table (good ∷ []) 1 fine) ≡ Ok (
      record {
        table = table (good ∷ []) 1 fine;
        progress = record {
          left = replicate max_tasks 0;
          server = record { budget = 2; sporadic = record { tr = 0; begin = 0; nr = 0; served = false; late = false; above = false; busy = false } };
          clock = 0;
        };
        queue = fresh_queue;
        returns = fresh_returns;
      })
  pub set_up_refuses : says (set_up_call (table (good ∷ bad ∷ []) 2 fine)) ≡ (2, 1)
  pub fresh-fits : fit (fresh_state (table (good ∷ []) 1 fine)) ≡ true
  pub refused-unfit : fit (fresh_state (table (good ∷ bad ∷ []) 2 fine)) ≡ false
  -- refusal 11: at each limit, and one past it
  pub at-limits : fit (stood fine (2 ∷ []) 2 4_000_000_000 4_000_000_000 4_000_060_000 4_000_000_000 (waiting 60_000 4_000_000_000)) ≡ true
  pub left-past : fit (stood fine (3 ∷ []) 2 0 0 0 9 fresh_queue) ≡ false
  pub left_unused : fit (stood fine (2 ∷ 99 ∷ []) 2 0 0 0 9 fresh_queue) ≡ true
  pub budget-past : fit (stood fine [] 3 0 0 0 9 fresh_queue) ≡ false
  pub tr-past : fit (stood fine [] 2 10 0 0 9 fresh_queue) ≡ false
  pub begin-past : fit (stood fine [] 2 0 10 0 9 fresh_queue) ≡ false
  pub nr-past : fit (stood fine [] 2 0 0 4_000_060_001 9 fresh_queue) ≡ false
  pub clock-past : fit (stood fine [] 2 0 0 0 4_000_000_001 fresh_queue) ≡ false
  pub work_none : fit (stood fine [] 2 0 0 0 9 (waiting 0 9)) ≡ false
  pub work-past : fit (stood fine [] 2 0 0 0 9 (waiting 60_001 9)) ≡ false
  pub arrival-past : fit (stood fine [] 2 0 0 0 9 (waiting 1 10)) ≡ false
  -- 6/13: 24 may wait, and 64, the limit before it, may not
  pub waiting-limits : map (λ n. fit (stood fine [] 2 0 0 0 9 (filled (record { id = 0; work = 1; arrival = 0 }) n))) (23 ∷ 24 ∷ 25 ∷ 64 ∷ []) ≡ true ∷ true ∷ false ∷ false ∷ []
  -- 8/13: one waits with 5 ticks of work, and the figure says so, or less or more; in a fresh queue it is 0
  pub figures : map (λ b. fit (stood fine [] 2 0 0 0 9 (queue_with (waiting 5 9) (waiting_of (waiting 5 9)) b))) (0 ∷ 4 ∷ 5 ∷ 6 ∷ 10 ∷ []) ≡ false ∷ false ∷ true ∷ false ∷ false ∷ []
  pub no_figure : map (λ b. fit (stood fine [] 2 0 0 0 9 (queue_with fresh_queue [] b))) (0 ∷ 1 ∷ []) ≡ true ∷ false ∷ []
  pub table-unfit : fit (stood (server 5 0 5 2) [] 2 0 0 0 9 fresh_queue) ≡ false
  -- 3/13: of kind 4 alone, held ticks plus b are B; here none is held and B is 2
  pub less-budget : map (λ k. fit (stood (server k 0 5 2) [] 1 0 0 0 9 fresh_queue)) (1 ∷ 2 ∷ 3 ∷ 4 ∷ []) ≡ true ∷ true ∷ true ∷ false ∷ []
  pub full-budget : map (λ k. fit (stood (server k 0 5 2) [] 2 0 0 0 9 fresh_queue)) (1 ∷ 2 ∷ 3 ∷ 4 ∷ []) ≡ true ∷ true ∷ true ∷ true ∷ []
  -- a model written over a state reads back, and the slots it does not reach stay
  pub written_held :
      (model_of (written (stood fine [] 1 0 0 0 9 fresh_queue) (record { lefts = 0 ∷ []; queue = []; backlog = 0; server = whole (stood fine [] 1 0 0 0 9 fresh_queue).progress.server (held 8 1 ∷ []); clock = 10 }))).server.returns
      ≡ held 8 1 ∷ []
  pub written_back :
      written (stood fine (1 ∷ 7 ∷ []) 2 0 0 0 9 (waiting 5 9)) (record { lefts = 2 ∷ []; queue = []; backlog = 3; server = whole (stood fine [] 1 0 0 0 9 fresh_queue).progress.server []; clock = 10 }) ≡
      record {
        table = table (good ∷ []) 1 fine;
        progress = (stood fine (2 ∷ 7 ∷ []) 1 0 0 0 10 fresh_queue).progress;
        queue = record { requests = (waiting 5 9).requests; n = 0; backlog = 3 };
        returns = fresh_returns;
      }

pub limit_cases : LimitCases
unfolding overlay
limit_cases = record {
  tasks-fit = refl;
  tasks-bad = refl;
  no_task_lem = refl;
  sixteen-tasks = refl;
  many_tasks = refl;
  second_bad = refl;
  last-bad = refl;
  unused_bad = refl;
  servers-fit = refl;
  polling_bad = refl;
  deferrable_bad = refl;
  sporadic_bad = refl;
  background_bad = refl;
  returning_fit = refl;
  returning_bad = refl;
  other-kinds = refl;
  numbers = refl;
  values = refl;
  set_up-passes = refl;
  set_up-fresh = refl;
  set_up_refuses = refl;
  fresh-fits = refl;
  refused-unfit = refl;
  at-limits = refl;
  left-past = refl;
  left_unused = refl;
  budget-past = refl;
  tr-past = refl;
  begin-past = refl;
  nr-past = refl;
  clock-past = refl;
  work_none = refl;
  work-past = refl;
  arrival-past = refl;
  waiting-limits = refl;
  figures = refl;
  no_figure = refl;
  table-unfit = refl;
  less-budget = refl;
  full-budget = refl;
  written_held = refl;
  written_back = refl;
}
