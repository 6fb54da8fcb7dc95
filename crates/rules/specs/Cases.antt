-- Cases of the tick, worked out apart from the definitions: with the marked ones they refuse each rule that is changed alone.
use Rattle.std.specs.Prelude.{ℕ, ◌≡◌, refl, true, false, List, [], ◌∷◌, map}
use Rattle.lists.specs.Lists.{overlay}
use Rattle.server.specs.declared.Server.{Server}
use Rattle.server.specs.Whole.{whole}
use Rattle.table.specs.declared.Task.{Task}
use Rattle.table.specs.Model.{model_of}
use Rattle.table.specs.State.{fresh_state}
use Rattle.rules.specs.Play.{task, server, table, Arrival, at, played, state_at, code_of, responses, budgets, backlogs}

-- each tick as a number, the responses, and the budget after each tick
abbrev shows : List Task → Server → List Arrival → ℕ → List ℕ × List ℕ × List ℕ
shows xs s cs k = (map code_of (played xs s cs k), responses (played xs s cs k), budgets cs k (fresh_state (table xs s)))

pub record TickCases : Type 0 where
  -- drop and release fall in one tick where D = p, and the drop counts
  pub drop_and_release : shows (task 0 2 1 2 ∷ task 0 2 2 2 ∷ []) (server 0 2 0 0) [] 6 ≡
      (1 ∷ 2 ∷ 11 ∷ 2 ∷ 11 ∷ 2 ∷ [], [], 0 ∷ 0 ∷ 0 ∷ 0 ∷ 0 ∷ 0 ∷ [])
  -- tasks open at their phases and periods; a deadline below the period cuts off
  pub phases : shows (task 2 5 2 3 ∷ task 1 4 2 2 ∷ []) (server 0 2 0 0) (at 0 7 1 ∷ at 9 8 2 ∷ []) 16 ≡
      (9 ∷ 2 ∷ 1 ∷ 11 ∷ 0 ∷ 2 ∷ 2 ∷ 1 ∷ 1 ∷ 2 ∷ 2 ∷ 9 ∷ 1 ∷ 1 ∷ 2 ∷ 19 ∷ [], 1 ∷ 7 ∷ [], 0 ∷ 0 ∷ 0 ∷ 0 ∷ 0 ∷ 0 ∷ 0 ∷ 0 ∷ 0 ∷ 0 ∷ 0 ∷ 0 ∷ 0 ∷ 0 ∷ 0 ∷ 0 ∷ [])
  -- background requests take only ticks in which no task is open
  pub background_last : shows (task 1 4 2 4 ∷ []) (server 0 1 0 0) (at 0 7 3 ∷ at 5 8 1 ∷ []) 14 ≡
      (9 ∷ 1 ∷ 1 ∷ 9 ∷ 9 ∷ 1 ∷ 1 ∷ 9 ∷ 0 ∷ 1 ∷ 1 ∷ 0 ∷ 0 ∷ 1 ∷ [], 5 ∷ 3 ∷ [], 0 ∷ 0 ∷ 0 ∷ 0 ∷ 0 ∷ 0 ∷ 0 ∷ 0 ∷ 0 ∷ 0 ∷ 0 ∷ 0 ∷ 0 ∷ 0 ∷ [])
  -- a polling server between two tasks: held under the task above, lost when the queue is empty
  pub polling_between : shows (task 0 8 3 4 ∷ task 4 3 3 3 ∷ []) (server 1 1 4 2) (at 3 7 2 ∷ at 8 8 4 ∷ at 13 9 1 ∷ []) 20 ≡
      (1 ∷ 1 ∷ 1 ∷ 9 ∷ 9 ∷ 2 ∷ 2 ∷ 12 ∷ 1 ∷ 1 ∷ 11 ∷ 9 ∷ 9 ∷ 19 ∷ 2 ∷ 2 ∷ 11 ∷ 1 ∷ 1 ∷ 19 ∷ [], 2 ∷ 12 ∷ [], 2 ∷ 2 ∷ 2 ∷ 1 ∷ 0 ∷ 0 ∷ 0 ∷ 0 ∷ 2 ∷ 2 ∷ 2 ∷ 1 ∷ 1 ∷ 0 ∷ 0 ∷ 0 ∷ 2 ∷ 2 ∷ 2 ∷ 1 ∷ [])
  -- a served tick that empties the queue takes the rest of the budget
  pub polling_empties : shows (task 1 4 1 4 ∷ task 0 16 16 16 ∷ []) (server 1 1 6 5) (at 3 7 2 ∷ at 8 8 1 ∷ []) 16 ≡
      (2 ∷ 1 ∷ 2 ∷ 2 ∷ 2 ∷ 1 ∷ 9 ∷ 9 ∷ 2 ∷ 1 ∷ 2 ∷ 2 ∷ 9 ∷ 1 ∷ 2 ∷ 2 ∷ [], 5 ∷ 5 ∷ [], 0 ∷ 0 ∷ 0 ∷ 0 ∷ 0 ∷ 0 ∷ 4 ∷ 0 ∷ 0 ∷ 0 ∷ 0 ∷ 0 ∷ 0 ∷ 0 ∷ 0 ∷ 0 ∷ [])
  -- a polling server above a task makes it miss its deadline
  pub polling_drops : shows (task 2 3 1 1 ∷ []) (server 1 0 5 3) (at 5 7 1 ∷ at 10 7 3 ∷ []) 16 ≡
      (0 ∷ 0 ∷ 1 ∷ 0 ∷ 0 ∷ 9 ∷ 10 ∷ 0 ∷ 1 ∷ 0 ∷ 9 ∷ 9 ∷ 19 ∷ 0 ∷ 1 ∷ 0 ∷ [], 1 ∷ 3 ∷ [], 0 ∷ 0 ∷ 0 ∷ 0 ∷ 0 ∷ 0 ∷ 0 ∷ 0 ∷ 0 ∷ 0 ∷ 2 ∷ 1 ∷ 0 ∷ 0 ∷ 0 ∷ 0 ∷ [])
  -- a deferrable server serves at the end of one period and the start of the next
  pub deferrable_back_to_back : shows (task 0 9 6 8 ∷ []) (server 2 0 7 2) (at 1 7 3 ∷ []) 16 ≡
      (1 ∷ 9 ∷ 9 ∷ 1 ∷ 1 ∷ 1 ∷ 1 ∷ 9 ∷ 10 ∷ 1 ∷ 1 ∷ 1 ∷ 1 ∷ 1 ∷ 1 ∷ 0 ∷ [], 7 ∷ [], 2 ∷ 1 ∷ 0 ∷ 0 ∷ 0 ∷ 0 ∷ 0 ∷ 1 ∷ 1 ∷ 1 ∷ 1 ∷ 1 ∷ 1 ∷ 1 ∷ 2 ∷ 2 ∷ [])
  -- the deferrable server keeps its budget while it idles
  pub deferrable_between : shows (task 0 6 2 6 ∷ task 0 9 3 9 ∷ []) (server 2 1 5 2) (at 4 7 1 ∷ at 9 8 5 ∷ []) 20 ≡
      (1 ∷ 1 ∷ 2 ∷ 2 ∷ 9 ∷ 2 ∷ 1 ∷ 1 ∷ 0 ∷ 9 ∷ 9 ∷ 9 ∷ 1 ∷ 1 ∷ 2 ∷ 9 ∷ 9 ∷ 2 ∷ 11 ∷ 1 ∷ [], 1 ∷ 8 ∷ [], 2 ∷ 2 ∷ 2 ∷ 2 ∷ 1 ∷ 2 ∷ 2 ∷ 2 ∷ 2 ∷ 1 ∷ 1 ∷ 0 ∷ 0 ∷ 0 ∷ 0 ∷ 1 ∷ 0 ∷ 0 ∷ 0 ∷ 0 ∷ [])
  -- the sporadic budget falls while the server idles after service
  pub sporadic_idles : shows (task 2 9 4 7 ∷ []) (server 3 1 3 2) (at 0 7 1 ∷ at 4 7 1 ∷ at 8 7 3 ∷ []) 16 ≡
      (9 ∷ 0 ∷ 1 ∷ 1 ∷ 1 ∷ 1 ∷ 9 ∷ 0 ∷ 9 ∷ 9 ∷ 9 ∷ 1 ∷ 1 ∷ 1 ∷ 1 ∷ 0 ∷ [], 1 ∷ 3 ∷ 3 ∷ [], 1 ∷ 0 ∷ 2 ∷ 2 ∷ 2 ∷ 2 ∷ 1 ∷ 0 ∷ 1 ∷ 0 ∷ 0 ∷ 2 ∷ 2 ∷ 2 ∷ 2 ∷ 2 ∷ [])
  -- te is the start of the stretch above
  pub sporadic_from-begin : shows (task 1 5 3 5 ∷ task 1 4 1 3 ∷ []) (server 3 1 3 1) (at 9 7 3 ∷ []) 16 ≡
      (0 ∷ 1 ∷ 1 ∷ 1 ∷ 10 ∷ 2 ∷ 1 ∷ 1 ∷ 1 ∷ 9 ∷ 2 ∷ 1 ∷ 1 ∷ 1 ∷ 9 ∷ 9 ∷ [], 7 ∷ [], 1 ∷ 1 ∷ 1 ∷ 1 ∷ 1 ∷ 1 ∷ 1 ∷ 1 ∷ 1 ∷ 0 ∷ 0 ∷ 0 ∷ 1 ∷ 1 ∷ 0 ∷ 0 ∷ [])
  -- te is tr where that is later
  pub sporadic_since-tr : shows (task 3 9 3 3 ∷ task 3 7 2 7 ∷ []) (server 3 1 3 1) (at 2 7 3 ∷ at 8 7 2 ∷ at 10 7 2 ∷ []) 18 ≡
      (0 ∷ 0 ∷ 9 ∷ 1 ∷ 1 ∷ 1 ∷ 9 ∷ 2 ∷ 2 ∷ 9 ∷ 9 ∷ 2 ∷ 1 ∷ 1 ∷ 1 ∷ 9 ∷ 9 ∷ 12 ∷ [], 8 ∷ 8 ∷ [], 1 ∷ 1 ∷ 0 ∷ 1 ∷ 1 ∷ 1 ∷ 0 ∷ 0 ∷ 0 ∷ 0 ∷ 0 ∷ 0 ∷ 0 ∷ 1 ∷ 1 ∷ 0 ∷ 0 ∷ 0 ∷ [])
  -- late, and replenished when the budget is spent
  pub sporadic_late : shows (task 3 9 5 5 ∷ task 3 9 1 8 ∷ []) (server 3 1 2 2) (at 0 7 1 ∷ at 0 7 4 ∷ at 4 7 5 ∷ at 11 7 5 ∷ []) 20 ≡
      (9 ∷ 9 ∷ 9 ∷ 1 ∷ 1 ∷ 1 ∷ 1 ∷ 1 ∷ 9 ∷ 9 ∷ 9 ∷ 19 ∷ 1 ∷ 1 ∷ 1 ∷ 1 ∷ 1 ∷ 9 ∷ 9 ∷ 9 ∷ [], 1 ∷ 10 ∷ 16 ∷ [], 1 ∷ 0 ∷ 1 ∷ 2 ∷ 2 ∷ 2 ∷ 2 ∷ 2 ∷ 1 ∷ 0 ∷ 1 ∷ 0 ∷ 2 ∷ 2 ∷ 2 ∷ 2 ∷ 2 ∷ 1 ∷ 0 ∷ 1 ∷ [])
  -- te + P is the tick of the first service
  pub sporadic_meets : shows (task 4 5 2 3 ∷ []) (server 3 1 2 1) (at 5 7 5 ∷ at 15 7 1 ∷ []) 20 ≡
      (0 ∷ 0 ∷ 0 ∷ 0 ∷ 1 ∷ 1 ∷ 9 ∷ 9 ∷ 9 ∷ 1 ∷ 1 ∷ 9 ∷ 9 ∷ 0 ∷ 1 ∷ 1 ∷ 9 ∷ 0 ∷ 0 ∷ 1 ∷ [], 8 ∷ 2 ∷ [], 1 ∷ 1 ∷ 1 ∷ 1 ∷ 1 ∷ 1 ∷ 0 ∷ 0 ∷ 0 ∷ 1 ∷ 1 ∷ 0 ∷ 0 ∷ 1 ∷ 1 ∷ 1 ∷ 0 ∷ 0 ∷ 1 ∷ 1 ∷ [])
  -- a task below that is open keeps the third ground away
  pub sporadic_under-tasks : shows (task 3 2 1 1 ∷ task 4 9 9 9 ∷ []) (server 3 1 4 2) (at 9 7 2 ∷ []) 16 ≡
      (0 ∷ 0 ∷ 0 ∷ 1 ∷ 2 ∷ 1 ∷ 2 ∷ 1 ∷ 2 ∷ 1 ∷ 9 ∷ 1 ∷ 9 ∷ 11 ∷ 2 ∷ 1 ∷ [], 4 ∷ [], 2 ∷ 2 ∷ 2 ∷ 2 ∷ 2 ∷ 2 ∷ 2 ∷ 2 ∷ 2 ∷ 2 ∷ 1 ∷ 1 ∷ 0 ∷ 2 ∷ 2 ∷ 2 ∷ [])
  -- 5/13: ticks that would be idle go to the head request, under each kind, and none of them takes budget, empties it or is held: ticks 2, 3
  -- and 8, and tick 9 but for the sporadic server, which serves it
  pub idle-each : map (λ k. shows (task 4 8 2 8 ∷ []) (server k 0 5 2) (at 0 7 7 ∷ at 8 8 1 ∷ []) 12) (1 ∷ 2 ∷ 3 ∷ 4 ∷ []) ≡
      (9 ∷ 9 ∷ 9 ∷ 9 ∷ 1 ∷ 9 ∷ 9 ∷ 1 ∷ 9 ∷ 9 ∷ 0 ∷ 0 ∷ [], 9 ∷ 2 ∷ [], 1 ∷ 0 ∷ 0 ∷ 0 ∷ 0 ∷ 1 ∷ 0 ∷ 0 ∷ 0 ∷ 0 ∷ 0 ∷ 0 ∷ [])
      ∷ (9 ∷ 9 ∷ 9 ∷ 9 ∷ 1 ∷ 9 ∷ 9 ∷ 1 ∷ 9 ∷ 9 ∷ 0 ∷ 0 ∷ [], 9 ∷ 2 ∷ [], 1 ∷ 0 ∷ 0 ∷ 0 ∷ 0 ∷ 1 ∷ 0 ∷ 0 ∷ 0 ∷ 0 ∷ 2 ∷ 2 ∷ [])
      ∷ (9 ∷ 9 ∷ 9 ∷ 9 ∷ 9 ∷ 9 ∷ 1 ∷ 1 ∷ 9 ∷ 9 ∷ 0 ∷ 0 ∷ [], 9 ∷ 2 ∷ [], 1 ∷ 0 ∷ 0 ∷ 0 ∷ 1 ∷ 0 ∷ 0 ∷ 0 ∷ 0 ∷ 1 ∷ 0 ∷ 0 ∷ [])
      ∷ (9 ∷ 9 ∷ 9 ∷ 9 ∷ 1 ∷ 9 ∷ 9 ∷ 1 ∷ 9 ∷ 9 ∷ 0 ∷ 0 ∷ [], 9 ∷ 2 ∷ [], 1 ∷ 0 ∷ 0 ∷ 0 ∷ 0 ∷ 0 ∷ 0 ∷ 0 ∷ 0 ∷ 0 ∷ 1 ∷ 2 ∷ []) ∷ []
  -- and a response can get longer by it: the first request has ticks 3 and 4, so that nobody waits at tick 6, where the budget is lost; without
  -- idle service the responses would be 5 and 2
  pub idle-longer : shows (task 0 6 3 6 ∷ []) (server 1 0 6 3) (at 3 7 2 ∷ at 7 8 1 ∷ []) 10 ≡
      (1 ∷ 1 ∷ 1 ∷ 9 ∷ 9 ∷ 0 ∷ 1 ∷ 1 ∷ 1 ∷ 9 ∷ [], 2 ∷ 3 ∷ [], 0 ∷ 0 ∷ 0 ∷ 0 ∷ 0 ∷ 0 ∷ 0 ∷ 0 ∷ 0 ∷ 0 ∷ [])
  -- 8/13: the figure after each tick of the same play under every kind, background too: a tick by the budget and an idle one take one off, a
  -- task's and nobody's none, and the request of tick 8 adds its work
  pub backlog-each : map (λ s. backlogs (at 0 7 7 ∷ at 8 8 1 ∷ []) 12 (fresh_state (table (task 4 8 2 8 ∷ []) s)))
      (server 0 1 0 0 ∷ server 1 0 5 2 ∷ server 2 0 5 2 ∷ server 3 0 5 2 ∷ server 4 0 5 2 ∷ []) ≡
      (6 ∷ 5 ∷ 4 ∷ 3 ∷ 3 ∷ 3 ∷ 2 ∷ 1 ∷ 1 ∷ 0 ∷ 0 ∷ 0 ∷ [])
      ∷ (6 ∷ 5 ∷ 4 ∷ 3 ∷ 3 ∷ 2 ∷ 1 ∷ 1 ∷ 1 ∷ 0 ∷ 0 ∷ 0 ∷ [])
      ∷ (6 ∷ 5 ∷ 4 ∷ 3 ∷ 3 ∷ 2 ∷ 1 ∷ 1 ∷ 1 ∷ 0 ∷ 0 ∷ 0 ∷ [])
      ∷ (6 ∷ 5 ∷ 4 ∷ 3 ∷ 2 ∷ 1 ∷ 1 ∷ 1 ∷ 1 ∷ 0 ∷ 0 ∷ 0 ∷ [])
      ∷ (6 ∷ 5 ∷ 4 ∷ 3 ∷ 3 ∷ 2 ∷ 1 ∷ 1 ∷ 1 ∷ 0 ∷ 0 ∷ 0 ∷ []) ∷ []
  -- the whole model after a play: what is left, what waits, the server and the clock
  pub sporadic_model : model_of (state_at (at 1 7 2 ∷ at 3 8 4 ∷ at 6 9 1 ∷ []) 8 (fresh_state (table (task 2 6 2 6 ∷ task 0 9 3 9 ∷ []) (server 3 1 5 2)))) ≡
      record {
        lefts = 0 ∷ 1 ∷ [];
        queue = record { id = 8; work = 2; arrival = 3 } ∷ record { id = 9; work = 1; arrival = 6 } ∷ [];
        backlog = 3;
        server = whole (record { budget = 0; sporadic = record { tr = 6; begin = 2; nr = 11; served = true; late = false; above = false; busy = true } }) [];
        clock = 8;
      }
  -- the same under polling: the sporadic fields stay 0
  pub polling_model : model_of (state_at (at 1 7 2 ∷ at 3 8 4 ∷ at 6 9 1 ∷ []) 7 (fresh_state (table (task 2 6 2 6 ∷ task 0 9 3 9 ∷ []) (server 1 1 5 3)))) ≡
      record {
        lefts = 0 ∷ 0 ∷ [];
        queue = record { id = 8; work = 4; arrival = 3 } ∷ record { id = 9; work = 1; arrival = 6 } ∷ [];
        backlog = 5;
        server = whole (record { budget = 1; sporadic = record { tr = 0; begin = 0; nr = 0; served = false; late = false; above = false; busy = false } }) [];
        clock = 7;
      }
  -- 5/13: under kind 4 ticks 0, 1 and 4 are by the budget and 2, 3 idle: tick 0 has come back, and two stretches are held
  pub returning_model : model_of (state_at (at 0 7 6 ∷ []) 5 (fresh_state (table (task 9 9 1 9 ∷ []) (server 4 0 4 2)))) ≡
      record {
        lefts = 0 ∷ [];
        queue = record { id = 7; work = 1; arrival = 0 } ∷ [];
        backlog = 1;
        server = whole (record { budget = 0; sporadic = record { tr = 0; begin = 0; nr = 0; served = false; late = false; above = false; busy = false } })
            (record { start = 1; length = 1 } ∷ record { start = 4; length = 1 } ∷ []);
        clock = 5;
      }

pub tick-cases : TickCases
unfolding overlay
tick-cases = record {
  drop_and_release = refl;
  phases = refl;
  background_last = refl;
  polling_between = refl;
  polling_empties = refl;
  polling_drops = refl;
  deferrable_back_to_back = refl;
  deferrable_between = refl;
  sporadic_idles = refl;
  sporadic_from-begin = refl;
  sporadic_since-tr = refl;
  sporadic_late = refl;
  sporadic_meets = refl;
  sporadic_under-tasks = refl;
  idle-each = refl;
  idle-longer = refl;
  backlog-each = refl;
  sporadic_model = refl;
  polling_model = refl;
  returning_model = refl;
}
