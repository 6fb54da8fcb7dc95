-- Cases of the calls: each refusal in its order and at its limit, what a refused call leaves alone, and what a run writes.
use Rattle.std.specs.Prelude.{ℕ, zero, suc, ◌+◌, ◌≡◌, refl, true, false, List, [], ◌∷◌, map, replicate, Err, Result, Ok}
use Rattle.lists.specs.Lists.{overlay}
use Rattle.server.specs.declared.Stretch.{Stretch}
use Rattle.server.specs.Returns.{max_held, fresh_returns}
use Rattle.queue.specs.Cases.{filled}
use Rattle.table.specs.declared.State.{State}
use Rattle.table.specs.Refusal.{number, number_of}
use Rattle.table.specs.Model.{model_of}
use Rattle.table.specs.State.{fresh_state}
use Rattle.rules.specs.declared.Ticked.{Ticked}
use Rattle.rules.specs.declared.Entry.{Entry}
use Rattle.rules.specs.Calls.{request_call, tick_call, run_call, run_list, run_state, waiting_call, told}
use Rattle.rules.specs.Play.{task, server, table, code_of, state_at}
use Rattle.table.specs.declared.Refusal.{Refusal}

abbrev base : State
base = fresh_state (table (task 3 6 2 6 ∷ []) (server 2 0 5 2))

abbrev tight : State
tight = fresh_state (table (task 3 6 2 5 ∷ []) (server 2 0 5 2))

-- the fresh state with its clock, or with n requests waiting
abbrev at_clock : ℕ → State
at_clock c = record {
  table = base.table;
  progress = record { left = base.progress.left; server = base.progress.server; clock = c };
  queue = base.queue;
  returns = fresh_returns;
}

abbrev waiting : ℕ → State
waiting n = record {
  table = base.table;
  progress = base.progress;
  queue = filled (record { id = 7; work = 4; arrival = 0 }) n;
  returns = fresh_returns;
}

-- three requests of 4 ticks each waiting, and b for the figure
abbrev figured : ℕ → State
figured b = record {
  table = base.table;
  progress = base.progress;
  queue = record { requests = (waiting 3).queue.requests; n = 3; backlog = b };
  returns = fresh_returns;
}

-- a count above 32, which kind 4 alone refuses
abbrev oddly : ℕ → State
oddly kind = record {
  table = table (task 3 6 2 6 ∷ []) (server kind 0 5 2);
  progress = base.progress;
  queue = base.queue;
  returns = record { stretches = replicate max_held (record { start = 9; length = 0 }); n = 40 };
}

-- kind 4 at a clock, with ticks 0, 2, .. 62 held apart and a request waiting
abbrev apart : ℕ → ℕ → List Stretch
apart zero a = []
apart (suc n) a = record { start = a; length = 1 } ∷ apart n (a + 2)

abbrev full : ℕ → State
full c = record {
  table = table (task 3 6 2 6 ∷ []) (server 4 0 80 40);
  progress = record { left = base.progress.left; server = record { budget = 8; sporadic = base.progress.server.sporadic }; clock = c };
  queue = (waiting 1).queue;
  returns = record { stretches = apart max_held 0; n = max_held };
}

-- the same with the task open
abbrev crowded : ℕ → State
crowded c = record {
  table = (full c).table;
  progress = record { left = 2 ∷ replicate 15 0; server = (full c).progress.server; clock = c };
  queue = (full c).queue;
  returns = (full c).returns;
}

-- sporadic at clock 5, its budget gone without service since tr, and a request waiting
abbrev idly : State
idly = record {
  table = table (task 9 9 2 6 ∷ []) (server 3 0 5 2);
  progress = record {
    left = base.progress.left;
    server = record { budget = 0; sporadic = record { tr = 3; begin = 2; nr = 0; served = false; late = false; above = true; busy = true } };
    clock = 5;
  };
  queue = (waiting 1).queue;
  returns = fresh_returns;
}

abbrev refusal_of : Result Ticked Refusal → ℕ
refusal_of (Ok x) = 0
refusal_of (Err r) = number r

abbrev entry : ℕ → ℕ → ℕ → Entry
entry k i d = record { kind = k; id = i; drops = d }

pub record CallCases : Type 0 where
  -- a request: "11, 4, 5"
  pub asked-work : map (λ w. number_of (request_call base 7 w).answer) (0 ∷ 1 ∷ 60_000 ∷ 60_001 ∷ []) ≡ 4 ∷ 0 ∷ 0 ∷ 4 ∷ []
  -- 6/13: "Refusal 5 is given if 24 wait"; with 25 or, as before it, 64 the state is unfit, whatever the call
  pub asked-waiting : map (λ n. number_of (request_call (waiting n) 7 4).answer) (23 ∷ 24 ∷ 25 ∷ 64 ∷ []) ≡ 0 ∷ 5 ∷ 11 ∷ 11 ∷ []
  pub asked-full-work : map (λ n. number_of (request_call (waiting n) 7 0).answer) (24 ∷ 25 ∷ []) ≡ 4 ∷ 11 ∷ []
  pub asked-unfit : number_of (request_call (at_clock 4_000_000_001) 7 0).answer ≡ 11
  pub asked-last : number_of (request_call (at_clock 4_000_000_000) 7 4).answer ≡ 0
  pub asked-state : (model_of (request_call (at_clock 9) 7 4).state).queue ≡ record { id = 7; work = 4; arrival = 9 } ∷ []
  pub asked-refused : map (λ n. (request_call (waiting n) 7 4).state) (24 ∷ 25 ∷ []) ≡ waiting 24 ∷ waiting 25 ∷ []
  -- a tick: "11, 6"
  pub tick-last : refusal_of (tick_call (at_clock 3_999_999_999)).answer ≡ 0
  pub tick-spent : refusal_of (tick_call (at_clock 4_000_000_000)).answer ≡ 6
  pub tick-unfit : refusal_of (tick_call (at_clock 4_000_000_001)).answer ≡ 11
  pub tick-refused : (tick_call (at_clock 4_000_000_000)).state ≡ at_clock 4_000_000_000
  pub tick-waiting : map (λ n. refusal_of (tick_call (waiting n)).answer) (24 ∷ 25 ∷ []) ≡ 0 ∷ 11 ∷ []
  -- a run: "11, 6, 10"; a run of 0 is accepted at the last clock
  pub run_short : number_of (run_call base 3 2).answer ≡ 10
  pub run_room : number_of (run_call base 3 3).answer ≡ 0
  pub run_none : number_of (run_call (at_clock 4_000_000_000) 0 0).answer ≡ 0
  pub run-last : number_of (run_call (at_clock 3_999_999_998) 2 2).answer ≡ 0
  pub run-spent : number_of (run_call (at_clock 3_999_999_998) 3 2).answer ≡ 6
  pub run-unfit : number_of (run_call (at_clock 4_000_000_001) 1 0).answer ≡ 11
  pub run-waiting : map (λ n. number_of (run_call (waiting n) 1 1).answer) (24 ∷ 25 ∷ []) ≡ 0 ∷ 11 ∷ []
  pub run_writes :
      run_list (request_call (run_state 3 base) 7 4).state 5 (replicate 6 (entry 5 5 5)) ≡
      entry 2 7 0 ∷ entry 2 7 0 ∷ entry 2 7 0 ∷ entry 2 7 0 ∷ entry 1 0 0 ∷ entry 5 5 5 ∷ []
  pub run-refused : run_list base 3 (replicate 2 (entry 5 5 5)) ≡ replicate 2 (entry 5 5 5)
  pub run-refused-state : (run_call base 3 2).state ≡ base
  pub run_is-ticks : (run_call (waiting 2) 2 2).state ≡ state_at [] 2 (waiting 2)
  pub entry-drops :
      run_list (request_call (run_state 3 tight) 7 4).state 6 (replicate 6 (entry 5 5 5)) ≡
      entry 2 7 0 ∷ entry 2 7 0 ∷ entry 2 7 0 ∷ entry 2 7 0 ∷ entry 1 0 0 ∷ entry 0 0 1 ∷ []
  -- 3/13: the returns of the other kinds are not looked at, and stay
  pub odd_returns : map (λ k. refusal_of (tick_call (oddly k)).answer) (1 ∷ 2 ∷ 3 ∷ 4 ∷ []) ≡ 0 ∷ 0 ∷ 0 ∷ 11 ∷ []
  pub odd_stay : (tick_call (oddly 2)).state.returns ≡ (oddly 2).returns
  pub odd_asked : (request_call (oddly 2) 7 4).state.returns ≡ (oddly 2).returns
  -- 3/13: 32 held; 63 goes on the last, 64 and 79 would open another, and at 80 tick 0 has come back before the choice. 5/13: the request has
  -- 64 and 79 all the same, with no task open, where the budget stays and nothing is held
  pub full-returns : map (λ c. code_of (tick_call (full c)).answer) (63 ∷ 64 ∷ 79 ∷ 80 ∷ []) ≡ 9 ∷ 9 ∷ 9 ∷ 9 ∷ []
  pub full-budgets : map (λ c. (tick_call (full c)).state.progress.server.budget) (63 ∷ 64 ∷ 79 ∷ 80 ∷ []) ≡ 7 ∷ 8 ∷ 8 ∷ 8 ∷ []
  pub full-held : (tick_call (full 64)).state.returns ≡ (full 64).returns
  -- and a task below goes before it
  pub full-busy : map (λ c. code_of (tick_call (crowded c)).answer) (64 ∷ 79 ∷ 80 ∷ []) ≡ 1 ∷ 1 ∷ 9 ∷ []
  -- 5/13: an idle tick sets no sporadic mark: the budget is gone, nothing is served since tr, and only the marks of the last tick are set
  pub idle_unmarked : (tick_call idly).state.progress.server ≡
      record { budget = 0; sporadic = record { tr = 3; begin = 2; nr = 0; served = false; late = false; above = false; busy = false } }
  pub idle-serves : code_of (tick_call idly).answer ≡ 9
  -- 8/13: an accepted request adds its work, and one that is refused, for its work or for a full queue, adds none
  pub asked-adds : map (λ w. (request_call (waiting 3) 7 w).state.queue.backlog) (0 ∷ 1 ∷ 60_000 ∷ 60_001 ∷ []) ≡ 12 ∷ 13 ∷ 60_012 ∷ 12 ∷ []
  pub asked-full-adds : map (λ n. (request_call (waiting n) 7 4).state.queue.backlog) (23 ∷ 24 ∷ []) ≡ 96 ∷ 96 ∷ []
  -- a tick by the budget takes one off, and so do those of a run: here two by the budget and one idle
  pub tick-takes : (tick_call (waiting 3)).state.queue.backlog ≡ 11
  pub run-takes : map (λ k. (run_call (waiting 3) k 9).state.queue.backlog) (0 ∷ 1 ∷ 2 ∷ 3 ∷ []) ≡ 12 ∷ 11 ∷ 10 ∷ 9 ∷ []
  -- a figure one too small or too large is unfit, whatever the call
  pub asked-figured : map (λ b. number_of (request_call (figured b) 7 4).answer) (0 ∷ 11 ∷ 12 ∷ 13 ∷ []) ≡ 11 ∷ 11 ∷ 0 ∷ 11 ∷ []
  pub tick-figured : map (λ b. refusal_of (tick_call (figured b)).answer) (0 ∷ 11 ∷ 12 ∷ 13 ∷ []) ≡ 11 ∷ 11 ∷ 0 ∷ 11 ∷ []
  pub run-figured : map (λ b. number_of (run_call (figured b) 0 0).answer) (0 ∷ 11 ∷ 12 ∷ 13 ∷ []) ≡ 11 ∷ 11 ∷ 0 ∷ 11 ∷ []
  -- the waiting call: the figure, or 11 with 0 beside it, and no other refusal
  pub waiting-figured : map (λ b. number_of (waiting_call (figured b))) (0 ∷ 11 ∷ 12 ∷ 13 ∷ []) ≡ 11 ∷ 11 ∷ 0 ∷ 11 ∷ []
  pub waiting_work_lem : map (λ b. told (waiting_call (figured b))) (0 ∷ 11 ∷ 12 ∷ 13 ∷ []) ≡ 0 ∷ 0 ∷ 12 ∷ 0 ∷ []
  pub waiting_few : map (λ n. told (waiting_call (waiting n))) (0 ∷ 1 ∷ 24 ∷ 25 ∷ []) ≡ 0 ∷ 4 ∷ 96 ∷ 0 ∷ []
  pub waiting-last : map (λ c. number_of (waiting_call (at_clock c))) (4_000_000_000 ∷ 4_000_000_001 ∷ []) ≡ 0 ∷ 11 ∷ []

pub call_cases : CallCases
unfolding overlay
call_cases = record {
  asked-work = refl;
  asked-waiting = refl;
  asked-full-work = refl;
  asked-unfit = refl;
  asked-last = refl;
  asked-state = refl;
  asked-refused = refl;
  tick-last = refl;
  tick-spent = refl;
  tick-unfit = refl;
  tick-refused = refl;
  tick-waiting = refl;
  run_short = refl;
  run_room = refl;
  run_none = refl;
  run-last = refl;
  run-spent = refl;
  run-unfit = refl;
  run-waiting = refl;
  run_writes = refl;
  run-refused = refl;
  run-refused-state = refl;
  run_is-ticks = refl;
  entry-drops = refl;
  odd_returns = refl;
  odd_stay = refl;
  odd_asked = refl;
  full-returns = refl;
  full-budgets = refl;
  full-held = refl;
  full-busy = refl;
  idle_unmarked = refl;
  idle-serves = refl;
  asked-adds = refl;
  asked-full-adds = refl;
  tick-takes = refl;
  run-takes = refl;
  asked-figured = refl;
  tick-figured = refl;
  run-figured = refl;
  waiting-figured = refl;
  waiting_work_lem = refl;
  waiting_few = refl;
  waiting-last = refl;
}
