-- The work that waits, over lists of calls. A tick of any state whose figure is the sum over its queue leaves it so, and takes one off exactly
-- where its entry says a request; so does each accepted call, and a refused one hands the state on.
use Rattle.std.specs.Prelude.{ℕ, zero, suc, ◌+◌, ◌-◌, ◌≤◌, ◌≡◌, refl, Bool, true, false, cond, List, [], ◌∷◌, ◌++◌, map, length, Err, Ok, Result}
use Rattle.std.proofs.Common.{arith, sym, ap, subst, length-take}
use Rattle.lists.specs.Numbers.{bit_of}
use Rattle.lists.specs.Stretch.{how_many, count_cons}
use Rattle.queue.specs.declared.Request.{Request}
use Rattle.queue.specs.Queue.{max_waiting, max_backlog, waiting_work, waiting_of, requests_fit, presented}
use Rattle.queue.specs.Laws.{waiting_with, presented_length, fit-later, fit-presented, presented-work, some-work, most_work_lem}
use Rattle.table.specs.declared.Refusal.{Refusal}
use Rattle.table.specs.declared.Table.{Table}
use Rattle.table.specs.declared.State.{State}
use Rattle.table.specs.Limits.{max_tasks}
use Rattle.table.specs.Refusal.{passed}
use Rattle.table.specs.Model.{task_set_of, model_of, written}
use Rattle.table.specs.State.{fresh_state, table_check}
use Rattle.table.specs.Facts.{StateFacts, fit-facts}
use Rattle.rules.specs.declared.Turn.{Turn}
use Rattle.rules.specs.Tick.{to_request, occupant_of, turn_at}
use Rattle.rules.specs.Calls.{request_check, asked, ticks_check, ticked, state_after, tick_by, run_check, entry_by, run_state, waiting_call}
use Rattle.rules.proofs.Fitness.{queue-fit, queue-shorter, backlog-fit}
use Rattle.rules.proofs.Laws.{Accepted, request-accepted, Reached, started, asks, reached-fit}
use Rattle.rules.proofs.WaitingLaws.{request-waits, waiting-sum}
use Rattle.guarantee.specs.Calls.{Call, request, run, final, run_starts, starts_all, has_request, by_request}
use Rattle.guarantee.specs.Waiting.{state_after_all, sum_after, work_from, WaitingKept}
use Rattle.guarantee.proofs.Lift.{ran_at, reported}

-- ---- a state whose figure is the sum over its queue, with what keeps it so
pub record Figured (s : State) : Type 0 where
  pub requests : requests_fit s.progress.clock (waiting_of s.queue) ≡ true
  pub few : length (waiting_of s.queue) ≤ max_waiting
  pub sum : s.queue.backlog ≡ waiting_work (waiting_of s.queue)

pub figured-most : (s : State) → Figured s → s.queue.backlog ≤ max_backlog
figured-most s f = omega (arith, f.sum, f.few, most_work_lem s.progress.clock (waiting_of s.queue) f.requests)

fresh-figured : (t : Table) → Figured (fresh_state t)
fresh-figured t = record { requests = refl; few = omega arith; sum = refl }

-- ---- a tick
abbrev turn_of : State → Turn
turn_of s = turn_at (task_set_of s.table) (model_of s)

tick-figured : (s : State) → Figured s → Figured (state_after s)
tick-figured s f = record {
  requests = subst (λ (q : List Request). requests_fit (s.progress.clock + 1) q ≡ true) (sym waiting)
      (queue-fit (turn_of s) (s.progress.clock + 1) (waiting_of s.queue) (fit-later s.progress.clock (waiting_of s.queue) f.requests));
  few = omega (arith, ap length waiting, queue-shorter (turn_of s) (waiting_of s.queue), f.few);
  sum = subst (λ (q : List Request). (ticked s).next.backlog ≡ waiting_work q) (sym waiting)
      (backlog-fit (turn_of s) s.progress.clock (waiting_of s.queue) s.queue.backlog f.requests f.sum);
}
  where
    waiting : waiting_of (state_after s).queue ≡ (ticked s).next.queue
    waiting = waiting_with s.queue (ticked s).next.queue (ticked s).next.backlog

-- it takes one off where its entry says a request
entry-request : (turn : Turn) (q : List Request) (drops : ℕ) → by_request (entry_by (occupant_of turn q) drops) ≡ to_request turn
entry-request Turn.Nobody q drops = refl
entry-request (Turn.Task i) q drops = refl
entry-request Turn.Budget q drops = refl
entry-request Turn.Spare q drops = refl

tick-takes : (s : State) → Figured s → (state_after s).queue.backlog + bit_of (has_request (ran_at s)) ≡ s.queue.backlog
tick-takes s f = rw (entry-request (turn_of s) (waiting_of s.queue) (ticked s).drops) (go (to_request (turn_of s)) refl)
  where
    go : (b : Bool) → to_request (turn_of s) ≡ b → cond b (s.queue.backlog - 1) s.queue.backlog + cond b 1 0 ≡ s.queue.backlog
    go true e =
        omega (arith, f.sum, some-work s.progress.clock (waiting_of s.queue) f.requests (request-waits (task_set_of s.table) (model_of s) e))
    go false e = omega arith

-- ---- a request
request-figured : (s : State) (id work : ℕ) → Accepted s work → Figured (written s (asked id work (model_of s)))
request-figured s id work ok = record {
  requests = subst (λ (q : List Request). requests_fit s.progress.clock q ≡ true) (sym waiting)
      (fit-presented s.progress.clock id work (waiting_of s.queue) ok.allowed f.requests);
  few = omega (
    arith,
    ap length waiting,
    presented_length id work s.progress.clock (waiting_of s.queue),
    length-take s.queue.n s.queue.requests,
    ok.room,
  );
  sum = subst (λ (q : List Request). s.queue.backlog + work ≡ waiting_work q) (sym waiting)
      (omega (arith, f.backlog, presented-work id work s.progress.clock (waiting_of s.queue)));
}
  where
    f : StateFacts s
    f = fit-facts s ok.fits

    waiting : waiting_of (written s (asked id work (model_of s))).queue ≡ presented id work s.progress.clock (waiting_of s.queue)
    waiting = waiting_with s.queue (presented id work s.progress.clock (waiting_of s.queue)) (s.queue.backlog + work)

-- ---- lists of states before ticks: how many of these ticks go to a request
abbrev given : List State → ℕ
given xs = how_many has_request (map ran_at xs)

given_cons : (s : State) (xs : List State) → given (s ∷ xs) ≡ bit_of (has_request (ran_at s)) + given xs
given_cons s xs = count_cons (has_request (ran_at s)) (map has_request (map ran_at xs))

run-figured : (k : ℕ) (s : State) → Figured s → Figured (run_state k s)
run-figured zero s f = f
run-figured (suc k) s f = run-figured k (state_after s) (tick-figured s f)

run-takes : (k : ℕ) (s : State) (xs : List State) → Figured s → (run_state k s).queue.backlog + given (run_starts k s ++ xs) ≡ s.queue.backlog + given xs
run-takes zero s xs f = refl
run-takes (suc k) s xs f =
    omega (arith, given_cons s (run_starts k (state_after s) ++ xs), run-takes k (state_after s) xs (tick-figured s f), tick-takes s f)

-- ---- lists of calls
-- calls lead to the state z from one whose figure was `had`; `took` of their ticks go to a request, and `came` is the work that they bring: the
-- figure stays the sum, and what it had and what came is what it has and what ticks took
abbrev Goes : State → ℕ → ℕ → ℕ → Type 0
Goes z had took came = Figured z × (z.queue.backlog + took ≡ had + came)

balance : (calls : List Call) (s : State) → Figured s → Goes (final s calls) s.queue.backlog (given (starts_all s calls)) (work_from s calls)
balance [] s f = (f, refl)
balance (request id work ∷ cs) s f = go (passed (request_check s work)) refl (balance cs)
  where
    go : (b : Bool) → passed (request_check s work) ≡ b →
        ((v : State) → Figured v → Goes (final v cs) v.queue.backlog (given (starts_all v cs)) (work_from v cs)) →
        let v : State = cond b (written s (asked id work (model_of s))) s in
        Goes (final v cs) s.queue.backlog (given (starts_all v cs)) (cond b work 0 + work_from v cs)
    go true e on = let h = on _ (request-figured s id work (request-accepted s work e)) in (h.0, omega (arith, h.1))
    go false e on = let h = on s f in (h.0, omega (arith, h.1))
balance (Call.tick ∷ cs) s f = go (ticks_check s 1) (balance cs)
  where
    go : (c : Result Unit Refusal) → ((v : State) → Figured v → Goes (final v cs) v.queue.backlog (given (starts_all v cs)) (work_from v cs)) →
        let v : State = (tick_by c s).state in
        Goes (final v cs) s.queue.backlog (given (cond (passed c) (s ∷ []) [] ++ starts_all v cs)) (0 + work_from v cs)
    go (Ok tt) on =
        let h = on (state_after s) (tick-figured s f) in
        (h.0, omega (arith, h.1, given_cons s (starts_all (state_after s) cs), tick-takes s f))
    go (Err r) on = let h = on s f in (h.0, omega (arith, h.1))
balance (run k lent ∷ cs) s f = go (passed (run_check s k (length lent))) (balance cs)
  where
    go : (b : Bool) → ((v : State) → Figured v → Goes (final v cs) v.queue.backlog (given (starts_all v cs)) (work_from v cs)) →
        let v : State = cond b (run_state k s) s in
        Goes (final v cs) s.queue.backlog (given (cond b (run_starts k s) [] ++ starts_all v cs)) (0 + work_from v cs)
    go true on =
        let h = on (run_state k s) (run-figured k s f) in
        (h.0, omega (arith, h.1, run-takes k s (starts_all (run_state k s) cs) f))
    go false on = let h = on s f in (h.0, omega (arith, h.1))

-- the states that a list reaches
reached : (t : Table) (calls : List Call) (s : State) → Reached t s → Reached t (final s calls)
reached t [] s r = r
reached t (request id work ∷ cs) s r = reached t cs _ (asks id work r)
reached t (Call.tick ∷ cs) s r = reached t cs _ (Reached.ticks r)
reached t (run k lent ∷ cs) s r = reached t cs _ (Reached.runs k (length lent) r)

module _ (t : Table) (calls : List Call) where
  played : Goes (state_after_all t calls) 0 (given (starts_all (fresh_state t) calls)) (work_from (fresh_state t) calls)
  played = balance calls (fresh_state t) (fresh-figured t)

  abbrev s : State
  s = state_after_all t calls

  returned : length t.tasks ≡ max_tasks → passed (table_check t) ≡ true → waiting_call s ≡ Ok (sum_after t calls)
  returned z e = waiting-sum s (reached-fit t z e s (reached t calls (fresh_state t) started)).0

  pub kept : WaitingKept t calls
  kept = record {
    held = played.0.sum;
    returned = returned;
    balanced = omega (arith, played.1, ap (how_many has_request) (reported calls (fresh_state t)));
    most = omega (arith, figured-most s played.0);
  }
