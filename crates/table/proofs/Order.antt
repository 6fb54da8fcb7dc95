-- The order in which a state may be tested: the table, the clock, the server, the queue, the tasks.
use Rattle.std.specs.Prelude.{Err, Result, ◌≡◌, refl, Bool, true, false, ◌&&◌, take, leb}
use Rattle.std.proofs.Common.{sym, ◌∙◌}
use Rattle.lists.specs.Lists.{all_with}
use Rattle.server.specs.Limits.{last_clock}
use Rattle.queue.specs.Queue.{max_waiting, waiting_of, requests_fit}
use Rattle.queue.specs.Steps.{backlog_fits, queue_fits}
use Rattle.table.specs.declared.State.{State}
use Rattle.table.specs.declared.Refusal.{Refusal}
use Rattle.table.specs.Refusal.{passed}
use Rattle.table.specs.State.{table_check, left_fits, server_state_fits, state_returns_fit, fit}

-- fitness in the order of the code: the table, the clock, the server, the queue, the tasks
pub fit-order : (s : State) → fit s ≡
    passed (table_check s.table)
    && (leb s.progress.clock last_clock
    && (server_state_fits s.table.server s.progress.clock s.progress.server
    && (queue_fits s.progress.clock s.queue
    && (state_returns_fit s
    && all_with left_fits (take s.table.n s.table.tasks) (take s.table.n s.progress.left)))))
fit-order s =
    order (passed (table_check s.table)) (leb s.queue.n max_waiting) (leb s.progress.clock last_clock)
    (all_with left_fits (take s.table.n s.table.tasks) (take s.table.n s.progress.left))
    (server_state_fits s.table.server s.progress.clock s.progress.server)
    (requests_fit s.progress.clock (waiting_of s.queue)) (backlog_fits s.queue.backlog (waiting_of s.queue)) (state_returns_fit s)
  where
    zero_and : (l r f : Bool) → (l && false && r) && f ≡ false
    zero_and true r f = refl
    zero_and false r f = refl

    last : (l r f : Bool) → (l && true && r) && f ≡ (r && f) && (true && l)
    last true true true = refl
    last true true false = refl
    last true false f = refl
    last false true true = refl
    last false true false = refl
    last false false f = refl

    none : (r l : Bool) → false ≡ r && (false && l)
    none true l = refl
    none false l = refl

    order : (a q c l v r f h : Bool) → (a && q && h) && (c && l && v && r && f) ≡ a && (c && (v && ((q && r && f) && (h && l))))
    order false q c l v r f h = refl
    order true false false l v r f h = refl
    order true false true l true r f h = refl
    order true false true l false r f h = refl
    order true true false l v r f true = refl
    order true true false l v r f false = refl
    order true true true l false r f true = zero_and l r f
    order true true true l false r f false = refl
    order true true true l true r f true = last l r f
    order true true true l true r f false = none (r && f) l

-- what the answer of the check says
pub unfit-table : (s : State) (a : Result Unit Refusal) (r : Refusal) → a ≡ table_check s.table → a ≡ Err r → false ≡ fit s
unfit-table s a r e f = sym (fit-order s ∙ rw (sym e ∙ f))
