-- From ticks to lists of calls. The ticks that ran begin at a list of states; each is the state after the tick before it, but for
-- requests presented in between. What the calls report is what the tick's definition says at these states.
use Rattle.std.specs.Prelude.{ℕ, zero, suc, ◌+◌, ◌-◌, ◌<◌, ◌≤◌, ◌≡◌, refl, Bool, true, false, cond, List, [], ◌∷◌, ◌++◌, map, length, take, get_or, leb, Err, None, Ok, Result, Some}
use Rattle.std.proofs.Common.{arith, sym, ap, ◌∙◌, length-append, length-take, le-leb}
use Rattle.lists.specs.Lists.{overlay, zip_with, overlay_take, take_overlay}
use Rattle.queue.specs.declared.Request.{Request}
use Rattle.queue.specs.Queue.{waiting_of, waits, presented, served, finished}
use Rattle.queue.specs.Laws.{waiting_with}
use Rattle.server.specs.Returns.{max_held, held_of}
use Rattle.server.proofs.Written.{same-reread}
use Rattle.table.specs.declared.Refusal.{Refusal}
use Rattle.table.specs.declared.State.{State}
use Rattle.table.specs.Refusal.{passed}
use Rattle.table.specs.Model.{task_set_of, model_of, written}
use Rattle.rules.specs.declared.Entry.{Entry}
use Rattle.rules.specs.declared.Turn.{Turn}
use Rattle.rules.specs.Tick.{worked_queue, finish_of, turn_at}
use Rattle.rules.specs.Calls.{request_check, asked, ticks_check, ticked, state_after, tick_by, run_check, entry_of, run_state, run_entries}
use Rattle.guarantee.specs.Calls.{Call, request, run, final, Event, accepted, ran, tick_events, run_finishes, events, RanTick, finishes, ticks_from, run_starts, starts_all}

-- ---- what is reported of the tick of a state
abbrev pub queued : State → ℕ
queued s = length (waiting_of s.queue)

abbrev pub ran_at : State → RanTick
ran_at s = record { entry = entry_of (ticked s); before = queued s; after = queued (state_after s) }

-- a tick takes from the queue what it finishes
served-takes : (t : ℕ) (q : List Request) → length (served q) ≡ length q - finishes (finished t q)
served-takes t [] = refl
served-takes t (r ∷ q) = go (leb r.work 1)
  where
    go : (b : Bool) → length (cond b q (record { id = r.id; work = r.work - 1; arrival = r.arrival } ∷ q)) ≡
        suc (length q) - finishes (cond b (Some (record { id = r.id; response = t + 1 - r.arrival })) None)
    go true = omega arith
    go false = omega arith

worked-takes : (t : ℕ) (turn : Turn) (q : List Request) → length (worked_queue turn q) ≡ length q - finishes (finish_of t turn q)
worked-takes t Turn.Nobody q = omega arith
worked-takes t (Turn.Task i) q = omega arith
worked-takes t Turn.Budget q = served-takes t q
worked-takes t Turn.Spare q = served-takes t q

queued-tick : (s : State) → queued (state_after s) ≡ queued s - finishes (ticked s).finish
queued-tick s = ap length (waiting_with s.queue (ticked s).next.queue (ticked s).next.backlog)
    ∙ worked-takes s.progress.clock (turn_at (task_set_of s.table) (model_of s)) (waiting_of s.queue)

queued-request : (s : State) (id work : ℕ) → queued (written s (asked id work (model_of s))) ≡ suc (queued s)
queued-request s id work =
    ap length (waiting_with s.queue (presented id work s.progress.clock (waiting_of s.queue)) (s.queue.backlog + work))
    ∙ length-append (waiting_of s.queue) (record { id = id; work = work; arrival = s.progress.clock } ∷ []) ∙ one (queued s)
  where
    one : (n : ℕ) → n + 1 ≡ suc n
    one n = omega arith

-- one tick's report at the front
report : (s : State) (es : List Event) (xs : List State) → ticks_from (queued (state_after s)) es ≡ map ran_at xs →
    ticks_from (queued s) (ran (entry_of (ticked s)) (ticked s).finish ∷ es) ≡ map ran_at (s ∷ xs)
report s es xs h =
    ap (λ (n : ℕ). (record { entry = entry_of (ticked s); before = queued s; after = n }) ∷ ticks_from n es) (sym (queued-tick s))
    ∙ ap {B = List RanTick} (λ r. ran_at s ∷ r) h

entries_length : (k : ℕ) (s : State) → length (run_entries k s) ≡ k
entries_length zero s = refl
entries_length (suc k) s = ap suc (entries_length k (state_after s))

run-report : (k : ℕ) (s : State) (es : List Event) (xs : List State) → ticks_from (queued (run_state k s)) es ≡ map ran_at xs →
    ticks_from (queued s) (zip_with ran (run_entries k s) (run_finishes k s) ++ es) ≡ map ran_at (run_starts k s ++ xs)
run-report zero s es xs h = h
run-report (suc k) s es xs h =
    report s (zip_with ran (run_entries k (state_after s)) (run_finishes k (state_after s)) ++ es) (run_starts k (state_after s) ++ xs)
    (run-report k (state_after s) es xs h)

-- what a list of calls reports
pub reported : (calls : List Call) (s : State) → ticks_from (queued s) (events s calls) ≡ map ran_at (starts_all s calls)
reported [] s = refl
reported (request id work ∷ cs) s = go (passed (request_check s work)) (λ v. reported cs v)
  where
    go : (b : Bool) → ((v : State) → ticks_from (queued v) (events v cs) ≡ map ran_at (starts_all v cs)) →
        let v : State = cond b (written s (asked id work (model_of s))) s in
        ticks_from (queued s) (cond b (accepted ∷ []) [] ++ events v cs) ≡ map ran_at (starts_all v cs)
    go true ih =
        ap (λ (n : ℕ). ticks_from n (events (written s (asked id work (model_of s))) cs)) (sym (queued-request s id work))
        ∙ ih (written s (asked id work (model_of s)))
    go false ih = ih s
reported (Call.tick ∷ cs) s = go (ticks_check s 1) (λ v. reported cs v)
  where
    go : (c : Result Unit Refusal) → ((v : State) → ticks_from (queued v) (events v cs) ≡ map ran_at (starts_all v cs)) →
        ticks_from (queued s) (tick_events (tick_by c s).answer ++ events (tick_by c s).state cs)
        ≡ map ran_at (cond (passed c) (s ∷ []) [] ++ starts_all (tick_by c s).state cs)
    go (Ok tt) ih = report s (events (state_after s) cs) (starts_all (state_after s) cs) (ih (state_after s))
    go (Err r) ih = ih s
reported (run k lent ∷ cs) s = go (passed (run_check s k (length lent))) (λ v. reported cs v)
  where
    go : (b : Bool) → ((v : State) → ticks_from (queued v) (events v cs) ≡ map ran_at (starts_all v cs)) →
        ticks_from (queued s) (cond b (zip_with ran (take k (cond b (overlay (run_entries k s) lent) lent)) (run_finishes k s)) [] ++ events
        (cond b (run_state k s) s) cs)
        ≡ map ran_at (cond b (run_starts k s) [] ++ starts_all (cond b (run_state k s) s) cs)
    go true ih =
        ap (λ (es : List Entry). ticks_from (queued s) (zip_with ran es (run_finishes k s) ++ events (run_state k s) cs))
        (take_overlay k (run_entries k s) lent (entries_length k s))
        ∙ run-report k s (events (run_state k s) cs) (starts_all (run_state k s) cs) (ih (run_state k s))
    go false ih = ih s

-- ---- between two ticks
-- x is s but for requests at the queue's end
pub record Behind (s x : State) : Type 0 where
  pub table : x.table ≡ s.table
  pub progress : x.progress ≡ s.progress
  pub queue : waits (waiting_of s.queue) ≡ true → waits (waiting_of x.queue) ≡ true
  pub held : held_of x.returns ≡ held_of s.returns
  pub few : s.returns.n ≤ max_held → x.returns.n ≤ max_held

behind_self : (s : State) → Behind s s
behind_self s = record { table = refl; progress = refl; queue = λ h. h; held = refl; few = λ h. h }

behind_trans : (s x y : State) → Behind s x → Behind x y → Behind s y
behind_trans s x y a b = record { table = b.table ∙ a.table; progress = b.progress ∙ a.progress; queue = λ h. b.queue (a.queue h); held = b.held ∙ a.held; few = λ h. b.few (a.few h) }

behind-request : (s : State) (id work : ℕ) → Behind s (written s (asked id work (model_of s)))
behind-request s id work = record {
  table = refl;
  progress = ap (λ (ls : List ℕ). (record { left = ls; server = s.progress.server; clock = s.progress.clock }))
      (overlay_take s.table.n s.progress.left);
  queue = λ h. ap waits (waiting_with s.queue (presented id work s.progress.clock (waiting_of s.queue)) (s.queue.backlog + work)) ∙ more (waiting_of s.queue);
  held = same-reread s.returns;
  few = λ h. rw (le-leb _ _ h) (omega (arith, length-take s.returns.n s.returns.stretches, h));
}
  where
    more : (q : List Request) → waits (presented id work s.progress.clock q) ≡ true
    more [] = refl
    more (r ∷ q) = refl

-- each tick begins behind the state after the one before it, and z is behind the last
abbrev pub Linked : State → List State → State → Type 0
Linked s [] z = Behind s z
Linked s (x ∷ xs) z = Behind s x × Linked (state_after x) xs z

linked-behind : (s x z : State) (xs : List State) → Behind s x → Linked x xs z → Linked s xs z
linked-behind s x z [] b h = behind_trans s x z b h
linked-behind s x z (y ∷ xs) b h = (behind_trans s x y b h.0, h.1)

linked-run : (k : ℕ) (s z : State) (xs : List State) → Linked (run_state k s) xs z → Linked s (run_starts k s ++ xs) z
linked-run zero s z xs h = h
linked-run (suc k) s z xs h = (behind_self s, linked-run k (state_after s) z xs h)

pub linked : (calls : List Call) (s : State) → Linked s (starts_all s calls) (final s calls)
linked [] s = behind_self s
linked (request id work ∷ cs) s = go (passed (request_check s work)) (λ v. linked cs v)
  where
    go : (b : Bool) → ((v : State) → Linked v (starts_all v cs) (final v cs)) →
        let v : State = cond b (written s (asked id work (model_of s))) s in Linked s (starts_all v cs) (final v cs)
    go true ih =
        linked-behind s (written s (asked id work (model_of s))) (final (written s (asked id work (model_of s))) cs)
        (starts_all (written s (asked id work (model_of s))) cs) (behind-request s id work)
        (ih (written s (asked id work (model_of s))))
    go false ih = ih s
linked (Call.tick ∷ cs) s = go (ticks_check s 1) (λ v. linked cs v)
  where
    go : (c : Result Unit Refusal) → ((v : State) → Linked v (starts_all v cs) (final v cs)) →
        Linked s (cond (passed c) (s ∷ []) [] ++ starts_all (tick_by c s).state cs) (final (tick_by c s).state cs)
    go (Ok tt) ih = (behind_self s, ih (state_after s))
    go (Err r) ih = ih s
linked (run k lent ∷ cs) s = go (passed (run_check s k (length lent))) (λ v. linked cs v)
  where
    go : (b : Bool) → ((v : State) → Linked v (starts_all v cs) (final v cs)) →
        let v : State = cond b (run_state k s) s in Linked s (cond b (run_starts k s) [] ++ starts_all v cs) (final v cs)
    go true ih = linked-run k s (final (run_state k s) cs) (starts_all (run_state k s) cs) (ih (run_state k s))
    go false ih = ih s

-- by the number of the tick
pub linked-first : (s z : State) (xs : List State) → Linked s xs z → Behind s (get_or xs 0 z)
linked-first s z [] h = h
linked-first s z (x ∷ xs) h = h.0

pub linked-next : (s z : State) (xs : List State) → Linked s xs z → (u : ℕ) → u < length xs → Behind (state_after (get_or xs u z)) (get_or xs (suc u) z)
linked-next s z [] h u q = absurd (omega arith)
linked-next s z (x ∷ xs) h zero q = linked-first (state_after x) z xs h.1
linked-next s z (x ∷ xs) h (suc u) q = linked-next (state_after x) z xs h.1 u (omega arith)

pub linked-last : (z : State) (xs : List State) → get_or xs (length xs) z ≡ z
linked-last z [] = refl
linked-last z (x ∷ xs) = linked-last z xs
