-- The parts of a tick, put together: what the functions compute of the arrays is what the tick's definition says of the lists.
use Rattle.std.specs.Prelude.{Option, eqb, ◌∷◌, not}
use Prim.Native.Nat.{ℕ, zero, suc, ◌+◌, ◌-◌, ◌≤◌, ◌<◌, suc}
use native.Mathlib.Omega.{arith}
use mathlib.Core.Path.{◌≡◌, refl, sym, ap, ◌∙◌}
use mathlib.Core.Bool.{Bool, true, false, cond, not, ◌&&◌}
use mathlib.Core.List.{List, [], ◌∷◌}
use lib.ListN.{length, take, drop, get_or, length-set, get_or-append}
use lib.Seq.{set-append_left, length-take-le, take-length}
use lib.Dec.{ltb, eqb, eqb-suc-zero}
use borrow.Author.Tests.{leb-true, ltb-true, lt-ltb}
use Rattle.server.specs.Limits.{last_clock}
use Rattle.table.specs.Limits.{max_tasks}
use Rattle.lists.specs.Lists.{overlay, take_overlay, overlay_take, zip_length}
use Rattle.lists.specs.Tests.{and_split}
use Rattle.server.specs.declared.ServerState.{ServerState}
use Rattle.server.specs.Kind.{kind_of}
use Rattle.server.specs.declared.Returns.{Returns}
use Rattle.server.specs.Whole.{room_for}
use Rattle.server.specs.Advanced.{delay_by, replenished_by, advanced, moves, edge_within}
use Rattle.server.proofs.Written.{Delays, delays, edge_room, replenished_is, advance_is, unmoved}
use Rattle.server.specs.declared.Edge.{Edge}
use Rattle.server.specs.Consumed.{consumed}
use Rattle.server.specs.Within.{Timed}
use Rattle.server.proofs.Within.{part-timed, consumed-is-consume}
use Rattle.queue.specs.declared.Request.{Request}
use Rattle.queue.specs.declared.Queue.{Queue}
use Rattle.queue.specs.declared.Finished.{Finished}
use Rattle.queue.specs.Queue.{max_waiting, waits, waiting_of, queue_with}
use Rattle.queue.specs.Steps.{served_queue}
use Rattle.queue.specs.Laws.{waits-some, served_with}
use Rattle.table.specs.declared.Table.{Table}
use Rattle.table.specs.declared.Progress.{Progress}
use Rattle.table.specs.declared.State.{State}
use Rattle.table.specs.Model.{task_set_of, model_of}
use Rattle.table.specs.Facts.{TableFacts, table-facts, task_at_lem, StateFacts, fit-facts}
use Rattle.rules.specs.declared.Turn.{Turn}
use Rattle.rules.specs.declared.Occupant.{Occupant}
use Rattle.rules.specs.Tick.{opened, any_open, first_open, choose, by_budget, to_request, worked_tasks, worked_queue, worked_backlog, occupant_of, finish_of, turn_at, above_at, busy_at, server_at, may_at, seen_at, opened_all}
use Rattle.rules.specs.Calls.{ticked, said, state_after}
use Rattle.rules.proofs.ServerKept.{served-eligible}
use Rattle.rules.proofs.WaitingLaws.{request-waits}
use Rattle.scheduler.specs.Opening.{CalmFor, left_opened, drops_of, calm_of}
use Rattle.rules.specs.Laws.{Sized}
use Rattle.scheduler.specs.Parts.{may_run}
use Rattle.scheduler.specs.Laws.{may-fit}
use Rattle.scheduler.proofs.Due.{calm-on}
use Rattle.scheduler.proofs.Laws.{first_below}

-- some task is open: the first open one stands before the end
first_any : (ls : List ℕ) → ltb (first_open ls) (length ls) ≡ any_open ls
first_any ls = first_below (length ls) ls (omega arith) ∙ ap any_open (take-length ls)

-- ---- step 5 of the tasks: the array is worked on as the list is
worked-overlay : (turn : Turn) (ls old : List ℕ) → ((i : ℕ) → turn ≡ Turn.Task i → i < length ls) → worked_tasks turn (overlay ls old) ≡ overlay (worked_tasks turn ls) old
unfolding overlay
worked-overlay Turn.Nobody ls old h = refl
worked-overlay (Turn.Task i) ls old h =
    rw (get_or-append ls (drop (length ls) old) 0 i (h i refl), set-append_left ls (drop (length ls) old) i (get_or ls i 0 - 1) (h i refl), length-set ls i (get_or ls i 0 - 1))
worked-overlay Turn.Budget ls old h = refl
worked-overlay Turn.Spare ls old h = refl

choose-task : (above busy waiting may : Bool) (first n : ℕ) → (above ≡ true → first < n) → (busy ≡ true → first < n) →
    (i : ℕ) → choose above busy waiting may first ≡ Turn.Task i → i < n
choose-task true busy waiting may first n a b i e = let s : first ≡ i = cc in omega (arith, a refl)
choose-task false busy waiting may first n a b i e = go may busy b waiting e
  where
    go : (el bu : Bool) → (bu ≡ true → first < n) → (sp : Bool) → cond el Turn.Budget (cond bu (Turn.Task first) (cond sp Turn.Spare Turn.Nobody)) ≡ Turn.Task i → i < n
    go true bu b sp e = let z : ◌≡◌ {A = ℕ} 0 1 = cc in absurd (omega arith)
    go false true b sp e = let s : first ≡ i = cc in omega (arith, b refl)
    go false false b true e = let z : ◌≡◌ {A = ℕ} 0 1 = cc in absurd (omega arith)
    go false false b false e = let z : ◌≡◌ {A = ℕ} 0 1 = cc in absurd (omega arith)

and_apart : (a b c : Bool) → (a && b) && c ≡ b && (a && c)
and_apart true true c = refl
and_apart true false c = refl
and_apart false true c = refl
and_apart false false c = refl

-- ---- a state that may run one tick keeps its limits
pub may-facts : (s : State) → may_run 1 s ≡ true → StateFacts s
may-facts s e = fit-facts s (may-fit s e).0

pub may-table : (s : State) → may_run 1 s ≡ true → TableFacts s.table
may-table s e = table-facts s.table (may-facts s e).passes

pub may-clock : (s : State) → may_run 1 s ≡ true → s.progress.clock + 1 ≤ last_clock
may-clock s e = leb-true _ _ (may-fit s e).1

may_delay : (s : State) → may_run 1 s ≡ true → Delays (kind_of s.table.server.kind) s.table.server
may_delay s e =
    let limits = (may-table s e).server in
    delays s.table.server.kind s.table.server (λ h. omega (arith, limits.some h, limits.within))

-- ---- the calm after a tick
pub calm_after_lem : (s : State) (c : ℕ) → may_run 1 s ≡ true → length s.table.tasks ≡ max_tasks → CalmFor s.table s.progress c →
    CalmFor s.table (state_after s).progress (calm_of s c)
calm_after_lem s c may long calm =
    let limits = may-table s may in
    calm-on s.progress.clock s.table.tasks s.table.n c (λ i h. task_at_lem s.table i limits h (omega (arith, long, limits.count))) calm

-- ---- the queue after a tick: it stays, or its head is served
queue-stays : (q : Queue) → q.n ≤ length q.requests → queue_with q (waiting_of q) q.backlog ≡ q
queue-stays q h = rw (overlay_take q.n q.requests, length-take-le q.n q.requests h)

module _ (s : State) (room : s.queue.n ≤ max_waiting) (long : length s.queue.requests ≡ max_waiting) where
  -- a request that has the tick waits
  some-waits : to_request (turn_at (task_set_of s.table) (model_of s)) ≡ true → 1 ≤ s.queue.n
  some-waits e = waits-some s.queue (request-waits (task_set_of s.table) (model_of s) e)

  pub queue-after : (b : Bool) → to_request (turn_at (task_set_of s.table) (model_of s)) ≡ b → cond b (served_queue s.queue) s.queue ≡ (state_after s).queue
  queue-after b e = ap (λ (c : Bool). cond c (served_queue s.queue) s.queue) (sym e) ∙ go (turn_at (task_set_of s.table) (model_of s)) refl
    where
      go : (turn : Turn) → turn_at (task_set_of s.table) (model_of s) ≡ turn →
          cond (to_request turn) (served_queue s.queue) s.queue ≡ queue_with s.queue (worked_queue turn (waiting_of s.queue)) (worked_backlog turn s.queue.backlog)
      go Turn.Nobody t = sym (queue-stays s.queue (omega (arith, room, long)))
      go (Turn.Task i) t = sym (queue-stays s.queue (omega (arith, room, long)))
      go Turn.Budget t = served_with s.queue (some-waits (ap to_request t)) room
      go Turn.Spare t = served_with s.queue (some-waits (ap to_request t)) room

-- ---- the whole tick of a state that may run one
module _ (s : State) (may : may_run 1 s ≡ true) (z : Sized s) where
  abbrev t : Table
  t = s.table

  abbrev p : Progress
  p = s.progress

  abbrev q : Queue
  q = s.queue

  abbrev edge : Edge
  edge = edge_within (delay_by t.server) p.clock s.returns

  -- the execution left after steps 1 and 2, and the turn
  abbrev lefts : List ℕ
  lefts = opened_all p.clock (take t.n t.tasks) (take t.n p.left)

  abbrev now : Turn
  now = turn_at (task_set_of t) (model_of s)

  limits : TableFacts t
  limits = may-table s may

  facts : StateFacts s
  facts = may-facts s may

  long : length lefts ≡ t.n
  long =
      let a : length (take t.n t.tasks) ≡ t.n = length-take-le _ _ (rw z.tasks limits.count) in
      let b : length (take t.n p.left) ≡ t.n = length-take-le _ _ (rw z.left limits.count) in
      zip_length (opened p.clock) (take t.n t.tasks) (take t.n p.left) (a ∙ sym b) ∙ b

  above-is : ltb (first_open lefts) t.server.place ≡ above_at (task_set_of t) (model_of s)
  above-is = first_below t.server.place lefts (omega (arith, long, limits.server.place))

  busy-is : ltb (first_open lefts) t.n ≡ busy_at (task_set_of t) (model_of s)
  busy-is = ap (λ (n : ℕ). ltb (first_open lefts) n) (sym long) ∙ first_any lefts

  waits-is : ltb 0 q.n ≡ waits (waiting_of q)
  waits-is = some q.n q.requests (omega (arith, facts.waiting, z.requests))
    where
      some : (n : ℕ) (rs : List Request) → n ≤ length rs → ltb 0 n ≡ waits (take n rs)
      some zero rs h = refl
      some (suc n) [] h = absurd (omega arith)
      some (suc n) (r ∷ rs) h = lt-ltb 0 (suc n) (omega arith)

  within : (i : ℕ) → now ≡ Turn.Task i → i < length lefts
  within i e =
      choose-task (above_at (task_set_of t) (model_of s)) (busy_at (task_set_of t) (model_of s)) (waits (waiting_of q)) (may_at (task_set_of t) (model_of s)) (first_open lefts) (length lefts)
      (λ a. let b : first_open lefts < t.server.place = ltb-true _ _ (above-is ∙ a) in omega (arith, long, limits.server.place))
      (λ a. let b : first_open lefts < t.n = ltb-true _ _ (busy-is ∙ a) in omega (arith, long))
      i e

  -- step 3 of the server, and its eligibility, by the edge of the returns
  server-is : replenished_by t.server p.server p.clock (busy_at (task_set_of t) (model_of s)) edge.back ≡ (server_at (task_set_of t) (model_of s)).part
  server-is = replenished_is (kind_of t.server.kind) t.server p.clock (busy_at (task_set_of t) (model_of s)) p.server s.returns facts.returns (may_delay s may)

  eligible-is : (waits (waiting_of q) && edge.room) && ltb 0 (server_at (task_set_of t) (model_of s)).part.budget ≡ may_at (task_set_of t) (model_of s)
  eligible-is =
      and_apart (waits (waiting_of q)) edge.room _
      ∙ rw (edge_room (kind_of t.server.kind) t.server p.clock p.server s.returns facts.returns (may_delay s may)) refl

  timed : Timed p.clock (server_at (task_set_of t) (model_of s)).part.sporadic
  timed = part-timed (kind_of t.server.kind) t.server (model_of s).server p.clock (busy_at (task_set_of t) (model_of s)) facts.server

  consumed-is : consumed t.server (server_at (task_set_of t) (model_of s)).part (seen_at (task_set_of t) (model_of s)) ≡ (state_after s).progress.server
  consumed-is =
      consumed-is-consume t.server (server_at (task_set_of t) (model_of s)).part (seen_at (task_set_of t) (model_of s)) limits.server.period facts.clock timed

  -- none waits after the tick's work where the count is 0
  emptied-is : eqb (state_after s).queue.n 0 ≡ not (waits (worked_queue now (waiting_of q)))
  emptied-is = go (worked_queue now (waiting_of q))
    where
      go : (rs : List Request) → eqb (length rs) 0 ≡ not (waits rs)
      go [] = refl
      go (r ∷ rs) = eqb-suc-zero (length rs)

  -- the returns: as `advance` gives them, or as they were
  moves-after : cond (moves edge (by_budget now)) (advanced (delay_by t.server) p.clock (by_budget now) s.returns) s.returns ≡ (state_after s).returns
  moves-after = go (moves edge (by_budget now)) refl
    where
      go : (m : Bool) → moves edge (by_budget now) ≡ m → cond m (advanced (delay_by t.server) p.clock (by_budget now) s.returns) s.returns ≡ (state_after s).returns
      go true e =
          advance_is (kind_of t.server.kind) t.server (seen_at (task_set_of t) (model_of s)) p.server s.returns z.stretches facts.returns
          (may_delay s may) (omega (arith, may-clock s may))
          (λ q. (and_split (room_for (kind_of t.server.kind) p.clock (server_at (task_set_of t) (model_of s)).returns) _
          (served-eligible (task_set_of t) (model_of s) q)).0) e
      go false e =
          sym (unmoved (kind_of t.server.kind) t.server (seen_at (task_set_of t) (model_of s)) p.server s.returns z.stretches facts.returns (may_delay s may) e)

  -- what the code computes, one after the other: the edge g of the returns, what is left (l) and the first open task, the server x after
  -- step 3, whether it may serve, the turn
  module _ (g : Edge) (l : List ℕ) (first : ℕ) (x : ServerState) (able : Bool) (turn : Turn) (eg : g ≡ edge)
      (el : l ≡ left_opened p.clock t.tasks p.left t.n) (ef : first ≡ first_open (take t.n l))
      (ex : x ≡ replenished_by t.server p.server p.clock (ltb first t.n) g.back)
      (ea : able ≡ (ltb 0 q.n && g.room) && ltb 0 x.budget)
      (et : turn ≡ choose (ltb first t.server.place) (ltb first t.n) (ltb 0 q.n) able first) where
    first-is : first ≡ first_open lefts
    first-is = ef ∙ ap (λ (l : List ℕ). first_open (take t.n l)) el ∙ ap first_open (take_overlay t.n lefts p.left long)

    above : ltb first t.server.place ≡ above_at (task_set_of t) (model_of s)
    above = ap (λ (i : ℕ). ltb i t.server.place) first-is ∙ above-is

    busy : ltb first t.n ≡ busy_at (task_set_of t) (model_of s)
    busy = ap (λ (i : ℕ). ltb i t.n) first-is ∙ busy-is

    full : x ≡ (server_at (task_set_of t) (model_of s)).part
    full = ex ∙ rw (busy, eg) server-is

    pub turn-is : turn ≡ now
    turn-is = et ∙ rw (ea, full, eg, waits-is, eligible-is, above, busy, first-is) refl

    pub says-is : (o : Occupant) (d : ℕ) (f : Option Finished) → o ≡ occupant_of turn (waiting_of q) → d ≡ drops_of p.clock t.tasks p.left t.n →
        f ≡ finish_of p.clock turn (waiting_of q) → record { occupant = o; drops = d; finished = f } ≡ said (ticked s)
    says-is o d f eo ed ef = rw (eo, ed, ef, turn-is)

    -- step 5, where b says whether the server serves: what is left then (m), the queue (v), the server (y) and the returns (w)
    pub next-is : (b : Bool) (m : List ℕ) (v : Queue) (y : ServerState) (w : Returns) → b ≡ by_budget turn → m ≡ worked_tasks turn l →
        v ≡ cond (to_request turn) (served_queue q) q →
        y ≡ consumed t.server x (record { t = p.clock; above = ltb first t.server.place; busy = ltb first t.n; serves = b; waited = ltb 0 q.n; emptied = eqb v.n 0 }) →
        w ≡ cond (moves g b) (advanced (delay_by t.server) p.clock b s.returns) s.returns →
        record { table = t; progress = record { left = m; server = y; clock = p.clock + 1 }; queue = v; returns = w } ≡ state_after s
    next-is b m v y w eb em ev ey ew =
        let b1 : b ≡ by_budget now = eb ∙ ap by_budget turn-is in
        let m1 : m ≡ overlay (worked_tasks now lefts) p.left = em ∙ rw (turn-is, el) (worked-overlay now lefts p.left within) in
        let v1 : v ≡ (state_after s).queue = ev ∙ rw turn-is (queue-after s facts.waiting z.requests (to_request now) refl) in
        let y1 : y ≡ (state_after s).progress.server = ey ∙ rw (full, b1, above, busy, waits-is, v1, emptied-is) consumed-is in
        let w1 : w ≡ (state_after s).returns = ew ∙ rw (b1, eg) moves-after in
        rw (m1, y1, v1, w1)
