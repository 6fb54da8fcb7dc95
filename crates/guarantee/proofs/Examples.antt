-- The guarantee's hypothesis can be met under each kind of server by a table whose requests load it, and a table that is not admitted
-- can drop. Of request 2/13: what tasks above the server do not notice under each kind, and that a task below does. Of request 8/13: the figure
-- after a list. All by computation.
use Rattle.std.specs.Prelude.{ℕ, zero, suc, ◌+◌, ◌-◌, ◌≤◌, ◌<◌, ◌≡◌, refl, Bool, true, false, cond, ◌&&◌, List, [], ◌∷◌, map, ltb, length, replicate, Err}
use Rattle.std.proofs.Common.{arith, ap, ltb-true}
use Rattle.lists.specs.Lists.{overlay, all}
use Rattle.lists.specs.Stretch.{stretch, how_many, tally}
use Rattle.table.specs.declared.Table.{Table}
use Rattle.table.specs.declared.Refusal.{Refusal}
use Rattle.bounds.specs.Admission.{admission_of}
use Rattle.rules.specs.declared.Entry.{Entry}
use Rattle.rules.specs.Calls.{waiting_call, told}
use Rattle.rules.specs.Play.{task, server, table}
use Rattle.guarantee.specs.Calls.{Call, request, tick, run, RanTick, ticks, tick_at, clock_after, has_task, has_request}
use Rattle.guarantee.specs.Guarantee.{bound_at, Loaded, by_budget_in, Guarantee}
use Rattle.guarantee.specs.Unnoticed.{accepted_ticks, runs_in, dropped_in, Unnoticed}
use Rattle.guarantee.specs.Waiting.{state_after_all, sum_after, accepted_work}
use Rattle.guarantee.proofs.Kept.{guarantee, unnoticed}

-- one row 3, 6, 2, D
abbrev one : ℕ → ℕ → ℕ → ℕ → ℕ → Table
one D kind place P B = table (task 3 6 2 D ∷ []) (server kind place P B)

-- "server s 0, P 5, B 2 (background: s 1, P 0, B 0)"
abbrev marked : ℕ → Table
marked zero = one 6 0 1 0 0
marked (suc k) = one 6 (suc k) 0 5 2

abbrev lent : ℕ → List Entry
lent k = replicate k (record { kind = 9; id = 9; drops = 9 })

-- more work than the ticks can serve, calls that are refused (no work; a short record) among the others
abbrev load : List Call
load = request 7 40 ∷ request 8 0 ∷ tick ∷ run 9 (lent 4) ∷ run 9 (lent 12) ∷ request 9 1 ∷ run 0 [] ∷ run 5 (lent 5) ∷ []

-- ---- each kind: admitted, with these bounds; fifteen ticks run; so many of them serve a request, and so many the row
abbrev loaded : ℕ → List ℕ
loaded kind =
    bound_at (marked kind) 0 ∷ (admission_of (marked kind)).serverbound ∷ clock_after (marked kind) load ∷ length (ticks (marked kind) load)
    ∷ how_many has_request (ticks (marked kind) load) ∷ how_many (has_task 0) (ticks (marked kind) load) ∷ []

admitted-each : map (λ (k : ℕ). (admission_of (marked k)).admitted) (0 ∷ 1 ∷ 2 ∷ 3 ∷ 4 ∷ []) ≡ true ∷ true ∷ true ∷ true ∷ true ∷ []
unfolding overlay
admitted-each = refl

loaded-each : map loaded (0 ∷ 1 ∷ 2 ∷ 3 ∷ 4 ∷ []) ≡
    (2 ∷ 0 ∷ 15 ∷ 15 ∷ 11 ∷ 4 ∷ []) ∷ (4 ∷ 2 ∷ 15 ∷ 15 ∷ 11 ∷ 4 ∷ []) ∷ (6 ∷ 2 ∷ 15 ∷ 15 ∷ 11 ∷ 4 ∷ []) ∷ (4 ∷ 2 ∷ 15 ∷ 15 ∷ 11 ∷ 4 ∷ [])
    ∷ (4 ∷ 2 ∷ 15 ∷ 15 ∷ 11 ∷ 4 ∷ []) ∷ []
unfolding overlay
loaded-each = refl

-- the queue is never empty from tick 5 to tick 9; a request has two of these ticks by the budget and, with those that would be idle, four in all (5/13)
abbrev waiting : RanTick → Bool
waiting x = ltb 0 x.before && ltb 0 x.after

backlogged : map (λ (k : ℕ). all waiting (stretch 5 5 (ticks (marked k) load))) (1 ∷ 2 ∷ []) ≡ true ∷ true ∷ []
unfolding overlay
backlogged = refl

served : map (λ (k : ℕ). tally (by_budget_in (marked k) load) 5 5) (1 ∷ 2 ∷ []) ≡ 2 ∷ 2 ∷ []
unfolding overlay
served = refl

given : map (λ (k : ℕ). how_many has_request (stretch 5 5 (ticks (marked k) load))) (1 ∷ 2 ∷ []) ≡ 4 ∷ 4 ∷ []
unfolding overlay
given = refl

-- under polling this period is one that demand 3 speaks of, and the theorem promises both counts of it
waits-after : (k : ℕ) → k < 5 → 0 < (tick_at (marked 1) load (5 + k)).after
unfolding overlay
waits-after zero h = ltb-true 0 _ refl
waits-after (suc zero) h = ltb-true 0 _ refl
waits-after (suc (suc zero)) h = ltb-true 0 _ refl
waits-after (suc (suc (suc zero))) h = ltb-true 0 _ refl
waits-after (suc (suc (suc (suc zero)))) h = ltb-true 0 _ refl
waits-after (suc (suc (suc (suc (suc k))))) h = absurd (omega arith)

loaded-period : Loaded (marked 1) load 5
unfolding overlay
loaded-period =
    let ran : clock_after (marked 1) load ≡ 15 = refl in
    (refl, refl, omega (arith, ran), (ltb-true 0 _ refl, λ u from before. omega (arith, waits-after (u - 5) (omega arith), ap (λ (v : ℕ). (tick_at (marked 1) load v).after) (same u from))))
  where
    same : (u : ℕ) → 5 ≤ u → 5 + (u - 5) ≡ u
    same u h = omega arith

promised : (tally (by_budget_in (marked 1) load) 5 5 ≡ 2) × (2 ≤ how_many has_request (stretch 5 5 (ticks (marked 1) load)))
unfolding overlay
promised = ((guarantee (marked 1) refl load).budget 5 loaded-period, (guarantee (marked 1) refl load).atleast 5 loaded-period)

-- so the theorem applies, to these calls and to every other list
kept-each : (calls : List Call) → Guarantee (marked 0) calls × Guarantee (marked 1) calls × Guarantee (marked 2) calls × Guarantee (marked 3) calls × Guarantee (marked 4) calls
unfolding overlay
kept-each calls = (guarantee (marked 0) refl calls, guarantee (marked 1) refl calls, guarantee (marked 2) refl calls, guarantee (marked 3) refl calls, guarantee (marked 4) refl calls)

-- ---- 6/13: "The bounds hold with the shorter queue, refused requests included": 25 requests before the first tick, of which 24 are taken,
-- then nine ticks. The row's job of tick 3 has its two ticks within its bound
abbrev presents : ℕ → List Call
presents zero = run 9 (lent 9) ∷ []
presents (suc n) = request n 1 ∷ presents n

taken-each : map (λ (k : ℕ). map (λ (n : ℕ). (tick_at (marked k) (presents n) 0).before) (23 ∷ 24 ∷ 25 ∷ [])) (0 ∷ 1 ∷ 2 ∷ 3 ∷ 4 ∷ []) ≡
    (23 ∷ 24 ∷ 24 ∷ []) ∷ (23 ∷ 24 ∷ 24 ∷ []) ∷ (23 ∷ 24 ∷ 24 ∷ []) ∷ (23 ∷ 24 ∷ 24 ∷ []) ∷ (23 ∷ 24 ∷ 24 ∷ []) ∷ []
unfolding overlay
taken-each = refl

in_time : how_many (has_task 0) (stretch 3 6 (ticks (marked 2) (presents 25))) ≡ 2
unfolding overlay
in_time = (guarantee (marked 2) refl (presents 25)).whole 0 3 (omega arith) refl (omega arith)

-- ---- "With D = 5 deferrable: bound 0, and tick 8 drops one"
abbrev tight : Table
tight = one 5 2 0 5 2

abbrev late : List Call
late = run 3 (lent 3) ∷ request 7 4 ∷ run 6 (lent 6) ∷ []

refused : (admission_of tight).admitted ≡ false
unfolding overlay
refused = refl

no_bound : bound_at tight 0 ≡ 0
unfolding overlay
no_bound = refl

drops : map (λ (x : RanTick). x.entry.drops) (ticks tight late) ≡ 0 ∷ 0 ∷ 0 ∷ 0 ∷ 0 ∷ 0 ∷ 0 ∷ 0 ∷ 1 ∷ []
unfolding overlay
drops = refl

-- ---- request 2/13: tasks 0 and 1 stand above the server, and task 1 cannot be done by its deadline: the table is not admitted. Task 2
-- stands at the server's place, below it; under background service it is above too.
abbrev crowded : ℕ → Table
crowded zero = table (task 0 4 2 4 ∷ task 0 4 2 3 ∷ task 0 4 1 4 ∷ []) (server 0 3 0 0)
crowded (suc k) = table (task 0 4 2 4 ∷ task 0 4 2 3 ∷ task 0 4 1 4 ∷ []) (server (suc k) 2 4 2)

-- nine ticks without a request, and nine with more work than can be served, refused calls among them
abbrev calm : List Call
calm = run 9 (lent 9) ∷ []

abbrev pressed : List Call
pressed = request 7 40 ∷ request 8 0 ∷ tick ∷ run 5 (lent 4) ∷ run 3 (lent 3) ∷ request 9 1 ∷ run 0 [] ∷ run 5 (lent 7) ∷ []

-- under each kind
abbrev each : {A : Type 0} → (Table → A) → List A
each f = map (λ (k : ℕ). f (crowded k)) (0 ∷ 1 ∷ 2 ∷ 3 ∷ 4 ∷ [])

abbrev alike : {A : Type 0} → A → List A
alike a = each (λ _. a)

not_admitted : each (λ t. (admission_of t).admitted) ≡ alike false
unfolding overlay
not_admitted = refl

nine_ticks : (each (λ t. accepted_ticks t calm) ≡ alike 9) × (each (λ t. accepted_ticks t pressed) ≡ alike 9)
unfolding overlay
nine_ticks = (refl, refl)

-- the numbers that pass, of the n from u on
abbrev those : (ℕ → Bool) → ℕ → ℕ → List ℕ
those f u zero = []
those f u (suc n) = cond (f u) (u ∷ those f (suc u) n) (those f (suc u) n)

-- the ticks that task i has, and those in which it is dropped
abbrev its_ticks : List Call → ℕ → List (List ℕ)
its_ticks calls i = each (λ t. those (runs_in t calls i) 0 9)

abbrev its_drops : List Call → ℕ → List (List ℕ)
its_drops calls i = each (λ t. those (dropped_in t calls i) 0 9)

-- task 1, above the server: ticks 2 and 6, and dropped in ticks 3 and 7, in both lists
above-runs : (its_ticks calm 1 ≡ alike (2 ∷ 6 ∷ [])) × (its_ticks pressed 1 ≡ alike (2 ∷ 6 ∷ []))
unfolding overlay
above-runs = (refl, refl)

above-dropped : (its_drops calm 1 ≡ alike (3 ∷ 7 ∷ [])) × (its_drops pressed 1 ≡ alike (3 ∷ 7 ∷ []))
unfolding overlay
above-dropped = (refl, refl)

-- as the theorem says: of these two lists under each kind, for example of task 1 and tick 6
unnoticed-each : Unnoticed (crowded 0) calm pressed × Unnoticed (crowded 1) calm pressed × Unnoticed (crowded 2) calm pressed × Unnoticed (crowded 3) calm pressed × Unnoticed (crowded 4) calm pressed
unfolding overlay
unnoticed-each =
    (unnoticed (crowded 0) calm pressed refl, unnoticed (crowded 1) calm pressed refl, unnoticed (crowded 2) calm pressed refl, unnoticed (crowded 3) calm pressed refl, unnoticed (crowded 4) calm pressed refl)

above_same : runs_in (crowded 2) calm 1 6 ≡ runs_in (crowded 2) pressed 1 6
unfolding overlay
above_same = unnoticed-each.2.runs 1 6 (omega arith, omega arith) (omega arith)

-- task 2, below it under kinds 1 to 4: ticks 3 and 7 and no drop without requests, no tick and dropped in ticks 4 and 8 with them
below-runs : (its_ticks calm 2 ≡ alike (3 ∷ 7 ∷ [])) × (its_ticks pressed 2 ≡ (3 ∷ 7 ∷ []) ∷ [] ∷ [] ∷ [] ∷ [] ∷ [])
unfolding overlay
below-runs = (refl, refl)

below-dropped : (its_drops calm 2 ≡ alike []) × (its_drops pressed 2 ≡ [] ∷ (4 ∷ 8 ∷ []) ∷ (4 ∷ 8 ∷ []) ∷ (4 ∷ 8 ∷ []) ∷ (4 ∷ 8 ∷ []) ∷ [])
unfolding overlay
below-dropped = (refl, refl)

-- so the drops that are reported, which hold all tasks, differ: here under deferrable service
abbrev figures : List Call → List ℕ
figures calls = map (λ (x : RanTick). x.entry.drops) (ticks (crowded 2) calls)

reported_differ : (figures calm ≡ 0 ∷ 0 ∷ 0 ∷ 1 ∷ 0 ∷ 0 ∷ 0 ∷ 1 ∷ 0 ∷ []) × (figures pressed ≡ 0 ∷ 0 ∷ 0 ∷ 1 ∷ 1 ∷ 0 ∷ 0 ∷ 1 ∷ 1 ∷ [])
unfolding overlay
reported_differ = (refl, refl)

-- and of a list with fewer ticks nothing can be said past its last: task 0 has tick 8 of nine, and of eight there is none
shorter-ends : (runs_in (crowded 2) calm 0 8 ≡ true) × (runs_in (crowded 2) (run 8 (lent 8) ∷ []) 0 8 ≡ false)
unfolding overlay
shorter-ends = (refl, refl)

-- ---- 8/13: of the load above 40 and 1 ticks of work are accepted and none of a refused request; eleven ticks go to requests, and 30 wait
abbrev counts : ℕ → List ℕ
counts kind =
    accepted_work (marked kind) load ∷ how_many has_request (ticks (marked kind) load) ∷ sum_after (marked kind) load
    ∷ told (waiting_call (state_after_all (marked kind) load)) ∷ []

figure_each : map counts (0 ∷ 1 ∷ 2 ∷ 3 ∷ 4 ∷ []) ≡ replicate 5 (41 ∷ 11 ∷ 30 ∷ 30 ∷ [])
unfolding overlay
figure_each = refl

-- of a table that set-up refuses nothing waits, and the call refuses
refused-table : (waiting_call (state_after_all (one 7 2 0 5 2) load) ≡ Err Refusal.UnfitState) × (sum_after (one 7 2 0 5 2) load ≡ 0)
unfolding overlay
refused-table = (refl, refl)
