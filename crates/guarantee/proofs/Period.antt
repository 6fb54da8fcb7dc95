-- A polling or deferrable server whose queue is never empty serves exactly its budget in each whole period: it serves in each free
-- tick until the budget is gone, and what stands above leaves enough of them.
use Prim.Native.Nat.{ℕ, zero, suc, ◌+◌, ◌-◌, ◌≤◌, ◌<◌, zero-le}
use Rattle.std.proofs.Common.{arith, sym, ap₂, ◌∙◌, ltb-true, ltb-false}
use Rattle.std.specs.Prelude.{◌≡◌, Bool, true, false, cond, ◌&&◌, not, ltb, take, List}
use Rattle.std.proofs.Math.Path.{refl, ap}
use Rattle.lists.specs.Tests.{never}
use Rattle.lists.specs.Time.{due}
use Rattle.lists.specs.Count.{due-apart}
use Rattle.lists.specs.Stretch.{tally}
use Rattle.server.specs.declared.Server.{Server}
use Rattle.server.specs.Kind.{Kind, background, polling, deferrable, sporadic, returning}
use Rattle.server.specs.Periodic.{periodic_refill}
use Rattle.server.specs.declared.Stretch.{Stretch}
use Rattle.server.specs.Whole.{Whole, room_for, replenish_whole, consume_whole}
use Rattle.server.proofs.SupplyReturning.{seen_whole}
use Rattle.server.proofs.Account.{Bits}
use Rattle.server.proofs.SupplyPolling.{polling_backlog}
use Rattle.server.proofs.SupplyDeferrable.{deferrable_backlog}
use Rattle.queue.specs.Queue.{waits}
use Rattle.table.specs.Model.{TaskSet, Model}
use Rattle.rules.specs.Tick.{dropped, first_open, by_budget, kind_at, lefts_at, above_at, busy_at, server_at, may_at, turn_at, tick}
use Rattle.rules.specs.Calls.{entry_of}
use Rattle.guarantee.proofs.Items.{server, Cells, taken, some_open, states, items_demand}
use Rattle.guarantee.proofs.Chain.{SoundAll}
use Rattle.guarantee.proofs.Window.{cut, Plain}
use Rattle.guarantee.proofs.Free.{above, frees, enough_free}
use Rattle.guarantee.proofs.TieLaws.{items, bits_of, serves_by, sees}
use Rattle.guarantee.proofs.Places.{seat, seat-taken}
use Rattle.guarantee.proofs.Run.{Run, reads, run-states}
use Rattle.guarantee.specs.Calls.{by_request}
use Rattle.guarantee.specs.Guarantee.{exact}
use Rattle.guarantee.proofs.Entries.{budget-step}

-- ---- one clause for each kind
-- step 3, and step 5 while requests wait
exact-refill : (k : Kind) → exact k ≡ true → (s : Server) (x : Whole) (t : ℕ) (busy : Bool) → (replenish_whole k s x t busy).part.budget
    ≡ periodic_refill s t x.part.budget
exact-refill background e s x t busy = never refl e
exact-refill polling e s x t busy = refl
exact-refill deferrable e s x t busy = refl
exact-refill sporadic e s x t busy = never refl e
exact-refill returning e s x t busy = never refl e

exact-backlog : (k : Kind) → exact k ≡ true → (s : Server) (t : ℕ) (busy free : Bool) (w : Bits) (v : Whole) → w.waits ≡ true → w.last ≡ false →
    (consume_whole k s v (seen_whole k t busy free w v)).part.budget ≡ cond free (v.part.budget - 1) v.part.budget
exact-backlog background e s t busy free w v a b = never refl e
exact-backlog polling e s t busy free w v a b = polling_backlog s t busy free w v.part a b
exact-backlog deferrable e s t busy free w v a b = deferrable_backlog s t busy free w v.part a
exact-backlog sporadic e s t busy free w v a b = never refl e
exact-backlog returning e s t busy free w v a b = never refl e

-- step 4: only kind 4 asks for room
exact-room : (k : Kind) → exact k ≡ true → (t : ℕ) (us : List Stretch) → room_for k t us ≡ true
exact-room background e t us = never refl e
exact-room polling e t us = refl
exact-room deferrable e t us = refl
exact-room sporadic e t us = never refl e
exact-room returning e t us = never refl e

-- a request has a tick with b above 0 just where the rules give it by the budget
pub served-turn : (p : TaskSet) (m : Model) → exact (kind_at p) ≡ true →
    (by_request (entry_of (tick p m)) && ltb 0 (server_at p m).part.budget) ≡ by_budget (turn_at p m)
served-turn p m e =
    rw (exact-room (kind_at p) e m.clock (server_at p m).returns)
    (budget-step (above_at p m) (busy_at p m) (waits m.queue) (ltb 0 (server_at p m).part.budget) (first_open (lefts_at p m))
    (dropped m.clock p.tasks m.lefts) m.queue)

-- requests wait as a tick begins and as it ends
abbrev pub Backlog : TaskSet → Model → Type 0
Backlog p m = (waits m.queue ≡ true) × (waits (tick p m).next.queue ≡ true)

module _ (p : TaskSet) (m : ℕ → Model) (N : ℕ) (run : Run p m N) (e : exact (kind_at p) ≡ true) where
  abbrev P : ℕ
  P = p.server.period

  abbrev B : ℕ
  B = p.server.budget

  abbrev i : ℕ
  i = seat p.server.place p.tasks

  -- a request has tick u by the budget
  abbrev pub served : ℕ → Bool
  served u = by_request (entry_of (tick p (m u))) && ltb 0 (server_at p (m u)).part.budget

  -- the budget inside tick u
  abbrev inside : ℕ → ℕ
  inside u = periodic_refill p.server u (m u).server.part.budget

  inside_is : (u : ℕ) → u ≤ N → (server_at p (m u)).part.budget ≡ inside u
  inside_is u h = exact-refill (kind_at p) e p.server (m u).server (m u).clock (busy_at p (m u))
      ∙ ap (λ (t : ℕ). periodic_refill p.server t (m u).server.part.budget) (run.clocks u h)

  budget-next : (u : ℕ) → u < N → Backlog p (m u) → (m (suc u)).server.part.budget ≡ cond (not (above_at p (m u))) (inside u - 1) (inside u)
  budget-next u h w =
      ap (λ (v : Whole). v.part.budget) (run.servers u h)
      ∙ ap (λ (v : Whole). v.part.budget) (ap (consume_whole (kind_at p) p.server (server_at p (m u))) (sees p (m u)))
      ∙ exact-backlog (kind_at p) e p.server (m u).clock (busy_at p (m u)) (not (above_at p (m u))) (bits_of p (m u)) (server_at p (m u)) w.0 (ap not w.1)
      ∙ ap (λ (n : ℕ). cond (not (above_at p (m u))) (n - 1) n) (inside_is u (omega arith))

  -- with requests waiting, it may serve where b is above 0
  may-is : (u : ℕ) → Backlog p (m u) → may_at p (m u) ≡ ltb 0 (server_at p (m u)).part.budget
  may-is u w = ap₂ (λ (r a : Bool). r && (a && ltb 0 (server_at p (m u)).part.budget)) (exact-room (kind_at p) e (m u).clock (server_at p (m u)).returns) w.0

  serves : (u : ℕ) → u ≤ N → Backlog p (m u) → served u ≡ (not (above_at p (m u)) && ltb 0 (inside u))
  serves u h w =
      served-turn p (m u) e
      ∙ serves_by (above_at p (m u)) (busy_at p (m u)) (waits (m u).queue) (may_at p (m u)) (first_open (lefts_at p (m u)))
      ∙ ap (λ (b : Bool). not (above_at p (m u)) && b) (may-is u w ∙ ap (ltb 0) (inside_is u h))

  -- what stands above the server takes tick u where a task above is open
  above-is : (u : ℕ) → u ≤ N → above (items p) (reads p m) i u ≡ above_at p (m u)
  unfolding above
  above-is u h =
      ap (λ (c : Cells (items p)). taken (take i (items p)) u (some_open (items p) u (states (items p) (reads p m) u)) (reads p m u) (cut i (items p) c))
      (sym (run-states p m N run u h))
      ∙ seat-taken p.server.place p.tasks (server (kind_at p) p.server) (m u).lefts (m u).server (run.covers u h) u
      (some_open (items p) u (states (items p) (reads p m) u)) (bits_of p (m u))
      ∙ ap (λ (t : ℕ). above_at p (record { lefts = (m u).lefts; queue = (m u).queue; backlog = (m u).backlog; server = (m u).server; clock = t })) (sym (run.clocks u h))

  -- it serves in each free tick until its budget, z inside tick t, is gone
  spent : (n t z : ℕ) → t + n ≤ N → (0 < n → inside t ≡ z) → ((u : ℕ) → t < u → u < t + n → due u 0 P ≡ false) →
      ((u : ℕ) → t ≤ u → u < t + n → Backlog p (m u)) →
      (tally served t n ≤ z) × (z ≤ frees (items p) (reads p m) i t n → tally served t n ≡ z)
  unfolding frees
  spent zero t z l h d w = (zero-le, λ k. omega arith)
  spent (suc n) t z l h d w =
      step (above_at p (m t)) refl (ltb 0 z) refl
      (spent n (suc t) (cond (not (above_at p (m t))) (z - 1) z) (omega arith) (λ q. same (due (suc t) 0 P) (d (suc t) (omega arith) (omega arith)) ∙ next)
      (λ u a b. d u (omega arith) (omega arith)) (λ u a b. w u (omega arith) (omega arith)))
    where
      now : Backlog p (m t)
      now = w t (omega arith) (omega arith)

      is : inside t ≡ z
      is = h (omega arith)

      same : (c : Bool) → c ≡ false → cond c B (m (suc t)).server.part.budget ≡ (m (suc t)).server.part.budget
      same true q = never q refl
      same false q = refl

      next : (m (suc t)).server.part.budget ≡ cond (not (above_at p (m t))) (z - 1) z
      next = budget-next t (omega arith) now ∙ ap (λ (k : ℕ). cond (not (above_at p (m t))) (k - 1) k) is

      hit : served t ≡ (not (above_at p (m t)) && ltb 0 z)
      hit = serves t (omega arith) now ∙ ap (λ (k : ℕ). not (above_at p (m t)) && ltb 0 k) is

      Goal : Bool → Bool → Type 0
      Goal h a =
          (cond h 1 0 + tally served (suc t) n ≤ z) × (z ≤ cond a 0 1 + frees (items p) (reads p m) i (suc t) n → cond h 1 0 + tally served (suc t) n
          ≡ z)

      by : (a o : Bool) → ltb 0 z ≡ o →
          (tally served (suc t) n ≤ cond (not a) (z - 1) z) × (cond (not a) (z - 1) z ≤ frees (items p) (reads p m) i (suc t) n → tally served (suc t) n
          ≡ cond (not a) (z - 1) z) →
          Goal (not a && o) a
      by true o q ih = (omega (arith, ih.0), λ k. omega (arith, ih.1 (omega arith)))
      by false true q ih = (omega (arith, ih.0, ltb-true 0 z q), λ k. omega (arith, ltb-true 0 z q, ih.1 (omega arith)))
      by false false q ih = (omega (arith, ih.0), λ k. omega (arith, ih.0, ltb-false 0 z q))

      step : (a : Bool) → above_at p (m t) ≡ a → (o : Bool) → ltb 0 z ≡ o →
          (tally served (suc t) n ≤ cond (not (above_at p (m t))) (z - 1) z)
          × (cond (not (above_at p (m t))) (z - 1) z ≤ frees (items p) (reads p m) i (suc t) n → tally served (suc t) n
          ≡ cond (not (above_at p (m t))) (z - 1) z) →
          Goal (served t) (above (items p) (reads p m) i t)
      step a qa o qo ih = rw (hit, above-is t (omega arith), qa, qo) (by a o qo (rw (← qa) ih))

  -- R is the server's own bound, and P divides a
  pub exactly : SoundAll (items p) → Plain (items p) → (R : ℕ) → 0 < R → R ≤ P → B + items_demand (take i (items p)) R ≤ R → (a : ℕ) → due a 0 P ≡ true →
      a + P ≤ N →
      ((u : ℕ) → a ≤ u → u < a + P → Backlog p (m u)) → tally served a P ≡ B
  exactly sound plain R some soon meets a d l w =
      (spent P a B l (λ _. full d) between w).1 (enough_free (items p) (reads p m) i sound plain B P R some soon meets a)
    where
      full : due a 0 P ≡ true → inside a ≡ B
      full d = ap (λ (c : Bool). cond c B (m a).server.part.budget) d

      between : (u : ℕ) → a < u → u < a + P → due u 0 P ≡ false
      between u b c = go (due u 0 P) refl
        where
          go : (z : Bool) → due u 0 P ≡ z → z ≡ false
          go false q = refl
          go true q = absurd (due-apart a u 0 P d q b c)
