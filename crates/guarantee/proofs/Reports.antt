-- What the calls report of the ticks that ran, tick by tick: what the tick's definition says at the models of the run.
use Rattle.std.specs.Prelude.{ℕ, zero, suc, ◌+◌, ◌≤◌, ◌<◌, ◌≡◌, refl, Bool, true, ◌&&◌, List, [], ◌∷◌, map, ltb, length, get_or}
use Rattle.std.proofs.Common.{arith, sym, ap, ap₂, ◌∙◌}
use Rattle.std.proofs.Math.Decide.{dec_le}
use Rattle.std.proofs.lemmas.List.{length-map}
use Rattle.lists.specs.Stretch.{stretch, how_many, tally, tally-stretch, tally-same}
use Rattle.queue.specs.declared.Request.{Request}
use Rattle.queue.specs.Queue.{waiting_of, waits}
use Rattle.queue.specs.Laws.{waiting_with}
use Rattle.table.specs.declared.Table.{Table}
use Rattle.table.specs.declared.State.{State}
use Rattle.table.specs.Limits.{max_tasks}
use Rattle.table.specs.Model.{TaskSet, task_set_of, model_of}
use Rattle.table.specs.State.{fresh_state}
use Rattle.rules.specs.declared.Entry.{Entry}
use Rattle.rules.specs.Tick.{server_at, Tick, tick}
use Rattle.rules.specs.Calls.{ticked, state_after, entry_of}
use Rattle.guarantee.specs.Calls.{Call, final, RanTick, ticks, no_tick, tick_at, begins, state_before, clock_after, by_request}
use Rattle.guarantee.specs.Guarantee.{NeverEmpty, by_budget_in}
use Rattle.guarantee.proofs.Period.{Backlog}
use Rattle.guarantee.proofs.Lift.{ran_at, reported, linked-last}
use Rattle.guarantee.proofs.Played.{N, table_is, clock-is, ticked-is, played}

map_at : {A B : Type 0} (f : A → B) (xs : List A) (u : ℕ) (d : B) (e : A) → u < length xs → get_or (map f xs) u d ≡ f (get_or xs u e)
map_at f [] u d e h = absurd (omega arith)
map_at f (x ∷ xs) zero d e h = refl
map_at f (x ∷ xs) (suc u) d e h = map_at f xs u d e (omega arith)

waiting : (q : List Request) → 0 < length q → waits q ≡ true
waiting [] h = absurd (omega arith)
waiting (r ∷ q) h = refl

module _ (t : Table) (calls : List Call) where
  abbrev pub p : TaskSet
  p = task_set_of t

  abbrev pub at : ℕ → State
  at u = state_before t calls u

  pub ticks-are : ticks t calls ≡ map ran_at (begins t calls)
  ticks-are = reported calls (fresh_state t)

  pub ticks-long : length (ticks t calls) ≡ N t calls
  ticks-long = ap length ticks-are ∙ length-map (begins t calls) ran_at

  pub clock_after_lem : clock_after t calls ≡ N t calls
  clock_after_lem =
      ap (λ (s : State). s.progress.clock) (sym (linked-last (final (fresh_state t) calls) (begins t calls))) ∙ clock-is t calls (N t calls) (omega arith)

  pub tick_is : (u : ℕ) → u < N t calls → tick_at t calls u ≡ ran_at (at u)
  tick_is u h =
      ap (λ (xs : List RanTick). get_or xs u no_tick) ticks-are ∙ map_at ran_at (begins t calls) u no_tick (final (fresh_state t) calls) h

  pub entry-is : (u : ℕ) → u < N t calls → (tick_at t calls u).entry ≡ entry_of (tick p (model_of (at u)))
  entry-is u h = ap (λ (x : RanTick). x.entry) (tick_is u h) ∙ ap entry_of (ticked-is t calls u (omega arith))

  -- a request has tick u, with b above 0 at step 4
  pub served-is : (u : ℕ) → u < N t calls →
      by_budget_in t calls u ≡ (by_request (entry_of (tick p (model_of (at u)))) && ltb 0 (server_at p (model_of (at u))).part.budget)
  served-is u h =
      ap₂ (λ (e : Entry) (y : Table). by_request e && ltb 0 (server_at (task_set_of y) (model_of (at u))).part.budget) (entry-is u h) (table_is t calls u (omega arith))

  -- a count over the reports is a count over the run
  pub counted : (f : Entry → Bool) (r n : ℕ) → r + n ≤ N t calls →
      how_many (λ x. f x.entry) (stretch r n (ticks t calls)) ≡ tally (λ u. f (entry_of (tick p (model_of (at u))))) r n
  counted f r n h =
      tally-stretch (λ x. f x.entry) no_tick r n (ticks t calls) (omega (arith, ticks-long))
      ∙ tally-same (λ u. f (tick_at t calls u).entry) (λ u. f (entry_of (tick p (model_of (at u))))) r n (λ u a b. ap f (entry-is u (omega arith)))

  -- the queue, as the run sees it
  pub backlog : t.n ≤ max_tasks → (a : ℕ) → a + t.server.period ≤ N t calls → NeverEmpty t calls a → (u : ℕ) → a ≤ u → u < a + t.server.period → Backlog p (model_of (at u))
  backlog few a h w u l q = (began u l q, ended u l q)
    where
      ended : (u : ℕ) → a ≤ u → u < a + t.server.period → waits (tick p (model_of (at u))).next.queue ≡ true
      ended u l q =
          ap (λ (x : Tick). waits x.next.queue) (sym (ticked-is t calls u (omega arith)))
          ∙ ap waits (sym (waiting_with (at u).queue (ticked (at u)).next.queue (ticked (at u)).next.backlog))
          ∙ waiting (waiting_of (state_after (at u)).queue) (omega (arith, w.1 u l (omega arith), ap (λ (x : RanTick). x.after) (tick_is u (omega arith))))

      began : (u : ℕ) → a ≤ u → u < a + t.server.period → waits (waiting_of (at u).queue) ≡ true
      began u l q = go u l q (dec_le u a)
        where
          go : (u : ℕ) → a ≤ u → u < a + t.server.period → Dec (u ≤ a) → waits (waiting_of (at u).queue) ≡ true
          go u l q (yes b) =
              let e : u ≡ a = omega arith in
              waiting (waiting_of (at u).queue) (omega (
                arith,
                w.0,
                ap (λ (v : ℕ). (tick_at t calls v).before) e,
                ap (λ (x : RanTick). x.before)
                    (tick_is u (omega arith)),
              ))
          go zero l q (no b) = absurd (omega arith)
          go (suc v) l q (no b) = (played t calls few).stays v (omega arith) (ended v (omega arith) (omega arith))
