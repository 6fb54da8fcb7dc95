-- What one call and one turn of the list do, over plain variables: the numbers that remain add to what is reported so far, and together
-- they are what is reported of the whole list.
use Rattle.std.specs.Prelude.{Err, Ok, Result, map, sum, fold}
use Rattle.std.specs.Result.{result_unwrap_or}
use Prim.Native.Nat.{ℕ, ◌+◌, ◌*◌, ◌≤◌, ◌<◌}
use native.Mathlib.Omega.{arith}
use mathlib.Core.Path.{◌≡◌, refl, sym, ap, subst, ◌∙◌}
use mathlib.Core.Bool.{Bool, true, false}
use mathlib.Core.List.{List, [], ◌∷◌, ◌++◌}
use lib.Dec.{leb}
use borrow.Author.Tests.{leb-true}
use lib.ListN.{length, take, get_or}
use Rattle.server.specs.Limits.{last_clock}
use Rattle.table.specs.declared.Table.{Table}
use Rattle.table.specs.declared.State.{State}
use Rattle.table.specs.declared.Refusal.{Refusal}
use Rattle.table.specs.Limits.{max_tasks}
use Rattle.table.specs.Refusal.{passed}
use Rattle.table.specs.State.{fresh_state, set_up_call, fit}
use Rattle.table.proofs.Laws.{set_up_or_fresh}
use Rattle.bounds.specs.Admission.{admission_of}
use Rattle.rules.specs.declared.Entry.{Entry}
use Rattle.rules.specs.Calls.{unless, clock_allows, run_check, run_call, run_list, waiting_call, told}
use Rattle.rules.specs.Block.{block_ticks, idle_entries}
use Rattle.scheduler.specs.Allowance.{block_call}
use Rattle.scheduler.specs.Laws.{run_length}
use Rattle.guarantee.specs.Calls.{Call, run, after, final}
use Rattle.play.specs.Numbers.{call_of, calls_of}
use Rattle.play.specs.declared.Report.{Report}
use Rattle.play.specs.Report.{Made, made_at, drops_in, made, reported}
use Rattle.play.specs.Promise.{Promise, promise}
use Rattle.play.specs.Laws.{made_by, made_one, made_more, run_writes, run_records, moves}

counted : (s : State) {a b c d : ℕ} → a ≡ b → c ≡ d → made_at s a c ≡ made_at s b d
counted s p q = λ j. made_at s (p j) (q j)

-- the drops of a list of entries, as the library sums them
pub drops-sum : (es : List Entry) → sum (map (λ e. e.drops) es) ≡ drops_in es
drops-sum es = from 0 es ∙ omega arith
  where
    from : (n : ℕ) (es : List Entry) → fold ◌+◌ n (map (λ e. e.drops) es) ≡ n + drops_in es
    from n [] = omega arith
    from n (e ∷ es) = from (n + e.drops) es ∙ omega arith

-- ---- a run of k ticks, which leaves x
module _ (s : State) (k : ℕ) (x : State) (e : x ≡ (run_call s k block_ticks).state) where
  -- all its ticks have run, and what it wrote is in the list; the list is long enough
  pub run-ran : run_check s k block_ticks ≡ Ok tt → (es : List Entry) → es ≡ run_list s k idle_entries → made_at x k (drops_in (take k es)) ≡ made s (run k idle_entries ∷ [])
  run-ran a es f =
      let ok : passed (run_check s k block_ticks) ≡ true = ap passed a in
      ap (λ (y : State). made_at y k (drops_in (take k es))) e
      ∙ ap (λ (l : List Entry). made_at (run_call s k block_ticks).state k (drops_in (take k l))) f
      ∙ counted (run_call s k block_ticks).state (sym (run_length k s)) (ap drops_in (run_writes s k idle_entries ok))
      ∙ ap (made_by (run_call s k block_ticks).state) (sym (run_records s k idle_entries ok)) ∙ sym (made_one s (run k idle_entries))

  -- its ticks are as many as the list's entries at most
  pub run-room : run_check s k block_ticks ≡ Ok tt → k ≤ block_ticks
  run-room a = go (fit s) (clock_allows s k) (leb k block_ticks) refl a
    where
      go : (f c b : Bool) → leb k block_ticks ≡ b → unless f Refusal.UnfitState (unless c Refusal.ClockSpent (unless b Refusal.ShortRecord (Ok tt))) ≡ Ok tt → k ≤ block_ticks
      go true true true e p = leb-true k block_ticks e
      go true true false e p = absurd cc
      go true false b e p = absurd cc
      go false c b e p = absurd cc

-- ---- a block of k ticks is that run of a list of idle entries
module _ (s : State) (k : ℕ) (x : State) (e : x ≡ (block_call s k).state) (a : Result Unit Refusal) (ea : a ≡ (block_call s k).answer) where
  moved : x ≡ (run_call s k block_ticks).state
  unfolding block_call
  moved = e

  passes : a ≡ Ok tt → run_check s k block_ticks ≡ Ok tt
  unfolding block_call
  passes p = sym ea ∙ p

  pub block-ran : a ≡ Ok tt → (es : List Entry) → es ≡ (block_call s k).entries → made_at x k (drops_in (take k es)) ≡ made s (run k idle_entries ∷ [])
  unfolding block_call
  block-ran p es f = run-ran s k x moved (passes p) es f

  pub block-room : a ≡ Ok tt → k ≤ block_ticks
  block-room p = run-room s k x moved (passes p)

  -- a refused one runs no tick
  pub block-refused : (r : Refusal) → a ≡ Err r → made_at x 0 0 ≡ made s (run k idle_entries ∷ [])
  unfolding block_call
  block-refused r p =
      let refused : run_check s k block_ticks ≡ Err r = sym ea ∙ p in
      rw (moved, refused) refl

-- ---- the numbers that remain: a whole call more, or none
call_more : (x rest : List ℕ) → length x ≡ 3 → calls_of (x ++ rest) ≡ call_of (get_or x 0 0) (get_or x 1 0) (get_or x 2 0) ∷ calls_of rest
call_more [] rest h = absurd (omega arith)
call_more (a ∷ []) rest h = absurd (omega arith)
call_more (a ∷ b ∷ []) rest h = absurd (omega arith)
call_more (a ∷ b ∷ c ∷ []) rest h = refl
call_more (a ∷ b ∷ c ∷ d ∷ x) rest h = absurd (omega arith)

call_none : (rest : List ℕ) → length rest < 3 → calls_of rest ≡ []
call_none [] h = refl
call_none (a ∷ []) h = refl
call_none (a ∷ b ∷ []) h = refl
call_none (a ∷ b ∷ c ∷ rest) h = absurd (omega arith)

-- ---- the loop over the numbers
-- what was reported before
abbrev plus : ℕ → ℕ → Made → Made
plus n d m = record { state = m.state; ticks = n + m.ticks; drops = d + m.drops }

-- Where the numbers `rest` of l remain, after calls that led from s₀ to s and reported n ticks and d drops: the calls that remain report the
-- rest. As many ticks ran as the clock rose by, which stands at its last value at most, and each dropped a job of each task at most.
pub record Ahead (s₀ : State) (l : List ℕ) (s : State) (n d : ℕ) (rest : List ℕ) : Type 0 where
  pub adds : plus n d (made s (calls_of rest)) ≡ made s₀ (calls_of l)
  pub clock : s₀.progress.clock + n ≡ s.progress.clock
  pub early : s.progress.clock ≤ last_clock
  pub few : d ≤ max_tasks * n

module _ (s₀ : State) (l : List ℕ) where
  pub begun : (rest : List ℕ) → rest ≡ l → s₀.progress.clock ≤ last_clock → Ahead s₀ l s₀ 0 0 rest
  begun rest e h = record {
    adds = counted (final s₀ (calls_of rest)) (omega arith) (omega arith) ∙ ap (λ (xs : List ℕ). made s₀ (calls_of xs)) e;
    clock = omega arith;
    early = h;
    few = omega arith;
  }

  pub turn : (s : State) (n d : ℕ) (m : Made) (now x rest : List ℕ) → Ahead s₀ l s n d now → now ≡ x ++ rest → length x ≡ 3 →
      m ≡ made s (call_of (get_or x 0 0) (get_or x 1 0) (get_or x 2 0) ∷ []) → Ahead s₀ l m.state (n + m.ticks) (d + m.drops) rest
  turn s n d m now x rest h cut three e =
      let c : Call = call_of (get_or x 0 0) (get_or x 1 0) (get_or x 2 0) in
      let later : List Call = calls_of rest in
      let one = made_one s c in
      let more = made_more s c later in
      let moved = moves s c in
      subst (λ (y : Made). Ahead s₀ l y.state (n + y.ticks) (d + y.drops) rest) (sym e) (record {
        adds =
            counted (final (after s c) later) (omega (arith, more.0)) (omega (arith, more.1))
            ∙ ap (λ (cs : List Call). plus n d (made s cs)) (sym (call_more x rest three))
            ∙ ap (λ (xs : List ℕ). plus n d (made s (calls_of xs))) (sym cut) ∙ h.adds;
        clock = omega (arith, h.clock, moved.clock, ap (λ (y : Made). y.ticks) one);
        early = moved.early h.early;
        few = omega (arith, h.few, moved.few, ap (λ (y : Made). y.ticks) one, ap (λ (y : Made). y.drops) one);
      })

  pub ended : (s : State) (n d : ℕ) (rest : List ℕ) → Ahead s₀ l s n d rest → length rest < 3 → made_at s n d ≡ made s₀ (calls_of l)
  ended s n d rest h none =
      counted s (omega arith) (omega arith) ∙ ap (λ (cs : List Call). plus n d (made s cs)) (sym (call_none rest none)) ∙ h.adds

-- ---- a table, admitted or not, set up and played
-- the state that set-up gives; beside a refusal the fresh state
pub set_up-fresh : (t : Table) (a : Result State Refusal) (f x : State) → a ≡ set_up_call t → f ≡ fresh_state t → x ≡ result_unwrap_or a f → x ≡ fresh_state t
set_up-fresh t a f x ea ef ex = ex ∙ (λ j. result_unwrap_or (ea j) (ef j)) ∙ set_up_or_fresh t

-- the figure of the waiting call; 0 beside a refusal
pub told-or : (a : Result ℕ Refusal) → result_unwrap_or a 0 ≡ told a
told-or (Ok work) = refl
told-or (Err r) = refl

pub played : (t : Table) (a : Bool) (x : State) (n d w : ℕ) (calls : List Call) → length t.tasks ≡ max_tasks → a ≡ (admission_of t).admitted →
    made_at x n d ≡ made (fresh_state t) calls → w ≡ told (waiting_call x) → let r : Report = record { admitted = a; ticks = n; drops = d; waiting = w; state = x } in
    (r ≡ reported t calls) × Promise t calls r
played t a x n d w calls z p q v = (is, promise t calls _ z is)
  where
    there : x ≡ final (fresh_state t) calls
    there = ap (λ (m : Made). m.state) q

    is : ◌≡◌ {A = Report} (record { admitted = a; ticks = n; drops = d; waiting = w; state = x }) (reported t calls)
    is = (λ j. record { admitted = p j; ticks = (q j).ticks; drops = (q j).drops; waiting = (v ∙ ap (λ (s : State). told (waiting_call s)) there) j; state = (q j).state })
