-- What a call adds to what is reported: its ticks and their drops. The clock rises by one with each tick and stands at its last value at
-- most, and a tick drops no more than there are tasks in use: so neither sum passes its width.
use Rattle.std.specs.Prelude.{ℕ, zero, suc, ◌+◌, ◌-◌, ◌*◌, ◌≤◌, ◌≡◌, refl, Bool, true, false, cond, List, [], ◌∷◌, ◌++◌, map, length, take, leb, Ok}
use Rattle.std.proofs.Common.{arith, sym, ap, subst, ◌∙◌, append-nil, length-append, leb-true}
use Rattle.std.proofs.lemmas.List.{length-map}
use Rattle.lists.specs.Lists.{zip_with, take_overlay}
use Rattle.lists.specs.Tests.{never}
use Rattle.server.specs.Limits.{last_clock}
use Rattle.table.specs.declared.State.{State}
use Rattle.table.specs.declared.Refusal.{Refusal}
use Rattle.table.specs.Limits.{max_tasks}
use Rattle.table.specs.Refusal.{passed}
use Rattle.table.specs.Model.{model_of, written}
use Rattle.table.specs.State.{fit}
use Rattle.table.specs.Facts.{fit-facts, table-facts}
use Rattle.rules.specs.declared.Entry.{Entry}
use Rattle.rules.specs.Calls.{unless, request_check, asked, clock_allows, ticked, state_after, tick_by, entry_of, run_check, run_state, run_entries, run_list}
use Rattle.rules.proofs.Laws.{tick-few}
use Rattle.scheduler.specs.Laws.{run_length}
use Rattle.guarantee.specs.Calls.{Call, request, tick, run, after, final, Event, accepted, ran, tick_events, run_finishes, happens, events, finishes, ticks_from}
use Rattle.play.specs.Report.{Made, drops_in, made}

-- ---- the entries of the ticks among events: as many as there are ticks, and with the same drops
abbrev pub recorded : List Event → List Entry
recorded [] = []
recorded (accepted ∷ es) = recorded es
recorded (ran e f ∷ es) = e ∷ recorded es

-- calls that lead to s and have these entries
abbrev pub made_by : State → List Entry → Made
made_by s es = record { state = s; ticks = length es; drops = drops_in es }

entries-are : (n : ℕ) (es : List Event) → map (λ x. x.entry) (ticks_from n es) ≡ recorded es
entries-are n [] = refl
entries-are n (accepted ∷ es) = entries-are (suc n) es
entries-are n (ran e f ∷ es) = ap {B = List Entry} (λ r. e ∷ r) (entries-are (n - finishes f) es)

made-is : (s : State) (calls : List Call) → made s calls ≡ made_by (final s calls) (recorded (events s calls))
made-is s calls =
    ap (λ (n : ℕ). record { state = final s calls; ticks = n; drops = (made s calls).drops }) (sym (length-map (ticks_from 0 (events s calls)) (λ x. x.entry)))
    ∙ ap (made_by (final s calls)) (entries-are 0 (events s calls))

recorded_append : (es fs : List Event) → recorded (es ++ fs) ≡ recorded es ++ recorded fs
recorded_append [] fs = refl
recorded_append (accepted ∷ es) fs = recorded_append es fs
recorded_append (ran e f ∷ es) fs = ap {B = List Entry} (λ r. e ∷ r) (recorded_append es fs)

drops_append : (es fs : List Entry) → drops_in (es ++ fs) ≡ drops_in es + drops_in fs
drops_append [] fs = omega arith
drops_append (e ∷ es) fs = omega (arith, drops_append es fs)

-- one call
pub made_one : (s : State) (c : Call) → made s (c ∷ []) ≡ made_by (after s c) (recorded (happens s c))
made_one s c = made-is s (c ∷ []) ∙ ap (λ (es : List Event). made_by (after s c) (recorded es)) (append-nil (happens s c))

-- a call and those after it
pub made_more : (s : State) (c : Call) (cs : List Call) →
    ((made s (c ∷ [])).ticks + (made (after s c) cs).ticks ≡ (made s (c ∷ cs)).ticks) × ((made s (c ∷ [])).drops + (made (after s c) cs).drops ≡ (made s (c ∷ cs)).drops)
made_more s c cs =
    let one = made_one s c in
    let later = made-is (after s c) cs in
    let all = made-is s (c ∷ cs) in
    let parts = recorded_append (happens s c) (events (after s c) cs) in (
      omega (
        arith,
        ap (λ (m : Made). m.ticks) one,
        ap (λ (m : Made). m.ticks) later,
        ap (λ (m : Made). m.ticks) all,
        ap length parts,
        length-append (recorded (happens s c)) (recorded (events (after s c) cs)),
      ),
      omega (
        arith,
        ap (λ (m : Made). m.drops) one,
        ap (λ (m : Made). m.drops) later,
        ap (λ (m : Made). m.drops) all,
        ap drops_in parts,
        drops_append (recorded (happens s c)) (recorded (events (after s c) cs)),
      ),
    )

-- ---- how far a call moves the clock, and how much its ticks drop
-- from s to z with these entries: the clock rises by one with each and does not pass its last value, and each has as many drops as there are
-- tasks at most
pub record Moves (s z : State) (es : List Entry) : Type 0 where
  pub clock : s.progress.clock + length es ≡ z.progress.clock
  pub early : s.progress.clock ≤ last_clock → z.progress.clock ≤ last_clock
  pub few : drops_in es ≤ max_tasks * length es

run-few : (k : ℕ) (s : State) → s.table.n ≤ max_tasks → drops_in (run_entries k s) ≤ max_tasks * k
run-few zero s h = omega arith
run-few (suc k) s h = omega (arith, tick-few s, run-few k (state_after s) h)

run-clock : (k : ℕ) (s : State) → s.progress.clock + k ≡ (run_state k s).progress.clock
run-clock zero s = omega arith
run-clock (suc k) s = omega (arith, run-clock k (state_after s))

run-moves : (k : ℕ) (s : State) → fit s ≡ true → clock_allows s k ≡ true → Moves s (run_state k s) (run_entries k s)
run-moves k s f a =
    let in_use = (table-facts s.table (fit-facts s f).passes).count in
    record {
      clock = omega (arith, run-clock k s, run_length k s);
      early = λ h. omega (arith, run-clock k s, leb-true (s.progress.clock + k) last_clock a);
      few = omega (arith, run-few k s in_use, run_length k s);
    }

still : (s : State) → Moves s s []
still s = record { clock = omega arith; early = λ h. h; few = omega arith }

-- an accepted run has passed the first two refusals
run-accepted : (s : State) (k lent : ℕ) → passed (run_check s k lent) ≡ true → (fit s ≡ true) × (clock_allows s k ≡ true)
run-accepted s k lent e = go (fit s) refl (clock_allows s k) refl (leb k lent) e
  where
    go : (f : Bool) → fit s ≡ f → (a : Bool) → clock_allows s k ≡ a → (b : Bool) →
        passed (unless f Refusal.UnfitState (unless a Refusal.ClockSpent (unless b Refusal.ShortRecord (Ok tt)))) ≡ true →
        (fit s ≡ true) × (clock_allows s k ≡ true)
    go true ef true ea b p = (ef, ea)
    go true ef false ea b p = never refl p
    go false ef a ea b p = never refl p

-- it writes the entries of its ticks, and these are what is recorded of it
pub run_writes : (s : State) (k : ℕ) (lent : List Entry) → passed (run_check s k (length lent)) ≡ true → take k (run_list s k lent) ≡ run_entries k s
run_writes s k lent e = rw e (take_overlay k (run_entries k s) lent (run_length k s))

pub run_records : (s : State) (k : ℕ) (lent : List Entry) → passed (run_check s k (length lent)) ≡ true → recorded (happens s (run k lent)) ≡ run_entries k s
run_records s k lent e =
    rw e (ap (λ (es : List Entry). recorded (zip_with ran es (run_finishes k s))) (take_overlay k (run_entries k s) lent (run_length k s)) ∙ zipped k s)
  where
    zipped : (k : ℕ) (s : State) → recorded (zip_with ran (run_entries k s) (run_finishes k s)) ≡ run_entries k s
    zipped zero s = refl
    zipped (suc k) s = ap {B = List Entry} (λ r. entry_of (ticked s) ∷ r) (zipped k (state_after s))

pub moves : (s : State) (c : Call) → Moves s (after s c) (recorded (happens s c))
moves s (request id work) = go (passed (request_check s work))
  where
    go : (b : Bool) → Moves s (cond b (written s (asked id work (model_of s))) s) (recorded (cond b (accepted ∷ []) []))
    go true = record { clock = omega arith; early = λ h. h; few = omega arith }
    go false = still s
moves s tick = go (fit s) refl (clock_allows s 1) refl
  where
    go : (f : Bool) → fit s ≡ f → (a : Bool) → clock_allows s 1 ≡ a →
        let x = tick_by (unless f Refusal.UnfitState (unless a Refusal.ClockSpent (Ok tt))) s in
        Moves s x.state (recorded (tick_events x.answer))
    go true ef true ea = run-moves 1 s ef ea
    go true ef false ea = still s
    go false ef a ea = still s
moves s (run k lent) = go (passed (run_check s k (length lent))) refl
  where
    go : (b : Bool) → passed (run_check s k (length lent)) ≡ b → Moves s (after s (run k lent)) (recorded (happens s (run k lent)))
    go true e =
        let ok = run-accepted s k (length lent) e in
        subst (Moves s (after s (run k lent))) (sym (run_records s k lent e)) (rw e (run-moves k s ok.0 ok.1))
    go false e = rw e (still s)

-- the ticks of a list of calls raise the clock by one each
pub made-clock : (calls : List Call) (s : State) → s.progress.clock + (made s calls).ticks ≡ (made s calls).state.progress.clock
made-clock [] s = omega arith
made-clock (c ∷ cs) s =
    omega (arith, (moves s c).clock, ap (λ (m : Made). m.ticks) (made_one s c), (made_more s c cs).0, made-clock cs (after s c))
