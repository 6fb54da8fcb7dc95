-- Ticks that are run at once, of which none finishes a request and before whose last no A line is due: their X lines, from their
-- record, are all that they print.
use Rattle.std.specs.Prelude.{ℕ, zero, suc, ◌+◌, ◌*◌, ◌≤◌, ◌<◌, ◌≡◌, refl, true, List, [], ◌∷◌, length, take}
use Rattle.std.proofs.Common.{arith, add-one, sym, ap, subst, ◌∙◌, append-nil}
use Rattle.std.proofs.lemmas.Bool.{lt-leb}
use Rattle.lists.specs.Lists.{take_overlay}
use Rattle.queue.specs.declared.Request.{Request}
use Rattle.queue.specs.Queue.{waiting_of, served}
use Rattle.table.specs.declared.State.{State}
use Rattle.table.specs.Refusal.{passed}
use Rattle.table.specs.Model.{task_set_of, model_of}
use Rattle.rules.specs.declared.Entry.{Entry}
use Rattle.rules.specs.declared.Occupant.{Occupant}
use Rattle.rules.specs.declared.Turn.{Turn}
use Rattle.rules.specs.declared.Ticked.{Ticked}
use Rattle.rules.specs.Tick.{worked_queue, finish_of, turn_at}
use Rattle.rules.specs.Calls.{Called, entry_by, entry_of, ticked, state_after, tick_call, ran_by, run_state, run_entries, run_check, run_list}
use Rattle.rules.specs.Laws.{Sized}
use Rattle.rules.specs.Block.{block_ticks, idle_entries}
use Rattle.scheduler.specs.Parts.{may_run}
use Rattle.scheduler.specs.Allowance.{Recording, allowance, block_call, starts}
use Rattle.scheduler.specs.Laws.{one, onwards, may-fit, run_length}
use Rattle.text.specs.Lines.{line_room, line_bytes}
use Rattle.text.specs.Buffer.{Wrote, wrote-same}
use Rattle.std.specs.Prelude.{Option, Some, None, Ok}
use Rattle.plan.specs.declared.line.Arrival.{Arrival}
use Rattle.output.specs.declared.lent.Place.{Place}
use Rattle.heading.specs.Heading.{numbered}
use Rattle.output.specs.Totals.{answered}
use Rattle.output.specs.Output.{occupant_line, tick_text}
use Rattle.output.specs.Steps.{Step, step_from, and_then, steps_from, Stepped, NotDue}
use Rattle.output.proofs.Steps.{step-tick, taken-same}
use Rattle.output.proofs.ReadBack.{fit-ran}
use Rattle.output.specs.Blocks.{Free, Undisturbed, Unfinished, block_text, entry_line, block_totals, ticks_run, quiet_tick}

-- ---- a tick that finishes nothing
entry_line_lem : (t : ℕ) (o : Occupant) (d : ℕ) → entry_line t (entry_by o d) ≡ occupant_line t o d
entry_line_lem t Occupant.Idle d = refl
entry_line_lem t (Occupant.Task i) d = refl
entry_line_lem t (Occupant.Request id) d = refl

none-finished : (t : ℕ) (turn : Turn) (q : List Request) (k : ℕ) → Unfinished q (suc k) → finish_of t turn q ≡ None
none-finished t Turn.Nobody q k h = refl
none-finished t (Turn.Task i) q k h = refl
none-finished t Turn.Budget [] k h = refl
none-finished t Turn.Budget (r ∷ q) k h = rw (lt-leb r.work 1 (omega arith)) refl
none-finished t Turn.Spare [] k h = refl
none-finished t Turn.Spare (r ∷ q) k h = rw (lt-leb r.work 1 (omega arith)) refl

served-less : (q : List Request) (k : ℕ) → Unfinished q (suc k) → Unfinished (served q) k
served-less [] k h = tt
served-less (r ∷ q) k h = rw (lt-leb r.work 1 (omega arith)) (omega arith)

-- and after fewer
pub unfinished-less : (q : List Request) (k j : ℕ) → j ≤ k → Unfinished q k → Unfinished q j
unfinished-less [] k j l h = tt
unfinished-less (r ∷ q) k j l h = omega arith

pub undisturbed_less : (n : Option (Arrival × ℕ)) (t u : ℕ) → u ≤ t → Undisturbed n t → Undisturbed n u
undisturbed_less (Some (a, q)) t u l h = omega arith
undisturbed_less None t u l h = tt

worked-less : (turn : Turn) (q : List Request) (k : ℕ) → Unfinished q (suc k) → Unfinished (worked_queue turn q) k
worked-less Turn.Nobody q k h = unfinished-less q (suc k) k (omega arith) h
worked-less (Turn.Task i) q k h = unfinished-less q (suc k) k (omega arith) h
worked-less Turn.Budget q k h = served-less q k h
worked-less Turn.Spare q k h = served-less q k h

module _ (s : State) (may : may_run 1 s ≡ true) where
  tick-ran : tick_call s ≡ ran_by s (ticked s)
  tick-ran = let f = may-fit s may in fit-ran s f.0 f.1

  tick_line_lem : (t k : ℕ) → Unfinished (waiting_of s.queue) (suc k) → tick_text t (tick_call s).answer ≡ line_bytes (entry_line t (entry_of (ticked s)))
  tick_line_lem t k h =
      ap (λ (x : Called Ticked). tick_text t x.answer) tick-ran
      ∙ rw (none-finished s.progress.clock (turn_at (task_set_of s.table) (model_of s)) (waiting_of s.queue) k h) (append-nil _)
      ∙ ap line_bytes (sym (entry_line_lem t (ticked s).occupant (ticked s).drops))

  after_less : (k : ℕ) → Unfinished (waiting_of s.queue) (suc k) → Unfinished (waiting_of (state_after s).queue) k
  after_less k h =
      let w = worked_queue (turn_at (task_set_of s.table) (model_of s)) (waiting_of s.queue) in
      rw (take_overlay (length w) w s.queue.requests refl) (worked-less (turn_at (task_set_of s.table) (model_of s)) (waiting_of s.queue) k h)

-- ---- the ticks of a block, one by one
-- a block's first tick is not due either
free_not_due : (ticks : ℕ) (p : Place) (k : ℕ) → 0 < k → Free ticks p k → NotDue p.next p.tick
free_not_due ticks p k some free = go p.next free.next
  where
    go : (n : Option (Arrival × ℕ)) → Undisturbed n (p.tick + k) → NotDue n p.tick
    go (Some (a, q)) h = λ e. absurd (omega arith)
    go None h = tt

module _ (bytes : List ℕ) (ticks k : ℕ) (p : Place) (may : may_run 1 p.state ≡ true) (free : Free ticks p (suc k)) where
  quiet_step : step_from bytes ticks p ≡ quiet_tick p
  quiet_step =
      step-tick bytes ticks p (omega (arith, free.ends)) (free_not_due ticks p (suc k) (omega arith) free)
      ∙ rw (tick_line_lem p.state may p.tick k free.head, ap (λ (x : Called Ticked). x.state) (tick-ran p.state may), ap (λ (x : Called Ticked). answered p.totals x.answer) (tick-ran p.state may)) refl

  quiet_free : Free ticks (quiet_tick p).place k
  quiet_free =
      let e : p.tick + suc k ≡ p.tick + 1 + k = omega arith in
      record {
        few = omega (arith, free.few);
        ends = omega (arith, free.ends);
        next = subst (Undisturbed p.next) e free.next;
        head = after_less p.state may k free.head;
      }

-- k ticks at once are k steps
pub block_steps :
    (bytes : List ℕ) (ticks k : ℕ) (p : Place) → may_run k p.state ≡ true → Sized p.state → Free ticks p k →
    steps_from bytes ticks k p ≡ ticks_run k p
unfolding steps_from numbered block_totals
block_steps bytes ticks zero p may z free = let e : p.tick + 0 ≡ p.tick = omega arith in rw e refl
block_steps bytes ticks (suc k) p may z free =
    let now : may_run 1 p.state ≡ true = one k p.state may in
    let on = onwards k p.state z may in
    let e : p.tick + 1 + k ≡ p.tick + suc k = omega arith in
    ap (λ (s : Step). and_then s (steps_from bytes ticks k s.place)) (quiet_step bytes ticks k p now free)
    ∙ ap (and_then (quiet_tick p)) (block_steps bytes ticks k (quiet_tick p).place on.0 on.1 (quiet_free bytes ticks k p now free))
    ∙ rw (e, add-one p.tick) refl

-- a block is taken: as many steps as it has ticks
pub block_taken :
    (bytes : List ℕ) (ticks : ℕ) {l m : List ℕ} {at r : ℕ} (p q : Place) (k : ℕ) (b : Recording) → 0 < k → at + k * line_room ≤ length l → r ≤ at + k * line_room → Free ticks p k → Sized p.state →
    b ≡ block_call p.state k → b.answer ≡ Ok tt → Wrote l at (block_text p.tick (take k b.entries)) m r →
    q ≡ record { tick = p.tick + k; next = p.next; state = b.state; totals = block_totals p.totals (take k b.entries) } → Stepped bytes ticks l at p m r q
unfolding allowance block_call
block_taken bytes ticks {l} {m} {at} {r} p q k b some room few free z eb ea w e = record {
  steps = k;
  some = some;
  taken = taken-same (sym (block_steps bytes ticks k p may z free)) (record { place = place; wrote = wrote-same entries w; fits = omega (arith, free.few) });
}
  where
    ok : passed (run_check p.state k block_ticks) ≡ true
    ok = ap passed (sym (ap (λ (x : Recording). x.answer) eb) ∙ ea)

    may : may_run k p.state ≡ true
    may = rw ok at (starts p.state k block_ticks)

    recorded : take k (run_list p.state k idle_entries) ≡ run_entries k p.state
    recorded = rw ok (take_overlay k (run_entries k p.state) idle_entries (run_length k p.state))

    listed : take k b.entries ≡ run_entries k p.state
    listed = ap (λ (x : Recording). take k x.entries) eb ∙ recorded

    place : q ≡ (ticks_run k p).place
    place =
        e ∙ ap (λ (x : State). record { tick = p.tick + k; next = p.next; state = x; totals = block_totals p.totals (take k b.entries) }) (ap (λ (x : Recording). x.state) eb ∙ rw ok refl)
        ∙ ap (λ (x : List Entry). record { tick = p.tick + k; next = p.next; state = run_state k p.state; totals = block_totals p.totals x }) listed

    entries : block_text p.tick (take k b.entries) ≡ (ticks_run k p).text
    entries = ap (block_text p.tick) listed
