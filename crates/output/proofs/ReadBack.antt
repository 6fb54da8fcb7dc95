-- What `schedule` prints of an accepted plan, read back from its bytes, ends with its totals.
use Prim.Native.Nat.{ℕ, zero, suc, ◌+◌, ◌*◌, ◌≤◌}
use Rattle.std.proofs.Common.{arith, ◌∙◌, le-leb}
use Rattle.std.specs.Prelude.{◌≡◌, Bool, true, false, length, take, drop, eqb, ltb, Ok, Result, Option, Some}
use Rattle.std.proofs.Math.Path.{refl, sym, ap, subst}
use mathlib.Core.List.{List, [], ◌∷◌, ◌++◌, append-nil, append_assoc}
use Rattle.lists.specs.Numbers.{bit_of, capped_sum, sum_fits}
use Rattle.lists.specs.Tests.{either}
use Rattle.queue.specs.declared.Finished.{Finished}
use Rattle.server.specs.Limits.{last_clock}
use Rattle.table.specs.declared.Table.{Table}
use Rattle.table.specs.declared.State.{State}
use Rattle.table.specs.Limits.{max_tasks}
use Rattle.table.specs.Refusal.{passed}
use Rattle.table.specs.State.{fit, table_check, fresh_state}
use Rattle.table.specs.Model.{model_of, written}
use Rattle.table.specs.Facts.{fit-facts, table-facts}
use Rattle.bounds.specs.Admission.{admission_of}
use Rattle.rules.specs.declared.Occupant.{Occupant}
use Rattle.rules.specs.declared.Ticked.{Ticked}
use Rattle.rules.specs.Calls.{Called, asked, request_check, clock_allows, tick_call, ticked, ran_by, occupant_kind, entry_by}
use Rattle.rules.proofs.Laws as calls
use Rattle.rules.proofs.Laws.{reached-fit, tick-few}
use Rattle.text.specs.Decimal.{decimal}
use Rattle.text.specs.Lines.{Line, line_bytes}
use Rattle.lines.specs.Lines.{totals_line}
use Rattle.plan.specs.declared.line.Arrival.{Arrival}
use Rattle.plan.specs.Text.{end, piece, split, max_number}
use Rattle.plan.specs.Lines.{numbers, max_ticks}
use Rattle.plan.specs.LineBack.{fields}
use Rattle.plan.proofs.LineBack.{fields_back}
use Rattle.plan.specs.declared.reading.Plan.{Plan}
use Rattle.plan.specs.declared.refusal.Rejection.{Rejection}
use Rattle.plan.specs.Plan.{plan_of, arrivals_from}
use Rattle.plan.proofs.Accepted.{Keeps, accepted-keeps}
use Rattle.std.proofs.lemmas.Result.{IfOk-at_ok}
use Rattle.heading.specs.Heading.{head_text}
use Rattle.output.specs.declared.totals.Totals.{Totals}
use Rattle.output.specs.Totals.{no_totals, counted, answered, closing_text}
use Rattle.output.specs.Output.{occupant_line, finish_text, tick_text, arrival_call, due_text, after_due, later, ticks_text, text_by, schedule_text}
use Rattle.output.specs.Printed.{closed, unclosed, lines_of, last_of, Figure, ticks, idle, rows, requests, drops, sum_x, over_x, Totalled}
use Rattle.output.proofs.PrintedLines.{Lines, answer_printed, body_of, finish-printed, head-printed, in_front, letter_of, line-parted, no_lines, nothing, occupant-printed, of_tick, same-sums, sum_append, then}

-- ---- what is counted is what is printed
-- the totals after t ticks, by figure
abbrev figure_of : ℕ → Totals → Figure → ℕ
figure_of t u ticks = t
figure_of t u idle = u.idle
figure_of t u rows = u.tasks
figure_of t u requests = u.requests
figure_of t u drops = u.drops

-- a tick drops as many jobs as there are tasks at most, so the totals stay below the largest number
Small : ℕ → Totals → Type 0
Small t u = (f : Figure) → figure_of t u f ≤ max_tasks * t

bit_few : (b : Bool) → bit_of b ≤ max_tasks
bit_few true = omega arith
bit_few false = omega arith

of_tick-few : (c d : ℕ) → d ≤ max_tasks → (f : Figure) → of_tick c d f ≤ max_tasks
of_tick-few c d h ticks = omega arith
of_tick-few c d h idle = bit_few (eqb c 73)
of_tick-few c d h rows = bit_few (eqb c 84)
of_tick-few c d h requests = bit_few (eqb c 65)
of_tick-few c d h drops = h

-- the kind of an entry and the letter of an X line say the same
kinds_letters :
    (o : Occupant) →
    (bit_of (eqb (occupant_kind o) 0) ≡ bit_of (eqb (letter_of o) 73)) × (bit_of (eqb (occupant_kind o) 1) ≡ bit_of (eqb (letter_of o) 84))
    × (bit_of (ltb 1 (occupant_kind o)) ≡ bit_of (eqb (letter_of o) 65))
kinds_letters Occupant.Idle = (refl, refl, refl)
kinds_letters (Occupant.Task i) = (refl, refl, refl)
kinds_letters (Occupant.Request id) = (refl, refl, refl)

one-letter : (o : Occupant) (d : ℕ) → of_tick (letter_of o) d idle + of_tick (letter_of o) d rows + of_tick (letter_of o) d requests ≡ 1
one-letter Occupant.Idle d = refl
one-letter (Occupant.Task i) d = refl
one-letter (Occupant.Request id) d = refl

module _ (t : ℕ) (u : Totals) (o : Occupant) (d : ℕ) (early : t ≤ max_ticks) (small : Small t u) (few : d ≤ max_tasks) where
  sum_of : (f : Figure) → capped_sum (figure_of t u f) (of_tick (letter_of o) d f) ≡ figure_of t u f + of_tick (letter_of o) d f
  unfolding Small
  sum_of f = sym (sum_fits (figure_of t u f) (of_tick (letter_of o) d f) (omega (arith, small f, of_tick-few (letter_of o) d few f)))

  counted-adds : (f : Figure) → figure_of (suc t) (counted u (entry_by o d)) f ≡ figure_of t u f + of_tick (letter_of o) d f
  counted-adds ticks = omega arith
  counted-adds idle = ap (capped_sum u.idle) (kinds_letters o).0 ∙ sum_of idle
  counted-adds rows = ap (capped_sum u.tasks) (kinds_letters o).1 ∙ sum_of rows
  counted-adds requests = ap (capped_sum u.requests) (kinds_letters o).2 ∙ sum_of requests
  counted-adds drops = sum_of drops

  counted-small : Small (suc t) (counted u (entry_by o d))
  unfolding Small
  counted-small f = omega (arith, counted-adds f, small f, of_tick-few (letter_of o) d few f)

-- ---- k ticks
-- what is printed from tick t on, after the totals u: lines, and then the closing line with what they add
record Ran (k t : ℕ) (u : Totals) (text : List ℕ) : Type 0 where
  front : List ℕ
  sums : Figure → ℕ
  after : Totals
  parts : text ≡ front ++ closing_text (t + k) after
  lines : Lines front sums
  counts : (f : Figure) → figure_of (t + k) after f ≡ figure_of t u f + sums f
  small : Small (t + k) after
  balance : sums idle + sums rows + sums requests ≡ sums ticks

none-ran : (t : ℕ) (u : Totals) → Small t u → Ran 0 t u (closing_text t u)
none-ran t u h =
    let e : t + 0 ≡ t = omega arith in
    record {
      front = [];
      sums = nothing;
      after = u;
      parts = ap (λ (x : ℕ). closing_text x u) (sym e);
      lines = no_lines;
      counts = λ f. ap (λ (x : ℕ). figure_of x u f) e ∙ omega arith;
      small = subst (λ (x : ℕ). Small x u) (sym e) h;
      balance = refl;
    }

-- a tick, after lines that are no X lines, and the ticks after it
module _ (k t : ℕ) (u : Totals) (o : Occupant) (d : ℕ) (x : Option Finished) (early : t ≤ max_ticks) (small : Small t u) (few : d ≤ max_tasks) where
  more-ran :
      {a z : List ℕ} → Lines a nothing → Ran k (suc t) (counted u (entry_by o d)) z →
      Ran (suc k) t u (a ++ ((line_bytes (occupant_line t o d) ++ finish_text t x) ++ z))
  more-ran {a} {z} due on =
      let e : t + suc k ≡ suc t + k = omega arith in
      let here = line_bytes (occupant_line t o d) ++ finish_text t x in
      let closing = closing_text (suc t + k) on.after in
      record {
        front = a ++ (here ++ on.front);
        sums = λ f. of_tick (letter_of o) d f + on.sums f;
        after = on.after;
        parts =
            ap (λ (w : List ℕ). a ++ (here ++ w)) on.parts
            ∙ ap (λ (w : List ℕ). a ++ w) (sym (append_assoc here on.front closing))
            ∙ sym (append_assoc a (here ++ on.front) closing)
            ∙ ap (λ (n : ℕ). (a ++ (here ++ on.front)) ++ closing_text n on.after) (sym e);
        lines =
            same-sums
            (then due (then (then (occupant-printed t o d (omega arith)) (finish-printed t x)) on.lines))
            (λ f. omega arith);
        counts = λ f.
            ap (λ (n : ℕ). figure_of n on.after f) e ∙ omega (arith, on.counts f, counted-adds t u o d early small few f);
        small = subst (λ (n : ℕ). Small n on.after) (sym e) on.small;
        balance = omega (arith, on.balance, one-letter o d);
      }

-- the A lines of a tick
record Due (table : Table) (t : ℕ) (s : State) (rest : List Arrival) : Type 0 where
  lines : Lines (due_text t s rest) nothing
  reached : calls.Reached table (after_due t s rest)
  clock : (after_due t s rest).progress.clock ≡ s.progress.clock

request-clock : (s : State) (a : Arrival) → (arrival_call s a).state.progress.clock ≡ s.progress.clock
request-clock s a =
    either (λ (z : State). z.progress.clock ≡ s.progress.clock) (passed (request_check s a.work))
    {x = written s (asked a.id a.work (model_of s))} {y = s} refl refl

due-printed : (table : Table) (t : ℕ) (s : State) (rest : List Arrival) → calls.Reached table s → Due table t s rest
unfolding due_text after_due
due-printed table t s [] r = record { lines = no_lines; reached = r; clock = refl }
due-printed table t s (a ∷ rest) r = by (eqb a.tick t) refl (due-printed table t (arrival_call s a).state rest (calls.asks a.id a.work r))
  where
    by : (b : Bool) → eqb a.tick t ≡ b → Due table t (arrival_call s a).state rest → Due table t s (a ∷ rest)
    by true e on = record {
      lines = rw e (then (answer_printed t a.id (arrival_call s a).answer) on.lines);
      reached = rw e on.reached;
      clock = rw e (on.clock ∙ request-clock s a);
    }
    by false e on = record { lines = rw e no_lines; reached = rw e r; clock = rw e refl }

-- a tick of a fit state
pub fit-ran : (s : State) → fit s ≡ true → clock_allows s 1 ≡ true → tick_call s ≡ ran_by s (ticked s)
fit-ran s f c = rw (f, c) refl

module _ (table : Table) (sized : length table.tasks ≡ max_tasks) (ok : passed (table_check table) ≡ true) where
  ran :
      (k t : ℕ) (u : Totals) (s : State) (rest : List Arrival) → t + k ≤ max_ticks → calls.Reached table s → s.progress.clock ≡ t → Small t u →
      Ran k t u (ticks_text k t u s rest)
  unfolding ticks_text
  ran zero t u s rest h r c small = none-ran t u small
  ran (suc k) t u s rest h r c small =
      let z = after_due t s rest in
      let due = due-printed table t s rest r in
      let kept = reached-fit table sized ok z due.reached in
      let e = fit-ran z kept.0 (le-leb (z.progress.clock + 1) last_clock (omega (arith, due.clock, c))) in
      let few : (ticked z).drops ≤ max_tasks = omega (arith, tick-few z, (table-facts z.table (fit-facts z kept.0).passes).count) in
      let on =
      ran k (suc t) (counted u (entry_by (ticked z).occupant (ticked z).drops)) (ran_by z (ticked z)).state (later t rest) (omega arith)
      (subst (λ (x : Called Ticked). calls.Reached table x.state) e (calls.ticks due.reached))
      (omega (arith, due.clock, c))
      (counted-small t u (ticked z).occupant (ticked z).drops (omega arith) small few) in
      subst
      (λ (x : Called Ticked).
      Ran (suc k) t u (due_text t s rest ++ (tick_text t x.answer ++ ticks_text k (suc t) (answered u x.answer) x.state (later t rest))))
      (sym e)
      (more-ran k t u (ticked z).occupant (ticked z).drops (ticked z).finish (omega arith) small few due.lines on)

-- ---- the whole
-- lines, and then a last one
module _ (ls : List (List ℕ)) (x : List ℕ) where
  closed-last : closed (in_front ls (piece x (end []))) ≡ ls ++ x ∷ []
  closed-last = go ls
    where
      go : (ls : List (List ℕ)) → closed (in_front ls (piece x (end []))) ≡ ls ++ x ∷ []
      go [] = refl
      go (l ∷ ls) = ap (λ (r : List (List ℕ)). l ∷ r) (go ls)

  unclosed-last : unclosed (in_front ls (piece x (end []))) ≡ []
  unclosed-last = go ls
    where
      go : (ls : List (List ℕ)) → unclosed (in_front ls (piece x (end []))) ≡ []
      go [] = refl
      go (l ∷ ls) = go ls

  last-last : last_of (ls ++ x ∷ []) ≡ x
  last-last = go ls
    where
      go : (ls : List (List ℕ)) → last_of (ls ++ x ∷ []) ≡ x
      go [] = refl
      go (l ∷ []) = refl
      go (l ∷ m ∷ ls) = go (m ∷ ls)

-- lines that balance, and then the closing line that counts them
module _ {front : List ℕ} {sums : Figure → ℕ} (lines : Lines front sums) (n : ℕ) (u : Totals) (counts : (f : Figure) → figure_of n u f ≡ sums f) (small : (f : Figure) → figure_of n u f ≤ max_number) where
  abbrev last : Line
  last = totals_line n u.idle u.tasks u.requests u.drops

  abbrev text : List ℕ
  text = front ++ closing_text n u

  text-parted : split 10 text ≡ in_front lines.lines (piece (body_of last) (end []))
  unfolding split
  text-parted =
      ap (λ (w : List ℕ). split 10 (front ++ w)) (sym (append-nil (closing_text n u))) ∙ lines.parted (closing_text n u ++ [])
      ∙ ap (in_front lines.lines) (line-parted last (refl, (tt, (tt, (tt, (tt, (tt, tt)))))) [])

  text-lines : lines_of text ≡ lines.lines ++ body_of last ∷ []
  text-lines = ap closed text-parted ∙ closed-last lines.lines (body_of last)

  text-last : last_of (lines_of text) ≡ body_of last
  text-last = ap last_of text-lines ∙ last-last lines.lines (body_of last)

  text-sums : (f : Figure) → over_x f text ≡ figure_of n u f
  text-sums f = ap (sum_x f) text-lines ∙ omega (arith, sum_append f lines.lines (body_of last ∷ []), lines.sums f, counts f)

  last-fields : drop 2 (body_of last) ≡ fields n (u.idle ∷ u.tasks ∷ u.requests ∷ u.drops ∷ [])
  last-fields =
      ap (λ (w : List ℕ). decimal n ++ 44 ∷ (decimal u.idle ++ 44 ∷ (decimal u.tasks ++ 44 ∷ (decimal u.requests ++ 44 ∷ w))))
      (append-nil (decimal u.drops))

  last-numbers : numbers (drop 2 (body_of last)) ≡ Some (n ∷ u.idle ∷ u.tasks ∷ u.requests ∷ u.drops ∷ [])
  last-numbers =
      ap numbers last-fields
      ∙ fields_back n (u.idle ∷ u.tasks ∷ u.requests ∷ u.drops ∷ []) (small ticks, (small idle, (small rows, (small requests, small drops))))

  text_totalled : sums idle + sums rows + sums requests ≡ sums ticks → Totalled text n
  text_totalled balance = record {
    whole = ap unclosed text-parted ∙ unclosed-last lines.lines (body_of last);
    letter = ap (take 2) text-last;
    figures =
        ap (λ (l : List ℕ). numbers (drop 2 l)) text-last ∙ last-numbers
        ∙ rw (text-sums ticks, text-sums idle, text-sums rows, text-sums requests, text-sums drops) refl;
    all = text-sums ticks;
    sum =
        omega (
          arith,
          text-sums ticks,
          text-sums idle,
          text-sums rows,
          text-sums requests,
          counts ticks,
          counts idle,
          counts rows,
          counts requests,
          balance,
        );
  }

none_yet : (f : Figure) → figure_of 0 no_totals f ≡ 0
none_yet ticks = refl
none_yet idle = refl
none_yet rows = refl
none_yet requests = refl
none_yet drops = refl

-- an accepted plan: its last line says the sums over its X lines, of which there are as many as R has ticks
module _ (bytes : List ℕ) (p : Plan) (ok : plan_of bytes ≡ Ok p) where
  abbrev body : List ℕ
  body = ticks_text p.ticks 0 no_totals (fresh_state p.table) (arrivals_from bytes 0)

  abbrev head : List ℕ
  head = head_text p.table.n (admission_of p.table)

  all-ran : Ran p.ticks 0 no_totals body
  unfolding Small
  all-ran =
      let keeps : Keeps p = IfOk-at_ok Keeps ok (accepted-keeps bytes) in
      ran p.table keeps.sized keeps.passes p.ticks 0 no_totals (fresh_state p.table) (arrivals_from bytes 0)
      (omega (arith, keeps.ticks)) calls.started refl (λ f. omega (arith, none_yet f))

  -- all but the closing line
  abbrev front : List ℕ
  front = head ++ all-ran.front

  printed : schedule_text bytes ≡ front ++ closing_text (0 + p.ticks) all-ran.after
  unfolding schedule_text text_by
  printed =
      ap (λ (a : Result Plan Rejection). text_by a bytes) ok ∙ ap (λ (w : List ℕ). head ++ w) all-ran.parts
      ∙ sym (append_assoc head all-ran.front (closing_text (0 + p.ticks) all-ran.after))

  front-lines : Lines front all-ran.sums
  front-lines = same-sums (then (head-printed p.table.n (admission_of p.table)) all-ran.lines) (λ f. omega arith)

  front-counts : (f : Figure) → figure_of (0 + p.ticks) all-ran.after f ≡ all-ran.sums f
  front-counts f = omega (arith, all-ran.counts f, none_yet f)

  figures-fit : (f : Figure) → figure_of (0 + p.ticks) all-ran.after f ≤ max_number
  unfolding Small
  figures-fit f = omega (arith, all-ran.small f, (IfOk-at_ok Keeps ok (accepted-keeps bytes)).ticks)

  pub schedule_totalled : Totalled (schedule_text bytes) p.ticks
  schedule_totalled =
      subst (λ (w : List ℕ). Totalled w p.ticks) (sym printed)
      (subst (Totalled (front ++ closing_text (0 + p.ticks) all-ran.after)) (omega arith)
      (text_totalled front-lines (0 + p.ticks) all-ran.after front-counts figures-fit all-ran.balance))
