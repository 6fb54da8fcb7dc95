-- What is still to be printed at a place, the closing line included, and how many steps are left there at most: each step prints the front of it, and leaves fewer.
use Prim.Native.Nat.{ℕ, zero, suc, ◌+◌, ◌-◌, ◌≤◌, ◌<◌}
use Rattle.std.specs.Prelude.{◌≡◌, length}
use Rattle.std.proofs.Math.Path.{refl, sym, ap}
use Rattle.std.proofs.Common.{◌∙◌, add-one, eq-eqb, ne_eqb}
use mathlib.Core.List.{List, [], ◌∷◌, ◌++◌, append_assoc}
use native.Mathlib.Omega.{arith}
use Rattle.table.specs.declared.State.{State}
use Rattle.rules.specs.Calls.{tick_call}
use Rattle.plan.specs.declared.line.Arrival.{Arrival}
use Rattle.std.specs.Prelude.{Option, Some, None}
use Rattle.plan.specs.Plan.{arrivals_from, next_from, unrolled}
use Rattle.plan.proofs.Arrivals.{walked}
use Rattle.output.specs.declared.lent.Place.{Place}
use Rattle.output.specs.declared.totals.Totals.{Totals}
use Rattle.output.specs.Totals.{answered}
use Rattle.output.specs.Output.{answer_text, tick_text, arrival_call, due_text, after_due, later, ticks_text}
use Rattle.output.specs.Steps.{Step, presented, tick_run, step_from, steps_from, Taken, NotDue}
use Rattle.output.proofs.Steps.{step-kinds}
use Rattle.output.specs.Rest.{text_from}
use Rattle.output.specs.Coming.{NoneDue}

join :
    (f : State → List Arrival → List ℕ) {x y : List ℕ} {s q : State} {cs bs : List Arrival} → x ≡ y → s ≡ q → cs ≡ bs → x ++ f s cs ≡ y ++ f q bs
join f {x} {y} {s} {q} {cs} {bs} d e h =
    ap (λ (l : List ℕ). l ++ f s cs) d ∙ ap (λ (z : State). y ++ f z cs) e ∙ ap (λ (l : List Arrival). y ++ f q l) h

-- the tick of a state and the ticks after it
tick_on : ℕ → ℕ → Totals → State → List Arrival → List ℕ
tick_on k t u s rest = tick_text t (tick_call s).answer ++ ticks_text k (suc t) (answered u (tick_call s).answer) (tick_call s).state rest

module _ (t : ℕ) (s : State) where
  module _ (a : Arrival) (rest : List Arrival) (e : a.tick ≡ t) where
    due-on : due_text t s (a ∷ rest) ≡ answer_text t a.id (arrival_call s a).answer ++ due_text t (arrival_call s a).state rest
    unfolding due_text
    due-on = rw (eq-eqb _ _ e) refl

    after_on : after_due t s (a ∷ rest) ≡ after_due t (arrival_call s a).state rest
    unfolding after_due
    after_on = rw (eq-eqb _ _ e) refl

    later-on : later t (a ∷ rest) ≡ later t rest
    unfolding later
    later-on = rw (eq-eqb _ _ e) refl

  module _ (a : Arrival) (rest : List Arrival) (e : a.tick ≡ t → ⊥) where
    due_off : due_text t s (a ∷ rest) ≡ []
    unfolding due_text
    due_off = rw (ne_eqb _ _ e) refl

    after_off : after_due t s (a ∷ rest) ≡ s
    unfolding after_due
    after_off = rw (ne_eqb _ _ e) refl

    later_off : later t (a ∷ rest) ≡ a ∷ rest
    unfolding later
    later_off = rw (ne_eqb _ _ e) refl

module _ (k t : ℕ) (u : Totals) (s : State) where
  opened : (z : State) (rest : List Arrival) → ticks_text (suc k) t u z rest ≡ due_text t z rest ++ tick_on k t u (after_due t z rest) (later t rest)
  unfolding ticks_text tick_on
  opened z rest = refl

  -- an A line of tick t: its N line, if it has one, then the rest with it presented
  pub arrival-first :
      (a : Arrival) (rest : List Arrival) → a.tick ≡ t →
      ticks_text (suc k) t u s (a ∷ rest) ≡ answer_text t a.id (arrival_call s a).answer ++ ticks_text (suc k) t u (arrival_call s a).state rest
  arrival-first a rest e =
      opened s (a ∷ rest) ∙ join (tick_on k t u) (due-on t s a rest e) (after_on t s a rest e) (later-on t s a rest e)
      ∙ append_assoc (answer_text t a.id (arrival_call s a).answer) (due_text t (arrival_call s a).state rest) (tick_on k t u (after_due t (arrival_call s a).state rest) (later t rest))
      ∙ ap (λ (x : List ℕ). answer_text t a.id (arrival_call s a).answer ++ x) (sym (opened (arrival_call s a).state rest))

  -- none: the tick's X and F lines, then the ticks after it
  pub tick-first :
      (rest : List Arrival) → NoneDue t rest →
      ticks_text (suc k) t u s rest ≡ tick_text t (tick_call s).answer ++ ticks_text k (suc t) (answered u (tick_call s).answer) (tick_call s).state rest
  unfolding tick_on due_text after_due later
  tick-first [] h = opened s []
  tick-first (a ∷ rest) h = opened s (a ∷ rest) ∙ join (tick_on k t u) (due_off t s a rest h) (after_off t s a rest h) (later_off t s a rest h)

-- how many steps are left at most, one for each tick and each A line
abbrev pub next_left : List ℕ → Option (Arrival × ℕ) → ℕ
next_left bytes (Some (a, q)) = suc (length bytes - q)
next_left bytes None = 0

unfoldable pub steps_left : List ℕ → ℕ → Place → ℕ
steps_left bytes ticks p = (ticks - p.tick) + next_left bytes p.next

-- ---- a step prints the front of that, and leaves fewer steps
none-due : (n : Option (Arrival × ℕ)) (t : ℕ) (bytes : List ℕ) → NotDue n t → NoneDue t (unrolled bytes n)
unfolding unrolled
none-due (Some (a, q)) t bytes h = h
none-due None t bytes h = tt

module _ (bytes : List ℕ) (ticks : ℕ) (p : Place) where
  -- what is claimed of a step of the place p
  record Forward (s : Step) : Type 0 where
    prints : text_from bytes ticks p ≡ s.text ++ text_from bytes ticks s.place
    fewer : p.tick < ticks → steps_left bytes ticks s.place < steps_left bytes ticks p
    no_more : steps_left bytes ticks s.place ≤ steps_left bytes ticks p

  one_more : p.tick < ticks → ticks - p.tick ≡ suc (ticks - suc p.tick)
  one_more early = omega arith

  module _ (early : p.tick < ticks) (a : Arrival) (q : ℕ) (found : p.next ≡ Some (a, q)) (due : a.tick ≡ p.tick) where
    abbrev line : List ℕ
    line = (presented bytes p a q).text

    found-rest : unrolled bytes p.next ≡ a ∷ arrivals_from bytes q
    unfolding unrolled
    found-rest = ap (unrolled bytes) found

    presented-prints : text_from bytes ticks p ≡ line ++ text_from bytes ticks (presented bytes p a q).place
    unfolding text_from
    presented-prints =
        ap (ticks_text (ticks - p.tick) p.tick p.totals p.state) found-rest
        ∙ ap (λ (k : ℕ). ticks_text k p.tick p.totals p.state (a ∷ arrivals_from bytes q)) (one_more early)
        ∙ arrival-first (ticks - suc p.tick) p.tick p.totals p.state a (arrivals_from bytes q) due
        ∙ ap (λ (k : ℕ). line ++ ticks_text k p.tick p.totals (arrival_call p.state a).state (arrivals_from bytes q)) (sym (one_more early))
        ∙ ap (λ (r : List Arrival). line ++ ticks_text (ticks - p.tick) p.tick p.totals (arrival_call p.state a).state r) (walked bytes q).left

    next-fewer : (r : Option (Arrival × ℕ)) → ((b : Arrival) (z : ℕ) → r ≡ Some (b, z) → (q < z) × (z ≤ length bytes)) → next_left bytes r < suc (length bytes - q)
    next-fewer (Some (b, z)) f = let g = f b z refl in omega arith
    next-fewer None f = omega arith

    presented-fewer : steps_left bytes ticks (presented bytes p a q).place < steps_left bytes ticks p
    unfolding steps_left
    presented-fewer =
        let e : next_left bytes p.next ≡ suc (length bytes - q) = ap (next_left bytes) found in
        let f : next_left bytes (next_from bytes q) < suc (length bytes - q) = next-fewer (next_from bytes q) (walked bytes q).further in
        omega arith

  module _ (early : p.tick < ticks) (idle : NotDue p.next p.tick) where
    tick-prints : text_from bytes ticks p ≡ (tick_run p).text ++ text_from bytes ticks (tick_run p).place
    unfolding text_from
    tick-prints =
        ap (λ (k : ℕ). ticks_text k p.tick p.totals p.state (unrolled bytes p.next)) (one_more early)
        ∙ tick-first (ticks - suc p.tick) p.tick p.totals p.state (unrolled bytes p.next) (none-due p.next p.tick bytes idle)
        ∙ ap (λ (t : ℕ). (tick_run p).text ++ ticks_text (ticks - t) t (tick_run p).place.totals (tick_call p.state).state (unrolled bytes p.next)) (sym (add-one p.tick))

    tick-fewer : steps_left bytes ticks (tick_run p).place < steps_left bytes ticks p
    unfolding steps_left
    tick-fewer = omega arith

  forward : Forward (step_from bytes ticks p)
  forward =
      step-kinds bytes ticks p Forward
      (λ h. record { prints = refl; fewer = λ early. absurd (omega arith); no_more = omega arith })
      (λ a q early found due.
      let f = presented-fewer early a q found due in
      record { prints = presented-prints early a q found due; fewer = λ e. f; no_more = omega arith })
      (λ early idle.
      let f = tick-fewer early idle in
      record { prints = tick-prints early idle; fewer = λ e. f; no_more = omega arith })

-- and so do n steps
module _ (bytes : List ℕ) (ticks : ℕ) where
  pub steps_print : (n : ℕ) (p : Place) → text_from bytes ticks p ≡ (steps_from bytes ticks n p).text ++ text_from bytes ticks (steps_from bytes ticks n p).place
  unfolding steps_from
  steps_print zero p = refl
  steps_print (suc n) p =
      let s = step_from bytes ticks p in
      let f = steps_from bytes ticks n s.place in
      (forward bytes ticks p).prints
      ∙ ap (λ (x : List ℕ). s.text ++ x) (steps_print n s.place)
      ∙ sym (append_assoc s.text f.text (text_from bytes ticks f.place))

  steps-no_more : (n : ℕ) (p : Place) → steps_left bytes ticks (steps_from bytes ticks n p).place ≤ steps_left bytes ticks p
  unfolding steps_from
  steps-no_more zero p = omega arith
  steps-no_more (suc n) p = omega (arith, steps-no_more n (step_from bytes ticks p).place, (forward bytes ticks p).no_more)

  steps-fewer : (n : ℕ) (p : Place) → 0 < n → p.tick < ticks → steps_left bytes ticks (steps_from bytes ticks n p).place < steps_left bytes ticks p
  unfolding steps_from
  steps-fewer zero p some early = absurd (omega arith)
  steps-fewer (suc n) p some early = omega (arith, steps-no_more n (step_from bytes ticks p).place, (forward bytes ticks p).fewer early)

  pub taken-fewer :
      {l m : List ℕ} {at r : ℕ} {q : Place} (n : ℕ) (p : Place) → 0 < n → p.tick < ticks → Taken (steps_from bytes ticks n p) l at m r q →
      steps_left bytes ticks q < steps_left bytes ticks p
  taken-fewer n p some early h = omega (arith, ap (steps_left bytes ticks) h.place, steps-fewer n p some early)
