-- The printing, step by step: where it stands after some steps, and what they print.
use Prim.Native.Nat.{ℕ, zero, suc, ◌+◌, ◌≤◌, ◌<◌}
use native.Mathlib.Omega.{arith}
use Rattle.std.specs.Prelude.{◌≡◌, Bool, true, false, eqb, leb}
use Rattle.std.proofs.Math.Path.{refl, ap}
use Rattle.std.proofs.Common.{sym, subst, ◌∙◌, eq-eqb, ne_eqb, eqb-true, le-leb, leb-true, leb-false}
use mathlib.Core.List.{List, append-nil, append_assoc}
use Rattle.std.proofs.lemmas.Bool.{eqb-false, lt-leb}
use Rattle.text.specs.Buffer.{then, nothing_written, wrote_length}
use Rattle.plan.specs.declared.line.Arrival.{Arrival}
use Rattle.std.specs.Prelude.{Option, Some, None}
use Rattle.output.specs.declared.lent.Place.{Place}
use Rattle.output.specs.Steps.{NotDue, Step, Stepped, Taken, and_then, no_step, presented, step_by, step_from, steps_from, tick_run}

-- ---- which step a place has
module _ (bytes : List ℕ) (ticks : ℕ) (p : Place) where
  step-none : ticks ≤ p.tick → step_from bytes ticks p ≡ no_step p
  unfolding step_from
  step-none h = rw (le-leb ticks p.tick h) refl

  step-early : p.tick < ticks → step_from bytes ticks p ≡ step_by bytes p p.next
  unfolding step_from
  step-early h = rw (lt-leb ticks p.tick h) refl

  step-due : p.tick < ticks → (a : Arrival) (q : ℕ) → p.next ≡ Some (a, q) → a.tick ≡ p.tick → step_from bytes ticks p ≡ presented bytes p a q
  step-due early a q found due = step-early early ∙ ap (step_by bytes p) found ∙ rw (eq-eqb a.tick p.tick due) refl

  pub step-tick : p.tick < ticks → NotDue p.next p.tick → step_from bytes ticks p ≡ tick_run p
  step-tick early idle = step-early early ∙ by p.next idle
    where
      by : (n : Option (Arrival × ℕ)) → NotDue n p.tick → step_by bytes p n ≡ tick_run p
      by (Some (a, q)) h = rw (ne_eqb a.tick p.tick h) refl
      by None h = refl

  -- what holds of each kind of step holds of the place's step
  pub step-kinds :
      (F : Step → Type 0) → (ticks ≤ p.tick → F (no_step p)) →
      ((a : Arrival) (q : ℕ) → p.tick < ticks → p.next ≡ Some (a, q) → a.tick ≡ p.tick → F (presented bytes p a q)) →
      (p.tick < ticks → NotDue p.next p.tick → F (tick_run p)) → F (step_from bytes ticks p)
  step-kinds F none due run = by (leb ticks p.tick) refl
    where
      found : (early : p.tick < ticks) (a : Arrival) (q : ℕ) (b : Bool) → p.next ≡ Some (a, q) → eqb a.tick p.tick ≡ b → F (step_from bytes ticks p)
      found early a q true e f =
          let d = eqb-true a.tick p.tick f in
          subst F (sym (step-due early a q e d)) (due a q early e d)
      found early a q false e f =
          let d = subst (λ (n : Option (Arrival × ℕ)). NotDue n p.tick) (sym e) (eqb-false a.tick p.tick f) in
          subst F (sym (step-tick early d)) (run early d)

      next : (early : p.tick < ticks) (n : Option (Arrival × ℕ)) → p.next ≡ n → F (step_from bytes ticks p)
      next early (Some (a, q)) e = found early a q (eqb a.tick p.tick) e refl
      next early None e =
          let d = subst (λ (n : Option (Arrival × ℕ)). NotDue n p.tick) (sym e) tt in
          subst F (sym (step-tick early d)) (run early d)

      by : (b : Bool) → leb ticks p.tick ≡ b → F (step_from bytes ticks p)
      by true e = let h = leb-true ticks p.tick e in subst F (sym (step-none h)) (none h)
      by false e = next (leb-false ticks p.tick e) p.next refl

-- ---- steps one after the other
module _ (bytes : List ℕ) (ticks : ℕ) where
  one-step : (p : Place) → steps_from bytes ticks 1 p ≡ step_from bytes ticks p
  unfolding steps_from
  one-step p = ap (λ (x : List ℕ). record { place = (step_from bytes ticks p).place; text = x }) (append-nil (step_from bytes ticks p).text)

  more-steps : (n k : ℕ) (p : Place) → steps_from bytes ticks (n + k) p ≡ and_then (steps_from bytes ticks n p) (steps_from bytes ticks k (steps_from bytes ticks n p).place)
  unfolding steps_from
  more-steps zero k p = let e : 0 + k ≡ k = omega arith in rw e refl
  more-steps (suc n) k p =
      let e : suc n + k ≡ suc (n + k) = omega arith in
      let s = step_from bytes ticks p in
      let f = steps_from bytes ticks n s.place in
      let g = steps_from bytes ticks k f.place in
      ap (λ (j : ℕ). steps_from bytes ticks j p) e
      ∙ ap (and_then s) (more-steps n k s.place)
      ∙ ap (λ (x : List ℕ). record { place = g.place; text = x }) (sym (append_assoc s.text f.text g.text))

  -- where no tick is left, further steps change nothing; so whatever number of steps leads to such a place, it is one place
  steps-none : (n : ℕ) (p : Place) → ticks ≤ p.tick → (steps_from bytes ticks n p).place ≡ p
  unfolding steps_from
  steps-none zero p h = refl
  steps-none (suc n) p h = ap (λ (s : Step). (steps_from bytes ticks n s.place).place) (step-none bytes ticks p h) ∙ steps-none n p h

  steps-end : (n k : ℕ) (p : Place) → ticks ≤ (steps_from bytes ticks n p).place.tick → (steps_from bytes ticks (n + k) p).place ≡ (steps_from bytes ticks n p).place
  steps-end n k p h = ap (λ (s : Step). s.place) (more-steps n k p) ∙ steps-none k (steps_from bytes ticks n p).place h

  pub one_end :
      (n k : ℕ) (p : Place) → ticks ≤ (steps_from bytes ticks n p).place.tick → ticks ≤ (steps_from bytes ticks k p).place.tick →
      (steps_from bytes ticks n p).place ≡ (steps_from bytes ticks k p).place
  one_end n k p h g =
      let e : n + k ≡ k + n = omega arith in
      sym (steps-end n k p h) ∙ ap (λ (j : ℕ). (steps_from bytes ticks j p).place) e ∙ steps-end k n p g

-- ---- steps that are taken
pub taken-same : {s t : Step} {l m : List ℕ} {at r : ℕ} {q : Place} → s ≡ t → Taken s l at m r q → Taken t l at m r q
taken-same {s} {t} {l} {m} {at} {r} {q} e h = subst (λ (x : Step). Taken x l at m r q) e h

pub none-taken : (bytes : List ℕ) (ticks : ℕ) (l : List ℕ) (p : Place) → Taken (steps_from bytes ticks 0 p) l 0 l 0 p
unfolding steps_from
none-taken bytes ticks l p = record { place = refl; wrote = nothing_written l 0; fits = omega arith }

-- the step of a place, by its kind, and steps after steps
module _ (bytes : List ℕ) (ticks : ℕ) {l m : List ℕ} {at r : ℕ} (p : Place) {q : Place} where
  one-taken : Taken (step_from bytes ticks p) l at m r q → Stepped bytes ticks l at p m r q
  one-taken h = record { steps = 1; some = omega arith; taken = taken-same (sym (one-step bytes ticks p)) h }

  pub tick-taken : p.tick < ticks → NotDue p.next p.tick → Taken (tick_run p) l at m r q → Stepped bytes ticks l at p m r q
  tick-taken early idle h = one-taken (taken-same (sym (step-tick bytes ticks p early idle)) h)

  pub presented-taken :
      p.tick < ticks → (a : Arrival) (z : ℕ) → p.next ≡ Some (a, z) → a.tick ≡ p.tick → Taken (presented bytes p a z) l at m r q →
      Stepped bytes ticks l at p m r q
  presented-taken early a z found due h = one-taken (taken-same (sym (step-due bytes ticks p early a z found due)) h)

  pub more-taken :
      {o : List ℕ} {z : ℕ} {v : Place} (n : ℕ) → Taken (steps_from bytes ticks n p) l at m r q → (s : Stepped bytes ticks m r q o z v) →
      Taken (steps_from bytes ticks (n + s.steps) p) l at o z v
  more-taken n h s = taken-same steps (record {
    place = s.taken.place;
    wrote = then h.wrote s.taken.wrote;
    fits = omega (arith, s.taken.fits, wrote_length h.wrote);
  })
    where
      steps : and_then (steps_from bytes ticks n p) (steps_from bytes ticks s.steps q) ≡ steps_from bytes ticks (n + s.steps) p
      steps = ap (λ (x : Place). and_then (steps_from bytes ticks n p) (steps_from bytes ticks s.steps x)) h.place ∙ sym (more-steps bytes ticks n s.steps p)
