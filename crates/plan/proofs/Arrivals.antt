-- The walk over the A lines: one turn of it; it gives them all, in their order, and moves on.
use Rattle.std.specs.Prelude.{ℕ, zero, suc, ◌+◌, ◌-◌, ◌≤◌, ◌<◌, ◌≡◌, refl, Option, Some, None, List, [], ◌∷◌, length, take, drop}
use Rattle.std.proofs.Common.{sym, ap, ◌∙◌, subst, arith, length-take, length-drop, drop_of_length-le}
use Rattle.plan.specs.declared.line.Arrival.{Arrival}
use Rattle.plan.specs.declared.line.Line.{Line}
use Rattle.plan.specs.Text.{split, end_from}
use Rattle.plan.specs.Lines.{line_of}
use Rattle.plan.proofs.Search.{up_to, split-last, part-more, Ended, ended, unended}
use Rattle.plan.specs.Plan.{arrival_of, arrival_in, arrivals, arrivals_from, unrolled, or_next, next_in, next_from, behind}

-- a line that is no A line
pub passed : (l : Option Line) (p : ℕ) (x : Option (Arrival × ℕ)) → ((a : Arrival) → l ≡ Some (Line.Arrival a) → ⊥) → or_next l p x ≡ x
passed None p x h = refl
passed (Some (Line.Task r)) p x h = refl
passed (Some (Line.Server s)) p x h = refl
passed (Some (Line.Arrival a)) p x h = absurd (h a refl)
passed (Some (Line.Run n)) p x h = refl

-- what is claimed of the next arrival r, from a position on
pub record Walked (t : List ℕ) (at : ℕ) (r : Option (Arrival × ℕ)) : Type 0 where
  pub left : arrivals_from t at ≡ unrolled t r
  pub further : (a : Arrival) (q : ℕ) → r ≡ Some (a, q) → (at < q) × (q ≤ length t)

module _ (t : List ℕ) where
  -- a turn of the walk: no line is left
  pub walk-last : (at : ℕ) → None ≡ end_from 10 t at → next_from t at ≡ None
  unfolding next_from next_in
  walk-last at p = ap (next_in at) (unended 10 t at p)

  pub walk_end : (at : ℕ) → length t ≤ at → next_from t at ≡ None
  unfolding next_from next_in split
  walk_end at h = rw (drop_of_length-le t h) refl

  -- or one that ends at e
  pub walk-line : (at e : ℕ) → Some e ≡ end_from 10 t at → (l : Option Line) → l ≡ line_of (take (e - at) (drop at t)) →
      next_from t at ≡ or_next l (e + 1) (next_from t (e + 1))
  unfolding next_from next_in
  walk-line at e p l parsed =
      let here = ended 10 t at e p in
      let after = here.after in
      let inside = here.inside in
      let wide : at + length (take (e - at) (drop at t)) + 1 ≡ e + 1 = omega (arith, length-take (e - at) (drop at t), length-drop at t) in
      ap (next_in at) here.parts ∙ simp (sym parsed, wide)

  pub walk-on : (at e : ℕ) → Some e ≡ end_from 10 t at → None ≡ arrival_of (line_of (take (e - at) (drop at t))) → next_from t at ≡ next_from t (e + 1)
  walk-on at e p k =
      walk-line at e p (line_of (take (e - at) (drop at t))) refl
      ∙ passed (line_of (take (e - at) (drop at t))) (e + 1) (next_from t (e + 1)) (λ a q. let z : None ≡ Some a = k ∙ ap arrival_of q in absurd cc)

  pub walk-found :
      (at e : ℕ) → Some e ≡ end_from 10 t at → (a : Arrival) → Some a ≡ arrival_of (line_of (take (e - at) (drop at t))) → next_from t at ≡ Some (a, e + 1)
  walk-found at e p a k = walk-line at e p (line_of (take (e - at) (drop at t))) refl ∙ by (line_of (take (e - at) (drop at t))) k
    where
      by : (l : Option Line) → Some a ≡ arrival_of l → or_next l (e + 1) (next_from t (e + 1)) ≡ Some (a, e + 1)
      by None q = absurd cc
      by (Some (Line.Task x)) q = absurd cc
      by (Some (Line.Server x)) q = absurd cc
      by (Some (Line.Arrival x)) q = let f : a ≡ x = cc in ap (λ (y : Arrival). Some (y, e + 1)) (sym f)
      by (Some (Line.Run x)) q = absurd cc

  none-at : (at : ℕ) → length t ≤ at → arrivals_from t at ≡ []
  unfolding arrivals_from arrivals split
  none-at at h = rw (drop_of_length-le t h) refl

  done-never : (at : ℕ) (a : Arrival) (q : ℕ) → ◌≡◌ {A = Option (Arrival × ℕ)} None (Some (a, q)) → (at < q) × (q ≤ length t)
  done-never at a q e = absurd cc

  stopped : (at : ℕ) → arrivals_from t at ≡ [] → Walked t at None
  unfolding unrolled
  stopped at e = record { left = e; further = done-never at }

  last-at : (at : ℕ) → length (drop at t) ≤ up_to 10 (drop at t) → arrivals_from t at ≡ []
  unfolding arrivals_from arrivals
  last-at at h = ap arrivals (split-last 10 (drop at t) h)

  here : (at e : ℕ) → e ≡ at + up_to 10 (drop at t) → e < length t → arrivals_from t at ≡ arrival_in (line_of (take (e - at) (drop at t))) (arrivals_from t (e + 1))
  unfolding arrivals_from arrivals
  here at e f i = ap arrivals (part-more 10 t at e f i)

  none-left : (at : ℕ) → None ≡ end_from 10 t at → arrivals_from t at ≡ []
  unfolding arrivals_from arrivals
  none-left at p = ap arrivals (unended 10 t at p)

  -- a line at `at` that ends at e
  module _ (at e : ℕ) (here : Ended 10 t at e) where
    line-left : arrivals_from t at ≡ arrival_in (line_of (take (e - at) (drop at t))) (arrivals_from t (e + 1))
    unfolding arrivals_from arrivals
    line-left = ap arrivals here.parts

    on : (l : Option Line) → arrivals_from t at ≡ arrival_in l (arrivals_from t (e + 1)) → (r : Option (Arrival × ℕ)) → Walked t (e + 1) r → Walked t at (or_next l (e + 1) r)
    unfolding unrolled
    on None q r w = record { left = q ∙ w.left; further = λ a p z. let f = w.further a p z in let k = here.after in (omega arith, f.1) }
    on (Some (Line.Task x)) q r w = record { left = q ∙ w.left; further = λ a p z. let f = w.further a p z in let k = here.after in (omega arith, f.1) }
    on (Some (Line.Server x)) q r w = record { left = q ∙ w.left; further = λ a p z. let f = w.further a p z in let k = here.after in (omega arith, f.1) }
    on (Some (Line.Arrival x)) q r w = record { left = q; further = λ a p z. let m : e + 1 ≡ p = ap (λ (f : Option (Arrival × ℕ)). behind f 0) z in let k = here.after in let i = here.inside in (omega arith, omega arith) }
    on (Some (Line.Run x)) q r w = record { left = q ∙ w.left; further = λ a p z. let f = w.further a p z in let k = here.after in (omega arith, f.1) }

  turn : (at : ℕ) → ((e : ℕ) → at ≤ e → e < length t → Walked t (e + 1) (next_from t (e + 1))) → Walked t at (next_from t at)
  turn at ih = by (end_from 10 t at) refl
    where
      by : (o : Option ℕ) → end_from 10 t at ≡ o → Walked t at (next_from t at)
      by None q = subst (λ (r : Option (Arrival × ℕ)). Walked t at r) (sym (walk-last at (sym q))) (stopped at (none-left at (sym q)))
      by (Some e) q =
          let here = ended 10 t at e (sym q) in
          subst (λ (r : Option (Arrival × ℕ)). Walked t at r) (sym (walk-line at e (sym q) (line_of (take (e - at) (drop at t))) refl))
          (on at e here (line_of (take (e - at) (drop at t))) (line-left at e here) (next_from t (e + 1)) (ih e here.after here.inside))

  past : (at : ℕ) → length t ≤ at → Walked t at (next_from t at)
  past at h = subst (λ (r : Option (Arrival × ℕ)). Walked t at r) (sym (walk_end at h)) (stopped at (none-at at h))

  walk : (k at : ℕ) → length t ≤ at + k → Walked t at (next_from t at)
  walk zero at h = past at (omega arith)
  walk (suc k) at h = turn at (λ e a i. walk k (e + 1) (omega arith))

  pub walked : (at : ℕ) → Walked t at (next_from t at)
  walked at = walk (length t) at (omega arith)

  -- what a walk leaves
  pub none_next : (at : ℕ) → None ≡ next_from t at → arrivals_from t at ≡ []
  unfolding unrolled
  none_next at e = (walked at).left ∙ ap (unrolled t) (sym e)

  pub one_next : (at : ℕ) (a : Arrival) (q : ℕ) → Some (a, q) ≡ next_from t at → arrivals_from t at ≡ a ∷ arrivals_from t q
  unfolding unrolled
  one_next at a q e = (walked at).left ∙ ap (unrolled t) (sym e)
