-- A step of the reader takes the first of the A lines that are left.
use Rattle.std.specs.Prelude.{ℕ, ◌≡◌, refl, Option, Some, None, option_map, length, ⊤}
use Rattle.std.specs.Iterator.{YieldsFirst, MakesProgress, item_count}
use Rattle.std.proofs.Common.{sym, ap, subst, arith}
use Rattle.plan.specs.declared.line.Arrival.{Arrival}
use Rattle.plan.specs.declared.reader.Reader.{Reader}
use Rattle.plan.specs.Plan.{next_from, behind}
use Rattle.plan.proofs.Arrivals.{none_next, one_next}
use Rattle.plan.specs.Reader.{arrivals_left}

module _ (r : Reader) where
  abbrev given : Option (Arrival × ℕ) → Option Arrival
  given o = option_map (λ f. f.0) o

  abbrev moved_to : Option (Arrival × ℕ) → Reader
  moved_to o = record { plan = r.plan; at = behind o r.at }

  pub yields : (item : Option Arrival) (t : Reader) → item ≡ given (next_from r.plan.now r.at) → t ≡ moved_to (next_from r.plan.now r.at) → YieldsFirst arrivals_left r item t
  yields item t e f =
      subst (λ (i : Option Arrival). YieldsFirst arrivals_left r i t) (sym e)
      (subst (λ (x : Reader). YieldsFirst arrivals_left r (given (next_from r.plan.now r.at)) x) (sym f) (by (next_from r.plan.now r.at) refl))
    where
      by : (o : Option (Arrival × ℕ)) → next_from r.plan.now r.at ≡ o → YieldsFirst arrivals_left r (given o) (moved_to o)
      by None q = let n = none_next r.plan.now r.at (sym q) in (n, n)
      by (Some g) q = one_next r.plan.now r.at g.0 g.1 (sym q)

  pub goes_on : (item : Option Arrival) (t : Reader) → YieldsFirst arrivals_left r item t → MakesProgress (λ _. ⊤) (item_count arrivals_left) r item t
  goes_on None t y = record { on = λ f. tt; keeps = tt; rests = λ f. tt }
  goes_on (Some a) t y = record { on = λ f. (tt, tt, omega (arith, ap length y)); keeps = tt; rests = λ f. tt }
