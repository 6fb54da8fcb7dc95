-- A turn of the walk over the A lines at a place keeps what is claimed of the walk; `walked` claims it with nothing assumed.
use Rattle.std.specs.Prelude.{ℕ, suc, ◌+◌, ◌≤◌, ◌<◌, ◌≡◌, Bool, nat_lt, List, length, drop}
use Rattle.plan.specs.Plan.{next_from}
use Rattle.plan.proofs.Search.{up_to}
use Rattle.plan.proofs.Arrivals.{Walked, walked}

module _ (t : List ℕ) where
  at-line : (k at : ℕ) → ((p : ℕ) → length t ≤ p + k → Walked t p (next_from t p)) → length t ≤ at + suc k → at < length t → (e : ℕ) → e ≡ at + up_to 10 (drop at t) → (b : Bool) → nat_lt e (length t) ≡ b → Walked t at (next_from t at)
  at-line k at ih h i e f b q = walked t at

  at_place : (k at : ℕ) → ((p : ℕ) → length t ≤ p + k → Walked t p (next_from t p)) → length t ≤ at + suc k → (b : Bool) → nat_lt at (length t) ≡ b → Walked t at (next_from t at)
  at_place k at ih h b q = walked t at
