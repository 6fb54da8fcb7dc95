-- Totals by their figures: none of them counts a tick yet.
use Rattle.std.specs.Prelude.{ℕ, ◌≡◌}
use Rattle.std.proofs.Math.Path.{refl}
use Rattle.output.specs.declared.totals.Totals.{Totals}
use Rattle.output.specs.Totals.{no_totals}

abbrev figures : ℕ → ℕ → ℕ → ℕ → Totals
figures i t r d = record { idle = i; tasks = t; requests = r; drops = d }

pub all_none : {i t r d : ℕ} → i ≡ 0 → t ≡ 0 → r ≡ 0 → d ≡ 0 → figures i t r d ≡ no_totals
all_none a b c d = rw (a, b, c, d) refl
