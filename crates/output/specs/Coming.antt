-- The A lines that are still to come.
use Rattle.std.specs.Prelude.{ℕ, ◌≡◌, List, [], ◌∷◌, ⊤}
use Rattle.plan.specs.declared.line.Arrival.{Arrival}

-- the first A line is of another tick, or there is none
abbrev pub NoneDue : ℕ → List Arrival → Type 0
NoneDue t [] = ⊤
NoneDue t (a ∷ rest) = a.tick ≡ t → ⊥
