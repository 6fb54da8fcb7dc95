-- What `schedule` prints before the ticks.
use Rattle.std.specs.Prelude.{ℕ, suc, Bool, List, [], ◌∷◌, ◌++◌, take}
use Rattle.bounds.specs.declared.Admission.{Admission}
use Rattle.text.specs.Lines.{Line, line_bytes}
use Rattle.lines.specs.Lines.{task_bound_line, server_bound_line, admitted_line}

-- a line for each element of a list, numbered from i
unfoldable pub numbered : {A : Type 0} → (ℕ → A → Line) → ℕ → List A → List ℕ
numbered line i [] = []
numbered line i (x ∷ xs) = line_bytes (line i x) ++ numbered line (suc i) xs

-- "B: row (or S) and bound": a line for each task
abbrev pub bounds_text : ℕ → List ℕ → List ℕ
bounds_text i bs = numbered task_bound_line i bs

-- the server's B line, then "V: admitted 1 or 0"
unfoldable pub verdict_text : ℕ → Bool → List ℕ
verdict_text bound admitted = line_bytes (server_bound_line bound) ++ line_bytes (admitted_line admitted)

unfoldable pub head_text : ℕ → Admission → List ℕ
head_text n a = bounds_text 0 (take n a.bounds) ++ verdict_text a.serverbound a.admitted

-- all of the definitions open, to compute with
unfoldable pub rules : Unit {0}
unfolding numbered verdict_text head_text
rules = tt
