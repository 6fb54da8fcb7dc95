-- The lines that `schedule` prints.
use Rattle.std.specs.Prelude.{ℕ, Bool, [], ◌∷◌}
use Rattle.lists.specs.Numbers.{bit_of}
use Rattle.text.specs.declared.Part.{Part}
use Rattle.text.specs.Lines.{Line}

-- "B: row (or S) and bound."
abbrev pub task_bound_line : ℕ → ℕ → Line
task_bound_line row bound = record { letter = 66; parts = Part.Number row ∷ Part.Number bound ∷ [] }

abbrev pub server_bound_line : ℕ → Line
server_bound_line bound = record { letter = 66; parts = Part.Letter 83 ∷ Part.Number bound ∷ [] }

-- "V: admitted 1 or 0"
abbrev pub admitted_line : Bool → Line
admitted_line admitted = record { letter = 86; parts = Part.Number (bit_of admitted) ∷ [] }

-- "A request refused for a full queue prints `N,tick,id,5`"
abbrev pub refused_line : ℕ → ℕ → ℕ → Line
refused_line tick id number = record { letter = 78; parts = Part.Number tick ∷ Part.Number id ∷ Part.Number number ∷ [] }

-- "X: tick, I idle or T row or A request, row or id, drops."
abbrev pub tick_line : ℕ → ℕ → ℕ → ℕ → Line
tick_line tick occupant id drops = record {
  letter = 88;
  parts = Part.Number tick ∷ Part.Letter occupant ∷ Part.Number id ∷ Part.Number drops ∷ [];
}

-- "F, after its X: tick, id, response."
abbrev pub finish_line : ℕ → ℕ → ℕ → Line
finish_line tick id response = record { letter = 70; parts = Part.Number tick ∷ Part.Number id ∷ Part.Number response ∷ [] }

-- 02: "`schedule` shall end with `E,ticks,idle,rows,requests,drops`": tasks are its rows
abbrev pub totals_line : ℕ → ℕ → ℕ → ℕ → ℕ → Line
totals_line ticks idle tasks requests drops = record {
  letter = 69;
  parts = Part.Number ticks ∷ Part.Number idle ∷ Part.Number tasks ∷ Part.Number requests ∷ Part.Number drops ∷ [];
}

-- "A refused plan prints only `Z,number,line`."
abbrev pub plan_refused_line : ℕ → ℕ → Line
plan_refused_line number line = record { letter = 90; parts = Part.Number number ∷ Part.Number line ∷ [] }
