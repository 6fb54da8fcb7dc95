-- A line: a letter, a comma, and numbers parted by commas.
use Rattle.std.specs.Prelude.{ℕ, Option, Some, None, List, [], ◌∷◌, length, nat_le, ◌==◌, if◌then◌else◌}
use Rattle.std.specs.Option.{option_and_then}
use Rattle.text.specs.Decimal.{digits, value_from}
use Rattle.plan.specs.declared.line.Line.{Line}
use Rattle.plan.specs.Text.{Pieces, end, piece, split, number_tests, read_number}

-- a number more in front of those that there are
abbrev pub push : ℕ → Option (List ℕ) → Option (List ℕ)
push v None = None
push v (Some vs) = Some (v ∷ vs)

-- the same of a field that may hold none
abbrev pub with_field : Option ℕ → Option (List ℕ) → Option (List ℕ)
with_field None ns = None
with_field (Some v) ns = push v ns

-- the number of each piece
abbrev pub each_number : Pieces → Option (List ℕ)
each_number (end f) = with_field (read_number f) (Some [])
each_number (piece f fs) = with_field (read_number f) (each_number fs)

-- "Fields in fixed order parted by commas"
unfoldable pub numbers : List ℕ → Option (List ℕ)
numbers l = each_number (split 44 l)

-- those that are as many as n
abbrev pub exactly : ℕ → Option (List ℕ) → Option (List ℕ)
exactly n None = None
exactly n (Some vs) = if length vs == n then Some vs else None

-- "T,f,p,e,D"
abbrev pub task_line : List ℕ → Option Line
task_line (f ∷ p ∷ e ∷ d ∷ []) = Some (Line.Task (record { phase = f; period = p; exec = e; deadline = d }))
task_line _ = None

-- "S,kind,s,P,B"
abbrev pub server_line : List ℕ → Option Line
server_line (k ∷ s ∷ p ∷ b ∷ []) = Some (Line.Server (record { kind = k; place = s; period = p; budget = b }))
server_line _ = None

-- "A,tick,id,work"
abbrev pub arrival_line : List ℕ → Option Line
arrival_line (t ∷ i ∷ w ∷ []) = Some (Line.Arrival (record { tick = t; id = i; work = w }))
arrival_line _ = None

-- "R,ticks, at most 1,000,000"
abbrev pub max_ticks : ℕ
max_ticks = 1_000_000

-- an R line; above the limit it is none
abbrev pub run_line : List ℕ → Option Line
run_line (n ∷ []) = if nat_le n max_ticks then Some (Line.Run n) else None
run_line _ = None

-- a line by its letter: `T`, `S`, `A`, `R`
unfoldable pub by_letter : ℕ → List ℕ → Option Line
by_letter c ns =
    if c == 84 then task_line ns else
    (if c == 83 then server_line ns else
    (if c == 65 then arrival_line ns else
    (if c == 82 then run_line ns else
    None)))

-- what a line says, without its line feed
unfoldable pub line_of : List ℕ → Option Line
line_of [] = None
line_of (c ∷ []) = None
line_of (c ∷ k ∷ rest) = if k == 44 then option_and_then (by_letter c) (numbers rest) else None

-- all of the definitions open, to compute with
unfoldable pub rules : Unit {0}
unfolding digits value_from split number_tests read_number numbers by_letter line_of
rules = tt
