-- What is printed, read back from its bytes: its lines, their fields, and the sums over its X lines.
use Rattle.std.specs.Prelude.{ℕ, ◌+◌, ◌≡◌, Bool, cond, ◌&&◌, List, [], ◌∷◌, length, get_or, take, drop, eqb, Some}
use Rattle.lists.specs.Numbers.{bit_of}
use Rattle.text.specs.Decimal.{value_from}
use Rattle.plan.specs.Text.{Pieces, end, piece, split}
use Rattle.plan.specs.Lines.{numbers}

-- "each line closed by a line feed": the lines of a text, without it, and what follows the last one
abbrev pub closed : Pieces → List (List ℕ)
closed (end l) = []
closed (piece l ps) = l ∷ closed ps

abbrev pub unclosed : Pieces → List ℕ
unclosed (end l) = l
unclosed (piece l ps) = unclosed ps

abbrev pub lines_of : List ℕ → List (List ℕ)
lines_of text = closed (split 10 text)

-- "Fields in fixed order parted by commas"
abbrev pub each : Pieces → List (List ℕ)
each (end l) = l ∷ []
each (piece l ps) = l ∷ each ps

abbrev pub fields_of : List ℕ → List (List ℕ)
fields_of line = each (split 44 line)

-- the last of some lines or fields
abbrev pub last_of : List (List ℕ) → List ℕ
last_of [] = []
last_of (x ∷ []) = x
last_of (x ∷ y ∷ xs) = last_of (y ∷ xs)

-- an X line: it begins with `X,`
abbrev pub is_x : List ℕ → Bool
is_x line = eqb (get_or line 0 0) 88 && eqb (get_or line 1 0) 44

-- its third field is the letter c alone
abbrev pub third : ℕ → List ℕ → Bool
third c line = eqb (length (get_or (fields_of line) 2 [])) 1 && eqb (get_or (get_or (fields_of line) 2 []) 0 0) c

-- 02: "`E,ticks,idle,rows,requests,drops`. Each of the last four equals the count (for drops, the sum) over the X lines printed"
pub data Figure : Type 0 where
  ticks : Figure
  idle : Figure
  rows : Figure
  requests : Figure
  drops : Figure

-- what an X line adds to a figure: "X: tick, I idle or T row or A request, row or id, drops."
abbrev pub adds : Figure → List ℕ → ℕ
adds ticks line = 1
adds idle line = bit_of (third 73 line)
adds rows line = bit_of (third 84 line)
adds requests line = bit_of (third 65 line)
adds drops line = value_from 0 (last_of (fields_of line))

abbrev pub sum_x : Figure → List (List ℕ) → ℕ
sum_x f [] = 0
sum_x f (l ∷ ls) = cond (is_x l) (adds f l) 0 + sum_x f ls

-- a figure of a text
abbrev pub over_x : Figure → List ℕ → ℕ
over_x f text = sum_x f (lines_of text)

-- A text of n ticks that ends with its totals: its last line is `E,` and the five figures, "and idle + rows + requests = ticks".
pub record Totalled (text : List ℕ) (n : ℕ) : Type 0 where
  pub whole : unclosed (split 10 text) ≡ []
  pub letter : take 2 (last_of (lines_of text)) ≡ 69 ∷ 44 ∷ []
  pub figures :
      numbers (drop 2 (last_of (lines_of text))) ≡
      Some (over_x ticks text ∷ over_x idle text ∷ over_x rows text ∷ over_x requests text ∷ over_x drops text ∷ [])
  pub sum : over_x idle text + over_x rows text + over_x requests text ≡ over_x ticks text
  pub all : over_x ticks text ≡ n
