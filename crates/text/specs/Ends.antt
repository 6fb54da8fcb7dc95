-- A line's bytes at the end of an array in which nothing but 0 stands before them.
use Rattle.std.specs.Prelude.{ℕ, ◌-◌, ◌≤◌, ◌≡◌, List, ◌++◌, length, take, drop, replicate}
use Rattle.text.specs.Lines.{line_room}
use Rattle.std.proofs.Common.{sym, ap, ◌∙◌, arith, length-drop}
use Rattle.std.proofs.lemmas.List.{take-append-drop}

-- the bytes of a line stand in the array from a place on
pub record EndsAt (bytes : List ℕ) (start : ℕ) : Type 0 where
  pub room : start ≤ line_room
  pub whole : length bytes ≡ line_room
  pub before : take start bytes ≡ replicate start 0

-- the array of a line, and where it starts there
abbrev pub start_of : List ℕ → ℕ
start_of line = line_room - length line

abbrev pub array_of : List ℕ → List ℕ
array_of line = replicate (start_of line) 0 ++ line

-- ---- laws
-- a line's bytes give back the array and the place
module _ {bytes : List ℕ} {start : ℕ} (e : EndsAt bytes start) where
  pub start-back : start_of (drop start bytes) ≡ start
  start-back = omega (arith, length-drop start bytes, e.room, e.whole)

  pub array-back : array_of (drop start bytes) ≡ bytes
  array-back = ap (λ (n : ℕ). replicate n 0 ++ drop start bytes) start-back ∙ ap (λ (l : List ℕ). l ++ drop start bytes) (sym e.before) ∙ take-append-drop start bytes
