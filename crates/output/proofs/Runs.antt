-- A line's parts put together: the line without its line feed.
use Rattle.std.specs.Prelude.{ℕ, ◌≡◌, List, [], ◌∷◌, ◌++◌, drop}
use Rattle.std.proofs.Common.{ap, sym, ◌∙◌, append_assoc}
use Rattle.std.proofs.Math.Path.{refl}
use Rattle.text.specs.declared.Part.{Part}
use Rattle.text.specs.Lines.{Line, part_bytes, parts_bytes, line_bytes}
use Rattle.output.proofs.PrintedLines.{body_of}

abbrev run_to : List (List ℕ) → List ℕ → List ℕ
run_to [] z = z
run_to (x ∷ xs) z = x ++ run_to xs z

abbrev parts_in : List Part → List (List ℕ)
parts_in [] = []
parts_in (p ∷ ps) = part_bytes p ∷ parts_in ps

abbrev parts_of : Line → List (List ℕ)
parts_of l = parts_in l.parts

-- what follows the parts
run_append : (xs : List (List ℕ)) (z r : List ℕ) → run_to xs z ++ r ≡ run_to xs (z ++ r)
run_append [] z r = refl
run_append (x ∷ xs) z r = append_assoc x (run_to xs z) r ∙ ap (λ (w : List ℕ). x ++ w) (run_append xs z r)

-- what follows the letter: the parts, and then the line feed or nothing
body-run : (c : ℕ) (ps : List Part) → body_of (record { letter = c; parts = ps }) ≡ c ∷ run_to (parts_in ps) []
body-run c [] = refl
body-run c (p ∷ ps) = ap (λ (w : List ℕ). c ∷ (part_bytes p ++ drop 1 w)) (body-run c ps)

bytes-run : (ps : List Part) → parts_bytes ps ≡ run_to (parts_in ps) (10 ∷ [])
bytes-run [] = refl
bytes-run (p ∷ ps) = ap (λ (w : List ℕ). part_bytes p ++ w) (bytes-run ps)

line-closed : (l : Line) (rest : List ℕ) → line_bytes l ++ rest ≡ body_of l ++ 10 ∷ rest
unfolding line_bytes
line-closed l rest =
    ap (λ (w : List ℕ). l.letter ∷ (w ++ rest)) (bytes-run l.parts)
    ∙ ap (λ (w : List ℕ). l.letter ∷ w) (run_append (parts_of l) (10 ∷ []) rest ∙ sym (run_append (parts_of l) [] (10 ∷ rest)))
    ∙ ap (λ (w : List ℕ). w ++ 10 ∷ rest) (sym (body-run l.letter l.parts))
