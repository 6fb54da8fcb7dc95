-- Laws of the fields of a line.
use Rattle.std.specs.Prelude.{ℕ, ◌+◌, ◌-◌, ◌≤◌, ◌<◌, ◌≡◌, refl, Bool, true, false, Option, Some, None, is_some, option_copied, option_and_then, List, [], ◌∷◌, ◌++◌, length, take, drop, get_or, set, nat_le, ◌==◌, if◌then◌else◌}
use Rattle.std.specs.Bool.{then_some}
use Rattle.std.proofs.Common.{sym, ap, ◌∙◌, arith, add-one, eq-eqb, ne_eqb, append_assoc, append-nil, length-append, length-take, length-drop, take_all, Bor}
use Rattle.std.proofs.Math.Seq.{take-suc-set}
use Rattle.plan.specs.declared.line.Line.{Line}
use Rattle.plan.specs.Text.{Pieces, end, piece, split, parted, read_number}
use Rattle.plan.specs.Lines.{push, with_field, each_number, numbers, exactly, task_line, server_line, arrival_line, run_line, max_ticks, by_letter, line_of}

-- numbers that were read, and then those of the rest
abbrev pub after : List ℕ → Option (List ℕ) → Option (List ℕ)
after vs None = None
after vs (Some ws) = Some (vs ++ ws)

-- the numbers of what is left
abbrev pub left : Option (List ℕ) → Option (List ℕ)
left None = Some []
left (Some s) = numbers s

-- a field and the others
cut_numbers : (s f : List ℕ) (others : Option (List ℕ)) → split 44 s ≡ parted 44 f others → numbers s ≡ with_field (read_number f) (left others)
unfolding numbers
cut_numbers s f None e = ap each_number e
cut_numbers s f (Some o) e = ap each_number e

after_push : (vs : List ℕ) (v : ℕ) (ns : Option (List ℕ)) → after vs (push v ns) ≡ after (vs ++ v ∷ []) ns
after_push vs v None = refl
after_push vs v (Some ws) = ap Some (sym (append_assoc vs (v ∷ []) ws))

-- pieces are never no numbers
not_none : (n : ℕ) (vs : List ℕ) (v : ℕ) (ns : Option (List ℕ)) → length vs ≡ n → exactly n (after vs (push v ns)) ≡ None
not_none n vs v None h = refl
not_none n vs v (Some ws) h = simp (ne_eqb (length (vs ++ v ∷ ws)) n (λ e. omega (arith, length-append vs (v ∷ ws))))

at_field : (n : ℕ) (vs : List ℕ) (o : Option ℕ) (ns : Option (List ℕ)) → length vs ≡ n → exactly n (after vs (with_field o ns)) ≡ None
at_field n vs None ns h = refl
at_field n vs (Some v) ns h = not_none n vs v ns h

at_pieces : (n : ℕ) (vs : List ℕ) (ps : Pieces) → length vs ≡ n → exactly n (after vs (each_number ps)) ≡ None
at_pieces n vs (end f) h = at_field n vs (read_number f) (Some []) h
at_pieces n vs (piece f fs) h = at_field n vs (read_number f) (each_number fs) h

module _ (all : List ℕ) where
  module _ (vs : List ℕ) (rest : Option (Bor (List ℕ))) (s : Bor (List ℕ)) (is : rest ≡ Some s) (f : List ℕ) (others : Option (List ℕ))
      (e : split 44 s.now ≡ parted 44 f others) (h : numbers all ≡ after vs (left (option_copied rest))) where
    step : (o : Option ℕ) → o ≡ read_number f → numbers all ≡ after vs (with_field o (left others))
    step o q =
        h ∙ ap (λ (x : Option (Bor (List ℕ))). after vs (left (option_copied x))) is
        ∙ ap (after vs) (cut_numbers s.now f others e ∙ ap (λ (x : Option ℕ). with_field x (left others)) (sym q))

    pub none_read : (n : ℕ) → None ≡ read_number f → None ≡ exactly n (numbers all)
    none_read n q = sym (ap (exactly n) (step None q))

  pub one_read :
      (i : ℕ) (items : List ℕ) → i < length items → (rest : Option (Bor (List ℕ))) (s : Bor (List ℕ)) → rest ≡ Some s
      → (f : List ℕ) (others : Option (List ℕ)) → split 44 s.now ≡ parted 44 f others → numbers all ≡ after (take i items) (left (option_copied rest))
      → (v : ℕ) → Some v ≡ read_number f → numbers all ≡ after (take (i + 1) (set items i v)) (left others)
  one_read i items k rest s is f others e h v q =
      step (take i items) rest s is f others e h (Some v) q ∙ after_push (take i items) v (left others)
      ∙ ap (λ (l : List ℕ). after l (left others)) (sym (ap (λ (n : ℕ). take n (set items i v)) (add-one i) ∙ take-suc-set items i v k))

  pub too_many : (n i : ℕ) (items : List ℕ) (rest : Option (Bor (List ℕ))) → length items ≡ n → n ≤ i → is_some rest ≡ true →
      numbers all ≡ after (take i items) (left (option_copied rest)) → None ≡ exactly n (numbers all)
  unfolding numbers
  too_many n i items None l k e h = absurd cc
  too_many n i items (Some r) l k e h = sym (ap (exactly n) h ∙ at_pieces n (take i items) (split 44 r.now) (omega (arith, length-take i items)))

  pub as_many : (n i : ℕ) (items : List ℕ) (rest : Option (Bor (List ℕ))) → length items ≡ n → n ≤ i → is_some rest ≡ false →
      numbers all ≡ after (take i items) (left (option_copied rest)) → Some items ≡ exactly n (numbers all)
  as_many n i items None l k e h =
      let whole : take i items ++ [] ≡ items = append-nil (take i items) ∙ take_all i items (omega arith) in
      sym (ap (exactly n) (h ∙ ap Some whole) ∙ simp (eq-eqb (length items) n l))
  as_many n i items (Some r) l k e h = absurd cc

-- ---- a line
-- what each letter's numbers say, by how many they are and by their places
abbrev pub task_at : List ℕ → Option Line
task_at vs = Some (Line.Task (record { phase = get_or vs 0 0; period = get_or vs 1 0; exec = get_or vs 2 0; deadline = get_or vs 3 0 }))

abbrev pub server_at : List ℕ → Option Line
server_at vs = Some (Line.Server (record { kind = get_or vs 0 0; place = get_or vs 1 0; period = get_or vs 2 0; budget = get_or vs 3 0 }))

abbrev pub arrival_at : List ℕ → Option Line
arrival_at vs = Some (Line.Arrival (record { tick = get_or vs 0 0; id = get_or vs 1 0; work = get_or vs 2 0 }))

abbrev pub run_at : List ℕ → Option Line
run_at vs = then_some (nat_le (get_or vs 0 0) max_ticks) (Line.Run (get_or vs 0 0))

task_by : (vs : List ℕ) → task_line vs ≡ (if length vs == 4 then task_at vs else None)
task_by [] = refl
task_by (a ∷ []) = refl
task_by (a ∷ b ∷ []) = refl
task_by (a ∷ b ∷ c ∷ []) = refl
task_by (a ∷ b ∷ c ∷ d ∷ []) = refl
task_by (a ∷ b ∷ c ∷ d ∷ e ∷ vs) = simp (ne_eqb (length (a ∷ b ∷ c ∷ d ∷ e ∷ vs)) 4 (λ q. omega arith))

server_by : (vs : List ℕ) → server_line vs ≡ (if length vs == 4 then server_at vs else None)
server_by [] = refl
server_by (a ∷ []) = refl
server_by (a ∷ b ∷ []) = refl
server_by (a ∷ b ∷ c ∷ []) = refl
server_by (a ∷ b ∷ c ∷ d ∷ []) = refl
server_by (a ∷ b ∷ c ∷ d ∷ e ∷ vs) = simp (ne_eqb (length (a ∷ b ∷ c ∷ d ∷ e ∷ vs)) 4 (λ q. omega arith))

arrival_by : (vs : List ℕ) → arrival_line vs ≡ (if length vs == 3 then arrival_at vs else None)
arrival_by [] = refl
arrival_by (a ∷ []) = refl
arrival_by (a ∷ b ∷ []) = refl
arrival_by (a ∷ b ∷ c ∷ []) = refl
arrival_by (a ∷ b ∷ c ∷ d ∷ vs) = simp (ne_eqb (length (a ∷ b ∷ c ∷ d ∷ vs)) 3 (λ q. omega arith))

run_by : (vs : List ℕ) → run_line vs ≡ (if length vs == 1 then run_at vs else None)
run_by [] = refl
run_by (a ∷ []) = by (nat_le a max_ticks)
  where
    by : (b : Bool) → (if b then Some (Line.Run a) else None) ≡ then_some b (Line.Run a)
    by true = refl
    by false = refl
run_by (a ∷ b ∷ vs) = simp (ne_eqb (length (a ∷ b ∷ vs)) 1 (λ q. omega arith))

through :
    (n : ℕ) (says at : List ℕ → Option Line) → ((vs : List ℕ) → says vs ≡ (if length vs == n then at vs else None)) → (ns : Option (List ℕ))
    → option_and_then says ns ≡ option_and_then at (exactly n ns)
through n says at h None = refl
through n says at h (Some vs) = h vs ∙ by (length vs == n)
  where
    by : (b : Bool) → (if b then at vs else None) ≡ option_and_then at (if b then Some vs else None)
    by true = refl
    by false = refl

pub short : (s : List ℕ) → length s < 2 → None ≡ line_of s
unfolding line_of
short [] h = refl
short (x ∷ []) h = refl
short (x ∷ y ∷ t) h = absurd (omega arith)

pub no_comma : (s : List ℕ) → 2 ≤ length s → (get_or s 1 0 ≡ 44 → ⊥) → None ≡ line_of s
unfolding line_of
no_comma [] h n = refl
no_comma (x ∷ []) h n = refl
no_comma (x ∷ y ∷ t) h n = simp (ne_eqb _ _ n)

lettered : (s : List ℕ) → 2 ≤ length s → get_or s 1 0 ≡ 44 → line_of s ≡ option_and_then (by_letter (get_or s 0 0)) (numbers (drop 2 s))
unfolding line_of
lettered [] h n = absurd (omega arith)
lettered (x ∷ []) h n = absurd (omega arith)
lettered (x ∷ y ∷ t) h n = simp (eq-eqb _ _ n)

none-of : (c : ℕ) (ns : Option (List ℕ)) → (c ≡ 84 → ⊥) → (c ≡ 83 → ⊥) → (c ≡ 65 → ⊥) → (c ≡ 82 → ⊥) → option_and_then (by_letter c) ns ≡ None
unfolding by_letter
none-of c None x y z w = refl
none-of c (Some vs) x y z w = simp (ne_eqb c 84 x, ne_eqb c 83 y, ne_eqb c 65 z, ne_eqb c 82 w)

module _ (s : List ℕ) (h : 2 ≤ length s) (k : get_or s 1 0 ≡ 44) where
  -- what follows the letter and the comma, as the code has it
  abbrev behind : List ℕ
  behind = take (length s - 2) (drop 2 s)

  said : (c n : ℕ) (at : List ℕ → Option Line) → get_or s 0 0 ≡ c
      → ((vs : List ℕ) → by_letter c vs ≡ (if length vs == n then at vs else None)) → (o : Option (List ℕ)) → o ≡ exactly n (numbers behind) → option_and_then at o ≡ line_of s
  said c n at i e o q =
      sym (lettered s h k ∙ ap (λ (x : ℕ). option_and_then (by_letter x) (numbers (drop 2 s))) i
      ∙ ap (λ (l : List ℕ). option_and_then (by_letter c) (numbers l)) (sym (take_all (length s - 2) (drop 2 s) (omega (arith, length-drop 2 s))))
      ∙ through n (by_letter c) at e (numbers behind) ∙ ap (option_and_then at) (sym q))

  pub task_said : get_or s 0 0 ≡ 84 → (o : Option (List ℕ)) → o ≡ exactly 4 (numbers behind) → option_and_then task_at o ≡ line_of s
  unfolding by_letter
  task_said i = said 84 4 task_at i task_by

  pub server_said : get_or s 0 0 ≡ 83 → (o : Option (List ℕ)) → o ≡ exactly 4 (numbers behind) → option_and_then server_at o ≡ line_of s
  unfolding by_letter
  server_said i = said 83 4 server_at i server_by

  pub arrival_said : get_or s 0 0 ≡ 65 → (o : Option (List ℕ)) → o ≡ exactly 3 (numbers behind) → option_and_then arrival_at o ≡ line_of s
  unfolding by_letter
  arrival_said i = said 65 3 arrival_at i arrival_by

  pub run_said : get_or s 0 0 ≡ 82 → (o : Option (List ℕ)) → o ≡ exactly 1 (numbers behind) → option_and_then run_at o ≡ line_of s
  unfolding by_letter
  run_said i = said 82 1 run_at i run_by

  pub none_said : (get_or s 0 0 ≡ 84 → ⊥) → (get_or s 0 0 ≡ 83 → ⊥) → (get_or s 0 0 ≡ 65 → ⊥) → (get_or s 0 0 ≡ 82 → ⊥) → None ≡ line_of s
  none_said x y z w = sym (lettered s h k ∙ none-of (get_or s 0 0) (numbers (drop 2 s)) x y z w)
