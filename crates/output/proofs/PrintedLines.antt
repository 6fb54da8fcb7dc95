-- Each line that is printed, read back from its bytes: where it ends, and what it adds to the sums over X lines.
use Rattle.std.specs.Prelude.{ℕ, suc, ◌+◌, ◌^◌, ◌≤◌, ◌<◌, ◌≡◌, true, false, cond, List, [], ◌∷◌, ◌++◌, take, eqb, Err, None, Ok, Option, Result, Some}
use Rattle.std.proofs.Common.{arith, sym, ap, ◌∙◌, append-nil, append_assoc}
use Rattle.std.proofs.Math.Path.{refl}
use Rattle.lists.specs.Numbers.{bit_of}
use Rattle.queue.specs.declared.Finished.{Finished}
use Rattle.table.specs.declared.Refusal.{Refusal}
use Rattle.table.specs.Refusal.{number}
use Rattle.bounds.specs.declared.Admission.{Admission}
use Rattle.rules.specs.declared.Occupant.{Occupant}
use Rattle.text.specs.declared.Part.{Part}
use Rattle.text.specs.Decimal.{max_digits, decimal}
use Rattle.text.specs.Lines.{Line, part_bytes, parts_bytes, line_bytes}
use Rattle.text.specs.ReadBack.{decimal-digits, decimal-value}
use Rattle.lines.specs.Lines.{task_bound_line, server_bound_line, admitted_line, refused_line, tick_line, finish_line}
use Rattle.plan.specs.Text.{Pieces, end, piece, split, max_number}
use Rattle.plan.proofs.LineBack.{digits_last}
use Rattle.plan.proofs.PlanBack.{without, split_at, without_append, digits-without}
use Rattle.heading.specs.Heading.{numbered, verdict_text, head_text}
use Rattle.output.specs.Output.{answer_text, occupant_line, finish_text}
use Rattle.output.specs.Printed.{is_x, Figure, ticks, idle, rows, requests, drops, adds, sum_x}

-- ---- text that is closed lines
-- lines in front of pieces
abbrev pub in_front : List (List ℕ) → Pieces → Pieces
in_front [] ps = ps
in_front (l ∷ ls) ps = piece l (in_front ls ps)

-- a text of closed lines, with its sum for each figure
pub record Lines (text : List ℕ) (n : Figure → ℕ) : Type 0 where
  pub lines : List (List ℕ)
  pub parted : (rest : List ℕ) → split 10 (text ++ rest) ≡ in_front lines (split 10 rest)
  pub sums : (f : Figure) → sum_x f lines ≡ n f

abbrev pub nothing : Figure → ℕ
nothing f = 0

in_front_append : (a b : List (List ℕ)) (ps : Pieces) → in_front (a ++ b) ps ≡ in_front a (in_front b ps)
in_front_append [] b ps = refl
in_front_append (x ∷ a) b ps = ap (piece x) (in_front_append a b ps)

pub sum_append : (f : Figure) (a b : List (List ℕ)) → sum_x f (a ++ b) ≡ sum_x f a + sum_x f b
sum_append f [] b = omega arith
sum_append f (x ∷ a) b = omega (arith, sum_append f a b)

pub no_lines : Lines [] nothing
no_lines = record { lines = []; parted = λ rest. refl; sums = λ f. refl }

pub same-sums : {a : List ℕ} {m n : Figure → ℕ} → Lines a m → ((f : Figure) → m f ≡ n f) → Lines a n
same-sums x e = record { lines = x.lines; parted = x.parted; sums = λ f. x.sums f ∙ e f }

pub then : {a b : List ℕ} {m n : Figure → ℕ} → Lines a m → Lines b n → Lines (a ++ b) (λ f. m f + n f)
then {a} {b} x y = record {
  lines = x.lines ++ y.lines;
  parted = λ rest.
      ap (split 10) (append_assoc a b rest) ∙ x.parted (b ++ rest) ∙ ap (in_front x.lines) (y.parted rest)
      ∙ sym (in_front_append x.lines y.lines (split 10 rest));
  sums = λ f. omega (arith, sum_append f x.lines y.lines, x.sums f, y.sums f);
}

-- ---- a line that is printed
abbrev parts_body : List Part → List ℕ
parts_body [] = []
parts_body (p ∷ ps) = part_bytes p ++ parts_body ps

-- without its line feed
abbrev pub body_of : Line → List ℕ
body_of l = l.letter ∷ parts_body l.parts

parts_closed : (ps : List Part) (rest : List ℕ) → parts_bytes ps ++ rest ≡ parts_body ps ++ 10 ∷ rest
parts_closed [] rest = refl
parts_closed (p ∷ ps) rest =
    append_assoc (part_bytes p) (parts_bytes ps) rest ∙ ap (λ (w : List ℕ). part_bytes p ++ w) (parts_closed ps rest)
    ∙ sym (append_assoc (part_bytes p) (parts_body ps) (10 ∷ rest))

line_closed : (l : Line) (rest : List ℕ) → line_bytes l ++ rest ≡ body_of l ++ 10 ∷ rest
unfolding line_bytes
line_closed l rest = ap (λ (w : List ℕ). l.letter ∷ w) (parts_closed l.parts rest)

-- it holds no line feed
abbrev PlainPart : Part → Type 0
PlainPart (Part.Number x) = Unit {0}
PlainPart (Part.Letter c) = eqb c 10 ≡ false

abbrev PlainParts : List Part → Type 0
PlainParts [] = Unit {0}
PlainParts (p ∷ ps) = PlainPart p × PlainParts ps

abbrev Plain : Line → Type 0
Plain l = (eqb l.letter 10 ≡ false) × PlainParts l.parts

part_without : (p : Part) → PlainPart p → without 10 (part_bytes p) ≡ true
unfolding without
part_without (Part.Number x) h = digits-without 10 (omega arith) (decimal x) (decimal-digits x)
part_without (Part.Letter c) h = rw h refl

parts_without : (ps : List Part) → PlainParts ps → without 10 (parts_body ps) ≡ true
unfolding without
parts_without [] h = refl
parts_without (p ∷ ps) h = without_append 10 (part_bytes p) (parts_body ps) (part_without p h.0) (parts_without ps h.1)

body-without : (l : Line) → Plain l → without 10 (body_of l) ≡ true
unfolding without
body-without l h = rw h.0 (parts_without l.parts h.1)

pub line-parted : (l : Line) → Plain l → (rest : List ℕ) → split 10 (line_bytes l ++ rest) ≡ piece (body_of l) (split 10 rest)
line-parted l h rest = ap (split 10) (line_closed l rest) ∙ split_at 10 (body_of l) rest (body-without l h)

one_line : (l : Line) → Plain l → Lines (line_bytes l) (λ f. cond (is_x (body_of l)) (adds f (body_of l)) 0)
one_line l h = record {
  lines = body_of l ∷ [];
  parted = line-parted l h;
  sums = λ f. omega arith;
}

-- one that is no X line
other-line : (l : Line) → Plain l → eqb l.letter 88 ≡ false → Lines (line_bytes l) nothing
other-line l h e = same-sums (one_line l h) (λ f. rw e refl)

-- ---- an X line, by its letter and its drops
abbrev pub of_tick : ℕ → ℕ → Figure → ℕ
of_tick c d ticks = 1
of_tick c d idle = bit_of (eqb c 73)
of_tick c d rows = bit_of (eqb c 84)
of_tick c d requests = bit_of (eqb c 65)
of_tick c d drops = d

module _ (t c id d : ℕ) (plain : eqb c 44 ≡ false) where
  digits-part : (x : ℕ) → without 44 (decimal x) ≡ true
  digits-part x = digits-without 44 (omega arith) (decimal x) (decimal-digits x)

  letter-part : without 44 (c ∷ []) ≡ true
  unfolding without
  letter-part = rw plain refl

  x-part : without 44 (88 ∷ []) ≡ true
  unfolding without
  x-part = refl

  tick-fields :
      split 44 (body_of (tick_line t c id d)) ≡
      piece (88 ∷ []) (piece (decimal t) (piece (c ∷ []) (piece (decimal id) (end (decimal d)))))
  tick-fields =
      split_at 44 (88 ∷ []) _ x-part
      ∙ ap (piece (88 ∷ []))
      (split_at 44 (decimal t) _ (digits-part t)
      ∙ ap (piece (decimal t))
      (split_at 44 (c ∷ []) _ letter-part
      ∙ ap (piece (c ∷ []))
      (split_at 44 (decimal id) _ (digits-part id)
      ∙ ap (piece (decimal id)) (ap (split 44) (append-nil (decimal d)) ∙ digits_last 44 (omega arith) (decimal d) (decimal-digits d)))))

  tick-adds : d ≤ max_number → (f : Figure) → adds f (body_of (tick_line t c id d)) ≡ of_tick c d f
  tick-adds h ticks = refl
  tick-adds h idle = rw tick-fields refl
  tick-adds h rows = rw tick-fields refl
  tick-adds h requests = rw tick-fields refl
  tick-adds h drops = let k : d < 10 ^ max_digits = omega arith in rw tick-fields (decimal-value d k)

  tick-printed : eqb c 10 ≡ false → d ≤ max_number → Lines (line_bytes (tick_line t c id d)) (of_tick c d)
  tick-printed e h = same-sums (one_line (tick_line t c id d) (refl, (tt, (e, (tt, (tt, tt)))))) (tick-adds h)

-- ---- the lines of a tick
-- "I idle or T row or A request"
abbrev pub letter_of : Occupant → ℕ
letter_of Occupant.Idle = 73
letter_of (Occupant.Task i) = 84
letter_of (Occupant.Request id) = 65

pub occupant-printed : (t : ℕ) (o : Occupant) (d : ℕ) → d ≤ max_number → Lines (line_bytes (occupant_line t o d)) (of_tick (letter_of o) d)
occupant-printed t Occupant.Idle d h = tick-printed t 73 0 d refl refl h
occupant-printed t (Occupant.Task i) d h = tick-printed t 84 i d refl refl h
occupant-printed t (Occupant.Request id) d h = tick-printed t 65 id d refl refl h

pub answer_printed : (t id : ℕ) (a : Result (Unit {0}) Refusal) → Lines (answer_text t id a) nothing
answer_printed t id (Ok x) = no_lines
answer_printed t id (Err r) = other-line (refused_line t id (number r)) (refl, (tt, (tt, (tt, tt)))) refl

pub finish-printed : (t : ℕ) (x : Option Finished) → Lines (finish_text t x) nothing
finish-printed t None = no_lines
finish-printed t (Some x) = other-line (finish_line t x.id x.response) (refl, (tt, (tt, (tt, tt)))) refl

-- ---- the head
numbered-printed :
    {A : Type 0} (line : ℕ → A → Line) → ((i : ℕ) (x : A) → Lines (line_bytes (line i x)) nothing) → (i : ℕ) (xs : List A) →
    Lines (numbered line i xs) nothing
unfolding numbered
numbered-printed line h i [] = no_lines
numbered-printed line h i (x ∷ xs) = then (h i x) (numbered-printed line h (suc i) xs)

pub head-printed : (n : ℕ) (a : Admission) → Lines (head_text n a) nothing
unfolding head_text verdict_text
head-printed n a =
    then (numbered-printed task_bound_line (λ i b. other-line (task_bound_line i b) (refl, (tt, (tt, tt))) refl) 0 (take n a.bounds))
    (then (other-line (server_bound_line a.serverbound) (refl, (refl, (tt, tt))) refl)
    (other-line (admitted_line a.admitted) (refl, (tt, tt)) refl))
