-- What is printed from its fields reads back as those fields: a number, and each kind of line.
use Rattle.std.specs.Prelude.{ℕ, ◌^◌, ◌≤◌, ◌<◌, ◌≡◌, Bool, true, false, Option, Some, None, ◌==◌, if◌then◌else◌, nat_le, List, [], ◌∷◌, ◌++◌, refl}
use Rattle.std.proofs.Common.{ap, ◌∙◌, arith, le-leb, eq-eqb, ne_eqb, leb-true}
use Rattle.lists.specs.Tests.{every, facts-every, and_split, never}
use Rattle.server.specs.declared.Server.{Server}
use Rattle.table.specs.declared.Task.{Task}
use Rattle.text.specs.Decimal.{max_digits, decimal, is_digit, digits, value_from}
use Rattle.text.specs.ReadBack.{decimal-short, decimal-some, decimal-digits, decimal-value}
use Rattle.plan.specs.declared.line.Arrival.{Arrival}
use Rattle.plan.specs.declared.line.Line.{Line}
use Rattle.plan.specs.Text.{end, piece, grow, split, max_number, number_tests, read_number}
use Rattle.plan.specs.Lines.{push, with_field, each_number, numbers, max_ticks, by_letter, line_of}
use Rattle.plan.specs.LineBack.{fields, AllFit, task_text, server_text, arrival_text, run_text}

-- ---- a number
pub number_back : (x : ℕ) → x ≤ max_number → read_number (decimal x) ≡ Some x
unfolding read_number number_tests
number_back x h =
    let k : x < 10 ^ max_digits = omega arith in
    let m : value_from 0 (decimal x) ≤ max_number = omega (arith, decimal-value x k) in
    let passes : every (number_tests (decimal x)) ≡ true = facts-every (number_tests (decimal x))
    (le-leb _ _ (decimal-some x), (le-leb _ _ (decimal-short x), (decimal-digits x, (le-leb _ _ m, tt)))) in
    ap (λ (b : Bool). if b then Some (value_from 0 (decimal x)) else None) passes ∙ ap Some (decimal-value x k)

-- ---- fields
-- digits hold no comma and no line feed
module _ (c : ℕ) (low : c < 48) where
  pub apart : (b : ℕ) → is_digit b ≡ true → (b == c) ≡ false
  apart b e =
      let h : 48 ≤ b = leb-true 48 b (and_split (nat_le 48 b) (nat_le b 57) e).0 in
      ne_eqb b c (λ q. omega arith)

  pub first-digit : (b : ℕ) (bs : List ℕ) (d : Bool) → is_digit b ≡ d → (if d then digits bs else false) ≡ true → (is_digit b ≡ true) × (digits bs ≡ true)
  first-digit b bs true e h = (e, h)
  first-digit b bs false e h = never refl h

  digits-then : (l rest : List ℕ) → digits l ≡ true → split c (l ++ c ∷ rest) ≡ piece l (split c rest)
  unfolding split digits
  digits-then [] rest h = rw (eq-eqb c c refl) refl
  digits-then (b ∷ bs) rest h =
      let f = first-digit b bs (is_digit b) refl h in
      rw (apart b f.0) (ap (grow b) (digits-then bs rest f.1))

  pub digits_last : (l : List ℕ) → digits l ≡ true → split c l ≡ end l
  unfolding split digits
  digits_last [] h = refl
  digits_last (b ∷ bs) h =
      let f = first-digit b bs (is_digit b) refl h in
      rw (apart b f.0) (ap (grow b) (digits_last bs f.1))

pub fields_back : (v : ℕ) (vs : List ℕ) → AllFit v vs → numbers (fields v vs) ≡ Some (v ∷ vs)
unfolding numbers
fields_back v [] h =
    ap each_number (digits_last 44 (omega arith) (decimal v) (decimal-digits v)) ∙ ap (λ (n : Option ℕ). with_field n (Some [])) (number_back v h)
fields_back v (w ∷ vs) h =
    ap each_number (digits-then 44 (omega arith) (decimal v) (fields w vs) (decimal-digits v))
    ∙ ap (λ (n : Option ℕ). with_field n (each_number (split 44 (fields w vs)))) (number_back v h.0)
    ∙ ap (push v) (fields_back w vs h.1)

-- ---- lines
pub task_back : (x : Task) → AllFit x.phase (x.period ∷ x.exec ∷ x.deadline ∷ []) → line_of (task_text x) ≡ Some (Line.Task x)
unfolding line_of by_letter
task_back x h = rw (fields_back x.phase (x.period ∷ x.exec ∷ x.deadline ∷ []) h) refl

pub server_back : (s : Server) → AllFit s.kind (s.place ∷ s.period ∷ s.budget ∷ []) → line_of (server_text s) ≡ Some (Line.Server s)
unfolding line_of by_letter
server_back s h = rw (fields_back s.kind (s.place ∷ s.period ∷ s.budget ∷ []) h) refl

pub arrival_back : (a : Arrival) → AllFit a.tick (a.id ∷ a.work ∷ []) → line_of (arrival_text a) ≡ Some (Line.Arrival a)
unfolding line_of by_letter
arrival_back a h = rw (fields_back a.tick (a.id ∷ a.work ∷ []) h) refl

pub run_back : (n : ℕ) → n ≤ max_ticks → line_of (run_text n) ≡ Some (Line.Run n)
unfolding line_of by_letter
run_back n h = rw (fields_back n [] (omega arith)) (simp (le-leb _ _ h))
