-- Steps of the check of a plan.
use Rattle.std.specs.Prelude.{ℕ, ◌+◌, ◌-◌, ◌≤◌, ◌<◌, ◌≡◌, Option, Some, None, Result, Ok, Err, List, length, take, drop}
use Rattle.std.proofs.Common.{sym, ap, ◌∙◌, add-one, lt-ltb, le-ltb, drop_of_length-le, drop-cons}
use Rattle.plan.specs.declared.line.Line.{Line}
use Rattle.plan.specs.declared.refusal.PlanRefusal.{PlanRefusal}
use Rattle.plan.specs.declared.reading.Reading.{Reading}
use Rattle.plan.specs.Text.{split, end_from}
use Rattle.plan.specs.Lines.{line_of}
use Rattle.plan.proofs.Search.{ended, unended}
use Rattle.plan.specs.Plan.{fresh_reading, judged, moved, refused_plan, closing, ending, or_else, reads, max_bytes, plan_of}

module _ (text : List ℕ) where
  pub too_long : max_bytes < length text → refused_plan PlanRefusal.TooLong 0 ≡ plan_of text
  unfolding plan_of
  too_long h = simp (lt-ltb _ _ h)

  pub starts : length text ≤ max_bytes → (r : Reading) → r ≡ fresh_reading → plan_of text ≡ reads r 1 (split 10 text)
  unfolding plan_of
  starts h r e = simp (le-ltb _ _ h, e)

  module _ (r : Reading) (line at : ℕ) where
    module _ (e : ℕ) (found : Some e ≡ end_from 10 text at) where
      -- the line that ends at e
      abbrev here : Option Line
      here = line_of (take (e - at) (drop at text))

      turn : reads r line (split 10 (drop at text)) ≡ or_else (judged r.stage here) line (reads (moved r here) (line + 1) (split 10 (drop (e + 1) text)))
      unfolding reads
      turn = ap (reads r line) (ended 10 text at e found).parts ∙ simp add-one

      pub refused_line : (k : PlanRefusal) → Err k ≡ judged r.stage here → reads r line (split 10 (drop at text)) ≡ refused_plan k line
      refused_line k q = turn ∙ ap (λ (a : Result Unit PlanRefusal). or_else a line (reads (moved r here) (line + 1) (split 10 (drop (e + 1) text)))) (sym q)

      pub taken_line :
          (u : Unit) → Ok u ≡ judged r.stage here → (n : Reading) → n ≡ moved r here
          → reads r line (split 10 (drop at text)) ≡ reads n (line + 1) (split 10 (drop (e + 1) text))
      taken_line u q n m =
          turn ∙ ap (λ (a : Result Unit PlanRefusal). or_else a line (reads (moved r here) (line + 1) (split 10 (drop (e + 1) text)))) (sym q)
          ∙ ap (λ (x : Reading). reads x (line + 1) (split 10 (drop (e + 1) text))) (sym m)

    module _ (none : None ≡ end_from 10 text at) where
      last : reads r line (split 10 (drop at text)) ≡ ending r line (drop at text)
      unfolding reads
      last = ap (reads r line) (unended 10 text at none)

      pub unclosed : at < length text → reads r line (split 10 (drop at text)) ≡ refused_plan PlanRefusal.BadLine line
      unfolding ending
      unclosed h = last ∙ ap (ending r line) (drop-cons text at 0 h)

      pub finished : length text ≤ at → reads r line (split 10 (drop at text)) ≡ closing r line
      unfolding ending
      finished h = last ∙ ap (ending r line) (drop_of_length-le text h)
