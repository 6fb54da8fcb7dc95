-- Laws of the reading: the plan that was read, or what was read of one that is too long, prints what all of the input prints.
use Rattle.std.proofs.Common.{◌≡◌, ◌≤◌, ◌<◌, ◌++◌, ℕ, List, [], Bool, true, false, None, Some, IfSome, Result, refl, sym, ap, ◌∙◌, subst, arith, append-nil, length, length-append, length-take-le, take, ltb-true, ltb-false}
use Rattle.std.specs.Prelude.{IsErr}
use Rattle.std.proofs.Math.Dec.{ltb}
use Rattle.std.specs.declared.option.Option.{Option}
use Rattle.std.specs.Io.KnownBytes.{Consumes, IsAtEnd}
use Rattle.text.specs.Printing.{Prints, begun, failed}
use Rattle.plan.specs.Plan.{max_bytes}
use Rattle.output.specs.Output.{schedule_text}
use Rattle.output.proofs.Whole.{too_long_alike}

-- x was there, the first n of the buffer were read of it, and y is left: none, unless the buffer is full
read_all :
    (x y bs buf : List ℕ) (n : ℕ) → bs ≡ take n buf → n ≤ length buf → max_bytes < length buf → (n < length buf → y ≡ []) → x ≡ bs ++ y →
    schedule_text bs ≡ schedule_text x
read_all x y bs buf n is within long end e = by (ltb n (length buf)) refl
  where
    by : (b : Bool) → ltb n (length buf) ≡ b → schedule_text bs ≡ schedule_text x
    by true t = ap schedule_text (sym (e ∙ ap (λ (l : List ℕ). bs ++ l) (end (ltb-true _ _ t)) ∙ append-nil bs))
    by false t =
        let l : length bs ≡ n = ap length is ∙ length-take-le n buf within in
        let m : n ≡ length buf = omega (arith, ltb-false _ _ t) in
        too_long_alike bs x (omega arith) (omega (arith, ap length e, length-append bs y))

pub prints_all :
    (a b : Option (List ℕ)) (buf : List ℕ) (n : ℕ) (P : List ℕ → Type 0) → n ≤ length buf → max_bytes < length buf → Consumes a b (take n buf) →
    (n < length buf → IsAtEnd b) → P (schedule_text (take n buf)) → IfSome a (λ xs. P (schedule_text xs))
prints_all None b buf n P within long read end h = tt
prints_all (Some x) None buf n P within long read end h = absurd read
prints_all (Some x) (Some y) buf n P within long read end h = subst P (read_all x y (take n buf) buf n refl within long end read) h

-- where the reading failed nothing is printed
pub none_printed : {A E : Type 0} (input old : Option (List ℕ)) (r : Result A E) → IsErr r → IfSome input (λ xs. Prints old old r (schedule_text xs))
none_printed None old r h = tt
none_printed (Some xs) old r h = failed r h (schedule_text xs, begun old (schedule_text xs))
