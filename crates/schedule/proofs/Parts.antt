-- What is printed of a text before the writer fails is its first part, as a number of its bytes.
use Rattle.std.specs.Prelude.{ℕ, ◌≡◌, refl, List, length, take}
use Rattle.std.proofs.Common.{sym, ap, ◌∙◌, subst, take_at}
use Rattle.std.specs.declared.option.Option.{Option}
use Rattle.std.specs.Io.KnownBytes.{Appends}
use Rattle.text.specs.Printing.{PrintsFront}
use Rattle.schedule.specs.Part.{AppendsPart}

pub front_part : (old new : Option (List ℕ)) (text : List ℕ) → PrintsFront old new text → AppendsPart old new text
front_part old new text p =
    let e : take (length p.1.front) text ≡ p.1.front = ap (take (length p.1.front)) p.1.parted ∙ take_at p.1.front p.0 (length p.1.front) refl in
    (length p.1.front, subst (Appends old new) (sym e) p.1.printed)
