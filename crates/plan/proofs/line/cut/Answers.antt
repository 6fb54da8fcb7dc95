use Rattle.std.proofs.Common.{ℕ, ◌+◌, ◌-◌, List, length, take, drop, arith, sym, ap, ◌∙◌, length-drop, take_all}
use Rattle.plan.specs.Text.{piece, split}
use Rattle.plan.proofs.Search.{found, missed}
use Rattle.plan.proofs.line.cut.Goals as goal

pub returns-in-Some : goal.returns-in-Some
returns-in-Some c =
    let s = c.args.fields.now in
    let n = c.in-Some.place in
    (found 44 s n c.in-Some.ensures).parts
    ∙ ap (λ (l : List ℕ). piece (take n s) (split 44 l)) (sym (take_all (length s - (n + 1)) (drop (n + 1) s) (omega (arith, length-drop (n + 1) s))))

pub returns-in-None : goal.returns-in-None
returns-in-None c = missed _ _ c.in-None.ensures
