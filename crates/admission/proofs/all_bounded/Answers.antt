use Rattle.std.proofs.Common.{rules, tests, ltb, refl, ◌∙◌, ◌&&◌}
use Rattle.std.specs.List.{list_all}
use Rattle.std.proofs.lemmas.Iterator.{YieldsList-from_slice}
use Rattle.std.proofs.lemmas.Iterator.Search.{all_from_yields_List}
use Rattle.std.proofs.lemmas.List.Recursion.{same_from_clauses}
use Rattle.lists.specs.Lists.{all}
use Rattle.admission.proofs.all_bounded.Goals as goal

pub returns : goal.returns
returns c =
    all_from_yields_List (ltb 0) _ _ _ c.all.ensures.ran (YieldsList-from_slice c.args.bounds.now cc) (λ x b q k. search (rules, tests))
    ∙ same_from_clauses (list_all (ltb 0)) (all (ltb 0)) (λ x r. ltb 0 x && r) refl (λ _ _. refl) (λ _ _. refl) c.args.bounds.now
