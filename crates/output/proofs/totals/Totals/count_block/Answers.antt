use Rattle.std.proofs.Common.{ℕ, refl, sym, ap, ◌∙◌, arith, add-one, get_or, take}
use Rattle.rules.specs.declared.Entry.{Entry}
use Rattle.output.specs.declared.totals.Totals.{Totals}
use Rattle.output.specs.Totals.{counted}
use Rattle.output.specs.Blocks.{block_totals}
use Rattle.output.proofs.Free.{block_on}
use Rattle.output.proofs.totals.Totals.count_block.Goals as goal

pub loop-entry-init : goal.loop-entry-init
unfolding block_totals
loop-entry-init c = refl

-- what a list's place past its end would hold
abbrev none : Entry
none = record { kind = 0; id = 0; drops = 0 }

pub loop-entry-preserved : goal.loop-entry-preserved
loop-entry-preserved c =
    let i : ℕ = c.loop-entry.entry-index in
    c.count_entry-totals.ensures
    ∙ ap (λ (t : Totals). counted t (get_or c.args.entries.now i none)) c.loop-entry.invariant
    ∙ block_on c.args.self c.args.entries.now i none (omega arith)
    ∙ ap (λ (j : ℕ). block_totals c.args.self (take j c.args.entries.now)) (sym (add-one i))
