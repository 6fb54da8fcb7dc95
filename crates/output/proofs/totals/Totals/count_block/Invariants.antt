-- The totals so far are those with the ticks of the record so far.
use Rattle.std.proofs.Common.{◌≡◌, take}
use Rattle.output.specs.Blocks.{block_totals}
use Rattle.output.proofs.totals.Totals.count_block.Given as goal

abbrev pub invariant-loop-entry : goal.invariant-loop-entry
invariant-loop-entry l = l.totals ≡ block_totals l.initial.totals (take l.entry-index l.entries)
