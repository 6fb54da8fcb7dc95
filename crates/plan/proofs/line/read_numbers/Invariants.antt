-- The numbers of the fields read, and then those of the fields that are left, are the numbers of the whole.
use Rattle.std.proofs.Common.{◌≡◌, length, take, option_copied}
use Rattle.plan.specs.Lines.{numbers}
use Rattle.plan.proofs.Fields.{after, left}
use Rattle.plan.proofs.line.read_numbers.Given as goal

abbrev pub invariant-loop-number : goal.invariant-loop-number
invariant-loop-number g l = record {
  many : length l.number-items ≡ g.row.N;
  same : numbers l.fields ≡ after (take l.number-index l.number-items) (left (option_copied l.rest));
}
