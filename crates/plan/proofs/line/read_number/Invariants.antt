-- The digits left, read on from the value, give the number that the whole field is.
use Rattle.std.proofs.Common.{◌≡◌, ◌^◌, ◌<◌, ◌≤◌, length, drop}
use Rattle.plan.specs.Text.{read_number}
use Rattle.plan.proofs.Numbers.{rest}
use Rattle.plan.proofs.line.read_number.Given as goal

abbrev pub invariant-loop-byte : goal.invariant-loop-byte
invariant-loop-byte l = record {
  short : length l.field ≤ 10;
  below : l.value < 10 ^ l.byte-index;
  same : read_number l.field ≡ rest l.value (drop l.byte-index l.field);
}
