use Rattle.std.proofs.Common.{◌+◌, arith}
use mathlib.Core.Logic.{inl, inr}
use Rattle.text.specs.Buffer.{wrote_length}
use Rattle.output.proofs.Steps.{none-taken, more-taken}
use Rattle.output.proofs.Rest.{taken-fewer}
use Rattle.output.proofs.Pieces.{filled}
use Rattle.output.proofs.lent.fill.Goals as goal

pub loop-place-init : goal.loop-place-init
loop-place-init c = (0, none-taken _ _ _ _)

pub loop-place-smaller : goal.loop-place-smaller
loop-place-smaller c = let s = c.step-at.ensures in taken-fewer _ _ s.steps c.loop-place.place s.some c.loop-place-test.true s.taken

pub loop-place-preserved : goal.loop-place-preserved
loop-place-preserved c = let a = c.loop-place.invariant in (a.0 + c.step-at.ensures.steps, more-taken _ _ _ a.0 a.1 c.step-at.ensures)

pub returns-after-loop-place : goal.returns-after-loop-place
returns-after-loop-place c = let a = c.loop-place.invariant in filled a.0 a.1 (inl (omega (arith, c.loop-place-test.false)))

pub returns-else-out-at-ge-STEP_ROOM : goal.returns-else-out-at-ge-STEP_ROOM
returns-else-out-at-ge-STEP_ROOM c =
    let a = c.loop-place.invariant in filled a.0 a.1 (inr (omega (arith, c.if-out-at-ge-STEP_ROOM.false, wrote_length a.1.wrote)))
