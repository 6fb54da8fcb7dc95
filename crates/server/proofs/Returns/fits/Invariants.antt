use Rattle.std.proofs.Common.{◌≡◌, ◌≤◌, ◌*◌, ◌+◌, drop}
use Rattle.server.specs.Returns.{laid, held}
use Rattle.server.proofs.Returns.fits.Given as goal

-- the stretches so far are laid, and their ticks summed up
abbrev pub invariant-loop-stretch : goal.invariant-loop-stretch
invariant-loop-stretch l = record {
  fitting : l.held ≤ l.stretch-index * 4_294_967_295;
  lying : laid l.initial.earliest l.clock l.stretch-items ≡ laid l.earliest l.clock (drop l.stretch-index l.stretch-items);
  holding : held l.stretch-items ≡ l.held + held (drop l.stretch-index l.stretch-items);
}
