-- What a call that the code makes means: a request, a tick, or a run that is lent a block's list of idle entries.
use Rattle.rules.specs.Block.{idle_entries}
use Rattle.guarantee.specs.Calls.{request, tick, run}
use Rattle.guarantee.specs.Calls as Guaranteed
use Rattle.play.specs.declared.Call.{Call}
use Rattle.play.specs.declared.Call.TheVariants.{Request, Tick, Run}

abbrev pub meant : Call → Guaranteed.Call
meant (Request id work) = request id work
meant Tick = tick
meant (Run ticks) = run ticks idle_entries
