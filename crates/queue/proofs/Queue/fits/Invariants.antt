use Rattle.std.proofs.Common.{◌≡◌, true, take}
use Rattle.lists.specs.Lists.{all}
use Rattle.queue.specs.Queue.{waiting_work, request_fits}
use Rattle.queue.proofs.Queue.fits.Given as goal

-- the requests so far passed, and their work is summed up
abbrev pub invariant-loop-request : goal.invariant-loop-request
invariant-loop-request l =
    (all (request_fits l.clock) (take l.request-index l.request-items) ≡ true) × (l.sum ≡ waiting_work (take l.request-index l.request-items))
