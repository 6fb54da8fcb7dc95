use Rattle.std.proofs.Common.{arith, add-one, take, get_or, sym, ◌∙◌, length, ap, List}
use Rattle.lists.specs.Loops.{all-step}
use Rattle.queue.specs.declared.Request.{Request}
use Rattle.queue.specs.Queue.{request_fits}
use Rattle.queue.specs.Laws.{Fits, request_fits_lem, most_work_lem}
use Rattle.queue.proofs.Laws.{work_step}
use Rattle.queue.proofs.Queue.fits.Goals as goal
use lib.ListN.{length-take}

pub overflow_add-sum : goal.overflow_add-sum
overflow_add-sum c =
    let q = c.waiting-request-items.result.now in
    let i = c.loop-request.request-index in
    let r : Request = get_or q i (record { id = 0; work = 0; arrival = 0 }) in
    let f : Fits c.args.clock r = request_fits_lem c.args.clock r (sym c.fits.ensures ∙ c.if-not-fits.false) in
    omega (arith, f.work, c.loop-request.invariant.1, most_work_lem c.args.clock (take i q) c.loop-request.invariant.0, length-take i q, ap (λ (rs : List Request). length rs) c.waiting-request-items.ensures, length-take c.args.self.now.n c.args.self.now.requests)

pub loop-request-preserved : goal.loop-request-preserved
loop-request-preserved c =
    let q = c.waiting-request-items.result.now in
    let i = c.loop-request.request-index in (
      rw add-one
          (all-step (request_fits c.args.clock) _ i q (omega arith) c.loop-request.invariant.0
          (sym c.fits.ensures ∙ c.if-not-fits.false)),
      rw add-one (rw c.loop-request.invariant.1 (sym (work_step _ i q (omega arith)))),
    )
