use Rattle.std.proofs.Common.{arith, le-leb, lt-ltb}
use Rattle.scheduler.proofs.Answers.{asked-is}
use Rattle.scheduler.proofs.fit_request.Goals as goal

pub returns-clause-next : goal.returns-clause-next
returns-clause-next c =
    let s = c.args.state.now in
    rw (c.requires.fits, le-leb 1 c.args.work c.if-work-lt1.false, le-leb c.args.work 60_000 c.if-work-gt-MAX_WORK.false, lt-ltb s.queue.n 24 c.if-state-ge-MAX_WAITING.false)
    (asked-is s c.args.id c.args.work c.requires.fits (omega arith) (omega arith) c.requires.sized.stretches c.push.new.self c.push.ensures)
