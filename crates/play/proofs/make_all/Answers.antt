use Rattle.std.proofs.Common.{arith, ap, ◌∙◌, ◌+◌, [], ◌∷◌}
use Rattle.std.specs.Slice.Iter.{chunks_exact_rest}
use Rattle.guarantee.specs.Calls.{Call}
use Rattle.play.specs.Report.{made_at, made}
use Rattle.play.proofs.Laws.{Ahead, turn, ended}
use Rattle.play.proofs.make_all.Goals as goal
use Rattle.play.proofs.make_all.Goals.{After-make-one}

-- the invariant after the call, for the sums and for the next turn
turned : (c : After-make-one) → Ahead c.args.state.now c.args.calls.now c.make-one.new.state (c.loop-numbers.tally.ticks + c.make-one.result.ticks)
    (c.loop-numbers.tally.drops + c.make-one.result.drops) (chunks_exact_rest c.next.new.self)
turned c =
    let l = c.loop-numbers in
    let one = c.make-one in
    let next = c.in-Some.ensures.steps in
    turn c.args.state.now c.args.calls.now l.state l.tally.ticks l.tally.drops (made_at one.new.state one.result.ticks one.result.drops) (chunks_exact_rest l.numbers-iterator) c.in-Some.numbers.now
    (chunks_exact_rest c.next.new.self) l.invariant.ahead next.1.0 (next.1.1 ∙ l.invariant.three) (one.ensures ∙ ap (λ (call : Call). made l.state (call ∷ [])) c.of.ensures)

pub overflow_add-tally : goal.overflow_add-tally
overflow_add-tally c = let t = turned (goal.at.overflow_add-tally c).After-make-one in record { fits = omega (arith, t.clock, t.early) }

pub overflow_add-tally-in-loop-numbers : goal.overflow_add-tally-in-loop-numbers
overflow_add-tally-in-loop-numbers c = let t = turned (goal.at.overflow_add-tally-in-loop-numbers c).After-make-one in record { fits = omega (arith, t.clock, t.early, t.few) }

pub loop-numbers-preserved : goal.loop-numbers-preserved
loop-numbers-preserved c = let same = c.in-Some.ensures.steps.0 ∙ c.loop-numbers.invariant.three in record { again = omega arith; ends = tt; three = same; ahead = turned (goal.at.loop-numbers-preserved c).After-make-one }

pub returns : goal.returns
returns c =
    let l = c.loop-numbers in
    ended c.args.state.now c.args.calls.now l.state l.tally.ticks l.tally.drops (chunks_exact_rest l.numbers-iterator) l.invariant.ahead (omega (arith, c.in-None.ensures.steps.1.0, l.invariant.three))
