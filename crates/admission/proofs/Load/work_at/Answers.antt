use Rattle.std.proofs.Common.{arith, add-one, ◌≤◌, ◌<◌, ◌*◌, ◌≡◌, ◌∙◌, get_or, length, take, length-take}
use Rattle.std.proofs.Math.Nat.{mul-le-mul}
use Rattle.std.proofs.lemmas.List.{get_or-take, length_push}
use Rattle.std.proofs.lemmas.Slice.Zip.{zip_turn, zip_end}
use Rattle.server.specs.Limits.{max_time}
use Rattle.table.specs.Facts.{no_task, task_at_lem}
use Rattle.admission.specs.Jumps.{whole, most_term}
use Rattle.admission.proofs.Shares.{load_le}
use Rattle.admission.proofs.Jumps.{Turn, tasks-at-step, with_server_lem, without-server}
use Rattle.admission.proofs.Load.work_at.Goals as goal
use Rattle.admission.proofs.Load.work_at.Goals.{In-Some, In-None}

-- the pair of a turn of the loop
turned : (c : In-Some) →
    Turn c.args.self.now.table.now c.args.demand.above (length c.loop-task.yielded) c.in-Some.task.now c.in-Some.part.now
turned c =
    let load = c.args.self.now in
    let t = load.table.now in
    let i = c.args.demand.above in
    let done = c.loop-task.yielded in
    let j = length done in
    let turn =
    zip_turn (take i t.tasks) (take i load.parts) done c.into_iter-task-iterator.result _ c.next.new.self _ (cc) (cc)
    c.loop-task.yielded_by _ c.in-Some.is c.next.ensures.steps in
    let here : j < i = omega (arith, turn.0, length-take i t.tasks) in
    let held : j < length t.tasks = omega (arith, turn.0, length-take i t.tasks) in
    let is : c.in-Some.task.now ≡ get_or t.tasks j no_task = turn.2 no_task ∙ get_or-take i t.tasks j no_task here in
    record {
      here = here;
      held = held;
      is = is;
      limits = rw is (task_at_lem t j load.facts (omega arith) held);
      part = rw is (turn.3 0 ∙ get_or-take i load.parts j 0 here ∙ load.tasks_known j (omega arith));
    }

pub turns-requires : goal.turns-requires
turns-requires c =
    let turn = turned (goal.at.turns-requires c).In-Some in
    record { span = omega arith; some = omega arith; short = omega arith; known = turn.part }

pub with-work-requires : goal.with-work-requires
with-work-requires c =
    let load = c.args.self.now in
    let turn = turned (goal.at.with-work-requires c).In-Some in
    let before = c.loop-task.invariant in
    record {
      all = omega (arith, load.facts.count);
      fixed = before.fixed;
      extra = before.extra;
      rate = omega (arith, load.facts.count);
      often = omega arith;
      period = omega arith;
      short = omega arith;
      load = rw turn.part (load_le _ _ (omega arith));
      leads = omega arith;
    }

pub loop-task-preserved : goal.loop-task-preserved
loop-task-preserved c =
    let t = c.args.self.now.table.now in
    let done = c.loop-task.yielded in
    let j = length done in
    let turn = turned (goal.at.loop-task-preserved c).In-Some in
    let before = c.loop-task.invariant in
    let counted = c.with-work.ensures in
    let term : c.turns.result * c.in-Some.task.now.exec ≤ most_term = mul-le-mul {m₂ = max_time} c.turns.ensures.most (omega arith) in
    let share : c.in-Some.task.now.exec * c.in-Some.part.now ≤ whole = rw turn.part (load_le _ _ (omega arith)) in
    rw (length_push done (c.in-Some.task, c.in-Some.part), add-one) (record {
      at = tasks-at-step t _ c.args.demand.own c.args.l j _ _ _ _ _ turn c.turns.ensures.count before.at counted;
      most = omega (arith, counted.all);
      fixed = omega (arith, counted.all, counted.fixed);
      extra = omega (arith, counted.extra);
      rate = omega (arith, counted.rate);
    })

-- after the last turn
ended : (c : In-None) → length c.loop-task.yielded ≡ c.args.demand.above
ended c =
    let load = c.args.self.now in
    let t = load.table.now in
    let i = c.args.demand.above in
    let end =
    zip_end (take i t.tasks) (take i load.parts) c.loop-task.yielded c.into_iter-task-iterator.result _ c.next.new.self _ (cc) (cc)
    c.loop-task.yielded_by c.in-None.is c.next.ensures.steps in
    omega (arith, end, length-take i t.tasks, length-take i load.parts, load.facts.count, load.sized)

pub returns-then-demand : goal.returns-then-demand
returns-then-demand c =
    let d = c.args.demand in
    let at = rw (ended (goal.at.returns-then-demand c).In-None) at c.loop-task.invariant.at in
    let term = c.server_term.ensures in
    rw c.if-demand.true (with_server_lem c.args.self.now.table.now d.above d.own c.args.l _ c.requires.before at _ _ term.turns term.leads term.sure c.with.ensures)

pub returns : goal.returns
returns c =
    let d = c.args.demand in
    let at = rw (ended (goal.at.returns c).In-None) at c.loop-task.invariant.at in
    rw c.if-demand.false (without-server c.args.self.now.table.now d.above d.own c.args.l _ c.requires.before at)
