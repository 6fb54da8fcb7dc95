use Rattle.std.proofs.Common.{arith, add-one, ◌≡◌, ◌<◌, get_or, length, length-take, refl, ◌∙◌}
use Rattle.std.proofs.lemmas.List.{get_or-take}
use Rattle.lists.specs.Lists.{overlay}
use Rattle.table.specs.Facts.{no_task, task_at_lem}
use Rattle.table.specs.Model.{task_set_of}
use Rattle.bounds.specs.Admission.{no_bounds}
use Rattle.bounds.specs.Demand.{demand, task_bound}
use Rattle.admission.proofs.Laws.{bounds-step}
use Rattle.admission.proofs.Jumps.{met_least, open_first, open_next}
use Rattle.admission.proofs.Load.task_bounds.Goals as goal

pub loop-i-init : goal.loop-i-init
unfolding overlay
loop-i-init c = record { bounds = refl; ruled = open_first _ _ (omega arith) }

pub loop-i-preserved : goal.loop-i-preserved
loop-i-preserved c =
    let load = c.args.self.now in
    let t = load.table.now in
    let i = c.loop-i.i in
    let task = get_or t.tasks i no_task in
    let used : i < t.n = omega (arith, length-take t.n t.tasks) in
    let held : i < length t.tasks = omega (arith, length-take t.n t.tasks) in
    let same = get_or-take t.n t.tasks i no_task used in
    let met = rw same at c.first_met-from.ensures in
    let e : c.within.result ≡ task_bound (task_set_of t) i task =
    (rw same at c.within.ensures) ∙ met_least (demand (task_set_of t) i task) task.deadline c.first_met-from.result met in record {
      bounds = rw (c.loop-i.invariant.bounds, e, add-one) (bounds-step (task_set_of t) no_task i t.tasks no_bounds held (omega arith));
      ruled = rw add-one (open_next t i used held (task_at_lem t i load.facts used held) c.first_met-from.result met.from);
    }
