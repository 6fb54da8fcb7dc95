use Rattle.std.proofs.Common.{arith}
use Rattle.table.specs.Model.{task_set_of}
use Rattle.bounds.proofs.Laws.{demand_of_mono}
use Rattle.admission.specs.Jumps.{demanded}
use Rattle.admission.proofs.Jumps.{jump}
use Rattle.admission.proofs.Load.first_met.Goals as goal

pub overflow_sub-next : goal.overflow_sub-next
overflow_sub-next c = omega (arith, c.next_length-next.ensures.moves c.loop-l.l (omega arith) (omega arith))

pub loop-l-smaller : goal.loop-l-smaller
loop-l-smaller c =
    let next = c.next_length-next.ensures in
    omega (arith, next.past, next.moves c.loop-l.l (omega arith) (omega arith))

pub loop-l-preserved : goal.loop-l-preserved
loop-l-preserved c =
    let t = c.args.self.now.table.now in
    let d = c.args.demand in
    let next = c.next_length-next.ensures in
    let at = c.work_at-work.ensures in record {
      ruled = record {
        starts = omega (arith, next.moves c.loop-l.l (omega arith) (omega arith));
        past = next.past;
        none = jump (demanded t d) c.loop-l.l _ _ _ _ (demand_of_mono (task_set_of t) d.above d.own d.beside) at.sure
            (λ x h k. next.none x h (omega (arith, at.all))) c.loop-l.invariant.ruled.none;
      };
      near = omega arith;
    }
