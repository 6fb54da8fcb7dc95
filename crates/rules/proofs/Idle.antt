-- Request 5/13: what follows for a tick that would be idle.
use Rattle.std.specs.Prelude.{ℕ, ◌≡◌, refl, Bool, true, false, cond, List}
use Rattle.std.proofs.Common.{arith}
use Rattle.server.specs.declared.Server.{Server}
use Rattle.server.specs.Kind.{Kind, background, polling, deferrable, sporadic, returning}
use Rattle.server.specs.Whole.{Whole, consume_whole}
use Rattle.queue.specs.declared.Request.{Request}
use Rattle.queue.specs.Queue.{waits}
use Rattle.table.specs.Model.{TaskSet, Model}
use Rattle.rules.specs.declared.Occupant.{Occupant}
use Rattle.rules.specs.declared.Turn.{Turn}
use Rattle.rules.specs.Tick.{occupant_of, first_open, lefts_at, above_at, busy_at, may_at, seen_by, tick}

-- "Such a tick takes no budget, doesn't count as service and sets no sporadic or kind 4 mark": under every kind it leaves the server, in every
-- state, as an idle tick does.
pub spare_leaves : (k : Kind) (s : Server) (x : Whole) (t : ℕ) (q : List Request) (above busy : Bool) →
    consume_whole k s x (seen_by t q Turn.Spare above busy) ≡ consume_whole k s x (seen_by t q Turn.Nobody above busy)
spare_leaves background s x t q above busy = refl
spare_leaves polling s x t q above busy = refl
spare_leaves deferrable s x t q above busy = refl
spare_leaves sporadic s x t q above busy = refl
spare_leaves returning s x t q above busy = refl

-- "a tick that would be idle goes to the head request if there is one": no tick is idle while a request waits.
pub idle-empty : (p : TaskSet) (m : Model) → (tick p m).occupant ≡ Occupant.Idle → waits m.queue ≡ false
idle-empty p m e = go (above_at p m) (may_at p m) (busy_at p m) (waits m.queue) e
  where
    go : (above may busy waiting : Bool) →
        occupant_of (cond above (Turn.Task (first_open (lefts_at p m))) (cond may Turn.Budget
        (cond busy (Turn.Task (first_open (lefts_at p m))) (cond waiting Turn.Spare Turn.Nobody)))) m.queue ≡ Occupant.Idle → waiting ≡ false
    go true may busy waiting e = let z : ◌≡◌ {A = ℕ} 0 1 = cc in absurd (omega arith)
    go false true busy waiting e = let z : ◌≡◌ {A = ℕ} 0 1 = cc in absurd (omega arith)
    go false false true waiting e = let z : ◌≡◌ {A = ℕ} 0 1 = cc in absurd (omega arith)
    go false false false true e = let z : ◌≡◌ {A = ℕ} 0 1 = cc in absurd (omega arith)
    go false false false false e = refl
