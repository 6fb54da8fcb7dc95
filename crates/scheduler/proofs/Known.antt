-- What is known of a state is known again after each call.
use Rattle.std.specs.Prelude.{ℕ, ◌+◌, ◌<◌, ◌≡◌, refl, Bool, true, false, cond}
use Rattle.std.proofs.Common.{arith, le-leb}
use Rattle.server.specs.Limits.{last_clock}
use Rattle.table.specs.declared.State.{State}
use Rattle.table.specs.Refusal.{passed}
use Rattle.table.specs.Model.{model_of, written}
use Rattle.table.specs.State.{fit}
use Rattle.rules.specs.Calls.{asked, request_check, request_call, state_after}
use Rattle.rules.specs.Laws.{Sized}
use Rattle.rules.proofs.Laws.{tick-fit, request-fit, request-accepted}
use Rattle.scheduler.specs.Opening.{calm_of}
use Rattle.scheduler.specs.Known.{Known}
use Rattle.scheduler.proofs.Answers.{tick-may}
use Rattle.scheduler.proofs.Together.{calm_after_lem}

-- no tick is before tick 0
pub known-first : (s : State) (fits : Bool) → fit s ≡ fits → Sized s → Known s fits 0
known-first s fits e z = record { flag = e; sized = z; calm = λ u i a b c. absurd (omega arith) }

pub known-on : (s : State) (c : ℕ) (y : State) (d : ℕ) → Known s true c → s.progress.clock < last_clock → y ≡ state_after s → d ≡ calm_of s c → Known y true d
known-on s c y d h early ey ed =
    let fits = tick-fit s h.sized h.flag (le-leb (s.progress.clock + 1) last_clock (omega arith)) in
    rw (ey, ed) (record { flag = fits.0; sized = fits.1; calm = calm_after_lem s c (tick-may s h.flag early) h.sized.tasks h.calm })

pub known-asked : (s : State) (id work c : ℕ) → Known s true c → Known (request_call s id work).state true c
known-asked s id work c h = go (passed (request_check s work)) refl
  where
    go : (b : Bool) → passed (request_check s work) ≡ b → Known (cond b (written s (asked id work (model_of s))) s) true c
    go true e =
        let fits = request-fit s id work h.sized (request-accepted s work e) in
        record { flag = fits.0; sized = fits.1; calm = h.calm }
    go false e = h
