-- The calls' answers say the figures of specs/Figures, each refusal in its order.
use Rattle.std.specs.Prelude.{ℕ, ◌+◌, ◌≡◌, refl, Bool, true, false, cond, not, leb, ltb, Ok, Result}
use Rattle.std.proofs.Common.{sym, ap, ◌∙◌}
use Rattle.lists.specs.Tests.{at_least, above}
use Rattle.server.specs.Limits.{last_clock}
use Rattle.queue.specs.Queue.{max_waiting, work_fits}
use Rattle.table.specs.declared.State.{State}
use Rattle.table.specs.declared.Refusal.{Refusal}
use Rattle.table.specs.Refusal.{number, value, figures, giving_figures, ground_with, ground, no_ground}
use Rattle.table.specs.State.{fit}
use Rattle.rules.specs.declared.Ticked.{Ticked}
use Rattle.rules.specs.Calls.{unless, request_check, request_call, clock_allows, ticked, tick_by, tick_call, run_check, waiting_check, waiting_call}
use Rattle.rules.specs.Figures.{answer_figures, clock_passed, ran_figures, refused_figures, request_figures, run_figures, tick_figures, waiting_figures}

-- ---- the calls' answers say these figures
pub unless-says : (ok : Bool) (r : Refusal) (later : Result Unit Refusal) → figures (unless ok r later) ≡ ground_with (not ok) (number r) (value r) (figures later)
unless-says true r later = refl
unless-says false r later = refl

pub request_figures_lem : (s : State) (work : ℕ) → figures (request_check s work) ≡ request_figures s work
request_figures_lem s work =
    unless-says (fit s) Refusal.UnfitState _
    ∙ ap (ground (not (fit s)) 11)
    (unless-says (work_fits work) Refusal.BadWork _
    ∙ ap (ground (not (work_fits work)) 4)
    (unless-says (ltb s.queue.n max_waiting) Refusal.QueueFull (Ok tt)
    ∙ ap (λ (full : Bool). ground full 5 no_ground) (sym (at_least s.queue.n max_waiting))))

pub run_figures_lem : (s : State) (k lent : ℕ) → figures (run_check s k lent) ≡ run_figures s k lent
run_figures_lem s k lent =
    unless-says (fit s) Refusal.UnfitState _
    ∙ ap (ground (not (fit s)) 11)
    (unless-says (clock_allows s k) Refusal.ClockSpent _
    ∙ (λ j. ground (spent j) 6 (short j)))
  where
    spent : not (clock_allows s k) ≡ clock_passed s k
    spent = sym (above (s.progress.clock + k) last_clock)

    short : figures (unless (leb k lent) Refusal.ShortRecord (Ok tt)) ≡ ground (ltb lent k) 10 no_ground
    short = unless-says (leb k lent) Refusal.ShortRecord (Ok tt) ∙ ap (λ (b : Bool). ground b 10 no_ground) (sym (above k lent))

pub tick_figures_lem : (s : State) → answer_figures (tick_call s).answer ≡ tick_figures s
tick_figures_lem s =
    by (fit s) (clock_allows s 1)
    ∙ ap (λ (spent : Bool). cond (not (fit s)) (refused_figures 11) (cond spent (refused_figures 6) (ran_figures (ticked s)))) (sym (above (s.progress.clock + 1) last_clock))
  where
    by : (f c : Bool) →
        answer_figures (tick_by (unless f Refusal.UnfitState (unless c Refusal.ClockSpent (Ok tt))) s).answer ≡
        cond (not f) (refused_figures 11) (cond (not c) (refused_figures 6) (ran_figures (ticked s)))
    by false c = refl
    by true false = refl
    by true true = refl

pub waiting_figures_lem : (s : State) → figures (waiting_call s) ≡ waiting_figures s
waiting_figures_lem s = giving_figures (waiting_check s) s.queue.backlog ∙ unless-says (fit s) Refusal.UnfitState (Ok tt)

-- ---- an answer that is the call's says its figures
pub request-says : (s : State) (id work : ℕ) (a : Result Unit Refusal) → a ≡ (request_call s id work).answer →
    (a ≡ (request_call s id work).answer) × (figures a ≡ request_figures s work)
request-says s id work a e = (e, ap (λ (x : Result Unit Refusal). figures x) e ∙ request_figures_lem s work)

pub tick-says : (s : State) (a : Result Ticked Refusal) → a ≡ (tick_call s).answer → (a ≡ (tick_call s).answer) × (answer_figures a ≡ tick_figures s)
tick-says s a e = (e, ap answer_figures e ∙ tick_figures_lem s)

pub waiting-says : (s : State) (a : Result ℕ Refusal) → a ≡ waiting_call s → (a ≡ waiting_call s) × (figures a ≡ waiting_figures s)
waiting-says s a e = (e, ap (λ (x : Result ℕ Refusal). figures x) e ∙ waiting_figures_lem s)
