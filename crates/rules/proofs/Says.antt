-- A call that is the definition's, its answer and the state after it, says its figures.
use Rattle.std.specs.Prelude.{ℕ, ◌≡◌, Ok}
use Rattle.std.proofs.Common.{ap, ◌∙◌}
use Rattle.table.specs.declared.State.{State}
use Rattle.table.specs.declared.Refusal.{Refusal}
use Rattle.table.specs.Refusal.{figures}
use Rattle.table.specs.State.{fit}
use Rattle.rules.specs.declared.Ticked.{Ticked}
use Rattle.rules.specs.Calls.{Called, request_call, tick_call, waiting_check}
use Rattle.rules.specs.Figures.{request_figures, answer_figures, tick_figures, waiting_figures}
use Rattle.rules.proofs.Figures.{unless-says, request_figures_lem, tick_figures_lem}

pub waiting_figures_lem : (s : State) → figures (waiting_check s) ≡ waiting_figures s
waiting_figures_lem s = unless-says (fit s) Refusal.UnfitState (Ok tt)

pub request-says : (s : State) (id work : ℕ) (m : Called (Unit {0})) → m ≡ request_call s id work →
    (m ≡ request_call s id work) × (figures m.answer ≡ request_figures s work)
request-says s id work m e = (e, ap (λ (x : Called (Unit {0})). figures x.answer) e ∙ request_figures_lem s work)

pub tick-says : (s : State) (x : Called Ticked) → x ≡ tick_call s → (x ≡ tick_call s) × (answer_figures x.answer ≡ tick_figures s)
tick-says s x e = (e, ap (λ (y : Called Ticked). answer_figures y.answer) e ∙ tick_figures_lem s)
