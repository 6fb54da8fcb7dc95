-- The request call, branch by branch; and what a run's answer says.
use Rattle.std.specs.Prelude.{ℕ, ◌+◌, ◌≤◌, ◌<◌, ◌≡◌, Bool, true, false, ◌||◌, length, ltb, leb, Err, Ok}
use Rattle.std.proofs.Common.{arith, sym, ◌∙◌, refl, leb-true, le-leb, ltb-true, ltb-false, lt-ltb}
use borrow.Author.Tests.{lt-leb, le-ltb}
use Rattle.lists.specs.Lists.{overlay_take}
use Rattle.lists.specs.Numbers.{last32}
use Rattle.lists.specs.Tests.{and_split, never}
use Rattle.server.specs.Returns.{max_held}
use Rattle.server.proofs.Written.{written_same}
use Rattle.queue.specs.declared.Queue.{Queue}
use Rattle.queue.specs.Queue.{max_work, work_fits, max_waiting}
use Rattle.queue.specs.Steps.{pushed_queue}
use Rattle.queue.specs.Laws.{pushed_with}
use Rattle.table.specs.declared.State.{State}
use Rattle.table.specs.declared.Refusal.{Refusal}
use Rattle.table.specs.Refusal.{figures}
use Rattle.table.specs.State.{fit}
use Rattle.rules.specs.Calls.{request_call}
use Rattle.rules.specs.Figures.{run_figures}
use Rattle.rules.proofs.Figures.{run_figures_lem}
use Rattle.rules.proofs.WaitingLaws.{figure_most}
use Rattle.scheduler.specs.Allowance.{allowance}

bad_work_lem : (w : ℕ) → ltb w 1 || ltb max_work w ≡ true → work_fits w ≡ false
bad_work_lem w e = go (ltb w 1) refl e
  where
    go : (a : Bool) → ltb w 1 ≡ a → a || ltb max_work w ≡ true → work_fits w ≡ false
    go true f p = let z : w < 1 = ltb-true w 1 f in rw (lt-leb 1 w z)
    go false f p =
        let z : max_work < w = ltb-true max_work w p in
        rw (le-leb 1 w (omega arith), lt-leb w max_work z)

good-work : (w : ℕ) → ltb w 1 || ltb max_work w ≡ false → work_fits w ≡ true
good-work w e = go (ltb w 1) refl e
  where
    go : (a : Bool) → ltb w 1 ≡ a → a || ltb max_work w ≡ false → work_fits w ≡ true
    go true f p = never p refl
    go false f p =
        let y : 1 ≤ w = ltb-false w 1 f in
        let z : w ≤ max_work = ltb-false max_work w p in
        rw (le-leb 1 w y, le-leb w max_work z)

module _ (s : State) (id work : ℕ) (r : Bool) (found : r ≡ fit s) where
  pub ask-unfit : r ≡ false → record { answer = Err Refusal.UnfitState; state = s } ≡ request_call s id work
  ask-unfit e = rw (← found, e)

  pub ask-work : r ≡ true → ltb work 1 || ltb max_work work ≡ true → record { answer = Err Refusal.BadWork; state = s } ≡ request_call s id work
  ask-work e w = rw (← found, e, bad_work_lem work w)

  pub ask-full : r ≡ true → ltb work 1 || ltb max_work work ≡ false → max_waiting ≤ s.queue.n → record { answer = Err Refusal.QueueFull; state = s } ≡ request_call s id work
  ask-full e w h = rw (← found, e, good-work work w, le-ltb s.queue.n max_waiting h)

  pub ask-taken : r ≡ true → ltb work 1 || ltb max_work work ≡ false → s.queue.n < max_waiting → length s.returns.stretches ≡ max_held →
      (q : Queue) → q ≡ pushed_queue s.queue id work s.progress.clock →
      record { answer = Ok tt; state = record { table = s.table; progress = s.progress; queue = q; returns = s.returns } } ≡ request_call s id work
  ask-taken e w h z q p =
      let most : work ≤ max_work = leb-true work max_work (and_split (leb 1 work) (leb work max_work) (good-work work w)).1 in
      let small : s.queue.backlog + work ≤ last32 = omega (arith, most, figure_most s (sym found ∙ e)) in
      rw (← found, e, good-work work w, lt-ltb s.queue.n max_waiting h, p ∙ pushed_with s.queue id work s.progress.clock h small, overlay_take s.table.n s.progress.left, written_same s.returns z)

-- ---- the run call
pub run-says : (s : State) (k lent : ℕ) → figures (allowance s k lent).answer ≡ run_figures s k lent
unfolding allowance
run-says s k lent = run_figures_lem s k lent
