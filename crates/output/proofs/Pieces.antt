-- The pieces of the output, in order, are the whole.
use Prim.Native.Nat.{ℕ, zero, suc, ◌+◌, ◌-◌, ◌≤◌, ◌<◌}
use Rattle.std.specs.Prelude.{◌≡◌, refl, List, [], ◌∷◌, ◌++◌, ◌⊎◌, length, take}
use Rattle.std.proofs.Common.{sym, ◌∙◌, append-nil, ⊎_elim}
use Rattle.std.proofs.Math.Path.{ap}
use native.Mathlib.Omega.{arith}
use Rattle.text.specs.Buffer.{Wrote, if_room, has_room, front, wrote_length}
use Rattle.text.specs.Lines.{line_room}
use Rattle.output.specs.Rooms.{step_room}
use Rattle.output.specs.declared.lent.Place.{Place}
use Rattle.output.specs.Totals.{closing_text}
use Rattle.output.specs.Output.{ticks_text}
use Rattle.output.specs.Steps.{steps_from, Taken}
use Rattle.output.proofs.Steps.{one_end}
use Rattle.output.specs.Rest.{text_from}
use Rattle.output.proofs.Rest.{steps_left, steps_print, taken-fewer}
use Rattle.output.specs.Pieces.{Filled}

module _ {bytes : List ℕ} {ticks : ℕ} {l : List ℕ} {p : Place} {m : List ℕ} {r : ℕ} {q : Place} where
  -- steps that stop there: had none been taken, a step would not fit
  pub filled :
      (n : ℕ) → Taken (steps_from bytes ticks n p) l 0 m r q → (ticks ≤ q.tick) ⊎ (length l < r + step_room) → Filled bytes ticks l p m r q
  unfolding steps_from
  filled zero h stops = record {
    steps = 0;
    taken = h;
    stops = stops;
    some = λ early room. absurd (⊎_elim (λ e. omega (arith, ap (λ (x : Place). x.tick) h.place)) (λ e. omega (arith, h.wrote.next)) stops);
  }
  filled (suc n) h stops = record { steps = suc n; taken = h; stops = stops; some = λ early room. omega arith }

  module _ (f : Filled bytes ticks l p m r q) where
    -- what was to be printed at p is what stands in the buffer, then what is to be printed at q
    pub filled-text : text_from bytes ticks p ≡ take r m ++ text_from bytes ticks q
    filled-text =
        steps_print bytes ticks f.steps p
        ∙ ap (λ (x : Place). (steps_from bytes ticks f.steps p).text ++ text_from bytes ticks x) (sym f.taken.place)
        ∙ ap (λ (x : List ℕ). x ++ text_from bytes ticks q) (sym (front f.taken.wrote f.taken.fits))

    pub filled_length : length m ≡ length l
    filled_length = wrote_length f.taken.wrote

    -- if a step fits at all, fewer are left
    pub filled-fewer : p.tick < ticks → step_room ≤ length l → steps_left bytes ticks q < steps_left bytes ticks p
    filled-fewer early room = taken-fewer bytes ticks f.steps p (f.some early room) early f.taken

-- where no tick is left, it is one place that is handed back, however many steps were taken and whatever the buffer was
pub filled-end :
    {bytes : List ℕ} {ticks : ℕ} {l m o n : List ℕ} {r z : ℕ} {p q v : Place} → Filled bytes ticks l p m r q → Filled bytes ticks o p n z v →
    ticks ≤ q.tick → ticks ≤ v.tick → q ≡ v
filled-end {bytes} {ticks} {p = p} f g h k =
    f.taken.place
    ∙ one_end bytes ticks f.steps g.steps p
    (omega (arith, ap (λ (x : Place). x.tick) f.taken.place))
    (omega (arith, ap (λ (x : Place). x.tick) g.taken.place))
    ∙ sym g.taken.place

-- what stands in buffers that are filled one after the other, from a place up to the last tick, and in one that then has the closing line
pub data Fills (bytes : List ℕ) (ticks : ℕ) : Place → List (List ℕ) → Type 0 where
  done :
      {l m : List ℕ} {r : ℕ} {p : Place} → ticks ≤ p.tick → line_room ≤ length l → r ≤ line_room →
      Wrote l 0 (if_room line_room l 0 (closing_text p.tick p.totals)) m r → Fills bytes ticks p (take r m ∷ [])
  more :
      {l m : List ℕ} {r : ℕ} {p q : Place} {ps : List (List ℕ)} → Filled bytes ticks l p m r q → Fills bytes ticks q ps →
      Fills bytes ticks p (take r m ∷ ps)

-- pieces put together
abbrev pub joined : List (List ℕ) → List ℕ
joined [] = []
joined (x ∷ xs) = x ++ joined xs

-- the pieces in order are the whole
pub pieces_whole : {bytes : List ℕ} {ticks : ℕ} {p : Place} {ps : List (List ℕ)} → Fills bytes ticks p ps → joined ps ≡ text_from bytes ticks p
unfolding text_from ticks_text
pieces_whole {bytes} {ticks} (done {l} {m} {r} {p} h room short w) =
    let none : ticks - p.tick ≡ 0 = omega arith in
    let line = closing_text p.tick p.totals in
    append-nil (take r m) ∙ front w (omega arith) ∙ has_room line_room l 0 line room ∙ rw none refl
pieces_whole {bytes} {ticks} (more {l} {m} {r} {p} {q} {ps} f later) = ap (λ (x : List ℕ). take r m ++ x) (pieces_whole later) ∙ sym (filled-text f)
