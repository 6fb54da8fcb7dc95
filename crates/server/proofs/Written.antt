-- Kind 4's array, written and read back; and that the code's steps (Advanced) are those of the rules (Whole) where the state is fit.
use Rattle.std.specs.Prelude.{ℕ, zero, suc, ◌+◌, ◌-◌, ◌≤◌, ◌<◌, ◌≡◌, refl, Bool, true, false, cond, ◌&&◌, ◌||◌, List, [], ◌∷◌, length, leb, ltb, eqb}
use Rattle.std.proofs.Common.{arith, ap, ◌∙◌, length-take-le, leb-true, le-leb, lt-ltb}
use Rattle.lists.specs.Tests.{never}
use Rattle.lists.specs.Lists.{overlay_take, take_overlay, overlay-again}
use Rattle.server.specs.declared.Server.{Server}
use Rattle.server.specs.declared.ServerState.{ServerState}
use Rattle.server.specs.declared.Stretch.{Stretch}
use Rattle.server.specs.declared.Returns.{Returns}
use Rattle.server.specs.declared.Seen.{Seen}
use Rattle.server.specs.Kind.{Kind, background, polling, deferrable, sporadic, returning, kind_of}
use Rattle.server.specs.Consumed.{last32}
use Rattle.server.specs.Server.{with_budget}
use Rattle.server.specs.Returns.{max_held, end_of, held_of, returns_with, comes_back, shorter, returned, room_at, grown, held_with, written_returns}
use Rattle.server.specs.Whole.{whole, replenish_part, returned_for, room_for, holds, whole_fits}
use Rattle.server.proofs.Held.{Holding, fits_holding, back_some}
use Rattle.server.specs.Advanced.{delay_for, edge_of, edge_for, replenished_for, advanced, moves}

-- ---- written and read back
pub few-reread : (r : Returns) (us : List Stretch) → r.n ≤ max_held → held_of (written_returns r us) ≡ us
few-reread r us h = rw (le-leb _ _ h) (take_overlay (length us) us r.stretches refl)

pub same-reread : (r : Returns) → held_of (written_returns r (held_of r)) ≡ held_of r
same-reread r = go (leb r.n max_held)
  where
    go : (d : Bool) → held_of (cond d (returns_with r (held_of r)) r) ≡ held_of r
    go true = take_overlay (length (held_of r)) (held_of r) r.stretches refl
    go false = refl

-- returns written over themselves
with_same : (r : Returns) → r.n ≤ length r.stretches → returns_with r (held_of r) ≡ r
with_same r h = rw (overlay_take r.n r.stretches, length-take-le r.n r.stretches h)

pub written_same : (r : Returns) → length r.stretches ≡ max_held → written_returns r (held_of r) ≡ r
written_same r z = go (leb r.n max_held) refl
  where
    go : (d : Bool) → leb r.n max_held ≡ d → cond d (returns_with r (held_of r)) r ≡ r
    go true e = with_same r (omega (arith, leb-true r.n max_held e))
    go false e = refl

-- ---- what a tick reads
-- a server that gives back has a period to give back after
abbrev pub Delays : Kind → Server → Type 0
Delays background s = Unit {0}
Delays polling s = Unit {0}
Delays deferrable s = Unit {0}
Delays sporadic s = Unit {0}
Delays returning s = 0 < s.period

pub delays : (n : ℕ) (s : Server) → (0 < n → 0 < s.period) → Delays (kind_of n) s
delays zero s h = tt
delays (suc zero) s h = tt
delays (suc (suc zero)) s h = tt
delays (suc (suc (suc zero))) s h = tt
delays (suc (suc (suc (suc zero)))) s h = h (omega arith)
delays (suc (suc (suc (suc (suc n))))) s h = tt

-- what a fit server of kind 4 is read to be
edge_is : (s : Server) (t : ℕ) (x : ServerState) (r : Returns) → whole_fits returning s t x.budget r ≡ true → 0 < s.period →
    edge_for returning s t r ≡ edge_of s.period t (held_of r)
edge_is s t x r f d = rw (le-leb 1 s.period d, le-leb _ _ (fits_holding s t x r f).0)

pub edge_room : (k : Kind) (s : Server) (t : ℕ) (x : ServerState) (r : Returns) → whole_fits k s t x.budget r ≡ true → Delays k s →
    (edge_for k s t r).room ≡ room_for k t (returned_for k s t (held_of r))
edge_room background s t x r f d = refl
edge_room polling s t x r f d = refl
edge_room deferrable s t x r f d = refl
edge_room sporadic s t x r f d = refl
edge_room returning s t x r f d = rw (edge_is s t x r f d)

-- ---- step 3 of the budget
pub replenished_is : (k : Kind) (s : Server) (t : ℕ) (busy : Bool) (x : ServerState) (r : Returns) → whole_fits k s t x.budget r ≡ true → Delays k s →
    replenished_for k s x t busy (edge_for k s t r).back ≡ replenish_part k s (whole x (held_of r)) t busy
replenished_is background s t busy x r f d = refl
replenished_is polling s t busy x r f d = refl
replenished_is deferrable s t busy x r f d = refl
replenished_is sporadic s t busy x r f d = refl
replenished_is returning s t busy x r f d = rw (edge_is s t x r f d) (ap (with_budget x) (go (comes_back s.period t (held_of r)) refl))
  where
    h : Holding s (t - s.period) t (whole x (held_of r))
    h = (fits_holding s t x r f).1

    go : (d : Bool) → comes_back s.period t (held_of r) ≡ d →
        cond (d && ltb x.budget s.budget) (x.budget + 1) x.budget ≡ cond d (x.budget + 1) x.budget
    go true e = rw (lt-ltb x.budget s.budget (omega (arith, h.sum, back_some s.period (t - s.period) t t (held_of r) h.laid e)))
    go false e = refl

-- ---- steps 3 and 5 of the array
grown-longer : (t : ℕ) (us : List Stretch) → length us ≤ length (grown t us)
grown-longer t [] = omega arith
grown-longer t (u ∷ []) = go (eqb (end_of u) t)
  where
    go : (d : Bool) → 1 ≤ length (cond d (record { start = u.start; length = u.length + 1 } ∷ []) (u ∷ record { start = t; length = 1 } ∷ []))
    go true = omega arith
    go false = omega arith
grown-longer t (u ∷ v ∷ us) = omega (arith, grown-longer t (v ∷ us))

-- where the array changes, it is as `advanced` has it
pub advance_is : (k : Kind) (s : Server) (e : Seen) (x : ServerState) (r : Returns) → length r.stretches ≡ max_held →
    whole_fits k s e.t x.budget r ≡ true → Delays k s → e.t < last32 →
    (e.serves ≡ true → room_for k e.t (returned_for k s e.t (held_of r)) ≡ true) →
    moves (edge_for k s e.t r) e.serves ≡ true →
    advanced (delay_for k s) e.t e.serves r ≡ written_returns r (holds k e (returned_for k s e.t (held_of r)))
advance_is background s e x r z f p c may q = never refl q
advance_is polling s e x r z f p c may q = never refl q
advance_is deferrable s e x r z f p c may q = never refl q
advance_is sporadic s e x r z f p c may q = never refl q
advance_is returning s e x r z f p c may q =
    rw (le-leb _ _ (fits_holding s e.t x r f).0, le-leb 1 s.period p, lt-ltb e.t last32 c) (go e.serves may)
  where
    us : List Stretch
    us = returned s.period e.t (held_of r)

    go : (d : Bool) → (d ≡ true → room_at e.t us ≡ true) →
        cond d (held_with (returns_with r us) e.t) (returns_with r us) ≡ returns_with r (cond d (grown e.t us) us)
    go true may =
        rw (take_overlay (length us) us r.stretches refl, may refl, overlay-again (grown e.t us) us r.stretches (grown-longer e.t us))
    go false may = refl

-- where nothing moves, the array stays
pub unmoved : (k : Kind) (s : Server) (e : Seen) (x : ServerState) (r : Returns) → length r.stretches ≡ max_held → whole_fits k s e.t x.budget r ≡ true → Delays k s →
    moves (edge_for k s e.t r) e.serves ≡ false → written_returns r (holds k e (returned_for k s e.t (held_of r))) ≡ r
unmoved background s e x r z f d q = written_same r z
unmoved polling s e x r z f d q = written_same r z
unmoved deferrable s e x r z f d q = written_same r z
unmoved sporadic s e x r z f d q = written_same r z
unmoved returning s e x r z f d q =
    rw few (go (comes_back s.period e.t (held_of r)) e.serves (rw (edge_is s e.t x r f d) at q)) ∙ with_same r (omega (arith, (fits_holding s e.t x r f).0))
  where
    few : leb r.n max_held ≡ true
    few = le-leb _ _ (fits_holding s e.t x r f).0

    go : (back serves : Bool) → back || serves ≡ false →
        let us : List Stretch = cond back (shorter (held_of r)) (held_of r) in
        returns_with r (cond serves (grown e.t us) us) ≡ returns_with r (held_of r)
    go true serves q = never q refl
    go false true q = never q refl
    go false false q = refl
