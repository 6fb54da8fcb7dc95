-- A tick keeps the server's limits: its part's, and kind 4's of what it holds; under the other kinds the stretches stay.
use Rattle.std.specs.Prelude.{ℕ, zero, suc, ◌+◌, ◌-◌, ◌≤◌, ◌<◌, ◌≡◌, refl, Bool, true, false, cond, ◌&&◌, List, length, ltb}
use Rattle.std.proofs.Common.{arith, add-one, sym, subst, length-take, le-leb}
use Rattle.lists.specs.Tests.{never, and_split}
use Rattle.server.specs.Limits.{max_time, last_clock}
use Rattle.server.specs.declared.Server.{Server}
use Rattle.server.specs.Kind.{Kind, background, polling, deferrable, sporadic, returning, kind_of}
use Rattle.server.specs.declared.ServerState.{ServerState}
use Rattle.server.specs.declared.Stretch.{Stretch}
use Rattle.server.specs.declared.Returns.{Returns}
use Rattle.server.specs.Returns.{max_held, room_at, returned, grown, held_of, written_returns}
use Rattle.server.specs.Whole.{Whole, whole, replenish_whole, eligible_whole, consume_whole, whole_fits, room_for}
use Rattle.server.proofs.Written.{few-reread, same-reread}
use Rattle.server.proofs.Held.{HoldsFor, Holding, fits_holding, holding_fits, whole-replenish, whole-consume, returned_length, grown_length}
use Rattle.server.specs.declared.Seen.{Seen}
use Rattle.server.specs.Within.{Within}
use Rattle.queue.specs.Queue.{waits}
use Rattle.table.specs.Model.{TaskSet, Model}
use Rattle.rules.specs.declared.Turn.{Turn}
use Rattle.rules.specs.Tick.{tick, lefts_at, server_at, seen_at, kind_at, busy_at, above_at, may_at, choose, first_open, by_budget}

-- what a tick keeps of a server's state and of its stretches, written over the array r
pub record Keeps (k : Kind) (s : Server) (r : Returns) (t : ℕ) (y : Whole) : Type 0 where
  pub part : Within s t y.part
  pub reread : held_of (written_returns r y.returns) ≡ y.returns
  pub few : length y.returns ≤ max_held
  pub fits : whole_fits k s (t + 1) y.part.budget (written_returns r y.returns) ≡ true

pub held-few : (r : Returns) → length r.stretches ≡ max_held → length (held_of r) ≤ max_held
held-few r z = omega (arith, length-take r.n r.stretches)

-- kind 4
keeps_returning : (s : Server) (r : Returns) (t : ℕ) (y : Whole) → r.n ≤ max_held → Within s t y.part → Holding s (suc t - s.period) (suc t) y →
    Keeps returning s r t y
keeps_returning s r t y n w h = record {
  part = w;
  reread = few-reread r y.returns n;
  few = h.few;
  fits =
      subst (λ (c : ℕ). whole_fits returning s c y.part.budget (written_returns r y.returns) ≡ true) (sym (add-one t))
      (holding_fits s (suc t) y.part (written_returns r y.returns) small
      (subst (λ (us : List Stretch). Holding s (suc t - s.period) (suc t) (whole y.part us)) (sym (few-reread r y.returns n)) h));
}
  where
    small : (written_returns r y.returns).n ≤ max_held
    small = rw (le-leb _ _ n) h.few

pub server-keeps : (n : ℕ) (s : Server) (x : ServerState) (r : Returns) (busy : Bool) (e : Seen) → (0 < n → 0 < s.period) → s.period ≤ max_time →
    e.t ≤ last_clock → length r.stretches ≡ max_held → Within s e.t x → whole_fits (kind_of n) s e.t x.budget r ≡ true →
    (e.serves ≡ true → eligible_whole (kind_of n) e.t true (replenish_whole (kind_of n) s (whole x (held_of r)) e.t busy) ≡ true) →
    Keeps (kind_of n) s r e.t (consume_whole (kind_of n) s (replenish_whole (kind_of n) s (whole x (held_of r)) e.t busy) e)
server-keeps n s x r busy e p a b z w f may = by n p f may
  where
    plain : (k : Kind) → HoldsFor k s (e.t - s.period) e.t (whole x (held_of r)) →
        (e.serves ≡ true → eligible_whole k e.t true (replenish_whole k s (whole x (held_of r)) e.t busy) ≡ true) →
        let y : Whole = consume_whole k s (replenish_whole k s (whole x (held_of r)) e.t busy) e in
        Within s e.t y.part × HoldsFor k s (suc e.t - s.period) (suc e.t) y
    plain k h may =
        let v = whole-replenish k s (whole x (held_of r)) e.t busy w h in
        whole-consume k s (replenish_whole k s (whole x (held_of r)) e.t busy) e a b may v.0 v.1

    by : (n : ℕ) → (0 < n → 0 < s.period) → whole_fits (kind_of n) s e.t x.budget r ≡ true →
        (e.serves ≡ true → eligible_whole (kind_of n) e.t true (replenish_whole (kind_of n) s (whole x (held_of r)) e.t busy) ≡ true) →
        Keeps (kind_of n) s r e.t (consume_whole (kind_of n) s (replenish_whole (kind_of n) s (whole x (held_of r)) e.t busy) e)
    by zero p f may = record { part = (plain background tt may).0; reread = same-reread r; few = held-few r z; fits = refl }
    by (suc zero) p f may = record { part = (plain polling tt may).0; reread = same-reread r; few = held-few r z; fits = refl }
    by (suc (suc zero)) p f may = record { part = (plain deferrable tt may).0; reread = same-reread r; few = held-few r z; fits = refl }
    by (suc (suc (suc zero))) p f may = record { part = (plain sporadic tt may).0; reread = same-reread r; few = held-few r z; fits = refl }
    by (suc (suc (suc (suc zero)))) p f may =
        let h = fits_holding s e.t x r f in
        let y = plain returning (p (omega arith), h.1) may in
        keeps_returning s r e.t _ h.0 y.0 y.1.1
    by (suc (suc (suc (suc (suc j))))) p f may = record { part = (plain background tt may).0; reread = same-reread r; few = held-few r z; fits = refl }

-- a tick by the budget is one that the server was eligible for
served-may : (above busy waiting may : Bool) (first : ℕ) → by_budget (choose above busy waiting may first) ≡ true → may ≡ true
served-may true busy waiting may first e = never refl e
served-may false busy waiting true first e = refl
served-may false true waiting false first e = never refl e
served-may false false waiting false first e = go waiting e
  where
    go : (d : Bool) → by_budget (cond d Turn.Spare Turn.Nobody) ≡ true → false ≡ true
    go true e = e
    go false e = e

asked-may : (k : Kind) (t : ℕ) (waiting : Bool) (v : Whole) → eligible_whole k t waiting v ≡ true → eligible_whole k t true v ≡ true
asked-may k t waiting v e = go (room_for k t v.returns) waiting (ltb 0 v.part.budget) e
  where
    go : (room waiting some : Bool) → room && (waiting && some) ≡ true → room && (true && some) ≡ true
    go true true some e = e
    go true false some e = never refl e
    go false waiting some e = never refl e

pub served-eligible : (p : TaskSet) (m : Model) → (seen_at p m).serves ≡ true → eligible_whole (kind_at p) m.clock true (server_at p m) ≡ true
served-eligible p m e =
    asked-may (kind_at p) m.clock (waits m.queue) (server_at p m)
    (served-may (above_at p m) (busy_at p m) (waits m.queue) (may_at p m) (first_open (lefts_at p m)) e)

-- at most 32 stretches are held, whatever else holds of the state
whole-few : (k : Kind) (s : Server) (x : Whole) (busy : Bool) (e : Seen) → length x.returns ≤ max_held →
    (e.serves ≡ true → eligible_whole k e.t true (replenish_whole k s x e.t busy) ≡ true) →
    length (consume_whole k s (replenish_whole k s x e.t busy) e).returns ≤ max_held
whole-few background s x busy e h may = h
whole-few polling s x busy e h may = h
whole-few deferrable s x busy e h may = h
whole-few sporadic s x busy e h may = h
whole-few returning s x busy e h may = go e.serves may
  where
    us : List Stretch
    us = returned s.period e.t x.returns

    small : length us ≤ max_held
    small = omega (arith, returned_length s.period e.t x.returns, h)

    go : (d : Bool) → (d ≡ true → eligible_whole returning e.t true (replenish_whole returning s x e.t busy) ≡ true) →
        length (cond d (grown e.t us) us) ≤ max_held
    go true may = grown_length e.t us (and_split (room_at e.t us) _ (may refl)).0 small
    go false may = small

pub held_after : (p : TaskSet) (m : Model) → length m.server.returns ≤ max_held → length (tick p m).next.server.returns ≤ max_held
held_after p m h = whole-few (kind_at p) p.server m.server (busy_at p m) (seen_at p m) h (served-eligible p m)
