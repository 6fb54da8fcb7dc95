-- Kind 4: the steps keep the further part of refusal 11. The limits as facts, and what each step does to them.
use Rattle.std.specs.Prelude.{ℕ, suc, ◌+◌, ◌-◌, ◌≤◌, ◌<◌, ◌≡◌, refl, Bool, true, false, cond, ◌&&◌, ◌||◌, List, [], ◌∷◌, length, leb, ltb, eqb}
use Rattle.std.proofs.Common.{arith, leb-true, leb-false, le-leb, eqb-true, eq-eqb, ltb-true, length-take}
use Rattle.std.proofs.lemmas.Bool.{eqb-false}
use Rattle.lists.specs.Tests.{never, and_split, and_join}
use Rattle.server.specs.declared.Server.{Server}
use Rattle.server.specs.declared.Stretch.{Stretch}
use Rattle.server.specs.declared.ServerState.{ServerState}
use Rattle.server.specs.declared.Seen.{Seen}
use Rattle.server.specs.Kind.{Kind, background, polling, deferrable, sporadic, returning}
use Rattle.server.specs.Returns.{max_held, end_of, held, comes_back, shorter, returned, returned_budget, goes_on, room_at, grown, laid}
use Rattle.server.specs.Whole.{Whole, whole, fresh_whole, replenish_whole, eligible_whole, consume_whole}
use Rattle.server.specs.declared.Returns.{Returns}
use Rattle.server.specs.Within.{Within}
use Rattle.server.proofs.Within.{replenish-within, consume-within}
use Rattle.server.specs.Returns.{held_of, returns_fit}

-- none empty, in order, apart, from `lo` on and before `end`
abbrev pub Laid : ℕ → ℕ → List Stretch → Type 0
Laid lo end [] = Unit {0}
Laid lo end (u ∷ us) = (lo ≤ u.start) × (1 ≤ u.length) × (end_of u ≤ end) × Laid (suc (end_of u)) end us

pub laid-facts : (lo end : ℕ) (us : List Stretch) → laid lo end us ≡ true → Laid lo end us
laid-facts lo end [] e = tt
laid-facts lo end (u ∷ us) e =
    let a = and_split (leb lo u.start && leb 1 u.length && leb (end_of u) end) _ e in
    let b = and_split (leb lo u.start && leb 1 u.length) _ a.0 in
    let c = and_split (leb lo u.start) _ b.0 in
    (leb-true _ _ c.0, leb-true _ _ c.1, leb-true _ _ b.1, laid-facts (suc (end_of u)) end us a.1)

pub facts-laid : (lo end : ℕ) (us : List Stretch) → Laid lo end us → laid lo end us ≡ true
facts-laid lo end [] h = refl
facts-laid lo end (u ∷ us) h =
    and_join _ _ (and_join _ _ (and_join _ _ (le-leb _ _ h.0) (le-leb _ _ h.1)) (le-leb _ _ h.2)) (facts-laid (suc (end_of u)) end us h.3)

-- a later end, an earlier start
pub laid_wider : (lo lo' end end' : ℕ) (us : List Stretch) → lo' ≤ lo → end ≤ end' → Laid lo end us → Laid lo' end' us
laid_wider lo lo' end end' [] a b h = tt
laid_wider lo lo' end end' (u ∷ us) a b h =
    (omega (arith, h.0), h.1, omega (arith, h.2), laid_wider (suc (end_of u)) (suc (end_of u)) end end' us (omega arith) b h.3)

-- without the oldest tick, which was lo
pub shorter-laid : (lo end : ℕ) (us : List Stretch) → Laid lo end us → Laid (suc lo) end (shorter us)
shorter-laid lo end [] h = tt
shorter-laid lo end (u ∷ us) h = go (leb u.length 1) refl
  where
    go : (d : Bool) → leb u.length 1 ≡ d →
        Laid (suc lo) end (cond d us (record { start = u.start + 1; length = u.length - 1 } ∷ us))
    go true e = laid_wider (suc (end_of u)) (suc lo) end end us (omega (arith, h.0)) (omega arith) h.3
    go false e =
        let more : 1 < u.length = leb-false u.length 1 e in
        (omega (arith, h.0), omega arith, omega (arith, h.2), laid_wider (suc (end_of u)) (suc (u.start + 1 + (u.length - 1))) end end us (omega arith) (omega arith) h.3)

pub shorter-held : (lo end : ℕ) (us : List Stretch) → Laid lo end us → held (shorter us) ≡ held us - 1
shorter-held lo end [] h = refl
shorter-held lo end (u ∷ us) h = go (leb u.length 1) refl
  where
    go : (d : Bool) → leb u.length 1 ≡ d →
        held (cond d us (record { start = u.start + 1; length = u.length - 1 } ∷ us)) ≡ u.length + held us - 1
    go true e = omega (arith, h.1, leb-true u.length 1 e)
    go false e = omega (arith, leb-false u.length 1 e)

pub shorter_length : (us : List Stretch) → length (shorter us) ≤ length us
shorter_length [] = omega arith
shorter_length (u ∷ us) = go (leb u.length 1)
  where
    go : (d : Bool) → length (cond d us (record { start = u.start + 1; length = u.length - 1 } ∷ us)) ≤ suc (length us)
    go true = omega arith
    go false = omega arith

-- where a tick comes back, one is held
pub back_some : (P lo end t : ℕ) (us : List Stretch) → Laid lo end us → comes_back P t us ≡ true → 0 < held us
back_some P lo end t [] h e = never refl e
back_some P lo end t (u ∷ us) h e = omega (arith, h.1)

-- step 3 at tick t: what is held begins after t − P
pub returned-laid : (P t : ℕ) → 0 < P → (us : List Stretch) → Laid (t - P) t us → Laid (suc t - P) t (returned P t us)
returned-laid P t p [] h = tt
returned-laid P t p (u ∷ us) h = go (eqb (u.start + P) t) refl
  where
    go : (d : Bool) → eqb (u.start + P) t ≡ d → Laid (suc t - P) t (cond d (shorter (u ∷ us)) (u ∷ us))
    go true e =
        let q : u.start + P ≡ t = eqb-true (u.start + P) t e in
        laid_wider (suc (t - P)) (suc t - P) t t (shorter (u ∷ us)) (omega arith) (omega arith) (shorter-laid (t - P) t (u ∷ us) h)
    go false e = (omega (arith, h.0, eqb-false (u.start + P) t e), h.1, h.2, h.3)

pub returned-held : (P t lo : ℕ) (us : List Stretch) (b : ℕ) → Laid lo t us →
    held (returned P t us) + returned_budget P t us b ≡ held us + b
returned-held P t lo us b h = go (comes_back P t us) refl
  where
    go : (d : Bool) → comes_back P t us ≡ d → held (cond d (shorter us) us) + cond d (b + 1) b ≡ held us + b
    go true e = omega (arith, shorter-held lo t us h, back_some P lo t t us h e)
    go false e = refl

pub returned_length : (P t : ℕ) (us : List Stretch) → length (returned P t us) ≤ length us
returned_length P t us = go (comes_back P t us)
  where
    go : (d : Bool) → length (cond d (shorter us) us) ≤ length us
    go true = shorter_length us
    go false = omega arith

-- step 5: tick t is held too
pub grown-laid : (lo t : ℕ) (us : List Stretch) → lo ≤ t → Laid lo t us → Laid lo (suc t) (grown t us)
grown-laid lo t [] l h = (l, omega arith, omega arith, tt)
grown-laid lo t (u ∷ []) l h = go (eqb (end_of u) t) refl
  where
    go : (d : Bool) → eqb (end_of u) t ≡ d →
        Laid lo (suc t) (cond d (record { start = u.start; length = u.length + 1 } ∷ []) (u ∷ record { start = t; length = 1 } ∷ []))
    go true e = (h.0, omega arith, omega (arith, eqb-true (end_of u) t e), tt)
    go false e = (h.0, h.1, omega (arith, h.2), (omega (arith, h.2, eqb-false (end_of u) t e), omega arith, omega arith, tt))
grown-laid lo t (u ∷ v ∷ us) l h =
    (h.0, h.1, omega (arith, h.2), grown-laid (suc (end_of u)) t (v ∷ us) (omega (arith, h.3.0, h.3.1, h.3.2)) h.3)

pub grown-held : (t : ℕ) (us : List Stretch) → held (grown t us) ≡ suc (held us)
grown-held t [] = refl
grown-held t (u ∷ []) = go (eqb (end_of u) t)
  where
    go : (d : Bool) → held (cond d (record { start = u.start; length = u.length + 1 } ∷ []) (u ∷ record { start = t; length = 1 } ∷ [])) ≡ suc (u.length + 0)
    go true = omega arith
    go false = omega arith
grown-held t (u ∷ v ∷ us) = omega (arith, grown-held t (v ∷ us))

pub grown_length : (t : ℕ) (us : List Stretch) → room_at t us ≡ true → length us ≤ max_held → length (grown t us) ≤ max_held
grown_length t us e h = go (ltb (length us) max_held) refl e
  where
    on : (us : List Stretch) → goes_on t us ≡ true → length (grown t us) ≡ length us
    on [] e = never refl e
    on (u ∷ []) e = rw e
    on (u ∷ v ∷ us) e = omega (arith, on (v ∷ us) e)

    any : (us : List Stretch) → length (grown t us) ≤ suc (length us)
    any [] = omega arith
    any (u ∷ []) = by (eqb (end_of u) t)
      where
        by : (d : Bool) → length (cond d (record { start = u.start; length = u.length + 1 } ∷ []) (u ∷ record { start = t; length = 1 } ∷ [])) ≤ 2
        by true = omega arith
        by false = omega arith
    any (u ∷ v ∷ us) = omega (arith, any (v ∷ us))

    go : (d : Bool) → ltb (length us) max_held ≡ d → d || goes_on t us ≡ true → length (grown t us) ≤ max_held
    go true q e = omega (arith, any us, ltb-true (length us) max_held q)
    go false q e = omega (arith, on us e)

-- the limits as facts
pub record Holding (s : Server) (lo end : ℕ) (x : Whole) : Type 0 where
  pub few : length x.returns ≤ max_held
  pub sum : held x.returns + x.part.budget ≡ s.budget
  pub laid : Laid lo end x.returns

pub fits_holding : (s : Server) (clock : ℕ) (x : ServerState) (r : Returns) → returns_fit s clock x.budget r ≡ true →
    (r.n ≤ max_held) × Holding s (clock - s.period) clock (whole x (held_of r))
fits_holding s clock x r e =
    let a = and_split (leb r.n max_held) _ e in
    let b = and_split (eqb (held (held_of r) + x.budget) s.budget) _ a.1 in
    let n : r.n ≤ max_held = leb-true _ _ a.0 in
    (n, record { few = omega (arith, length-take r.n r.stretches); sum = eqb-true _ _ b.0; laid = laid-facts (clock - s.period) clock (held_of r) b.1 })

pub holding_fits : (s : Server) (clock : ℕ) (x : ServerState) (r : Returns) → r.n ≤ max_held → Holding s (clock - s.period) clock (whole x (held_of r)) →
    returns_fit s clock x.budget r ≡ true
holding_fits s clock x r n h =
    and_join _ _ (le-leb _ _ n) (and_join _ _ (eq-eqb _ _ h.sum) (facts-laid (clock - s.period) clock (held_of r) h.laid))

-- step 3 keeps them, with the ticks up to t − P gone
pub replenish_holding : (s : Server) → 0 < s.period → (t : ℕ) (busy : Bool) (x : Whole) → Holding s (t - s.period) t x →
    Holding s (suc t - s.period) t (replenish_whole returning s x t busy)
replenish_holding s p t busy x h = record {
  few = omega (arith, returned_length s.period t x.returns, h.few);
  sum = omega (arith, returned-held s.period t (t - s.period) x.returns x.part.budget h.laid, h.sum);
  laid = returned-laid s.period t p x.returns h.laid;
}

-- step 5 keeps them where a served tick was eligible
pub consume_holding : (s : Server) (x : Whole) (e : Seen) (lo : ℕ) → lo ≤ e.t → (e.serves ≡ true → eligible_whole returning e.t true x ≡ true) →
    Holding s lo e.t x → Holding s lo (suc e.t) (consume_whole returning s x e)
consume_holding s x e lo l may h = go e.serves may
  where
    go : (d : Bool) → (d ≡ true → eligible_whole returning e.t true x ≡ true) →
        Holding s lo (suc e.t) (record {
          part = record { budget = cond d (x.part.budget - 1) x.part.budget; sporadic = x.part.sporadic };
          returns = cond d (grown e.t x.returns) x.returns;
        })
    go false may = record { few = h.few; sum = h.sum; laid = laid_wider lo lo e.t (suc e.t) x.returns (omega arith) (omega arith) h.laid }
    go true may =
        let a = and_split (room_at e.t x.returns) _ (may refl) in
        record {
          few = grown_length e.t x.returns a.0 h.few;
          sum = omega (arith, grown-held e.t x.returns, h.sum, ltb-true 0 x.part.budget a.1);
          laid = grown-laid lo e.t x.returns l h.laid;
        }

pub fresh_holding : (s : Server) → Holding s (0 - s.period) 0 (fresh_whole returning s)
fresh_holding s = record { few = omega arith; sum = omega arith; laid = tt }

-- ---- the same of every kind: nothing is asked of the others
abbrev pub HoldsFor : Kind → Server → ℕ → ℕ → Whole → Type 0
HoldsFor background s lo end x = Unit {0}
HoldsFor polling s lo end x = Unit {0}
HoldsFor deferrable s lo end x = Unit {0}
HoldsFor sporadic s lo end x = Unit {0}
HoldsFor returning s lo end x = (0 < s.period) × Holding s lo end x

pub whole-replenish : (k : Kind) (s : Server) (x : Whole) (t : ℕ) (busy : Bool) → Within s t x.part → HoldsFor k s (t - s.period) t x →
    Within s t (replenish_whole k s x t busy).part × HoldsFor k s (suc t - s.period) t (replenish_whole k s x t busy)
whole-replenish background s x t busy w h = (replenish-within background s x.part t busy w, tt)
whole-replenish polling s x t busy w h = (replenish-within polling s x.part t busy w, tt)
whole-replenish deferrable s x t busy w h = (replenish-within deferrable s x.part t busy w, tt)
whole-replenish sporadic s x t busy w h = (replenish-within sporadic s x.part t busy w, tt)
whole-replenish returning s x t busy w h =
    let v : Holding s (suc t - s.period) t (replenish_whole returning s x t busy) = replenish_holding s h.0 t busy x h.1 in
    (record { budget = omega (arith, v.sum); times = w.times }, (h.0, v))

pub whole-consume : (k : Kind) (s : Server) (x : Whole) (e : Seen) → s.period ≤ 60_000 → e.t ≤ 4_000_000_000 →
    (e.serves ≡ true → eligible_whole k e.t true x ≡ true) → Within s e.t x.part → HoldsFor k s (suc e.t - s.period) e.t x →
    Within s e.t (consume_whole k s x e).part × HoldsFor k s (suc e.t - s.period) (suc e.t) (consume_whole k s x e)
whole-consume background s x e a b may w h = (consume-within background s x.part e a b w, tt)
whole-consume polling s x e a b may w h = (consume-within polling s x.part e a b w, tt)
whole-consume deferrable s x e a b may w h = (consume-within deferrable s x.part e a b w, tt)
whole-consume sporadic s x e a b may w h = (consume-within sporadic s x.part e a b w, tt)
whole-consume returning s x e a b may w h =
    (consume-within returning s x.part e a b w, (h.0, consume_holding s x e (suc e.t - s.period) (omega (arith, h.0)) may h.1))
