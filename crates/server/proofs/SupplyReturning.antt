-- The law of supply of the server that gives back tick by tick: any P ticks in a row hold at most B served by its budget, so in L
-- ticks it takes at most ceil(L/P) × B. A tick counts as given when it is served, so nothing is ever left.
use Rattle.std.specs.Prelude.{ℕ, zero, suc, ◌+◌, ◌-◌, ◌*◌, ◌≤◌, ◌<◌, max, ◌≡◌, refl, Bool, true, false, cond, not, ◌&&◌, List, [], ◌∷◌, leb, eqb}
use Rattle.std.proofs.Common.{mul-le-mul_right, lt_of_mul-lt-mul_right, arith, ap, leb-true, leb-false, eqb-true}
use Rattle.std.proofs.Math.Decide.{dec_le}
use Rattle.std.proofs.lemmas.Bool.{eqb-false}
use Rattle.lists.specs.Tests.{never, and_split}
use Rattle.lists.specs.Time.{ceil}
use Rattle.lists.specs.Count.{ceil-up}
use Rattle.server.specs.declared.Server.{Server}
use Rattle.server.specs.declared.Stretch.{Stretch}
use Rattle.server.specs.declared.Seen.{Seen}
use Rattle.server.specs.Kind.{Kind, returning}
use Rattle.server.specs.Returns.{end_of, held, comes_back, returned, room_at, grown}
use Rattle.server.specs.Server.{server_demand}
use Rattle.server.specs.Whole.{Whole, fresh_whole, replenish_whole, eligible_whole, consume_whole}
use Rattle.server.proofs.Held.{Laid, Holding, replenish_holding, consume_holding, fresh_holding}
use Rattle.server.proofs.Account.{Bits, After, plain}

-- What step 5 shows a server of kind k at its place: Account's `seen`, with the eligibility of its kind.
abbrev pub seen_whole : Kind → ℕ → Bool → Bool → Bits → Whole → Seen
seen_whole k t busy free w x = record {
  t = t;
  above = not free;
  busy = busy;
  serves = free && eligible_whole k t w.waits x;
  waited = w.waits;
  emptied = w.last;
}

-- how many of the held ticks are at m or later
abbrev pub since : ℕ → List Stretch → ℕ
since m [] = 0
since m (u ∷ us) = end_of u - max u.start m + since m us

since-held : (m : ℕ) (us : List Stretch) → since m us ≤ held us
since-held m [] = omega arith
since-held m (u ∷ us) = omega (arith, since-held m us)

since_none : (lo t : ℕ) (us : List Stretch) → Laid lo t us → since t us ≡ 0
since_none lo t [] h = refl
since_none lo t (u ∷ us) h = omega (arith, h.2, since_none (suc (end_of u)) t us h.3)

since-all : (m lo t : ℕ) (us : List Stretch) → m ≤ lo → Laid lo t us → since m us ≡ held us
since-all m lo t [] a h = refl
since-all m lo t (u ∷ us) a h = omega (arith, h.0, since-all m (suc (end_of u)) t us (omega (arith, h.0)) h.3)

-- "each served tick u gives one budget tick back at step 3 of tick u + P": of the held ticks, those up to t − P are the one that
-- comes back at t, or none
pub back_is-due : (P t : ℕ) (us : List Stretch) → Laid (t - P) t us → since (suc t - P) us + cond (comes_back P t us) 1 0 ≡ held us
back_is-due P t [] h = refl
back_is-due P t (u ∷ us) h = go (eqb (u.start + P) t) refl
  where
    rest : since (suc t - P) us ≡ held us
    rest = since-all (suc t - P) (suc (end_of u)) t us (omega (arith, h.0)) h.3

    go : (d : Bool) → eqb (u.start + P) t ≡ d → end_of u - max u.start (suc t - P) + since (suc t - P) us + cond d 1 0 ≡ u.length + held us
    go true e = omega (arith, rest, h.0, h.1, h.2, eqb-true (u.start + P) t e)
    go false e = omega (arith, rest, h.0, h.1, h.2, eqb-false (u.start + P) t e)

-- what comes back at t is older than m, where t < m + P
returned-since : (P t m : ℕ) → t < m + P → (us : List Stretch) → since m (returned P t us) ≡ since m us
returned-since P t m h [] = refl
returned-since P t m h (u ∷ us) = go (eqb (u.start + P) t) refl (leb u.length 1) refl
  where
    go : (a : Bool) → eqb (u.start + P) t ≡ a → (b : Bool) → leb u.length 1 ≡ b →
        since m (cond a (cond b us (record { start = u.start + 1; length = u.length - 1 } ∷ us)) (u ∷ us)) ≡ end_of u - max u.start m + since m us
    go true e true f = omega (arith, eqb-true (u.start + P) t e, leb-true u.length 1 f)
    go true e false f = omega (arith, eqb-true (u.start + P) t e, leb-false u.length 1 f)
    go false e b f = refl

-- a served tick is one more
grown-since : (t m lo : ℕ) → m ≤ t → (us : List Stretch) → Laid lo t us → since m (grown t us) ≡ suc (since m us)
grown-since t m lo h [] k = omega arith
grown-since t m lo h (u ∷ []) k = go (eqb (end_of u) t) refl
  where
    go : (d : Bool) → eqb (end_of u) t ≡ d →
        since m (cond d (record { start = u.start; length = u.length + 1 } ∷ []) (u ∷ record { start = t; length = 1 } ∷ [])) ≡ suc (end_of u - max u.start m + 0)
    go true e = omega (arith, eqb-true (end_of u) t e, k.1)
    go false e = omega arith
grown-since t m lo h (u ∷ v ∷ us) k = omega (arith, grown-since t m (suc (end_of u)) h (v ∷ us) k.3)

-- the window is cut into parts of P from `from`; the running one, the k-th, began at m
pub record Cut (P B : ℕ) (us : List Stretch) (t from g : ℕ) : Type 0 where
  pub k : ℕ
  pub m : ℕ
  pub begins : m ≡ from + k * P
  pub begun : m ≤ t
  pub ends : t ≤ m + P
  pub given : g ≤ k * B + since m us

abbrev pub Returned : Server → Whole → ℕ → ℕ → ℕ → ℕ → Type 0
Returned s x t from g y = Cut s.period s.budget x.returns t from g × Holding s (t - s.period) t x

-- where the running part is over, a new one begins at t
moved : (s : Server) → 0 < s.period → (x : Whole) (t from g y : ℕ) → Returned s x t from g y →
    (c : Cut s.period s.budget x.returns t from g) × (t < c.m + s.period)
moved s p x t from g y h = go (dec_le (suc t) (h.0.m + s.period))
  where
    go : Dec (suc t ≤ h.0.m + s.period) → (c : Cut s.period s.budget x.returns t from g) × (t < c.m + s.period)
    go (yes q) = (h.0, q)
    go (no q) = (
      record {
        k = suc h.0.k;
        m = t;
        begins = omega (arith, h.0.begins, h.0.ends);
        begun = omega arith;
        ends = omega arith;
        given = omega (arith, h.0.given, h.1.sum, since-held h.0.m x.returns);
      },
      omega arith,
    )

again : (s : Server) (x : Whole) (t : ℕ) → Holding s (t - s.period) t x → Returned s x t t 0 0
again s x t h = (record { k = 0; m = t; begins = omega arith; begun = omega arith; ends = omega arith; given = omega arith }, h)

pub returning_next : (s : Server) → 0 < s.period → (busy live free : Bool) (w : Bits) (t from g y : ℕ) (x : Whole) → live ≡ true →
    Returned s x t from g y →
    let v : Whole = replenish_whole returning s x t busy in
    After (Returned s (consume_whole returning s v (seen_whole returning t busy free w v)) (suc t)) live free (eligible_whole returning t w.waits v) t from g y
returning_next s p busy live free w t from g y x l h = go free (eligible_whole returning t w.waits v) (may w.waits)
  where
    v : Whole
    v = replenish_whole returning s x t busy

    us : List Stretch
    us = returned s.period t x.returns

    c : (c : Cut s.period s.budget x.returns t from g) × (t < c.m + s.period)
    c = moved s p x t from g y h

    same : since c.0.m us ≡ since c.0.m x.returns
    same = returned-since s.period t c.0.m c.1 x.returns

    full : Holding s (suc t - s.period) t v
    full = replenish_holding s p t busy x h.1

    may : (waits : Bool) → eligible_whole returning t waits v ≡ true → eligible_whole returning t true v ≡ true
    may true e = e
    may false e = never refl (and_split (room_at t us) false e).1

    sees : Bool → Seen
    sees serves = record { t = t; above = not free; busy = busy; serves = serves; waited = w.waits; emptied = w.last }

    -- the state after step 5, served or not
    next : Bool → Whole
    next serves = consume_whole returning s v (sees serves)

    holds : (serves : Bool) → (serves ≡ true → eligible_whole returning t true v ≡ true) → Holding s (suc t - s.period) (suc t) (next serves)
    holds serves q = consume_holding s v (sees serves) (suc t - s.period) (omega arith) q full

    still : Cut s.period s.budget us (suc t) from g
    still = record {
      k = c.0.k;
      m = c.0.m;
      begins = c.0.begins;
      begun = omega (arith, c.0.begun);
      ends = omega (arith, c.1);
      given = omega (arith, c.0.given, same);
    }

    more : Cut s.period s.budget (grown t us) (suc t) from (suc g)
    more = record {
      k = c.0.k;
      m = c.0.m;
      begins = c.0.begins;
      begun = omega (arith, c.0.begun);
      ends = omega (arith, c.1);
      given = omega (arith, c.0.given, same, grown-since t c.0.m (suc t - s.period) c.0.begun us full.laid);
    }

    unserved : (free took : Bool) → (free ≡ true → took ≡ true → ⊥) → After (Returned s (next false) (suc t)) live free took t from g y
    unserved free took never_both =
        let k : Holding s (suc t - s.period) (suc t) (next false) = holds false (λ q. never refl q) in
        plain (Returned s (next false) (suc t)) live free took t from g y g 0 l (still, k) (λ _. again s (next false) (suc t) k) (omega arith)
        (λ a b. absurd (never_both a b)) (λ _ q. absurd (omega arith))

    go : (free' took : Bool) → (took ≡ true → eligible_whole returning t true v ≡ true) →
        After (Returned s (next (free' && took)) (suc t)) live free' took t from g y
    go false took q = unserved false took (λ a. never refl a)
    go true false q = unserved true false (λ _ b. never refl b)
    go true true q =
        let k : Holding s (suc t - s.period) (suc t) (next true) = holds true q in
        plain (Returned s (next true) (suc t)) live true true t from g y (suc g) 0 l (more, k) (λ _. again s (next true) (suc t) k) (omega arith)
        (λ _ _. omega arith) (λ _ b. absurd (omega arith))

-- "Admission is that of polling, by ceil(L/P) × B."
pub returning_supply : (s : Server) → 0 < s.period → (x : Whole) (t from g y n : ℕ) → Returned s x t from g y → t ≤ from + n →
    g ≤ server_demand returning s n
returning_supply s p x t from g y n h b = go (dec_le t h.0.m)
  where
    P : ℕ
    P = s.period

    up : n ≤ ceil n P * P
    up = ceil-up n P p

    less : (a : ℕ) → a * P < suc (ceil n P) * P → a * s.budget ≤ ceil n P * s.budget
    less a q = mul-le-mul_right s.budget (omega (arith, lt_of_mul-lt-mul_right P q))

    go : Dec (t ≤ h.0.m) → g ≤ ceil n P * s.budget
    go (yes q) =
        let e : h.0.m ≡ t = omega (arith, h.0.begun) in
        omega (
          arith,
          h.0.given,
          ap (λ (m : ℕ). since m x.returns) e,
          since_none (t - P) t x.returns h.1.laid,
          less h.0.k (omega (arith, h.0.begins, up)),
        )
    go (no q) = omega (arith, h.0.given, h.1.sum, since-held h.0.m x.returns, less (suc h.0.k) (omega (arith, h.0.begins, up)))

-- any P ticks in a row hold at most B served by the budget
pub returning_period : (s : Server) → 0 < s.period → (x : Whole) (t from g y : ℕ) → Returned s x t from g y → t ≤ from + s.period → g ≤ s.budget
returning_period s p x t from g y h b = go h.0.k h.0.begins h.0.given
  where
    P : ℕ
    P = s.period

    go : (k : ℕ) → h.0.m ≡ from + k * P → g ≤ k * s.budget + since h.0.m x.returns → g ≤ s.budget
    go zero e q = omega (arith, q, h.1.sum, since-held h.0.m x.returns)
    go (suc zero) e q =
        let m : h.0.m ≡ t = omega (arith, h.0.begun) in
        omega (arith, q, ap (λ (m : ℕ). since m x.returns) m, since_none (t - P) t x.returns h.1.laid)
    go (suc (suc k)) e q = absurd (omega (arith, e, h.0.begun))

pub returning_fresh : (s : Server) → Returned s (fresh_whole returning s) 0 0 0 0
returning_fresh s = again s (fresh_whole returning s) 0 (fresh_holding s)
