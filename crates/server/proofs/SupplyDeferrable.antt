-- The law of supply of the deferrable server: in L ticks it takes at most B + ceil(max(L − B, 0)/P) × B. A tick counts as given
-- when it is served, so nothing is ever left; the budget in hand as the window starts may be spent next to the first replenishment.
use Rattle.std.specs.Prelude.{ℕ, zero, suc, ◌+◌, ◌-◌, ◌*◌, ◌≤◌, ◌<◌, ◌≡◌, refl, Bool, true, false, cond, ◌&&◌, ltb}
use Rattle.std.proofs.Common.{mul-le-mul_right, arith, ap, ◌∙◌, ltb-true, ltb-false}
use Rattle.std.proofs.Math.Decide.{dec_le}
use Rattle.lists.specs.Tests.{never}
use Rattle.lists.specs.Time.{due, ceil}
use Rattle.lists.specs.Count.{dues, dues-due, dues-same, le_next, ceil-up}
use Rattle.server.specs.declared.Server.{Server}
use Rattle.server.specs.declared.ServerState.{ServerState}
use Rattle.server.specs.Kind.{deferrable}
use Rattle.server.specs.Periodic.{periodic_refill, pays}
use Rattle.server.specs.Server.{fresh_server, with_budget, replenish, eligible, consume, server_demand}
use Rattle.server.proofs.Account.{Bits, seen, After, plain}

-- u ticks were served since `from`, b is in hand: before a replenishment in the window, and after m more than the first, which came
-- at q * P
abbrev pub Served : ℕ → ℕ → ℕ → ℕ → ℕ → ℕ → ℕ → ℕ → Type 0
Served zero P B b t from q u = (u + b ≤ B) × (u + from ≤ t)
Served (suc m) P B b t from q u =
    (u + b ≤ q * P - from + suc m * B) × (u + b ≤ B + suc m * B) × (B + (q + m) * P ≤ b + t) × ((q + m) * P < t)

abbrev pub Deferred : Server → ServerState → ℕ → ℕ → ℕ → ℕ → Type 0
Deferred s x t from g y =
    (m : ℕ) × (s.budget ≤ s.period) × (dues 0 s.period t ≡ dues 0 s.period from + m)
    × Served m s.period s.budget x.budget t from (dues 0 s.period from) g × (x.budget ≤ s.budget)

-- a tick with a replenishment, and one without
served-due : (m P B b t from q u b' u' : ℕ) → from ≤ q * P → t ≡ (q + m) * P → u' + b' ≤ u + B → B ≤ suc b' → Served m P B b t from q u →
    Served (suc m) P B b' (suc t) from q u'
served-due zero P B b t from q u b' u' f e h1 h2 k = (omega arith, omega arith, omega arith, omega arith)
served-due (suc m) P B b t from q u b' u' f e h1 h2 k = (omega arith, omega arith, omega arith, omega arith)

served-same : (m P B b t from q u b' u' : ℕ) → u' + b' ≤ u + b → u' ≤ suc u → b ≤ suc b' → Served m P B b t from q u → Served m P B b' (suc t) from q u'
served-same zero P B b t from q u b' u' h1 h2 h3 k = (omega arith, omega arith)
served-same (suc m) P B b t from q u b' u' h1 h2 h3 k = (omega arith, omega arith, omega arith, omega arith)

-- the budget becomes b' where z of it is used
next : (s : Server) → 0 < s.period → (x : ServerState) (t from g y b' z : ℕ) → Deferred s x t from g y → z + b' ≡ periodic_refill s t x.budget → z ≤ 1 →
    Deferred s (with_budget x b') (suc t) from (g + z) 0
next s p x t from g y b' z h e z1 = go (due t 0 P) refl e
  where
    P : ℕ
    P = s.period

    B : ℕ
    B = s.budget

    go : (d : Bool) → due t 0 P ≡ d → z + b' ≡ cond d B x.budget → Deferred s (with_budget x b') (suc t) from (g + z) 0
    go true d e =
        let c : (t ≡ dues 0 P t * P) × (dues 0 P (suc t) ≡ suc (dues 0 P t)) = dues-due P p t d in (
          suc h.0,
          h.1,
          omega (arith, h.2),
          served-due h.0 P B x.budget t from (dues 0 P from) g b' (g + z) (omega (arith, le_next 0 P p from)) (c.0 ∙ ap (λ (n : ℕ). n * P) h.2)
              (omega arith) (omega arith) h.3,
          omega arith,
        )
    go false d e = (
      h.0,
      h.1,
      omega (arith, h.2, dues-same P p t d),
      served-same h.0 P B x.budget t from (dues 0 P from) g b' (g + z) (omega arith) (omega arith) (omega arith) h.3,
      omega (arith, h.4),
    )

pub deferrable_next : (s : Server) → 0 < s.period → (busy live free : Bool) (w : Bits) (t from g y : ℕ) (x : ServerState) → live ≡ true →
    Deferred s x t from g y →
    let v : ServerState = replenish deferrable s x t busy in
    After (Deferred s (consume deferrable s v (seen t busy free w v)) (suc t)) live free (eligible w.waits v) t from g y
deferrable_next s p busy live free w t from g y x l h = go free (w.waits && ltb 0 b) (λ q. ltb-true 0 b (waiting w.waits (ltb 0 b) q))
  where
    b : ℕ
    b = periodic_refill s t x.budget

    waiting : (a c : Bool) → a && c ≡ true → c ≡ true
    waiting true c q = q
    waiting false c q = never refl q

    -- z of the budget is used, and b' is left
    by : (free took : Bool) (b' z : ℕ) → z + b' ≡ b → z ≤ 1 → (free ≡ true → took ≡ true → 0 < z) →
        After (Deferred s (with_budget x b') (suc t)) live free took t from g y
    by free took b' z e z1 some =
        let k : Deferred s (with_budget x b') (suc t) from (g + z) 0 = next s p x t from g y b' z h e z1 in
        plain (Deferred s (with_budget x b') (suc t)) live free took t from g y (g + z) 0 l k
        (λ _. (0, k.1, omega arith, (omega (arith, k.4), omega arith), k.4))
        (omega arith) (λ q r. omega (arith, some q r)) (λ _ q. omega arith)

    go : (free took : Bool) → (took ≡ true → 0 < b) → After (Deferred s (with_budget x (pays (free && took) b)) (suc t)) live free took t from g y
    go true true some = by true true _ 1 (omega (arith, some refl)) (omega arith) (λ _ _. omega arith)
    go true false some = by true false _ 0 (omega arith) (omega arith) (λ _ q. never refl q)
    go false took some = by false took _ 0 (omega arith) (omega arith) (λ q. never refl q)

supply : (m P B : ℕ) → 0 < P → B ≤ P → (b t from q u n : ℕ) → from ≤ q * P → t ≤ from + n → Served m P B b t from q u → u ≤ B + ceil (n - B) P * B
supply zero P B p bp b t from q u n f l k = omega arith
supply (suc m) P B p bp b t from q u n f l k = go (dec_le (suc m) a) (dec_le (suc a) m)
  where
    a : ℕ
    a = ceil (n - B) P

    up : n - B ≤ a * P
    up = ceil-up (n - B) P p

    go : Dec (suc m ≤ a) → Dec (suc a ≤ m) → u ≤ B + a * B
    go (yes h) d = omega (arith, mul-le-mul_right B h)
    go (no h) (yes i) = absurd (omega (arith, up, mul-le-mul_right P i))
    go (no h) (no i) =
        let e : m ≡ a = omega arith in
        omega (arith, up, ap (λ (n : ℕ). n * P) e, ap (λ (n : ℕ). n * B) e)

pub deferrable_supply : (s : Server) → 0 < s.period → (x : ServerState) (t from g y n : ℕ) → Deferred s x t from g y → t ≤ from + n →
    g ≤ server_demand deferrable s n
deferrable_supply s p x t from g y n h k =
    omega (
      arith,
      supply h.0 s.period s.budget p h.1 x.budget t from (dues 0 s.period from) g n
          (omega (arith, le_next 0 s.period p from)) k h.3,
    )

pub deferrable_fresh : (s : Server) → s.budget ≤ s.period → Deferred s (fresh_server deferrable s) 0 0 0 0
deferrable_fresh s h = (0, h, omega arith, (omega arith, omega arith), omega arith)

-- while requests wait, its budget falls in each tick that it is offered and in no other
pub deferrable_backlog : (s : Server) (t : ℕ) (busy free : Bool) (w : Bits) (v : ServerState) → w.waits ≡ true →
    (consume deferrable s v (seen t busy free w v)).budget ≡ cond free (v.budget - 1) v.budget
deferrable_backlog s t busy true w v a = rw a (go (ltb 0 v.budget) refl)
  where
    go : (e : Bool) → ltb 0 v.budget ≡ e → cond e (v.budget - 1) v.budget ≡ v.budget - 1
    go true e = refl
    go false e = omega (arith, ltb-false 0 v.budget e)
deferrable_backlog s t busy false w v a = refl
