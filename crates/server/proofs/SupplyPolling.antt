-- The law of supply of the polling server: in L ticks it takes at most ceil(L/P) × B. Its whole budget counts as given when it is
-- replenished, so it must run in each tick that it is offered while budget is left, or lose it.
use Rattle.std.specs.Prelude.{ℕ, suc, ◌+◌, ◌-◌, ◌*◌, ◌≤◌, ◌<◌, ◌≡◌, refl, Bool, true, false, cond, ◌&&◌, not, ltb}
use Rattle.std.proofs.Common.{mul-le-mul_right, arith, ◌∙◌, ltb-true, ltb-false}
use Rattle.lists.specs.Tests.{never}
use Rattle.lists.specs.Time.{due}
use Rattle.lists.specs.Count.{dues, dues_mono, dues_rises, dues_window, due_true, due_zero}
use Rattle.server.specs.declared.Server.{Server}
use Rattle.server.specs.declared.ServerState.{ServerState}
use Rattle.server.specs.declared.Seen.{Seen}
use Rattle.server.specs.Kind.{polling}
use Rattle.server.specs.Periodic.{periodic_refill, polling_pays}
use Rattle.server.specs.Server.{fresh_server, with_budget, replenish, eligible, consume, server_demand}
use Rattle.server.proofs.Account.{Bits, seen, After, plain}

-- given: B for each multiple of P since `from`. Left: the budget, which at a multiple of P is void
abbrev pub Polled : Server → ServerState → ℕ → ℕ → ℕ → ℕ → Type 0
Polled s x t from g y =
    (g + dues 0 s.period from * s.budget ≤ dues 0 s.period t * s.budget) × (cond (due t 0 s.period) 0 x.budget ≤ y)

-- step 3: what is given, and what is left of it
refill : (s : Server) → 0 < s.period → (x : ServerState) (t from g y : ℕ) → Polled s x t from g y →
    (g' : ℕ) × (g' + dues 0 s.period from * s.budget ≤ dues 0 s.period (suc t) * s.budget) × (periodic_refill s t x.budget + g ≤ y + g')
refill s p x t from g y h = go (due t 0 P) refl h.1
  where
    P : ℕ
    P = s.period

    B : ℕ
    B = s.budget

    go : (d : Bool) → due t 0 P ≡ d → cond d 0 x.budget ≤ y → (g' : ℕ) × (g' + dues 0 P from * B ≤ dues 0 P (suc t) * B)
        × (cond d B x.budget + g ≤ y + g')
    go true e q =
        let n : (n : ℕ) × (t ≡ 0 + n * P) = due_true t 0 P e in
        (g + B, omega (arith, h.0, mul-le-mul_right B (dues_rises 0 P p t n.0 n.1)), omega arith)
    go false e q = (g, omega (arith, h.0, mul-le-mul_right B (dues_mono 0 P p t (suc t) (omega arith))), omega arith)

left : (d : Bool) (b y : ℕ) → b ≤ y → cond d 0 b ≤ y
left true b y h = omega arith
left false b y h = h

pub polling_next : (s : Server) → 0 < s.period → (busy live free : Bool) (w : Bits) (t from g y : ℕ) (x : ServerState) → live ≡ true → Polled s x t from g y →
    let v : ServerState = replenish polling s x t busy in
    After (Polled s (consume polling s v (seen t busy free w v)) (suc t)) live free (eligible w.waits v) t from g y
polling_next s p busy live free w t from g y x l h = go free w.waits (ltb 0 b) refl w.last
  where
    b : ℕ
    b = periodic_refill s t x.budget

    a : (g' : ℕ) × (g' + dues 0 s.period from * s.budget ≤ dues 0 s.period (suc t) * s.budget) × (b + g ≤ y + g')
    a = refill s p x t from g y h

    -- where b' is the budget after step 5
    by : (free took : Bool) (b' : ℕ) → b' ≤ b → (free ≡ true → b' ≤ b - 1) → (took ≡ true → 0 < b) →
        After (Polled s (with_budget x b') (suc t)) live free took t from g y
    by free took b' q r some =
        plain (Polled s (with_budget x b') (suc t)) live free took t from g y a.0 b' l
        (a.1, left (due (suc t) 0 s.period) b' b' (omega arith)) (λ e. (omega arith, left (due (suc t) 0 s.period) b' 0 (omega arith)))
        (omega (arith, a.2)) (λ f e. omega (arith, a.2, r f, some e)) (λ f e. omega (arith, a.2, r f))

    sees : Bool → Bool → Bool → Bool → Seen
    sees free waits e last = record { t = t; above = not free; busy = busy; serves = free && (waits && e); waited = waits; emptied = last }

    go : (free waits e : Bool) → ltb 0 b ≡ e → (last : Bool) →
        After (Polled s (with_budget x (polling_pays (sees free waits e last) b)) (suc t)) live free (waits && e) t from g y
    go true true true q true = by true true _ (omega arith) (λ _. omega arith) (λ _. ltb-true 0 b q)
    go true true true q false = by true true _ (omega arith) (λ _. omega arith) (λ _. ltb-true 0 b q)
    go true true false q last = by true false _ (omega arith) (λ _. omega (arith, ltb-false 0 b q)) (λ z. never refl z)
    go true false e q last = by true false _ (omega arith) (λ _. omega arith) (λ z. never refl z)
    go false true e q last = by false e _ (omega arith) (λ z. never refl z) (λ z. ltb-true 0 b (q ∙ z))
    go false false e q last = by false false _ (omega arith) (λ z. never refl z) (λ z. never refl z)

pub polling_supply : (s : Server) → 0 < s.period → (x : ServerState) (t from g y n : ℕ) → Polled s x t from g y → t ≤ from + n → g ≤ server_demand polling s n
polling_supply s p x t from g y n h k = omega (arith, h.0, mul-le-mul_right s.budget (dues_window 0 s.period p from t n k))

pub polling_fresh : (s : Server) → Polled s (fresh_server polling s) 0 0 0 0
polling_fresh s = (omega arith, left-fresh (due 0 0 s.period) (due_zero s.period))
  where
    left-fresh : (d : Bool) → d ≡ true → cond d 0 s.budget ≤ 0
    left-fresh true e = omega arith
    left-fresh false e = never refl e

-- while requests wait, its budget falls in each tick that it is offered and in no other
pub polling_backlog : (s : Server) (t : ℕ) (busy free : Bool) (w : Bits) (v : ServerState) → w.waits ≡ true → w.last ≡ false →
    (consume polling s v (seen t busy free w v)).budget ≡ cond free (v.budget - 1) v.budget
polling_backlog s t busy true w v a b = rw (a, b) (go (ltb 0 v.budget) refl)
  where
    go : (e : Bool) → ltb 0 v.budget ≡ e → cond e (v.budget - 1) v.budget ≡ v.budget - 1
    go true e = refl
    go false e = omega (arith, ltb-false 0 v.budget e)
polling_backlog s t busy false w v a b = refl
