-- The limits of refusal 11 on a server's state, as the facts of specs/Within: the steps keep them, and within them step 5 of 32 bits is the rule's step.
use Rattle.std.specs.Prelude.{ℕ, ◌+◌, ◌≤◌, ◌≡◌, Bool, not, ◌&&◌, ◌||◌, eqb}
use Rattle.std.proofs.Common.{arith, le-leb}
use Rattle.lists.specs.Tests.{either}
use Rattle.lists.specs.Time.{due}
use Rattle.server.specs.Limits.{max_time, last_clock}
use Rattle.server.specs.declared.Server.{Server}
use Rattle.server.specs.declared.Sporadic.{Sporadic}
use Rattle.server.specs.declared.ServerState.{ServerState}
use Rattle.server.specs.declared.Seen.{Seen}
use Rattle.server.specs.Kind.{Kind, background, polling, deferrable, sporadic, returning, kind_of}
use Rattle.server.specs.Sporadic.{refills, effective, fixed, first_served, marked}
use Rattle.server.specs.Server.{replenish, consume}
use Rattle.server.specs.Whole.{Whole, replenish_part}
use Rattle.server.specs.Consumed.{last32, consumed}
use Rattle.server.specs.Within.{Timed, Within}

-- a later clock
pub within-later : (s : Server) (clock : ℕ) (x : ServerState) → Within s clock x → Within s (clock + 1) x
within-later s clock x h = record {
  budget = h.budget;
  times = record { tr = omega (arith, h.times.tr); begin = omega (arith, h.times.begin); nr = h.times.nr };
}

pub replenish-within : (k : Kind) (s : Server) (x : ServerState) (t : ℕ) (busy : Bool) → Within s t x →
    Within s t (replenish k s x t busy)
replenish-within background s x t busy h = h
replenish-within polling s x t busy h =
    record { budget = either (λ (n : ℕ). n ≤ s.budget) (due t 0 s.period) (omega arith) h.budget; times = h.times }
replenish-within deferrable s x t busy h =
    record { budget = either (λ (n : ℕ). n ≤ s.budget) (due t 0 s.period) (omega arith) h.budget; times = h.times }
replenish-within sporadic s x t busy h =
    either (Within s t) (refills x.sporadic x.budget t busy)
    (record {
      budget = omega arith;
      times = record { tr = omega arith; begin = h.times.begin; nr = omega arith };
    })
    h
replenish-within returning s x t busy h = h

-- the times, of a server's whole state
pub part-timed : (k : Kind) (s : Server) (x : Whole) (t : ℕ) (busy : Bool) → Within s t x.part → Timed t (replenish_part k s x t busy).sporadic
part-timed background s x t busy h = h.times
part-timed polling s x t busy h = h.times
part-timed deferrable s x t busy h = h.times
part-timed sporadic s x t busy h = (replenish-within sporadic s x.part t busy h).times
part-timed returning s x t busy h = h.times

-- the times that a first service fixes
effective_le : (x : Sporadic) (t : ℕ) → x.tr ≤ t → x.begin ≤ t → effective x t ≤ t
effective_le x t a b = either (λ (n : ℕ). n ≤ t) x.above (omega arith) (omega arith)

fixed-timed : (te period t : ℕ) (x : Sporadic) → te ≤ t → period ≤ max_time → t ≤ last_clock → Timed t x →
    Timed t (fixed te period t x)
fixed-timed te period t x a b c h =
    either (Timed t) (eqb (te + period) t)
    (record { tr = omega arith; begin = h.begin; nr = omega arith })
    (record { tr = h.tr; begin = h.begin; nr = omega arith })

first-timed : (s : Server) (e : Seen) (x : Sporadic) → s.period ≤ max_time → e.t ≤ last_clock → Timed e.t x →
    Timed e.t (first_served s e x)
first-timed s e x a b h =
    either (Timed e.t) (e.serves && not x.served)
    (fixed-timed (effective x e.t) s.period e.t x (effective_le x e.t h.tr h.begin) a b h)
    h

marked-timed : (e : Seen) (x : Sporadic) → Timed e.t x → Timed e.t (marked e x)
marked-timed e x h = record {
  tr = h.tr;
  begin = either (λ (n : ℕ). n ≤ e.t) (e.above && not x.above) (omega arith) h.begin;
  nr = h.nr;
}

pub consume-timed : (k : Kind) (s : Server) (x : ServerState) (e : Seen) → s.period ≤ max_time → e.t ≤ last_clock →
    Timed e.t x.sporadic → Timed e.t (consume k s x e).sporadic
consume-timed background s x e a b h = h
consume-timed polling s x e a b h = h
consume-timed deferrable s x e a b h = h
consume-timed sporadic s x e a b h = marked-timed e (first_served s e x.sporadic) (first-timed s e x.sporadic a b h)
consume-timed returning s x e a b h = h

pub consume-within : (k : Kind) (s : Server) (x : ServerState) (e : Seen) → s.period ≤ max_time → e.t ≤ last_clock →
    Within s e.t x → Within s e.t (consume k s x e)
consume-within background s x e a b h = h
consume-within polling s x e a b h = record {
  budget =
      either (λ (n : ℕ). n ≤ s.budget) e.serves
      (either (λ (n : ℕ). n ≤ s.budget) e.emptied (omega arith) (omega (arith, h.budget)))
      (either (λ (n : ℕ). n ≤ s.budget) (e.above || e.waited) h.budget (omega arith));
  times = h.times;
}
consume-within deferrable s x e a b h = record {
  budget = either (λ (n : ℕ). n ≤ s.budget) e.serves (omega (arith, h.budget)) h.budget;
  times = h.times;
}
consume-within sporadic s x e a b h = record {
  budget =
      either (λ (n : ℕ). n ≤ s.budget) e.serves (omega (arith, h.budget))
      (either (λ (n : ℕ). n ≤ s.budget) (not e.above && x.sporadic.served) (omega (arith, h.budget)) h.budget);
  times = consume-timed sporadic s x e a b h.times;
}
consume-within returning s x e a b h = record {
  budget = either (λ (n : ℕ). n ≤ s.budget) e.serves (omega (arith, h.budget)) h.budget;
  times = h.times;
}

-- within the limits the next replenishment fits 32 bits
pub consumed-is-consume : (s : Server) (x : ServerState) (e : Seen) → s.period ≤ max_time → e.t ≤ last_clock →
    Timed e.t x.sporadic → consumed s x e ≡ consume (kind_of s.kind) s x e
consumed-is-consume s x e a b h =
    let w = consume-timed (kind_of s.kind) s x e a b h in
    rw (le-leb (consume (kind_of s.kind) s x e).sporadic.nr last32 (omega (arith, w.nr)))
