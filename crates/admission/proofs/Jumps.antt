-- The demand at a length, one term at a time; the lengths that it rules out; and from a task to the next.
use Prim.Native.Nat.{ℕ, zero, suc, ◌+◌, ◌-◌, ◌*◌, ◌/◌, ◌≤◌, ◌<◌}
use native.Mathlib.Omega.{arith}
use native.Mathlib.Decide.{dec_le}
use native.Mathlib.Nat.{mul-le-mul, mul-le-mul_left, mul-le-mul_right, sub-add_cancel}
use mathlib.Core.Path.{◌≡◌, refl, ap, sym, ◌∙◌}
use mathlib.Core.Bool.{Bool, true, false, cond}
use mathlib.Core.List.{List}
use lib.Dec.{leb}
use lib.ListN.{length, take, get_or, set}
use lib.Seq.{get_or-set_same, get_or-set_other, take-take}
use borrow.Author.Tests.{leb-true, leb-false, le-leb}
use Rattle.lists.specs.Time.{ceil}
use Rattle.server.specs.Limits.{max_time}
use Rattle.server.specs.declared.Server.{Server}
use Rattle.server.specs.Kind.{kind_of}
use Rattle.server.specs.Server.{server_demand}
use Rattle.table.specs.declared.Table.{Table}
use Rattle.table.specs.declared.Task.{Task}
use Rattle.table.specs.Facts.{TaskLimits, ServerLimits, no_task}
use Rattle.table.specs.Model.{task_set_of}
use Rattle.admission.specs.declared.Term.{Term}
use Rattle.admission.specs.declared.Work.{Work}
use Rattle.bounds.specs.Least.{least}
use Rattle.bounds.specs.Demand.{tasks_demand}
use Rattle.bounds.specs.Terms.{demand_of}
use Rattle.admission.specs.Jumps.{whole, Sure, TaskParts, ServerPart, ServerLead, Counted, DemandAt, OpenFrom, FirstMet}
use Rattle.bounds.proofs.Laws.{least-is, least-none, term_mono, server_mono}
use Rattle.admission.proofs.Laws.{tasks-step, demand_with, demand-without}
use Rattle.admission.proofs.Shares.{ceil_reaches, ceil-some, part_le, share_le, load_le}

-- ---- jumps
-- what is demanded of l is demanded of every length from l on, and so is what is sure
pub jump : (d : ℕ → ℕ) (l fixed extra rate r : ℕ) → ((L M : ℕ) → L ≤ M → d L ≤ d M) → Sure d l fixed extra rate →
    ((x : ℕ) → x < r → d l ≤ x → whole * x < whole * fixed + extra + rate * x) →
    ((x : ℕ) → 1 ≤ x → x < l → x < d x) → (x : ℕ) → 1 ≤ x → x < r → x < d x
jump d l fixed extra rate r mono sure ruled none x a b = by (dec_le (suc x) l) (dec_le (d l) x)
  where
    by : Dec (suc x ≤ l) → Dec (d l ≤ x) → x < d x
    by (yes s) f = none x a s
    by (no s) (yes f) = omega (arith, sure x (omega arith), ruled x b f)
    by (no s) (no f) = omega (arith, mono l x (omega arith))

-- the first length that meets the demand, if it is up to the limit, is the least
pub met_least : (d : ℕ → ℕ) (limit l : ℕ) → FirstMet d limit l → cond (leb l limit) l 0 ≡ least d limit 1
met_least d limit l m = by (leb l limit) refl
  where
    by : (b : Bool) → leb l limit ≡ b → cond b l 0 ≡ least d limit 1
    by true e =
        let h : l ≤ limit = leb-true l limit e in
        least-is d limit l m.from.starts h (m.meets h) m.from.none
    by false e =
        let h : limit < l = leb-false l limit e in
        least-none d limit (λ x a b. m.from.none x a (omega arith))

-- ---- parts
pub parts-step : (tasks : List Task) (out : List ℕ) (j v : ℕ) → j < length out → TaskParts tasks j out →
    v ≡ whole / (get_or tasks j no_task).period → TaskParts tasks (suc j) (set out j v)
parts-step tasks out j v h known e k b = by (dec_le (suc k) j)
  where
    by : Dec (suc k ≤ j) → get_or (set out j v) k 0 ≡ whole / (get_or tasks k no_task).period
    by (yes s) = get_or-set_other out j k v 0 (omega arith) ∙ known k s
    by (no s) =
        let same : k ≡ j = omega arith in
        rw same (get_or-set_same out j v 0 h ∙ e)

-- ---- one term more
pub counted-at : (d t f : ℕ → ℕ) (l : ℕ) (x : Term) (w r : Work) → ((L : ℕ) → f L ≡ d L + t L) → x.turns * x.exec ≡ t l →
    ((L : ℕ) → l ≤ L → t l ≤ t L) → x.lead ≤ max_time * whole → ((L : ℕ) → x.lead + x.exec * x.part * L ≤ whole * t L) →
    DemandAt d l w → Counted w x r → DemandAt f l r
counted-at d t f l x w r sum here mono most share at c = record {
  all = omega (arith, sum l, at.all, c.all);
  some = omega (arith, at.some, c.some);
  extra = omega (arith, c.extra);
  sure = λ L h. omega (arith, sum L, at.sure L h, mono L h, c.sure L (whole * t L) (omega (arith, mono L h)) (share L));
}

-- task j of a table's first i, and its part
pub record Turn (t : Table) (i j : ℕ) (x : Task) (v : ℕ) : Type 0 where
  pub here : j < i
  pub held : j < length t.tasks
  pub is : x ≡ get_or t.tasks j no_task
  pub limits : TaskLimits x
  pub part : v ≡ whole / x.period

-- a task's
abbrev pub task_term : Task → ℕ → ℕ → Term
task_term x n v = record { turns = n; period = x.period; exec = x.exec; part = v; lead = 0 }

pub tasks-at-step : (t : Table) (i own l j : ℕ) (x : Task) (n v : ℕ) (w r : Work) → Turn t i j x v → n ≡ ceil l x.period →
    DemandAt (λ L. own + tasks_demand (take j t.tasks) L) l w → Counted w (task_term x n v) r →
    DemandAt (λ L. own + tasks_demand (take (suc j) t.tasks) L) l r
tasks-at-step t i own l j x n v w r turn f at c =
    counted-at (λ L. own + tasks_demand (take j t.tasks) L) (λ L. ceil L x.period * x.exec)
    (λ L. own + tasks_demand (take (suc j) t.tasks) L) l (task_term x n v) w r
    (λ L. rw turn.is (omega (arith, tasks-step L j t.tasks no_task turn.held)))
    (ap (λ (m : ℕ). m * x.exec) f)
    (λ L b. term_mono l L x.period x.exec b)
    (omega arith)
    (λ L. rw turn.part (omega (
      arith,
      share_le x.exec (whole / x.period) x.period (ceil L x.period) L (part_le x.period) (ceil_reaches L x.period (omega (arith, turn.limits))),
    )))
    at c

-- the server's, by kind
module _ (s : Server) (n v : ℕ) (limits : ServerLimits s n) (part : ServerPart s v) where
  pub server-load : s.budget * v ≤ whole
  server-load = by s.kind refl
    where
      by : (k : ℕ) → s.kind ≡ k → s.budget * v ≤ whole
      by zero e = rw (part.none e) (omega arith)
      by (suc k) e = rw (part.some (omega arith)) (load_le s.budget s.period limits.within)

  reaching : (c x : ℕ) → 1 ≤ s.kind → x ≤ c * s.period → s.budget * v * x ≤ whole * (c * s.budget)
  reaching c x k h = rw (part.some k) (share_le s.budget (whole / s.period) s.period c x (part_le s.period) h)

  some : 1 ≤ s.kind → 1 ≤ s.period
  some k = omega (arith, limits.some k, limits.within)

  pub server_share : (x : ℕ) → s.budget * v * x ≤ whole * server_demand (kind_of s.kind) s x
  server_share x = by s.kind refl
    where
      by : (k : ℕ) → s.kind ≡ k → s.budget * v * x ≤ whole * server_demand (kind_of k) s x
      by zero e = rw (part.none e) (omega arith)
      by (suc zero) e = reaching (ceil x s.period) x (omega arith) (ceil_reaches x s.period (some (omega arith)))
      by (suc (suc zero)) e = omega (
        arith,
        reaching (1 + ceil (x - s.budget) s.period) x (omega arith)
            (omega (arith, limits.within, ceil_reaches (x - s.budget) s.period (some (omega arith)))),
      )
      by (suc (suc (suc zero))) e = reaching (ceil x s.period) x (omega arith) (ceil_reaches x s.period (some (omega arith)))
      by (suc (suc (suc (suc zero)))) e = reaching (ceil x s.period) x (omega arith) (ceil_reaches x s.period (some (omega arith)))
      by (suc (suc (suc (suc (suc k))))) e = absurd (omega (arith, limits.kind))

  -- the deferrable server's extra budget, less its part of as many ticks
  pub lead_le : s.budget * (whole - s.budget * v) ≤ max_time * whole
  lead_le = mul-le-mul {n₂ = max_time} {m₂ = whole} (omega (arith, limits.within, limits.period)) (omega arith)

  pub deferrable_leads : s.kind ≡ 2 → ServerLead s v (s.budget * (whole - s.budget * v))
  deferrable_leads e =
      let B = s.budget in
      let whole_is : B * (whole - B * v + B * v) ≡ B * whole = ap (λ (n : ℕ). B * n) (sub-add_cancel {n = whole} {m = B * v} server-load) in
      record {
        most = lead_le;
        sure = λ x.
            let c = ceil (x - B) s.period in
            let a : B * v * (x - B) ≤ whole * (c * B) =
            reaching c (x - B) (omega arith) (ceil_reaches (x - B) s.period (some (omega arith))) in
            let b : B * v * x ≤ B * v * (x - B + B) = mul-le-mul_left (B * v) (omega arith) in
            rw e (omega arith);
      }

-- the demand of a table's first tasks, with its server's term and without it
module _ (t : Table) (i own l : ℕ) (w : Work) (h : i ≤ t.n) (at : DemandAt (λ x. own + tasks_demand (take i t.tasks) x) l w) where
  pub with_server_lem : (x : Term) (r : Work) → x.turns * x.exec ≡ server_demand (kind_of t.server.kind) t.server l → x.lead ≤ max_time * whole →
      ((L : ℕ) → x.lead + x.exec * x.part * L ≤ whole * server_demand (kind_of t.server.kind) t.server L) → Counted w x r →
      DemandAt (demand_of (task_set_of t) i own true) l r
  with_server_lem x r turns leads sure c =
      let k = kind_of t.server.kind in
      counted-at (λ x. own + tasks_demand (take i t.tasks) x) (server_demand k t.server) (demand_of (task_set_of t) i own true) l x w r
      (λ x. sym (demand_with t i own x (tasks_demand (take i t.tasks) x) h refl (server_demand k t.server x) refl))
      turns (server_mono k t.server l) leads sure at c

  pub without-server : DemandAt (demand_of (task_set_of t) i own false) l w
  without-server = record {
    all = at.all ∙ demand-without t i own l (tasks_demand (take i t.tasks) l) h refl;
    some = at.some;
    extra = at.extra;
    sure = λ x b. omega (arith, at.sure x b, demand-without t i own x (tasks_demand (take i t.tasks) x) h refl);
  }

-- ---- from a task to the next
pub open_first : (d : ℕ → ℕ) (l : ℕ) → l ≡ 1 → OpenFrom d l
open_first d l e = record { starts = omega arith; past = omega arith; none = λ x a b. absurd (omega arith) }

open_more : (d e : ℕ → ℕ) (l : ℕ) → ((x : ℕ) → 1 ≤ x → d x ≤ e x) → OpenFrom d l → OpenFrom e l
open_more d e l more o = record { starts = o.starts; past = o.past; none = λ x a b. omega (arith, o.none x a b, more x a) }

-- a server above a task is above the next
below-later : (place i S : ℕ) → cond (leb place i) S 0 ≤ cond (leb place (suc i)) S 0
below-later place i S = by (leb place i) refl
  where
    by : (b : Bool) → leb place i ≡ b → cond b S 0 ≤ cond (leb place (suc i)) S 0
    by true e = rw (le-leb place (suc i) (omega (arith, leb-true place i e))) (omega arith)
    by false e = omega arith

-- what a task demands of a length, the tasks before the next demand too
module _ (t : Table) (i : ℕ) (h : i < t.n) (k : i < length t.tasks) (limits : TaskLimits (get_or t.tasks i no_task)) where
  demand-later : (x : ℕ) → 1 ≤ x →
      demand_of (task_set_of t) i (get_or t.tasks i no_task).exec (leb t.server.place i) x
      ≤ demand_of (task_set_of t) (suc i) 0 (leb t.server.place (suc i)) x
  demand-later x a =
      let task = get_or t.tasks i no_task in
      let once : 1 * task.exec ≤ ceil x task.period * task.exec =
      mul-le-mul_right task.exec (ceil-some x task.period a (omega arith)) in
      rw (take-take i t.n t.tasks (omega arith), take-take (suc i) t.n t.tasks h)
      (omega (
        arith,
        tasks-step x i t.tasks no_task k,
        below-later t.server.place i (server_demand (kind_of t.server.kind) t.server x),
      ))

  pub open_next : (l : ℕ) → OpenFrom (demand_of (task_set_of t) i (get_or t.tasks i no_task).exec (leb t.server.place i)) l →
      OpenFrom (demand_of (task_set_of t) (suc i) 0 (leb t.server.place (suc i))) l
  open_next l = open_more (demand_of (task_set_of t) i (get_or t.tasks i no_task).exec (leb t.server.place i))
      (demand_of (task_set_of t) (suc i) 0 (leb t.server.place (suc i))) l demand-later
