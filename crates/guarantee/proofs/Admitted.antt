-- An admitted table as a list of items: its limits make every item sound, and its bounds meet the list's demand.
use Rattle.std.specs.Prelude.{ℕ, zero, suc, ◌+◌, ◌≤◌, ◌<◌, ◌≡◌, refl, Bool, true, false, ◌⊎◌, length, take, get_or}
use Rattle.std.proofs.Common.{arith, sym, ap, ◌∙◌, inl, inr, ltb-true}
use Rattle.std.proofs.Math.Decide.{dec_le}
use Rattle.lists.specs.Tests.{never}
use Rattle.server.specs.declared.Server.{Server}
use Rattle.server.specs.Kind.{Kind, background, polling, deferrable, sporadic, returning, kind_of}
use Rattle.table.specs.declared.Task.{Task}
use Rattle.table.specs.declared.Table.{Table}
use Rattle.table.specs.Limits.{max_tasks}
use Rattle.table.specs.Facts.{TaskLimits, ServerLimits, TableFacts, table-facts, task-used}
use Rattle.table.specs.Model.{TaskSet, task_set_of, no_task}
use Rattle.bounds.specs.Demand.{own_bound, server_bound_by, server_bound, server_admitted}
use Rattle.bounds.specs.Admission.{admission_of}
use Rattle.bounds.proofs.Bounds.{Bound, OwnBound, own_is, Admits, admits}
use Rattle.rules.specs.Tick.{kind_at}
use Rattle.guarantee.proofs.Items.{server, items_demand}
use Rattle.guarantee.proofs.Chain.{Sound, SoundAll}
use Rattle.guarantee.proofs.Window.{alone, Plain, Sole}
use Rattle.guarantee.proofs.Done.{demand-last}
use Rattle.guarantee.proofs.TieLaws.{items}
use Rattle.guarantee.proofs.Places.{pos, pos-holds, pos-above, pos-below, insert-plain, insert_sole, insert-sound}
use Rattle.guarantee.specs.Guarantee.{exact}
use Rattle.guarantee.proofs.Executed.{task_of, InTime}

-- ---- the limits, from the facts of a table that passes
task-early : (x : Task) → TaskLimits x → (0 < x.period) × (x.deadline ≤ x.period)
task-early x l = (omega (arith, l.some, l.within, l.constrained), l.constrained)

-- one clause for each kind
server-sound : (s : Server) (n : ℕ) → ServerLimits s n → Sound (server (kind_of s.kind) s)
server-sound s n l = by s.kind l.some
  where
    by : (k : ℕ) → (0 < k → 1 ≤ s.budget) → Sound (server (kind_of k) s)
    by zero some = tt
    by (suc zero) some = omega (arith, some (omega arith), l.within)
    by (suc (suc zero)) some = (omega (arith, some (omega arith), l.within), l.within)
    by (suc (suc (suc zero))) some = (omega (arith, some (omega arith), l.within), some (omega arith))
    by (suc (suc (suc (suc zero)))) some = omega (arith, some (omega arith), l.within)
    by (suc (suc (suc (suc (suc k))))) some = tt

own-some : (k : Kind) (p : TaskSet) → exact k ≡ true → kind_at p ≡ k → server_admitted (kind_at p) (server_bound p) ≡ true → 0 < own_bound p
own-some background p e q h = never refl e
own-some polling p e q h = ltb-true 0 (own_bound p) (sym (ap (λ (k : Kind). server_admitted k (server_bound_by k p)) q) ∙ h)
own-some deferrable p e q h = ltb-true 0 (own_bound p) (sym (ap (λ (k : Kind). server_admitted k (server_bound_by k p)) q) ∙ h)
own-some sporadic p e q h = never refl e
own-some returning p e q h = never refl e

exact-plain : (k : Kind) → exact k ≡ true → alone k ≡ false
exact-plain background e = never refl e
exact-plain polling e = refl
exact-plain deferrable e = refl
exact-plain sporadic e = never refl e
exact-plain returning e = never refl e

-- ---- the list of items
pub record Good (t : Table) : Type 0 where
  pub few : t.n ≤ max_tasks
  pub sound : SoundAll (items (task_set_of t))
  pub mix : Plain (items (task_set_of t)) ⊎ Sole (items (task_set_of t))
  pub tasks : (i : ℕ) → i < length (task_set_of t).tasks → InTime (task_set_of t) i (get_or (admission_of t).bounds i 0)
  pub plain : exact (kind_at (task_set_of t)) ≡ true → Plain (items (task_set_of t))
  pub own : exact (kind_at (task_set_of t)) ≡ true → OwnBound (task_set_of t) (own_bound (task_set_of t))

in_time : (p : TaskSet) (i R : ℕ) → i < length p.tasks → TaskLimits (task_of p i) → Bound p i (task_of p i) R → InTime p i R
in_time p i R h f b =
    let e : (0 < (task_of p i).period) × ((task_of p i).deadline ≤ (task_of p i).period) = task-early (task_of p i) f in
    let l : items_demand (take (suc (pos p.server.place i)) (items p)) R ≡ (task_of p i).exec + items_demand (take (pos p.server.place i) (items p)) R =
    demand-last (items p) (pos p.server.place i) (task_of p i) (pos-holds p.server.place p.tasks (server (kind_at p) p.server) i no_task h) R
    b.some (omega (arith, b.soon, e.1)) in
    record { some = b.some; soon = b.soon; early = e.1; meets = omega (arith, l, go (dec_le p.server.place i)) }
  where
    go : Dec (p.server.place ≤ i) → (task_of p i).exec + items_demand (take (pos p.server.place i) (items p)) R ≤ R
    go (yes q) = omega (arith, b.below q, pos-below p.server.place p.tasks (server (kind_at p) p.server) i R h q)
    go (no q) = omega (arith, b.meets, pos-above p.server.place p.tasks (server (kind_at p) p.server) i R h (omega arith))

pub good : (t : Table) → (admission_of t).admitted ≡ true → Good t
good t e =
    let a : Admits t = admits t e in
    let f : TableFacts t = table-facts t a.passes in
    record {
      few = f.count;
      sound = insert-sound p.server.place p.tasks (server (kind_at p) p.server) no_task (λ i h. (task-early (task_of p i) (task-used t i f h)).0)
          (server-sound t.server t.n f.server);
      mix = mixed (alone (kind_at p)) refl;
      tasks = λ i h. in_time p i (get_or (admission_of t).bounds i 0) h (task-used t i f h) (a.tasks i no_task h);
      plain = λ q. insert-plain p.server.place p.tasks (kind_at p) p.server (exact-plain (kind_at p) q);
      own = λ q. own_is p (own-some (kind_at p) p q refl a.server);
    }
  where
    p : TaskSet
    p = task_set_of t

    mixed : (b : Bool) → alone (kind_at p) ≡ b → Plain (items p) ⊎ Sole (items p)
    mixed true q = inr (insert_sole p.server.place p.tasks (kind_at p) p.server q)
    mixed false q = inl (insert-plain p.server.place p.tasks (kind_at p) p.server q)
