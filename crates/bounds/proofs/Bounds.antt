-- What an admitted table has: a bound for each task, within its deadline, at which the demand of document 01 is met, spelled out.
use Rattle.std.specs.Prelude.{ℕ, zero, suc, ◌+◌, ◌≤◌, ◌<◌, ◌≡◌, refl, Bool, true, cond, List, [], ◌∷◌, ◌++◌, ltb, length, take, drop, get_or, Err, Ok, Result}
use Rattle.std.proofs.Common.{arith, ap, ◌∙◌, ltb-true, le-leb}
use Rattle.lists.specs.Lists.{all, overlay}
use Rattle.lists.specs.Tests.{and_split, never}
use Rattle.server.specs.Kind.{kind_of}
use Rattle.server.specs.Server.{server_demand}
use Rattle.table.specs.declared.Refusal.{Refusal}
use Rattle.table.specs.declared.Table.{Table}
use Rattle.table.specs.declared.Task.{Task}
use Rattle.table.specs.Model.{TaskSet, task_set_of}
use Rattle.table.specs.Refusal.{passed}
use Rattle.table.specs.State.{table_check}
use Rattle.bounds.proofs.Least.{IsLeast, least_decided}
use Rattle.bounds.specs.Demand.{tasks_demand, demand, task_bound, bounds_from, bounds, own_demand, own_bound, server_bound, server_admitted}
use Rattle.bounds.specs.Admission.{no_bounds, admission_by, admission_of}

-- R is a bound of task i, which is x: within the deadline; its execution and the terms of the tasks before it, and of the server if it
-- stands below it, come to no more than R; and no shorter length will do
pub record Bound (p : TaskSet) (i : ℕ) (x : Task) (R : ℕ) : Type 0 where
  pub some : 0 < R
  pub soon : R ≤ x.deadline
  pub meets : x.exec + tasks_demand (take i p.tasks) R ≤ R
  pub below : p.server.place ≤ i → x.exec + tasks_demand (take i p.tasks) R + server_demand (kind_of p.server.kind) p.server R ≤ R
  pub first : (L : ℕ) → 0 < L → L < R → L < demand p i x L

pub bound-is : (p : TaskSet) (i : ℕ) (x : Task) → 0 < task_bound p i x → Bound p i x (task_bound p i x)
bound-is p i x h =
    let k : IsLeast (demand p i x) 1 x.deadline (task_bound p i x) = (least_decided (demand p i x) x.deadline 1 (omega arith)).found h in
    record {
      some = h;
      soon = omega (arith, k.ends);
      meets = omega (arith, k.meets);
      below = λ q. omega (
        arith,
        k.meets,
        ap {B = ℕ} (λ (b : Bool). cond b (server_demand (kind_of p.server.kind) p.server (task_bound p i x)) 0)
            (le-leb p.server.place i q),
      );
      first = λ L a b. k.first L (omega arith) b;
    }

-- R is a bound of the server: within its period; its budget and the terms of the tasks above come to no more than R
pub record OwnBound (p : TaskSet) (R : ℕ) : Type 0 where
  pub some : 0 < R
  pub soon : R ≤ p.server.period
  pub meets : p.server.budget + tasks_demand (take p.server.place p.tasks) R ≤ R
  pub first : (L : ℕ) → 0 < L → L < R → L < own_demand p L

pub own_is : (p : TaskSet) → 0 < own_bound p → OwnBound p (own_bound p)
own_is p h =
    let k : IsLeast (own_demand p) 1 p.server.period (own_bound p) = (least_decided (own_demand p) p.server.period 1 (omega arith)).found h in
    record { some = h; soon = omega (arith, k.ends); meets = omega (arith, k.meets); first = λ L a b. k.first L (omega arith) b }

-- ---- the table is admitted
bounds-at : (p : TaskSet) (n : ℕ) (xs : List Task) (i : ℕ) (d : Task) → i < length xs → get_or (bounds_from p n xs) i 0 ≡ task_bound p (n + i) (get_or xs i d)
bounds-at p n [] i d h = absurd (omega arith)
bounds-at p n (x ∷ xs) zero d h = let e : n ≡ n + 0 = omega arith in ap (λ (k : ℕ). task_bound p k x) e
bounds-at p n (x ∷ xs) (suc i) d h =
    let e : suc n + i ≡ n + suc i = omega arith in
    bounds-at p (suc n) xs i d (omega arith) ∙ ap (λ (k : ℕ). task_bound p k (get_or xs i d)) e

bounds-some : (p : TaskSet) (n : ℕ) (xs : List Task) (i : ℕ) → i < length xs → all (ltb 0) (bounds_from p n xs) ≡ true → 0 < get_or (bounds_from p n xs) i 0
bounds-some p n [] i h e = absurd (omega arith)
bounds-some p n (x ∷ xs) zero h e = ltb-true 0 (task_bound p n x) (and_split (ltb 0 (task_bound p n x)) (all (ltb 0) (bounds_from p (suc n) xs)) e).0
bounds-some p n (x ∷ xs) (suc i) h e = bounds-some p (suc n) xs i (omega arith)
    (and_split (ltb 0 (task_bound p n x)) (all (ltb 0) (bounds_from p (suc n) xs)) e).1

bounds-overlay : (p : TaskSet) (n : ℕ) (xs : List Task) (i : ℕ) (old : List ℕ) → i < length xs → get_or (overlay (bounds_from p n xs) old) i 0
    ≡ get_or (bounds_from p n xs) i 0
unfolding overlay
bounds-overlay p n xs i old h = front (bounds_from p n xs) (drop (length (bounds_from p n xs)) old) i (long p n xs i h)
  where
    long : (p : TaskSet) (n : ℕ) (xs : List Task) (i : ℕ) → i < length xs → i < length (bounds_from p n xs)
    long p n [] i h = h
    long p n (x ∷ xs) zero h = omega arith
    long p n (x ∷ xs) (suc i) h = omega (arith, long p (suc n) xs i (omega arith))

    front : (ns ms : List ℕ) (i : ℕ) → i < length ns → get_or (ns ++ ms) i 0 ≡ get_or ns i 0
    front [] ms i h = absurd (omega arith)
    front (n ∷ ns) ms zero h = refl
    front (n ∷ ns) ms (suc i) h = front ns ms i (omega arith)

-- the admission call says so of its table
pub record Admits (t : Table) : Type 0 where
  pub passes : passed (table_check t) ≡ true
  pub tasks : (i : ℕ) (d : Task) → i < length (task_set_of t).tasks → Bound (task_set_of t) i (get_or (task_set_of t).tasks i d) (get_or (admission_of t).bounds i 0)
  pub server : server_admitted (kind_of t.server.kind) (server_bound (task_set_of t)) ≡ true

pub admits : (t : Table) → (admission_of t).admitted ≡ true → Admits t
admits t e = go (table_check t) refl e
  where
    p : TaskSet
    p = task_set_of t

    go : (c : Result Unit Refusal) → table_check t ≡ c → (admission_by c p).admitted ≡ true → Admits t
    go (Ok tt) q e =
        let h : (all (ltb 0) (bounds p) ≡ true) × (server_admitted (kind_of t.server.kind) (server_bound p) ≡ true) =
        and_split (all (ltb 0) (bounds p)) (server_admitted (kind_of t.server.kind) (server_bound p)) e in
        record {
          passes = ap passed q;
          tasks = λ i d k. at q i d k h.0;
          server = h.1;
        }
      where
        at : table_check t ≡ Ok tt → (i : ℕ) (d : Task) → i < length p.tasks → all (ltb 0) (bounds p) ≡ true →
            Bound p i (get_or p.tasks i d) (get_or (admission_of t).bounds i 0)
        at q i d k h =
            let z : get_or (bounds_from p 0 p.tasks) i 0 ≡ task_bound p (0 + i) (get_or p.tasks i d) = bounds-at p 0 p.tasks i d k in
            let n : 0 + i ≡ i = omega arith in
            let y : get_or (admission_of t).bounds i 0 ≡ task_bound p i (get_or p.tasks i d) =
            ap (λ (c : Result Unit Refusal). get_or (admission_by c p).bounds i 0) q ∙ bounds-overlay p 0 p.tasks i no_bounds k ∙ z
            ∙ ap (λ (j : ℕ). task_bound p j (get_or p.tasks i d)) n in
            rw y (bound-is p i (get_or p.tasks i d) (omega (
              arith,
              z,
              ap (λ (j : ℕ). task_bound p j (get_or p.tasks i d)) n,
              bounds-some p 0
                  p.tasks i k h,
            )))
    go (Err r) q e = never refl e
