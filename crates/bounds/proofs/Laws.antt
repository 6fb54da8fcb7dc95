-- Laws of the demand: each bound is the least length that meets it, it never falls as the length grows, and the least length is unique. And
-- what the admission call says in figures.
use Rattle.std.specs.Prelude.{ℕ, zero, suc, ◌+◌, ◌-◌, ◌*◌, ◌/◌, ◌≤◌, ◌<◌, ◌≡◌, refl, Bool, true, false, List, [], ◌∷◌, take, Result}
use Rattle.std.proofs.Common.{arith, le-div_iff_mul-le, div-mul-le_self, le_refl, le_trans, mul-le-mul, sym, ap, ◌∙◌}
use Rattle.std.proofs.Math.Nat.{div-zero}
use Rattle.std.proofs.Math.Decide.{dec_le}
use Rattle.lists.specs.Time.{ceil}
use Rattle.server.specs.declared.Server.{Server}
use Rattle.server.specs.Kind.{Kind, background, polling, deferrable, sporadic, returning, kind_of}
use Rattle.server.specs.Server.{server_demand}
use Rattle.table.specs.declared.Refusal.{Refusal}
use Rattle.table.specs.declared.Task.{Task}
use Rattle.table.specs.declared.Table.{Table}
use Rattle.table.specs.Model.{TaskSet, task_set_of}
use Rattle.table.specs.Refusal.{figures, giving_figures}
use Rattle.table.specs.State.{table_check, table_figures}
use Rattle.table.specs.Facts.{check_figures}
use Rattle.bounds.specs.declared.Admission.{Admission}
use Rattle.bounds.specs.Admission.{admission_for, admission_call}
use Rattle.bounds.specs.Least.{least}
use Rattle.bounds.proofs.Least.{IsLeast, Decided, least_decided}
use Rattle.bounds.specs.Demand.{tasks_demand, below, demand, task_bound, own_demand, own_bound}
use Rattle.bounds.specs.Terms.{demand_of}

-- ---- each bound is the least length that meets its demand, or 0 exactly where none up to its limit does
-- of the lengths 1 to D
pub task_bound-least : (p : TaskSet) (i : ℕ) (x : Task) → Decided (demand p i x) 1 x.deadline (task_bound p i x)
task_bound-least p i x = least_decided (demand p i x) x.deadline 1 (omega arith)

-- of the lengths 1 to P
pub own_bound-least : (p : TaskSet) → Decided (own_demand p) 1 p.server.period (own_bound p)
own_bound-least p = least_decided (own_demand p) p.server.period 1 (omega arith)

-- ---- the demand never falls as the length grows
div_mono : (a b p : ℕ) → a ≤ b → a / p ≤ b / p
div_mono a b zero h = rw (div-zero a, div-zero b) (omega arith)
div_mono a b (suc p) h =
    (le-div_iff_mul-le {k = suc p} {x = a / suc p} {y = b} (omega arith)).1 (le_trans (div-mul-le_self a (suc p)) h)

pub ceil_mono : (L M p : ℕ) → L ≤ M → ceil L p ≤ ceil M p
ceil_mono L M p h = div_mono (L + (p - 1)) (M + (p - 1)) p (omega arith)

pub term_mono : (L M p e : ℕ) → L ≤ M → ceil L p * e ≤ ceil M p * e
term_mono L M p e h = mul-le-mul (ceil_mono L M p h) (le_refl e)

pub tasks_mono : (xs : List Task) (L M : ℕ) → L ≤ M → tasks_demand xs L ≤ tasks_demand xs M
tasks_mono [] L M h = omega arith
tasks_mono (x ∷ xs) L M h = omega (arith, term_mono L M x.period x.exec h, tasks_mono xs L M h)

pub server_mono : (k : Kind) (s : Server) (L M : ℕ) → L ≤ M → server_demand k s L ≤ server_demand k s M
server_mono background s L M h = omega arith
server_mono polling s L M h = term_mono L M s.period s.budget h
server_mono deferrable s L M h =
    omega (arith, term_mono (L - s.budget) (M - s.budget) s.period s.budget (omega arith))
server_mono sporadic s L M h = term_mono L M s.period s.budget h
server_mono returning s L M h = term_mono L M s.period s.budget h

pub demand_of_mono : (p : TaskSet) (i own : ℕ) (beside : Bool) (L M : ℕ) → L ≤ M →
    demand_of p i own beside L ≤ demand_of p i own beside M
demand_of_mono p i own true L M h =
    omega (arith, tasks_mono (take i p.tasks) L M h, server_mono (kind_of p.server.kind) p.server L M h)
demand_of_mono p i own false L M h = omega (arith, tasks_mono (take i p.tasks) L M h)

pub demand_mono : (p : TaskSet) (i : ℕ) (x : Task) (L M : ℕ) → L ≤ M → demand p i x L ≤ demand p i x M
demand_mono p i x L M h = demand_of_mono p i x.exec (below p.server i) L M h

pub own_demand_mono : (p : TaskSet) (L M : ℕ) → L ≤ M → own_demand p L ≤ own_demand p M
own_demand_mono p L M h = omega (arith, tasks_mono (take p.server.place p.tasks) L M h)

-- ---- the least length is unique: l meets the demand and none before it does
pub least-is : (d : ℕ → ℕ) (k l : ℕ) → 1 ≤ l → l ≤ k → d l ≤ l → ((x : ℕ) → 1 ≤ x → x < l → x < d x) → l ≡ least d k 1
least-is d k l low high meets first = by (dec_le (least d k 1) 0)
  where
    by : Dec (least d k 1 ≤ 0) → l ≡ least d k 1
    by (yes z) = absurd (omega (arith, (least_decided d k 1 (omega arith)).none (omega arith) l low (omega arith)))
    by (no z) =
        let r = (least_decided d k 1 (omega arith)).found (omega arith) in
        compare (dec_le (suc l) (least d k 1)) (dec_le (suc (least d k 1)) l) r
      where
        compare : Dec (suc l ≤ least d k 1) → Dec (suc (least d k 1) ≤ l) → IsLeast d 1 k (least d k 1) → l ≡ least d k 1
        compare (yes a) b r = absurd (omega (arith, r.first l low a))
        compare (no a) (yes b) r = absurd (omega (arith, r.meets, first (least d k 1) r.starts b))
        compare (no a) (no b) r = omega arith

-- none meets it
pub least-none : (d : ℕ → ℕ) (k : ℕ) → ((x : ℕ) → 1 ≤ x → x ≤ k → x < d x) → 0 ≡ least d k 1
least-none d k none = sym ((least_decided d k 1 (omega arith)).zeroed (λ x a b. none x a (omega arith)))

-- demands that agree have one least length
pub least-same : (d e : ℕ → ℕ) → ((L : ℕ) → d L ≡ e L) → (k L : ℕ) → least d k L ≡ least e k L
least-same d e same zero L = refl
least-same d e same (suc k) L = rw (same L, least-same d e same k (suc L))

pub own-least : (p : TaskSet) (k : ℕ) →
    least (demand_of p p.server.place p.server.budget false) k 1 ≡ least (own_demand p) k 1
own-least p k = least-same (demand_of p p.server.place p.server.budget false) (own_demand p) (λ L. omega arith) k 1

-- ---- the answer of the admission call says the table's figures
pub admission_figures : (t : Table) → figures (admission_call t) ≡ table_figures t
admission_figures t = giving_figures (table_check t) (admission_for (task_set_of t)) ∙ check_figures t

-- an answer that is the call's says them
pub admission_says : (t : Table) (a : Result Admission Refusal) → a ≡ admission_call t → (a ≡ admission_call t) × (figures a ≡ table_figures t)
admission_says t a e = (e, ap (λ (x : Result Admission Refusal). figures x) e ∙ admission_figures t)
