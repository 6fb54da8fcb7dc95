-- The admission call: refusals 1, 2 and 3, or the bounds.
use Rattle.std.specs.Prelude.{ℕ, ◌≡◌, refl, false, List, replicate, Err, Ok, Result}
use Rattle.lists.specs.Lists.{overlay}
use Rattle.table.specs.declared.Refusal.{Refusal}
use Rattle.table.specs.declared.Table.{Table}
use Rattle.table.specs.Limits.{max_tasks}
use Rattle.table.specs.Model.{TaskSet, task_set_of}
use Rattle.table.specs.Refusal.{giving}
use Rattle.table.specs.State.{table_check}
use Rattle.bounds.specs.declared.Admission.{Admission}
use Rattle.bounds.specs.Demand.{bounds, server_bound, admitted}

-- what stands in a slot that no bound takes
abbrev pub no_bounds : List ℕ
no_bounds = replicate max_tasks 0

-- a table's bounds, and whether it is admitted
abbrev pub admission_for : TaskSet → Admission
admission_for p = record {
  bounds = overlay (bounds p) no_bounds;
  serverbound = server_bound p;
  admitted = admitted p;
}

-- what is said of a refused table: it has no bounds, and is not admitted
abbrev pub no_admission : Admission
no_admission = record { bounds = no_bounds; serverbound = 0; admitted = false }

-- a table's, where its check passes
abbrev pub admission_by : Result Unit Refusal → TaskSet → Admission
admission_by (Ok x) p = admission_for p
admission_by (Err r) p = no_admission

abbrev pub admission_of : Table → Admission
admission_of t = admission_by (table_check t) (task_set_of t)

-- "Set-up and admission check 1, 2, 3."
abbrev pub admission_call : Table → Result Admission Refusal
admission_call t = giving (table_check t) (admission_for (task_set_of t))

-- the same with none beside a refusal
abbrev pub admission_or_none : Result Admission Refusal → Admission
admission_or_none (Ok a) = a
admission_or_none (Err r) = no_admission

pub admission_is : (t : Table) → admission_or_none (admission_call t) ≡ admission_of t
admission_is t = by (table_check t)
  where
    by : (c : Result Unit Refusal) → admission_or_none (giving c (admission_for (task_set_of t))) ≡ admission_by c (task_set_of t)
    by (Ok x) = refl
    by (Err r) = refl
