-- Document 01's number of each refusal of a plan, and the value that comes with it.
use Rattle.std.specs.Prelude.{ℕ, Result, Ok, Err}
use Rattle.table.specs.Refusal as call
use Rattle.plan.specs.declared.refusal.PlanRefusal.{PlanRefusal}
use Rattle.plan.specs.declared.refusal.Rejection.{Rejection}

-- the table "No. | Word | Given if"
abbrev pub number : PlanRefusal → ℕ
number PlanRefusal.TooLong = 7
number PlanRefusal.BadLine = 8
number PlanRefusal.Misplaced = 9
number (PlanRefusal.Call r) = call.number r

-- "A refusal returns its number, and for 2 the index"
abbrev pub value : PlanRefusal → ℕ
value PlanRefusal.TooLong = 0
value PlanRefusal.BadLine = 0
value PlanRefusal.Misplaced = 0
value (PlanRefusal.Call r) = call.value r

-- 0 and 0 where the plan is accepted
abbrev pub number_of : {A : Type 0} → Result A Rejection → ℕ
number_of (Ok x) = 0
number_of (Err r) = number r.refusal

abbrev pub value_of : {A : Type 0} → Result A Rejection → ℕ
value_of (Ok x) = 0
value_of (Err r) = value r.refusal
