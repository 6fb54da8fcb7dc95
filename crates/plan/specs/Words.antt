-- What a refused plan's refusal prints as.
use Rattle.std.specs.Prelude.{ℕ, List, ◌++◌, codes, ◌==◌, if◌then◌else◌}
use Rattle.std.specs.Fmt.{decimal}
use Rattle.table.specs.Words as call
use Rattle.plan.specs.declared.refusal.PlanRefusal.{PlanRefusal}
use Rattle.plan.specs.declared.refusal.Rejection.{Rejection}

-- the words of the table of refusals
abbrev pub word : PlanRefusal → List ℕ
word PlanRefusal.TooLong = codes "plan too long"
word PlanRefusal.BadLine = codes "bad line"
word PlanRefusal.Misplaced = codes "line misplaced"
word (PlanRefusal.Call r) = call.word r

-- with its line, where it has one
abbrev pub words : Rejection → List ℕ
words r = if r.line == 0 then word r.refusal else codes "line " ++ decimal r.line ++ codes ": " ++ word r.refusal
