-- The text of fields and of each kind of line, as it is printed.
use Rattle.std.specs.Prelude.{ℕ, ◌≤◌, List, [], ◌∷◌, ◌++◌}
use Rattle.server.specs.declared.Server.{Server}
use Rattle.table.specs.declared.Task.{Task}
use Rattle.text.specs.Decimal.{decimal}
use Rattle.plan.specs.declared.line.Arrival.{Arrival}
use Rattle.plan.specs.Text.{max_number}

-- numbers parted by commas: v and those after it
abbrev pub fields : ℕ → List ℕ → List ℕ
fields v [] = decimal v
fields v (w ∷ vs) = decimal v ++ 44 ∷ fields w vs

-- each is a number that a field may hold
abbrev pub AllFit : ℕ → List ℕ → Type 0
AllFit v [] = v ≤ max_number
AllFit v (w ∷ vs) = (v ≤ max_number) × AllFit w vs

-- ---- lines: "T,f,p,e,D", "S,kind,s,P,B", "A,tick,id,work", "R,ticks"
abbrev pub task_text : Task → List ℕ
task_text x = 84 ∷ 44 ∷ fields x.phase (x.period ∷ x.exec ∷ x.deadline ∷ [])

abbrev pub server_text : Server → List ℕ
server_text s = 83 ∷ 44 ∷ fields s.kind (s.place ∷ s.period ∷ s.budget ∷ [])

abbrev pub arrival_text : Arrival → List ℕ
arrival_text a = 65 ∷ 44 ∷ fields a.tick (a.id ∷ a.work ∷ [])

abbrev pub run_text : ℕ → List ℕ
run_text n = 82 ∷ 44 ∷ fields n []
