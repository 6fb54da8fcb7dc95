-- Lines of document 01's listing, and the others, computed.
use Rattle.std.specs.Prelude.{◌≡◌, refl, true, false, [], ◌∷◌}
use Rattle.text.specs.Cases.{rules}
use Rattle.text.specs.Lines.{line_bytes}
use Rattle.lines.specs.Lines.{task_bound_line, server_bound_line, admitted_line, refused_line, tick_line, finish_line, totals_line, plan_refused_line}

-- B,0,6
task_bound_lem : line_bytes (task_bound_line 0 6) ≡ 66 ∷ 44 ∷ 48 ∷ 44 ∷ 54 ∷ 10 ∷ []
unfolding rules
task_bound_lem = refl

-- B,S,2
server_bound_lem : line_bytes (server_bound_line 2) ≡ 66 ∷ 44 ∷ 83 ∷ 44 ∷ 50 ∷ 10 ∷ []
unfolding rules
server_bound_lem = refl

-- V,1 and V,0
admitted : line_bytes (admitted_line true) ≡ 86 ∷ 44 ∷ 49 ∷ 10 ∷ []
unfolding rules
admitted = refl

not_admitted : line_bytes (admitted_line false) ≡ 86 ∷ 44 ∷ 48 ∷ 10 ∷ []
unfolding rules
not_admitted = refl

-- X,3,A,7,0
tick-three : line_bytes (tick_line 3 65 7 0) ≡ 88 ∷ 44 ∷ 51 ∷ 44 ∷ 65 ∷ 44 ∷ 55 ∷ 44 ∷ 48 ∷ 10 ∷ []
unfolding rules
tick-three = refl

-- F,6,7,4
finish_six : line_bytes (finish_line 6 7 4) ≡ 70 ∷ 44 ∷ 54 ∷ 44 ∷ 55 ∷ 44 ∷ 52 ∷ 10 ∷ []
unfolding rules
finish_six = refl

-- N,12,7,5
refused_twelve : line_bytes (refused_line 12 7 5) ≡ 78 ∷ 44 ∷ 49 ∷ 50 ∷ 44 ∷ 55 ∷ 44 ∷ 53 ∷ 10 ∷ []
unfolding rules
refused_twelve = refl

-- E,8,3,1,4,0
totals_eight : line_bytes (totals_line 8 3 1 4 0) ≡ 69 ∷ 44 ∷ 56 ∷ 44 ∷ 51 ∷ 44 ∷ 49 ∷ 44 ∷ 52 ∷ 44 ∷ 48 ∷ 10 ∷ []
unfolding rules
totals_eight = refl

-- Z,9,1
plan-refused : line_bytes (plan_refused_line 9 1) ≡ 90 ∷ 44 ∷ 57 ∷ 44 ∷ 49 ∷ 10 ∷ []
unfolding rules
plan-refused = refl
