-- Heads, computed.
use Rattle.std.specs.Prelude.{◌≡◌, refl, true, false, [], ◌∷◌}
use Rattle.text.specs.Cases as text
use Rattle.heading.specs.Heading.{head_text, rules}

-- `B,0,3\nB,1,12\nB,S,2\nV,1\n`: two tasks, a server of budget 2, admitted
two-tasks :
    head_text 2 (record { bounds = 3 ∷ 12 ∷ 0 ∷ 0 ∷ []; serverbound = 2; admitted = true }) ≡
    66 ∷ 44 ∷ 48 ∷ 44 ∷ 51 ∷ 10 ∷ 66 ∷ 44 ∷ 49 ∷ 44 ∷ 49 ∷ 50 ∷ 10 ∷ 66 ∷ 44 ∷ 83 ∷ 44 ∷ 50 ∷ 10 ∷ 86 ∷ 44 ∷ 49 ∷ 10 ∷ []
unfolding rules text.rules
two-tasks = refl

-- `B,0,1\nB,1,0\nB,S,0\nV,0\n`: the second has no bound, so it is not admitted; no server
no_bound :
    head_text 2 (record { bounds = 1 ∷ 0 ∷ 0 ∷ 0 ∷ []; serverbound = 0; admitted = false }) ≡
    66 ∷ 44 ∷ 48 ∷ 44 ∷ 49 ∷ 10 ∷ 66 ∷ 44 ∷ 49 ∷ 44 ∷ 48 ∷ 10 ∷ 66 ∷ 44 ∷ 83 ∷ 44 ∷ 48 ∷ 10 ∷ 86 ∷ 44 ∷ 48 ∷ 10 ∷ []
unfolding rules text.rules
no_bound = refl

-- `B,0,60000\nB,S,10\nV,1\n`: one task, and what stands behind the tasks in use is not printed
one-task :
    head_text 1 (record { bounds = 60000 ∷ 7 ∷ []; serverbound = 10; admitted = true }) ≡
    66 ∷ 44 ∷ 48 ∷ 44 ∷ 54 ∷ 48 ∷ 48 ∷ 48 ∷ 48 ∷ 10 ∷ 66 ∷ 44 ∷ 83 ∷ 44 ∷ 49 ∷ 48 ∷ 10 ∷ 86 ∷ 44 ∷ 49 ∷ 10 ∷ []
unfolding rules text.rules
one-task = refl
