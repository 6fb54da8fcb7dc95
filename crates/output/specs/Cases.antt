-- What some plans print, computed.
use Rattle.std.specs.Prelude.{ℕ, ◌≡◌, refl, List, [], ◌∷◌}
use Rattle.lists.specs.Lists.{overlay}
use Rattle.text.specs.Cases as text
use Rattle.plan.specs.Plan as plan
use Rattle.output.specs.Output.{schedule_text, rules}
use Rattle.output.specs.Printed as printed
use Rattle.output.specs.Printed.{over_x}

-- document 01's listing; 02: "The listing in 01 gains `E,8,3,1,4,0`"
the_listing :
    schedule_text (84 ∷ 44 ∷ 51 ∷ 44 ∷ 54 ∷ 44 ∷ 50 ∷ 44 ∷ 54 ∷ 10 ∷ 83 ∷ 44 ∷ 50 ∷ 44 ∷ 48 ∷ 44 ∷ 53 ∷ 44 ∷ 50 ∷ 10 ∷ 65 ∷ 44 ∷ 51 ∷ 44 ∷ 55 ∷ 44 ∷ 52 ∷ 10 ∷ 82 ∷ 44 ∷ 56 ∷ 10 ∷ []) ≡
    66 ∷ 44 ∷ 48 ∷ 44 ∷ 54 ∷ 10 ∷ 66 ∷ 44 ∷ 83 ∷ 44 ∷ 50 ∷ 10 ∷ 86 ∷ 44 ∷ 49 ∷ 10 ∷ 88 ∷ 44 ∷ 48 ∷ 44 ∷ 73 ∷ 44 ∷ 48 ∷ 44 ∷ 48 ∷ 10 ∷ 88 ∷ 44 ∷ 49 ∷ 44 ∷ 73 ∷ 44 ∷ 48 ∷ 44 ∷ 48 ∷ 10 ∷ 88 ∷ 44 ∷ 50 ∷ 44 ∷ 73 ∷ 44 ∷ 48 ∷ 44 ∷ 48 ∷ 10 ∷ 88 ∷ 44 ∷ 51 ∷ 44 ∷ 65 ∷ 44 ∷ 55 ∷ 44 ∷ 48 ∷ 10 ∷ 88 ∷ 44 ∷ 52 ∷ 44 ∷ 65 ∷ 44 ∷ 55 ∷ 44 ∷ 48 ∷ 10 ∷ 88 ∷ 44 ∷ 53 ∷ 44 ∷ 65 ∷ 44 ∷ 55 ∷ 44 ∷ 48 ∷ 10 ∷ 88 ∷ 44 ∷ 54 ∷ 44 ∷ 65 ∷ 44 ∷ 55 ∷ 44 ∷ 48 ∷ 10 ∷ 70 ∷ 44 ∷ 54 ∷ 44 ∷ 55 ∷ 44 ∷ 52 ∷ 10 ∷ 88 ∷ 44 ∷ 55 ∷ 44 ∷ 84 ∷ 44 ∷ 48 ∷ 44 ∷ 48 ∷ 10 ∷ 69 ∷ 44 ∷ 56 ∷ 44 ∷ 51 ∷ 44 ∷ 49 ∷ 44 ∷ 52 ∷ 44 ∷ 48 ∷ 10 ∷ []
unfolding rules text.rules plan.rules overlay
the_listing = refl

-- a refused plan prints its Z line alone
refused_plan_lem :
    schedule_text (82 ∷ 44 ∷ 56 ∷ []) ≡
    90 ∷ 44 ∷ 56 ∷ 44 ∷ 49 ∷ 10 ∷ []
unfolding rules text.rules plan.rules overlay
refused_plan_lem = refl

-- no tick: the head and `E,0,0,0,0,0`; kind 0 prints B,S,0
no_ticks :
    schedule_text (84 ∷ 44 ∷ 51 ∷ 44 ∷ 54 ∷ 44 ∷ 50 ∷ 44 ∷ 54 ∷ 10 ∷ 83 ∷ 44 ∷ 48 ∷ 44 ∷ 49 ∷ 44 ∷ 48 ∷ 44 ∷ 48 ∷ 10 ∷ 65 ∷ 44 ∷ 48 ∷ 44 ∷ 55 ∷ 44 ∷ 52 ∷ 10 ∷ 82 ∷ 44 ∷ 48 ∷ 10 ∷ []) ≡
    66 ∷ 44 ∷ 48 ∷ 44 ∷ 50 ∷ 10 ∷ 66 ∷ 44 ∷ 83 ∷ 44 ∷ 48 ∷ 10 ∷ 86 ∷ 44 ∷ 49 ∷ 10 ∷ 69 ∷ 44 ∷ 48 ∷ 44 ∷ 48 ∷ 44 ∷ 48 ∷ 44 ∷ 48 ∷ 44 ∷ 48 ∷ 10 ∷ []
unfolding rules text.rules plan.rules overlay
no_ticks = refl

-- an A line at the end, of tick 1 in a plan of one tick, is not presented
at_the_end :
    schedule_text (84 ∷ 44 ∷ 51 ∷ 44 ∷ 54 ∷ 44 ∷ 50 ∷ 44 ∷ 54 ∷ 10 ∷ 83 ∷ 44 ∷ 48 ∷ 44 ∷ 49 ∷ 44 ∷ 48 ∷ 44 ∷ 48 ∷ 10 ∷ 65 ∷ 44 ∷ 49 ∷ 44 ∷ 55 ∷ 44 ∷ 52 ∷ 10 ∷ 82 ∷ 44 ∷ 49 ∷ 10 ∷ []) ≡
    66 ∷ 44 ∷ 48 ∷ 44 ∷ 50 ∷ 10 ∷ 66 ∷ 44 ∷ 83 ∷ 44 ∷ 48 ∷ 10 ∷ 86 ∷ 44 ∷ 49 ∷ 10 ∷ 88 ∷ 44 ∷ 48 ∷ 44 ∷ 73 ∷ 44 ∷ 48 ∷ 44 ∷ 48 ∷ 10 ∷ 69 ∷ 44 ∷ 49 ∷ 44 ∷ 49 ∷ 44 ∷ 48 ∷ 44 ∷ 48 ∷ 44 ∷ 48 ∷ 10 ∷ []
unfolding rules text.rules plan.rules overlay
at_the_end = refl

-- three tasks, a table that is not admitted: a tick with two drops and three releases
two-drops :
    schedule_text (84 ∷ 44 ∷ 48 ∷ 44 ∷ 50 ∷ 44 ∷ 49 ∷ 44 ∷ 50 ∷ 10 ∷ 84 ∷ 44 ∷ 48 ∷ 44 ∷ 50 ∷ 44 ∷ 50 ∷ 44 ∷ 50 ∷ 10 ∷ 84 ∷ 44 ∷ 48 ∷ 44 ∷ 50 ∷ 44 ∷ 50 ∷ 44 ∷ 50 ∷ 10 ∷ 83 ∷ 44 ∷ 48 ∷ 44 ∷ 51 ∷ 44 ∷ 48 ∷ 44 ∷ 48 ∷ 10 ∷ 82 ∷ 44 ∷ 51 ∷ 10 ∷ []) ≡
    66 ∷ 44 ∷ 48 ∷ 44 ∷ 49 ∷ 10 ∷ 66 ∷ 44 ∷ 49 ∷ 44 ∷ 48 ∷ 10 ∷ 66 ∷ 44 ∷ 50 ∷ 44 ∷ 48 ∷ 10 ∷ 66 ∷ 44 ∷ 83 ∷ 44 ∷ 48 ∷ 10 ∷ 86 ∷ 44 ∷ 48 ∷ 10 ∷ 88 ∷ 44 ∷ 48 ∷ 44 ∷ 84 ∷ 44 ∷ 48 ∷ 44 ∷ 48 ∷ 10 ∷ 88 ∷ 44 ∷ 49 ∷ 44 ∷ 84 ∷ 44 ∷ 49 ∷ 44 ∷ 48 ∷ 10 ∷ 88 ∷ 44 ∷ 50 ∷ 44 ∷ 84 ∷ 44 ∷ 48 ∷ 44 ∷ 50 ∷ 10 ∷ 69 ∷ 44 ∷ 51 ∷ 44 ∷ 48 ∷ 44 ∷ 51 ∷ 44 ∷ 48 ∷ 44 ∷ 50 ∷ 10 ∷ []
unfolding rules text.rules plan.rules overlay
two-drops = refl

-- sums over X lines, of a text with one idle tick, two of a task and three of requests, drops in three of them, and lines of other letters
-- between them; what is not closed is no line
abbrev some_lines : List ℕ
some_lines =
    66 ∷ 44 ∷ 48 ∷ 44 ∷ 54 ∷ 10 ∷ 78 ∷ 44 ∷ 48 ∷ 44 ∷ 55 ∷ 44 ∷ 53 ∷ 10 ∷ 88 ∷ 44 ∷ 48 ∷ 44 ∷ 73 ∷ 44 ∷ 48 ∷ 44 ∷ 49 ∷ 10 ∷ 88 ∷ 44 ∷ 49 ∷ 44 ∷ 84 ∷ 44 ∷ 51 ∷ 44 ∷ 48 ∷ 10
    ∷ 88 ∷ 44 ∷ 50 ∷ 44 ∷ 65 ∷ 44 ∷ 54 ∷ 53 ∷ 44 ∷ 49 ∷ 48 ∷ 10 ∷ 70 ∷ 44 ∷ 50 ∷ 44 ∷ 54 ∷ 53 ∷ 44 ∷ 51 ∷ 10 ∷ 88 ∷ 44 ∷ 51 ∷ 44 ∷ 65 ∷ 44 ∷ 55 ∷ 44 ∷ 48 ∷ 10 ∷ 88 ∷ 44 ∷ 52 ∷ 44 ∷ 84 ∷ 44 ∷ 51 ∷ 44 ∷ 48 ∷ 10
    ∷ 88 ∷ 44 ∷ 53 ∷ 44 ∷ 65 ∷ 44 ∷ 55 ∷ 44 ∷ 50 ∷ 10 ∷ 69 ∷ 44 ∷ 54 ∷ 44 ∷ 49 ∷ 44 ∷ 50 ∷ 44 ∷ 51 ∷ 44 ∷ 49 ∷ 51 ∷ 10 ∷ 88 ∷ 44 ∷ 54 ∷ 44 ∷ 73 ∷ 44 ∷ 48 ∷ 44 ∷ 57 ∷ []

some-sums :
    (over_x printed.ticks some_lines ≡ 6) × (over_x printed.idle some_lines ≡ 1) × (over_x printed.rows some_lines ≡ 2) × (over_x printed.requests some_lines ≡ 3)
    × (over_x printed.drops some_lines ≡ 13)
unfolding plan.rules
some-sums = (refl, refl, refl, refl, refl)
