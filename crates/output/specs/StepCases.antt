-- Some steps of the printing of a plan, computed.
use Rattle.std.specs.Prelude.{ℕ, ◌≡◌, refl, List, [], ◌∷◌, Some, None, Result, Ok, Err}
use Rattle.lists.specs.Lists.{overlay}
use Rattle.table.specs.declared.Table.{Table}
use Rattle.text.specs.Cases as text
use Rattle.plan.specs.declared.reading.Plan.{Plan}
use Rattle.plan.specs.declared.refusal.Rejection.{Rejection}
use Rattle.plan.specs.Plan as plan
use Rattle.plan.specs.Plan.{blank, plan_of}
use Rattle.output.specs.Output.{rules}
use Rattle.output.specs.Steps.{Step, first_place, step_from, steps_from}

-- the table of an accepted plan, and of a refused one a table with nothing in it
abbrev table_in : Result Plan Rejection → Table
table_in (Ok p) = p.table
table_in (Err r) = blank

-- an A line at the end, of tick 1 in a plan of one tick
abbrev one_tick : List ℕ
one_tick = 84 ∷ 44 ∷ 51 ∷ 44 ∷ 54 ∷ 44 ∷ 50 ∷ 44 ∷ 54 ∷ 10 ∷ 83 ∷ 44 ∷ 48 ∷ 44 ∷ 49 ∷ 44 ∷ 48 ∷ 44 ∷ 48 ∷ 10 ∷ 65 ∷ 44 ∷ 49 ∷ 44 ∷ 55 ∷ 44 ∷ 52 ∷ 10 ∷ 82 ∷ 44 ∷ 49 ∷ 10 ∷ []

-- some steps from the start of that plan, of as many ticks as are asked for
abbrev begun : ℕ → ℕ → Step
begun ticks n = steps_from one_tick ticks n (first_place one_tick (table_in (plan_of one_tick)))

-- of one tick: five steps are that tick and then nothing, and the A line still stands to be presented
end_stays :
    ((begun 1 5).place.tick ≡ 1) × ((begun 1 5).place.next ≡ Some (record { tick = 1; id = 7; work = 4 }, 28))
    × ((begun 1 5).text ≡ 88 ∷ 44 ∷ 48 ∷ 44 ∷ 73 ∷ 44 ∷ 48 ∷ 44 ∷ 48 ∷ 10 ∷ [])
unfolding rules text.rules plan.rules overlay first_place step_from steps_from
end_stays = (refl, refl, refl)

-- of two: the second step presents the A line, before its tick, and the third is that tick
arrival-steps : ((begun 2 2).place.tick ≡ 1) × ((begun 2 2).place.next ≡ None) × ((begun 2 3).place.tick ≡ 2)
unfolding rules text.rules plan.rules overlay first_place step_from steps_from
arrival-steps = (refl, refl, refl)
