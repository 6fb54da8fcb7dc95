-- Calls as numbers, and what is reported of lists of them, by computation: the figures are worked out by hand.
use Rattle.std.specs.Prelude.{ℕ, ◌≡◌, refl, Bool, true, false, List, [], ◌∷◌, replicate}
use Rattle.lists.specs.Lists.{overlay}
use Rattle.rules.specs.Block.{idle_entries}
use Rattle.table.specs.declared.Table.{Table}
use Rattle.rules.specs.Play.{task, server, table}
use Rattle.guarantee.specs.Calls.{request, tick, run}
use Rattle.play.specs.declared.Report.{Report}
use Rattle.play.specs.Numbers.{calls_of}
use Rattle.play.specs.Report.{reported}

-- a request with id 7 and work 4, a tick, a run of 9 ticks, and a number that says nothing
as_numbers : calls_of (0 ∷ 7 ∷ 4 ∷ 1 ∷ 0 ∷ 0 ∷ 2 ∷ 9 ∷ 0 ∷ 5 ∷ []) ≡ request 7 4 ∷ tick ∷ run 9 idle_entries ∷ []
as_numbers = refl

-- ---- tables
-- "One row 3,6,2,6; server s 0, P 5, B 2", deferrable, and the same "With D = 5"
abbrev marked : Table
marked = table (task 3 6 2 6 ∷ []) (server 2 0 5 2)

abbrev tight : Table
tight = table (task 3 6 2 5 ∷ []) (server 2 0 5 2)

-- Three rows of which the first takes every tick: the other two are dropped at tick 2, at tick 4 and so on.
abbrev crowded : Table
crowded = table (replicate 3 (task 0 2 2 2)) (server 0 3 0 0)

-- a table that says 17 tasks are in use
abbrev broken : Table
broken = record { tasks = marked.tasks; n = 17; server = marked.server }

-- what is reported of a table and of calls written as numbers
abbrev reports : Table → List ℕ → Report
reports t numbers = reported t (calls_of numbers)

-- whether it is admitted, how many ticks ran, and their drops
pub record Counts (r : Report) (admitted : Bool) (ticks drops : ℕ) : Type 0 where
  pub admits : r.admitted ≡ admitted
  pub runs : r.ticks ≡ ticks
  pub dropped : r.drops ≡ drops

-- the cases, each by its table and its calls
pub record Cases : Type 0 where
  -- id 7, work 4, presented at tick 3: with D = 6 nothing is dropped
  pub marked-none : Counts (reports marked (2 ∷ 3 ∷ 0 ∷ 0 ∷ 7 ∷ 4 ∷ 2 ∷ 6 ∷ 0 ∷ [])) true 9 0
  -- "With D = 5 deferrable: .. tick 8 drops one": the drop comes by a tick call, and by a run
  pub tick-drops : Counts (reports tight (2 ∷ 3 ∷ 0 ∷ 0 ∷ 7 ∷ 4 ∷ 2 ∷ 5 ∷ 0 ∷ 1 ∷ 0 ∷ 0 ∷ [])) false 9 1
  pub run-drops : Counts (reports tight (2 ∷ 3 ∷ 0 ∷ 0 ∷ 7 ∷ 4 ∷ 2 ∷ 6 ∷ 0 ∷ [])) false 9 1
  -- two at tick 2, in a run, and two at tick 4, by a tick call; a run of 33 in between is refused and runs none
  pub summed : Counts (reports crowded (2 ∷ 3 ∷ 0 ∷ 2 ∷ 33 ∷ 0 ∷ 1 ∷ 0 ∷ 0 ∷ 1 ∷ 0 ∷ 0 ∷ [])) false 5 4
  -- the longest run there may be, and one tick more
  pub longest : (reports marked (2 ∷ 32 ∷ 0 ∷ [])).ticks ≡ 32
  pub too_long : (reports marked (2 ∷ 33 ∷ 0 ∷ [])).ticks ≡ 0
  -- of a table that breaks its limits every call is refused
  pub refused : Counts (reports broken (0 ∷ 7 ∷ 4 ∷ 1 ∷ 0 ∷ 0 ∷ 2 ∷ 9 ∷ 0 ∷ [])) false 0 0
  -- 8/13: the marked request has had three of its four ticks, and all; another has none yet
  pub waiting : (reports marked (2 ∷ 3 ∷ 0 ∷ 0 ∷ 7 ∷ 4 ∷ 2 ∷ 3 ∷ 0 ∷ [])).waiting ≡ 1
  pub none-waiting : (reports marked (2 ∷ 3 ∷ 0 ∷ 0 ∷ 7 ∷ 4 ∷ 2 ∷ 4 ∷ 0 ∷ [])).waiting ≡ 0
  pub two-waiting : (reports marked (2 ∷ 3 ∷ 0 ∷ 0 ∷ 7 ∷ 4 ∷ 2 ∷ 3 ∷ 0 ∷ 0 ∷ 8 ∷ 9 ∷ [])).waiting ≡ 10

pub cases : Cases
unfolding overlay
cases = record {
  marked-none = record { admits = refl; runs = refl; dropped = refl };
  tick-drops = record { admits = refl; runs = refl; dropped = refl };
  run-drops = record { admits = refl; runs = refl; dropped = refl };
  summed = record { admits = refl; runs = refl; dropped = refl };
  longest = refl;
  too_long = refl;
  refused = record { admits = refl; runs = refl; dropped = refl };
  waiting = refl;
  none-waiting = refl;
  two-waiting = refl;
}
