-- Document 01's marked cases, by the calls on the structs, as one table. Where request 5/13 overrules a figure, the new one stands here.
use Rattle.std.specs.Prelude.{ℕ, ◌≡◌, refl, true, false, List, [], ◌∷◌, map, take, None, Result, Some, Option, Ok}
use Rattle.lists.specs.Lists.{overlay}
use Rattle.server.specs.declared.Server.{Server}
use Rattle.queue.specs.declared.Finished.{Finished}
use Rattle.table.specs.declared.Task.{Task}
use Rattle.bounds.specs.Admission.{admission_of}
use Rattle.rules.specs.declared.Ticked.{Ticked}
use Rattle.rules.specs.declared.Occupant.{Occupant}
use Rattle.rules.specs.Play.{task, server, table, Arrival, at, played, responses, drops_of}
use Rattle.table.specs.declared.Refusal.{Refusal}

-- "One row 3,6,2,6; server s 0, P 5, B 2 (background: s 1, P 0, B 0); id 7, work 4, presented at tick 3."
abbrev row : List Task
row = task 3 6 2 6 ∷ []

abbrev one : ℕ → Server
one kind = server kind 0 5 2

abbrev once : List Arrival
once = at 3 7 4 ∷ []

-- "With D = 5"
abbrev tight : List Task
tight = task 3 6 2 5 ∷ []

-- "Row 0,10,6,10 above a sporadic server, B 2, work 4 at tick 0"
abbrev long : List Task
long = task 0 10 6 10 ∷ []

abbrev early : List Arrival
early = at 0 7 4 ∷ []

-- the bound of a table of one task
abbrev bound : List Task → Server → List ℕ
bound xs s = take 1 (admission_of (table xs s)).bounds

abbrev ran : Occupant → ℕ → Option Finished → Result Ticked Refusal
ran o d f = Ok (record { occupant = o; drops = d; finished = f })

abbrev idle : Result Ticked Refusal
idle = ran Occupant.Idle 0 None

abbrev serving : Result Ticked Refusal
serving = ran (Occupant.Request 7) 0 None

pub record MarkedCases : Type 0 where
  -- the listing: its B and V lines, its X lines and its F line
  pub listing-bound : bound row (one 2) ≡ 6 ∷ []
  pub listing-server : (admission_of (table row (one 2))).serverbound ≡ 2
  pub listing-admitted : (admission_of (table row (one 2))).admitted ≡ true
  pub listing-ticks : played row (one 2) once 8 ≡
      idle ∷ idle ∷ idle ∷ serving ∷ serving ∷ serving ∷ ran (Occupant.Request 7) 0 (Some (record { id = 7; response = 4 }))
      ∷ ran (Occupant.Task 0) 0 None ∷ []
  -- "Responses: background 6, .. deferrable 4 .. (four cases)." 5/13: "In 01's marked cases polling now responds in 6 and sporadic in 6" (for 9 and 7)
  pub background_responds : responses (played row (server 0 1 0 0) once 10) ≡ 6 ∷ []
  pub polling_responds : responses (played row (one 1) once 9) ≡ 6 ∷ []
  pub deferrable_responds : responses (played row (one 2) once 8) ≡ 4 ∷ []
  pub sporadic_responds : responses (played row (one 3) once 9) ≡ 6 ∷ []
  -- 3/13: served at 3, 4 and, when tick 3 comes back, at 8, with the idle tick 7 of 5/13 between; work of 4 from tick 1 with P = 4 at 1, 2, 5, 6
  -- (deferrable 1, 2, 4, 5)
  pub returning_responds : responses (played row (one 4) once 9) ≡ 6 ∷ []
  pub returning_by-tick : responses (played row (server 4 0 4 2) (at 1 7 4 ∷ []) 8) ≡ 6 ∷ []
  pub deferrable_by-period : responses (played row (server 2 0 4 2) (at 1 7 4 ∷ []) 8) ≡ 5 ∷ []
  pub returning_bound : bound row (one 4) ≡ 4 ∷ []
  -- "Row bounds: polling 4, deferrable 6, sporadic 4 (three)."
  pub polling_bound : bound row (one 1) ≡ 4 ∷ []
  pub deferrable_bound : bound row (one 2) ≡ 6 ∷ []
  pub sporadic_bound : bound row (one 3) ≡ 4 ∷ []
  -- "With D = 5 deferrable: bound 0, and tick 8 drops one (two)."
  pub tight-bound : bound tight (one 2) ≡ 0 ∷ []
  pub tight-admitted : (admission_of (table tight (one 2))).admitted ≡ false
  pub tight-drops : map drops_of (played tight (one 2) once 9) ≡ 0 ∷ 0 ∷ 0 ∷ 0 ∷ 0 ∷ 0 ∷ 0 ∷ 0 ∷ 1 ∷ []
  -- "Polling, works of 1 at ticks 5 and 6": 5/13, "the polling case with works at ticks 5 and 6 now responds in 1" (for 5)
  pub polling_twice : responses (played row (one 1) (at 5 7 1 ∷ at 6 8 1 ∷ []) 12) ≡ 1 ∷ 1 ∷ []
  -- "P 5 (late) .., P 6 (te + P = tf)": 5/13, "and the two cases of the row above a sporadic server in 10" (the second for 18)
  pub sporadic_late : responses (played long (server 3 1 5 2) early 19) ≡ 10 ∷ []
  pub sporadic_meets : responses (played long (server 3 1 6 2) early 19) ≡ 10 ∷ []

pub marked-cases : MarkedCases
unfolding overlay
marked-cases = record {
  listing-bound = refl;
  listing-server = refl;
  listing-admitted = refl;
  listing-ticks = refl;
  background_responds = refl;
  polling_responds = refl;
  deferrable_responds = refl;
  sporadic_responds = refl;
  returning_responds = refl;
  returning_by-tick = refl;
  deferrable_by-period = refl;
  returning_bound = refl;
  polling_bound = refl;
  deferrable_bound = refl;
  sporadic_bound = refl;
  tight-bound = refl;
  tight-admitted = refl;
  tight-drops = refl;
  polling_twice = refl;
  sporadic_late = refl;
  sporadic_meets = refl;
}
