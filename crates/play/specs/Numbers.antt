-- A list of calls written as numbers, three to a call. The first says what the call is: 0 a request, 1 a tick, any other number a run.
-- The second is a request's id or how many ticks a run has, the third a request's work; where a call has no such number, it is not read.
-- A run is lent a list of idle entries, as many as a block has (`block_ticks`, 32). So a run of 0 to 32 ticks may run; a longer one is
-- refused, by 10 where not by 11 or 6. Numbers past the last whole call say nothing.
use Rattle.std.specs.Prelude.{ℕ, zero, suc, List, [], ◌∷◌}
use Rattle.rules.specs.Block.{idle_entries}
use Rattle.guarantee.specs.Calls.{Call, request, tick, run}

abbrev pub call_of : ℕ → ℕ → ℕ → Call
call_of zero id work = request id work
call_of (suc zero) x y = tick
call_of (suc (suc n)) k y = run k idle_entries

abbrev pub calls_of : List ℕ → List Call
calls_of [] = []
calls_of (what ∷ []) = []
calls_of (what ∷ id ∷ []) = []
calls_of (what ∷ id ∷ work ∷ rest) = call_of what id work ∷ calls_of rest
