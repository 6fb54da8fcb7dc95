-- Cases of kind 4's rules, at every edge, worked out apart from the definitions.
use Rattle.std.specs.Prelude.{ℕ, zero, suc, ◌+◌, ◌≡◌, refl, Bool, true, false, not, ◌&&◌, List, [], ◌∷◌, map, length, leb}
use Rattle.lists.specs.Lists.{overlay}
use Rattle.server.specs.declared.Server.{Server}
use Rattle.server.specs.declared.Stretch.{Stretch}
use Rattle.server.specs.declared.Returns.{Returns}
use Rattle.server.specs.declared.Seen.{Seen}
use Rattle.server.specs.Kind.{Kind, background, polling, deferrable, sporadic, returning}
use Rattle.server.specs.Server.{fresh_sporadic, server_demand}
use Rattle.server.specs.Returns.{grown, held_fits, returns_fit, held_of, fresh_returns, written_returns}
use Rattle.server.specs.Whole.{Whole, whole, fresh_whole, replenish_whole, eligible_whole, consume_whole, whole_fits}

abbrev server : ℕ → ℕ → Server
server p b = record { kind = 4; place = 0; period = p; budget = b }

abbrev st : ℕ → ℕ → Stretch
st a n = record { start = a; length = n }

abbrev at : ℕ → List Stretch → Whole
at b us = whole (record { budget = b; sporadic = fresh_sporadic }) us

-- a server played alone from its fresh state: in each tick something above runs or not, and a request waits or not
pub record Brings : Type 0 where
  pub above : Bool
  pub waits : Bool

abbrev asks : Brings
asks = record { above = false; waits = true }

abbrev idle : Brings
idle = record { above = false; waits = false }

abbrev over : Brings
over = record { above = true; waits = true }

abbrev seen : ℕ → Brings → Whole → Seen
seen t i x = record {
  t = t;
  above = i.above;
  busy = i.above;
  serves = not i.above && eligible_whole returning t i.waits x;
  waited = i.waits;
  emptied = not i.waits;
}

abbrev after : Server → ℕ → Brings → Whole → Whole
after s t i x = let y = replenish_whole returning s x t i.above in consume_whole returning s y (seen t i y)

abbrev states_from : Server → ℕ → List Brings → Whole → List Whole
states_from s t [] x = []
states_from s t (i ∷ is) x = let y = after s t i x in y ∷ states_from s (suc t) is y

abbrev states : Server → List Brings → List Whole
states s is = states_from s 0 is (fresh_whole returning s)

-- n stretches of one tick: ticks 0, 2, 4, ..
abbrev dots : ℕ → ℕ → List Stretch
dots zero a = []
dots (suc n) a = st a 1 ∷ dots n (a + 2)

-- and after `dots`, one more
abbrev then : List Stretch → Stretch → List Stretch
then [] u = u ∷ []
then (v ∷ vs) u = v ∷ then vs u

abbrev case_fits : Server → ℕ → Whole → Bool
case_fits s clock x = leb (length x.returns) 32 && held_fits s clock x.part.budget x.returns

abbrev fits : ℕ → ℕ → List Stretch → Bool
fits clock b us = case_fits (server 6 3) clock (at b us)

-- the array, its 32 slots with a tick each
abbrev slots : ℕ → Returns
slots n = record { stretches = dots 32 0; n = n }

abbrev kinds : List Kind
kinds = background ∷ polling ∷ deferrable ∷ sporadic ∷ returning ∷ []

-- what is held after a served tick 10, with ticks 4 and 5 held before it
abbrev held_by : Kind → List Stretch
held_by k = (consume_whole k (server 6 3) (replenish_whole k (server 6 3) (at 1 (st 4 2 ∷ [])) 10 false) (seen 10 asks (at 1 []))).returns

pub record ReturnsCases : Type 0 where
  -- B = 2, P = 4: ticks 0 and 1 are served, 2 and 3 not; 0 comes back at 4 and is served on, 1 at 5; a tick above delays nothing back
  pub played : states (server 4 2) (asks ∷ asks ∷ asks ∷ asks ∷ asks ∷ over ∷ asks ∷ idle ∷ idle ∷ []) ≡
      at 1 (st 0 1 ∷ [])
      ∷ at 0 (st 0 2 ∷ [])
      ∷ at 0 (st 0 2 ∷ [])
      ∷ at 0 (st 0 2 ∷ [])
      ∷ at 0 (st 1 1 ∷ st 4 1 ∷ [])
      ∷ at 1 (st 4 1 ∷ [])
      ∷ at 0 (st 4 1 ∷ st 6 1 ∷ [])
      ∷ at 0 (st 4 1 ∷ st 6 1 ∷ [])
      ∷ at 1 (st 6 1 ∷ [])
      ∷ []
  -- B = P: always served, one stretch that moves along
  pub always : states (server 2 2) (asks ∷ asks ∷ asks ∷ asks ∷ []) ≡ at 1 (st 0 1 ∷ []) ∷ at 0 (st 0 2 ∷ []) ∷ at 0 (st 1 2 ∷ []) ∷ at 0 (st 2 2 ∷ []) ∷ []
  -- P = 1: a tick comes back in the next, before it is asked for again
  pub shortest : states (server 1 1) (asks ∷ asks ∷ idle ∷ []) ≡ at 0 (st 0 1 ∷ []) ∷ at 0 (st 1 1 ∷ []) ∷ at 1 [] ∷ []
  -- step 3 at u + P, not a tick before or after; the stretch keeps its later ticks, or goes
  pub back_early : replenish_whole returning (server 6 3) (at 1 (st 4 2 ∷ [])) 9 false ≡ at 1 (st 4 2 ∷ [])
  pub back_now : replenish_whole returning (server 6 3) (at 1 (st 4 2 ∷ [])) 10 false ≡ at 2 (st 5 1 ∷ [])
  pub back_last : replenish_whole returning (server 6 3) (at 2 (st 4 1 ∷ [])) 10 true ≡ at 3 []
  pub back_first_only : replenish_whole returning (server 6 3) (at 1 (st 4 1 ∷ st 6 1 ∷ [])) 10 false ≡ at 2 (st 6 1 ∷ [])
  pub back_none : replenish_whole returning (server 6 3) (at 3 []) 12 false ≡ at 3 []
  -- it does not come back with the period, as the deferrable server's budget does
  pub no_period : replenish_whole returning (server 6 3) (at 1 (st 9 2 ∷ [])) 12 false ≡ at 1 (st 9 2 ∷ [])
  -- step 4: a request, a budget and room; 31 held, 32 held, 32 held with the last one ending here
  pub asked : map (λ (w : Bool). eligible_whole returning 9 w (at 1 [])) (true ∷ false ∷ []) ≡ true ∷ false ∷ []
  pub spent : eligible_whole returning 9 true (at 0 []) ≡ false
  pub room_31 : eligible_whole returning 99 true (at 1 (dots 31 0)) ≡ true
  pub room_32 : eligible_whole returning 99 true (at 1 (dots 32 0)) ≡ false
  pub room_32_open : eligible_whole returning 64 true (at 1 (dots 32 0)) ≡ false
  pub room_32_on : eligible_whole returning 63 true (at 1 (dots 32 0)) ≡ true
  -- other kinds do not ask for room
  pub room-other : eligible_whole deferrable 99 true (at 1 (dots 32 0)) ≡ true
  -- a return that empties a stretch frees its place in the same tick: tick 0 comes back at 80, and 80 is served as the 32nd
  pub freed : after (server 80 40) 80 asks (at 8 (dots 32 0)) ≡ at 8 (then (dots 31 2) (st 80 1))
  -- 32 held and none freed: not served, and nothing changes
  pub stuck : after (server 90 40) 80 asks (at 8 (dots 32 0)) ≡ at 8 (dots 32 0)
  -- a return that shortens a stretch frees no place
  pub stuck-shorter : after (server 80 40) 80 asks (at 7 (st 0 2 ∷ dots 31 3)) ≡ at 8 (st 1 1 ∷ dots 31 3)
  -- step 5: on the last stretch, or a new one; unserved nothing
  pub on : grown 7 (st 2 1 ∷ st 5 2 ∷ []) ≡ st 2 1 ∷ st 5 3 ∷ []
  pub anew : grown 8 (st 2 1 ∷ st 5 2 ∷ []) ≡ st 2 1 ∷ st 5 2 ∷ st 8 1 ∷ []
  pub unserved : consume_whole returning (server 6 3) (at 1 (st 5 2 ∷ [])) (seen 7 over (at 1 [])) ≡ at 1 (st 5 2 ∷ [])
  -- fitness: held + b = B; clock 10 and P = 6: ticks 4 to 9
  pub fit_all : fits 10 0 (st 4 1 ∷ st 6 1 ∷ st 9 1 ∷ []) ≡ true
  pub fit_none : fits 10 3 [] ≡ true
  pub fit-fresh : case_fits (server 6 3) 0 (fresh_whole returning (server 6 3)) ≡ true
  pub fit_young : fits 2 1 (st 0 2 ∷ []) ≡ true
  pub unfit-less : fits 10 1 (st 4 1 ∷ []) ≡ false
  pub unfit-more : fits 10 3 (st 4 1 ∷ []) ≡ false
  pub unfit-empty : fits 10 2 (st 4 1 ∷ st 7 0 ∷ []) ≡ false
  pub unfit-order : fits 10 1 (st 7 1 ∷ st 4 1 ∷ []) ≡ false
  pub unfit_overlap : fits 10 0 (st 4 2 ∷ st 5 1 ∷ []) ≡ false
  pub unfit_touch : fits 10 1 (st 4 1 ∷ st 5 1 ∷ []) ≡ false
  pub unfit_old : fits 10 2 (st 3 1 ∷ []) ≡ false
  pub unfit-clock : fits 10 2 (st 10 1 ∷ []) ≡ false
  pub unfit-over-clock : fits 10 1 (st 9 2 ∷ []) ≡ false
  pub fit_32 : case_fits (server 90 40) 80 (at 8 (dots 32 0)) ≡ true
  pub unfit_33 : case_fits (server 90 40) 80 (at 7 (dots 33 0)) ≡ false
  -- the count of an array of 32 slots; nothing else is wrong with 33
  pub fit_count : map (λ (n : ℕ). returns_fit (server 90 40) 80 8 (slots n)) (32 ∷ 33 ∷ []) ≡ true ∷ false ∷ []
  -- kind 4 alone is asked for this, holds ticks and gives them back
  pub fit-kinds : map (λ (k : Kind). whole_fits k (server 6 3) 10 1 (slots 33)) kinds ≡ true ∷ true ∷ true ∷ true ∷ false ∷ []
  pub held-kinds : map held_by kinds ≡ (st 4 2 ∷ []) ∷ (st 4 2 ∷ []) ∷ (st 4 2 ∷ []) ∷ (st 4 2 ∷ []) ∷ (st 5 1 ∷ st 10 1 ∷ []) ∷ []
  -- the array: a fresh one holds nothing, one is written over from its front, and one whose count passes 32 stays
  pub fresh_array : held_of fresh_returns ≡ []
  pub written_array : written_returns (slots 2) (st 9 3 ∷ []) ≡ record { stretches = st 9 3 ∷ dots 31 2; n = 1 }
  pub written_odd : written_returns (slots 33) (st 9 3 ∷ []) ≡ slots 33
  -- the demand
  pub demand : map (server_demand returning (server 5 3)) (0 ∷ 1 ∷ 5 ∷ 6 ∷ 10 ∷ 11 ∷ []) ≡ 0 ∷ 3 ∷ 3 ∷ 6 ∷ 6 ∷ 9 ∷ []

pub returns-cases : ReturnsCases
unfolding overlay
returns-cases = record {
  played = refl;
  always = refl;
  shortest = refl;
  back_early = refl;
  back_now = refl;
  back_last = refl;
  back_first_only = refl;
  back_none = refl;
  no_period = refl;
  asked = refl;
  spent = refl;
  room_31 = refl;
  room_32 = refl;
  room_32_open = refl;
  room_32_on = refl;
  room-other = refl;
  freed = refl;
  stuck = refl;
  stuck-shorter = refl;
  on = refl;
  anew = refl;
  unserved = refl;
  fit_all = refl;
  fit_none = refl;
  fit-fresh = refl;
  fit_young = refl;
  unfit-less = refl;
  unfit-more = refl;
  unfit-empty = refl;
  unfit-order = refl;
  unfit_overlap = refl;
  unfit_touch = refl;
  unfit_old = refl;
  unfit-clock = refl;
  unfit-over-clock = refl;
  fit_32 = refl;
  unfit_33 = refl;
  fit_count = refl;
  fit-kinds = refl;
  held-kinds = refl;
  fresh_array = refl;
  written_array = refl;
  written_odd = refl;
  demand = refl;
}
