-- A server's whole state: the part that a tick of every kind may change, and kind 4's returns, kept apart. For kinds 0 to 3 each
-- definition computes to the one over the part, and the returns stay unchanged.
use Rattle.std.specs.Prelude.{ℕ, Bool, true, cond, ◌&&◌, List, []}
use Rattle.server.specs.declared.Server.{Server}
use Rattle.server.specs.declared.Stretch.{Stretch}
use Rattle.server.specs.declared.ServerState.{ServerState}
use Rattle.server.specs.declared.Seen.{Seen}
use Rattle.server.specs.Kind.{Kind, background, polling, deferrable, sporadic, returning}
use Rattle.server.specs.declared.Returns.{Returns}
use Rattle.server.specs.Returns.{returns_fit, returned, returned_budget, room_at, grown}
use Rattle.server.specs.Server.{fresh_server, with_budget, replenish, eligible, consume}

pub record Whole : Type 0 where
  pub part : ServerState
  pub returns : List Stretch

abbrev pub whole : ServerState → List Stretch → Whole
whole x us = record { part = x; returns = us }

-- 3/13: "b starts at B", and nothing is held
abbrev pub fresh_whole : Kind → Server → Whole
fresh_whole k s = whole (fresh_server k s) []

-- Step 3: "each served tick u gives one budget tick back at step 3 of tick u + P"
abbrev pub replenish_part : Kind → Server → Whole → ℕ → Bool → ServerState
replenish_part background s x t busy = replenish background s x.part t busy
replenish_part polling s x t busy = replenish polling s x.part t busy
replenish_part deferrable s x t busy = replenish deferrable s x.part t busy
replenish_part sporadic s x t busy = replenish sporadic s x.part t busy
replenish_part returning s x t busy = with_budget x.part (returned_budget s.period t x.returns x.part.budget)

abbrev pub returned_for : Kind → Server → ℕ → List Stretch → List Stretch
returned_for background s t us = us
returned_for polling s t us = us
returned_for deferrable s t us = us
returned_for sporadic s t us = us
returned_for returning s t us = returned s.period t us

abbrev pub replenish_whole : Kind → Server → Whole → ℕ → Bool → Whole
replenish_whole k s x t busy = whole (replenish_part k s x t busy) (returned_for k s t x.returns)

-- Step 4: "With 32 held after step 3, the server isn't eligible for a tick that would open another."
abbrev pub room_for : Kind → ℕ → List Stretch → Bool
room_for background t us = true
room_for polling t us = true
room_for deferrable t us = true
room_for sporadic t us = true
room_for returning t us = room_at t us

abbrev pub eligible_whole : Kind → ℕ → Bool → Whole → Bool
eligible_whole k t waiting x = room_for k t x.returns && eligible waiting x.part

-- Step 5: b "falls only by service", and a served tick is held
abbrev pub holds : Kind → Seen → List Stretch → List Stretch
holds background e us = us
holds polling e us = us
holds deferrable e us = us
holds sporadic e us = us
holds returning e us = cond e.serves (grown e.t us) us

abbrev pub consume_whole : Kind → Server → Whole → Seen → Whole
consume_whole k s x e = whole (consume k s x.part e) (holds k e x.returns)

-- Refusal 11, kind 4's further part: asked of kind 4 only
abbrev pub whole_fits : Kind → Server → ℕ → ℕ → Returns → Bool
whole_fits background s clock b r = true
whole_fits polling s clock b r = true
whole_fits deferrable s clock b r = true
whole_fits sporadic s clock b r = true
whole_fits returning s clock b r = returns_fit s clock b r
