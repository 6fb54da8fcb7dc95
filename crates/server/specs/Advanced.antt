-- Kind 4's steps as the code takes them: a tick reads the facts of an `Edge`, and moves the array of returns where a held tick
-- comes back or a tick is served. Of states that pass no check the array stays as it is.
use Rattle.std.specs.Prelude.{ℕ, ◌+◌, ◌-◌, Bool, true, false, cond, ◌&&◌, ◌||◌, List, get_or, leb, ltb, eqb}
use Rattle.server.specs.declared.Server.{Server}
use Rattle.server.specs.declared.ServerState.{ServerState}
use Rattle.server.specs.declared.Stretch.{Stretch}
use Rattle.server.specs.declared.Returns.{Returns}
use Rattle.server.specs.declared.Edge.{Edge}
use Rattle.server.specs.declared.Slot.{Slot}
use Rattle.server.specs.Consumed.{last32}
use Rattle.server.specs.Kind.{Kind, background, polling, deferrable, sporadic, returning, kind_of}
use Rattle.server.specs.Server.{with_budget, replenish}
use Rattle.server.specs.Returns.{max_held, end_of, held_of, returns_with, comes_back, returned, room_at, held_with}

-- ---- what a tick reads
-- how many ticks after its service a tick comes back: the period under kind 4, and 0 under the others, which hold none
abbrev pub delay_for : Kind → Server → ℕ
delay_for background s = 0
delay_for polling s = 0
delay_for deferrable s = 0
delay_for sporadic s = 0
delay_for returning s = s.period

abbrev pub delay_by : Server → ℕ
delay_by s = delay_for (kind_of s.kind) s

-- whether a held tick comes back at step 3 of tick t, whether a served tick t can be held after it, and that served ticks are held
abbrev pub edge_of : ℕ → ℕ → List Stretch → Edge
edge_of P t us = record { back = comes_back P t us; room = room_at t (returned P t us); holds = true }

-- of the other kinds nothing comes back, nothing keeps them from serving, and nothing is held
abbrev pub no_edge : Edge
no_edge = record { back = false; room = true; holds = false }

abbrev pub edge_within : ℕ → ℕ → Returns → Edge
edge_within P t r = cond (leb 1 P && leb r.n max_held) (edge_of P t (held_of r)) no_edge

abbrev pub edge_for : Kind → Server → ℕ → Returns → Edge
edge_for k s t r = edge_within (delay_for k s) t r

abbrev pub edge_by : Server → ℕ → Returns → Edge
edge_by s t r = edge_for (kind_of s.kind) s t r

-- ---- step 3 of the budget; `back`: a held tick comes back. Kind 4 has one tick more then, but never above B
abbrev pub regained : ℕ → Bool → ServerState → ServerState
regained B back x = with_budget x (cond (back && ltb x.budget B) (x.budget + 1) x.budget)

abbrev pub replenished_for : Kind → Server → ServerState → ℕ → Bool → Bool → ServerState
replenished_for background s x t busy back = replenish background s x t busy
replenished_for polling s x t busy back = replenish polling s x t busy
replenished_for deferrable s x t busy back = replenish deferrable s x t busy
replenished_for sporadic s x t busy back = replenish sporadic s x t busy
replenished_for returning s x t busy back = regained s.budget back x

abbrev pub replenished_by : Server → ServerState → ℕ → Bool → Bool → ServerState
replenished_by s x t busy back = replenished_for (kind_of s.kind) s x t busy back

-- ---- steps 3 and 5 of the array
-- a served tick is held
abbrev pub held_if : Bool → ℕ → Returns → Returns
held_if serves t r = cond serves (held_with r t) r

-- the slot that holds it, and how many are held then, by the last of the n stretches that are; where there is no room, the last as it is
abbrev pub slot_for : Stretch → ℕ → ℕ → Slot
slot_for last n t =
    cond (ltb 0 n && eqb (end_of last) t) (record { at = n - 1; stretch = record { start = last.start; length = last.length + 1 }; n = n })
    (cond (leb max_held n) (record { at = n - 1; stretch = last; n = n })
    (record { at = n; stretch = record { start = t; length = 1 }; n = n + 1 }))

-- the last stretch that is held, or the first slot where none is
abbrev pub last_of : Returns → Stretch
last_of r = get_or r.stretches (r.n - 1) (record { start = 0; length = 0 })

-- where the count and the period keep their limits, and tick t is not the last number of 32 bits
abbrev pub may_advance : ℕ → ℕ → Returns → Bool
may_advance P t r = leb r.n max_held && leb 1 P && ltb t last32

abbrev pub advanced : ℕ → ℕ → Bool → Returns → Returns
advanced P t serves r = cond (may_advance P t r) (held_if serves t (returns_with r (returned P t (held_of r)))) r

-- whether the array changes, where a tick is served or not: under kind 4 alone
abbrev pub moves : Edge → Bool → Bool
moves g serves = g.back || (g.holds && serves)
