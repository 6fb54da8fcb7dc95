-- Cases of the server's rules, worked out apart from the definitions: each rule, changed alone, is refused by one of them.
use Rattle.std.specs.Prelude.{ℕ, suc, ◌≡◌, refl, Bool, true, false, not, ◌&&◌, List, [], ◌∷◌, ◌++◌, map, replicate}
use Rattle.server.specs.declared.Server.{Server}
use Rattle.server.specs.declared.ServerState.{ServerState}
use Rattle.server.specs.declared.Seen.{Seen}
use Rattle.server.specs.Kind.{background, polling, deferrable, sporadic, kind_of}
use Rattle.server.specs.Server.{fresh_server, replenish, eligible, consume, server_demand}

abbrev server : ℕ → ℕ → ℕ → Server
server k p b = record { kind = k; place = 0; period = p; budget = b }

-- budget, tr, begin, nr, served, late, above, busy
abbrev sp : ℕ → ℕ → ℕ → ℕ → Bool → Bool → Bool → Bool → ServerState
sp b tr begin nr served late above busy = record {
  budget = b;
  sporadic = record { tr = tr; begin = begin; nr = nr; served = served; late = late; above = above; busy = busy };
}

-- ---- a server played alone, from its fresh state
-- what a tick brings it: a task above is open, any task is, a request waits at step 4, a served tick is the queue's last
pub record Brings : Type 0 where
  pub above : Bool
  pub busy : Bool
  pub waits : Bool
  pub last : Bool

abbrev brings : Bool → Bool → Bool → Bool → Brings
brings a b w l = record { above = a; busy = b; waits = w; last = l }

-- no task open; a task above; only one below. Nothing waits; requests wait; one waits for its last tick
abbrev idle : Brings
idle = brings false false false false

abbrev asks : Brings
asks = brings false false true false

abbrev ends : Brings
ends = brings false false true true

abbrev over : Brings
over = brings true true false false

abbrev over_asks : Brings
over_asks = brings true true true false

abbrev under : Brings
under = brings false true false false

abbrev under_asks : Brings
under_asks = brings false true true false

abbrev under_ends : Brings
under_ends = brings false true true true

abbrev serves : Brings → ServerState → Bool
serves i x = not i.above && eligible i.waits x

abbrev seen : ℕ → Brings → ServerState → Seen
seen t i x = record {
  t = t;
  above = i.above;
  busy = i.busy;
  serves = serves i x;
  waited = i.waits;
  emptied = not (i.waits && not (serves i x && i.last));
}

abbrev after : Server → ℕ → Brings → ServerState → ServerState
after s t i x =
    let y = replenish (kind_of s.kind) s x t i.busy in consume (kind_of s.kind) s y (seen t i y)

abbrev states_from : Server → ℕ → List Brings → ServerState → List ServerState
states_from s t [] x = []
states_from s t (i ∷ is) x = let y = after s t i x in y ∷ states_from s (suc t) is y

-- the state after each tick, and its budget
abbrev states : Server → List Brings → List ServerState
states s is = states_from s 0 is (fresh_server (kind_of s.kind) s)

abbrev budget_of : ServerState → ℕ
budget_of x = x.budget

abbrev budgets : Server → List Brings → List ℕ
budgets s is = map budget_of (states s is)

-- one step 3 and one step 5 of any state
abbrev refill : ℕ → ServerState → ℕ → Bool → ServerState
refill k x t busy = replenish (kind_of k) (server k 5 3) x t busy

abbrev shows : Bool → Bool → Bool → Bool → Seen
shows above serves waited emptied = record { t = 9; above = above; busy = true; serves = serves; waited = waited; emptied = emptied }

-- a tick that would be idle, which the queue's last request has
abbrev spare : Seen
spare = record { t = 9; above = false; busy = false; serves = false; waited = true; emptied = true }

abbrev pay : ℕ → ServerState → Seen → ServerState
pay k x e = consume (kind_of k) (server k 5 3) x e

pub record ServerCases : Type 0 where
  -- held while a task above is open, gone when the server idles or its queue runs empty, full again each period
  pub polling_budgets : budgets (server 1 5 3) (asks ∷ over_asks ∷ over ∷ asks ∷ asks ∷ idle ∷ asks ∷ idle ∷ idle ∷ idle ∷ ends ∷ asks ∷ idle ∷ idle ∷ idle ∷ under ∷ asks ∷ idle ∷ idle ∷ idle ∷ under_asks ∷ asks ∷ over_asks ∷ []) ≡ 2 ∷ 2 ∷ 2 ∷ 1 ∷ 0 ∷ 0 ∷ 0 ∷ 0 ∷ 0 ∷ 0 ∷ 0 ∷ 0 ∷ 0 ∷ 0 ∷ 0 ∷ 0 ∷ 0 ∷ 0 ∷ 0 ∷ 0 ∷ 2 ∷ 1 ∷ 1 ∷ []
  -- kept while it idles, and when its queue runs empty
  pub deferrable_budgets : budgets (server 2 5 3) (asks ∷ over_asks ∷ over ∷ asks ∷ idle ∷ idle ∷ asks ∷ idle ∷ idle ∷ idle ∷ ends ∷ asks ∷ under ∷ idle ∷ idle ∷ under_asks ∷ under_ends ∷ []) ≡ 2 ∷ 2 ∷ 2 ∷ 1 ∷ 1 ∷ 3 ∷ 2 ∷ 2 ∷ 2 ∷ 2 ∷ 2 ∷ 1 ∷ 1 ∷ 1 ∷ 1 ∷ 2 ∷ 1 ∷ []
  -- has no budget
  pub background_budgets : budgets (server 0 0 0) (asks ∷ idle ∷ over_asks ∷ under_asks ∷ []) ≡ 0 ∷ 0 ∷ 0 ∷ 0 ∷ []
  -- a first service counts from the stretch above it, the budget falls while the server idles after it, and a stretch that begins anew replenishes
  pub sporadic_from-begin : states (server 3 6 2) (over ∷ over ∷ over ∷ asks ∷ idle ∷ idle ∷ over ∷ over ∷ asks ∷ []) ≡
      replicate 3 (sp 2 0 0 0 false false true true)
      ++ sp 1 0 0 6 true false false false
      ∷ replicate 2 (sp 0 0 0 6 true false false false)
      ++ replicate 2 (sp 2 6 6 0 false false true true)
      ++ sp 1 6 6 12 true false false false ∷ []
  -- replenished at nr; a first service with no task above open before it counts from itself
  pub sporadic_below : states (server 3 4 2) (under ∷ over_asks ∷ over_asks ∷ under_asks ∷ under ∷ under ∷ under ∷ under ∷ under_asks ∷ []) ≡
      sp 2 0 0 0 false false false true
      ∷ replicate 2 (sp 2 0 1 0 false false true true)
      ++ sp 1 0 1 5 true false false true
      ∷ sp 0 0 1 5 true false false true
      ∷ replicate 3 (sp 2 5 1 0 false false false true)
      ++ sp 1 5 1 12 true false false true ∷ []
  -- nr had passed at the first service: late, and replenished when the budget is spent
  pub sporadic_late : states (server 3 3 2) (over ∷ over ∷ over ∷ over ∷ asks ∷ asks ∷ asks ∷ idle ∷ []) ≡
      replicate 4 (sp 2 0 0 0 false false true true)
      ++ sp 1 0 0 3 true true false false
      ∷ sp 0 0 0 3 true true false false
      ∷ sp 1 6 0 9 true false false false
      ∷ sp 0 6 0 9 true false false false ∷ []
  -- te + P is the tick of the first service itself
  pub sporadic_meets : states (server 3 4 2) (over ∷ over ∷ over ∷ over ∷ asks ∷ under ∷ under ∷ []) ≡
      replicate 4 (sp 2 0 0 0 false false true true)
      ++ sp 1 4 0 8 true false false false
      ∷ replicate 2 (sp 2 5 0 0 false false false true)
  -- held while a task above is open; the first task to open after none was replenishes
  pub sporadic_above : states (server 3 5 3) (under ∷ under ∷ under ∷ under_asks ∷ over ∷ under ∷ under ∷ under ∷ idle ∷ under ∷ []) ≡
      replicate 3 (sp 3 0 0 0 false false false true)
      ++ sp 2 0 0 8 true false false true
      ∷ sp 2 0 4 8 true false true true
      ∷ sp 1 0 4 8 true false false true
      ∷ replicate 2 (sp 0 0 4 8 true false false true)
      ++ sp 3 8 4 0 false false false false
      ∷ sp 3 9 4 0 false false false true ∷ []
  -- te is tr where that is later than begin
  pub sporadic_since-tr : states (server 3 5 1) (under_asks ∷ over ∷ over ∷ over ∷ over ∷ over ∷ over ∷ under_asks ∷ under ∷ []) ≡
      sp 0 0 0 5 true false false true
      ∷ replicate 4 (sp 0 0 1 5 true false true true)
      ++ replicate 2 (sp 1 5 1 0 false false true true)
      ++ replicate 2 (sp 0 5 1 10 true false false true)
  -- the fresh budget is B, but 0 for kind 0 and for a number that is no kind
  pub fresh-kinds : map budget_of (fresh_server background (server 0 5 3) ∷ fresh_server (kind_of 1) (server 1 5 3) ∷ fresh_server (kind_of 2) (server 2 5 3) ∷ fresh_server (kind_of 3) (server 3 5 3) ∷ fresh_server (kind_of 4) (server 4 5 3) ∷ fresh_server (kind_of 5) (server 5 5 3) ∷ []) ≡ 0 ∷ 3 ∷ 3 ∷ 3 ∷ 3 ∷ 0 ∷ []
  pub fresh_sporadic_lem : fresh_server sporadic (server 3 5 3) ≡ sp 3 0 0 0 false false false false
  -- "Under the other kinds all these fields stay unchanged", at both steps; under kind 0 the budget too
  pub background_refill : refill 0 (sp 2 1 2 3 true true false true) 5 true ≡ sp 2 1 2 3 true true false true
  pub background_pay : pay 0 (sp 2 1 2 3 true true false true) (shows true true true true) ≡ sp 2 1 2 3 true true false true
  pub polling_refill : refill 1 (sp 2 1 2 3 true true false true) 5 true ≡ sp 3 1 2 3 true true false true
  pub polling_pay : pay 1 (sp 2 1 2 3 true true false true) (shows true true true false) ≡ sp 1 1 2 3 true true false true
  pub deferrable_refill : refill 2 (sp 2 1 2 3 true true false true) 5 true ≡ sp 3 1 2 3 true true false true
  pub deferrable_pay : pay 2 (sp 2 1 2 3 true true false true) (shows true true true false) ≡ sp 1 1 2 3 true true false true
  pub returning_part : pay 4 (refill 4 (sp 2 1 2 3 true true false true) 5 true) (shows true true true true) ≡ sp 1 1 2 3 true true false true
  pub other-kinds_stay : pay 5 (refill 5 (sp 2 1 2 3 true true false true) 5 true) (shows true true true true) ≡ sp 2 1 2 3 true true false true
  -- polling: "no row above is open in the tick and the queue was empty at step 4", each alone
  pub polling_waited : (pay 1 (sp 2 0 0 0 false false false false) (shows false false true false)).budget ≡ 2
  pub polling_above : (pay 1 (sp 2 0 0 0 false false false false) (shows true false false true)).budget ≡ 2
  pub polling_empty : (pay 1 (sp 2 0 0 0 false false false false) (shows false false false true)).budget ≡ 0
  -- 5/13: such a tick "takes no budget, doesn't count as service and sets no sporadic .. mark", nor does it empty polling's budget
  pub idle_service : map (λ k. pay k (sp 2 1 2 0 false false false false) spare) (0 ∷ 1 ∷ 2 ∷ 3 ∷ 4 ∷ []) ≡ replicate 5 (sp 2 1 2 0 false false false false)
  -- sporadic, the first ground: served, nr = t and not late, each alone
  pub refill-at-nr : refill 3 (sp 1 2 2 7 true false false true) 7 true ≡ sp 3 7 2 0 false false false true
  pub refill-unserved : refill 3 (sp 1 2 2 7 false false false true) 7 true ≡ sp 1 2 2 7 false false false true
  pub refill_not_at-nr : refill 3 (sp 1 2 2 8 true false false true) 7 true ≡ sp 1 2 2 8 true false false true
  pub refill_not_late : refill 3 (sp 1 2 2 7 true true false true) 7 true ≡ sp 1 2 2 7 true true false true
  -- the second: late and b = 0
  pub refill-late : refill 3 (sp 0 2 2 5 true true true true) 7 false ≡ sp 3 7 2 0 false false true true
  pub refill-late_unspent : refill 3 (sp 1 2 2 5 true true true true) 7 false ≡ sp 1 2 2 5 true true true true
  pub refill-spent_not_late : refill 3 (sp 0 2 2 9 true false true true) 7 false ≡ sp 0 2 2 9 true false true true
  -- the third: some task open now, t > 0, none in the last tick
  pub refill_wakes : refill 3 (sp 1 2 2 9 true false false false) 7 true ≡ sp 3 7 2 0 false false false false
  pub refill-none_open : refill 3 (sp 1 2 2 9 true false false false) 7 false ≡ sp 1 2 2 9 true false false false
  pub refill-first-tick : refill 3 (sp 1 0 0 9 true false false false) 0 true ≡ sp 1 0 0 9 true false false false
  pub refill_was_open : refill 3 (sp 1 2 2 9 true false false true) 7 true ≡ sp 1 2 2 9 true false false true
  -- step 4: b > 0, and a request waits
  pub eligible-cases : eligible true (sp 1 0 0 0 false false false false) ∷ eligible true (sp 0 0 0 0 false false false false) ∷ eligible false (sp 1 0 0 0 false false false false) ∷ [] ≡ true ∷ false ∷ false ∷ []
  -- admission: the server's term, below, at and past a period
  pub polling_demand : map (server_demand polling (server 1 5 3)) (1 ∷ 5 ∷ 6 ∷ 11 ∷ []) ≡ 3 ∷ 3 ∷ 6 ∷ 9 ∷ []
  pub deferrable_demand : map (server_demand deferrable (server 2 5 3)) (1 ∷ 3 ∷ 4 ∷ 8 ∷ 9 ∷ []) ≡ 3 ∷ 3 ∷ 6 ∷ 6 ∷ 9 ∷ []
  pub sporadic_demand : map (server_demand sporadic (server 3 5 3)) (1 ∷ 5 ∷ 6 ∷ 11 ∷ []) ≡ 3 ∷ 3 ∷ 6 ∷ 9 ∷ []
  pub background_demand : server_demand background (server 0 5 3) 7 ≡ 0

pub server-cases : ServerCases
server-cases = record {
  polling_budgets = refl;
  deferrable_budgets = refl;
  background_budgets = refl;
  sporadic_from-begin = refl;
  sporadic_below = refl;
  sporadic_late = refl;
  sporadic_meets = refl;
  sporadic_above = refl;
  sporadic_since-tr = refl;
  fresh-kinds = refl;
  fresh_sporadic_lem = refl;
  background_refill = refl;
  background_pay = refl;
  polling_refill = refl;
  polling_pay = refl;
  deferrable_refill = refl;
  deferrable_pay = refl;
  returning_part = refl;
  other-kinds_stay = refl;
  polling_waited = refl;
  polling_above = refl;
  polling_empty = refl;
  idle_service = refl;
  refill-at-nr = refl;
  refill-unserved = refl;
  refill_not_at-nr = refl;
  refill_not_late = refl;
  refill-late = refl;
  refill-late_unspent = refl;
  refill-spent_not_late = refl;
  refill_wakes = refl;
  refill-none_open = refl;
  refill-first-tick = refl;
  refill_was_open = refl;
  eligible-cases = refl;
  polling_demand = refl;
  deferrable_demand = refl;
  sporadic_demand = refl;
  background_demand = refl;
}
