-- Tasks and servers as one list in priority order. A tick offers the processor from the first item down; each item goes by the steps
-- that its own definition gives. Document 01's table is such a list, with one server.
use Rattle.std.specs.Prelude.{ℕ, zero, suc, ◌+◌, ◌-◌, ◌*◌, Bool, true, false, cond, ◌&&◌, ◌||◌, not, List, [], ◌∷◌}
use Rattle.lists.specs.Time.{ceil}
use Rattle.server.specs.declared.Server.{Server}
use Rattle.server.specs.Kind.{Kind}
use Rattle.server.specs.Server.{server_demand}
use Rattle.server.specs.Whole.{Whole, fresh_whole, replenish_whole, eligible_whole, consume_whole}
use Rattle.server.proofs.SupplyReturning.{seen_whole}
use Rattle.server.proofs.Account.{Bits}
use Rattle.table.specs.declared.Task.{Task}
use Rattle.rules.specs.Tick.{is_open, opened}

pub data Item : Type 0 where
  task : Task → Item
  server : Kind → Server → Item

-- what a tick moves of an item: a task's execution left, a server's state
abbrev pub Cell : Item → Type 0
Cell (task x) = ℕ
Cell (server k s) = Whole

abbrev pub Cells : List Item → Type 0
Cells [] = Unit {0}
Cells (x ∷ xs) = Cell x × Cells xs

-- ---- one item in tick t; `busy`: some task is open
-- steps 1 to 3
unfoldable pub start : (x : Item) → ℕ → Bool → Cell x → Cell x
start (task x) t busy c = opened t x c
start (server k s) t busy c = replenish_whole k s c t busy

-- step 4: it takes the processor if it is offered
unfoldable pub wants : (x : Item) → ℕ → Bits → Cell x → Bool
wants (task x) t w c = is_open c
wants (server k s) t w c = eligible_whole k t w.waits c

-- step 5; `free`: the processor is offered to it
unfoldable pub finish : (x : Item) → ℕ → Bool → Bool → Bits → Cell x → Cell x
finish (task x) t busy free w c = cond free (c - 1) c
finish (server k s) t busy free w c = consume_whole k s c (seen_whole k t busy free w c)

abbrev pub fresh : (x : Item) → Cell x
fresh (task x) = 0
fresh (server k s) = fresh_whole k s

-- ---- the list; `w i` is what the tick reads of the i-th item's queue
abbrev pub later : {A : Type 0} → (ℕ → A) → ℕ → A
later w i = w (suc i)

-- some item takes the processor where it is offered to the first
unfoldable pub taken : (xs : List Item) → ℕ → Bool → (ℕ → Bits) → Cells xs → Bool
taken [] t busy w cs = false
taken (x ∷ xs) t busy w cs = wants x t (w 0) (start x t busy cs.0) || taken xs t busy (later w) cs.1

unfoldable pub chain : (xs : List Item) → ℕ → Bool → Bool → (ℕ → Bits) → Cells xs → Cells xs
chain [] t busy free w cs = tt
chain (x ∷ xs) t busy free w cs = (
  finish x t busy free (w 0) (start x t busy cs.0),
  chain xs t busy (free && not (wants x t (w 0) (start x t busy cs.0))) (later w) cs.1,
)

-- some task is open, after steps 1 and 2
unfoldable pub some_open : (xs : List Item) → ℕ → Cells xs → Bool
some_open [] t cs = false
some_open (task x ∷ xs) t cs = is_open (opened t x cs.0) || some_open xs t cs.1
some_open (server k s ∷ xs) t cs = some_open xs t cs.1

unfoldable pub tick_items : (xs : List Item) → ℕ → (ℕ → Bits) → Cells xs → Cells xs
tick_items xs t w cs = chain xs t (some_open xs t cs) true w cs

unfoldable pub fresh_all : (xs : List Item) → Cells xs
fresh_all [] = tt
fresh_all (x ∷ xs) = (fresh x, fresh_all xs)

-- the cells as tick t begins, where `w t` is what tick t reads of the queues
unfoldable pub states : (xs : List Item) → (ℕ → ℕ → Bits) → ℕ → Cells xs
states xs w zero = fresh_all xs
states xs w (suc t) = tick_items xs t (w t) (states xs w t)

-- ---- the time demand
abbrev pub term : Item → ℕ → ℕ
term (task x) n = ceil n x.period * x.exec
term (server k s) n = server_demand k s n

unfoldable pub items_demand : List Item → ℕ → ℕ
items_demand [] n = 0
items_demand (x ∷ xs) n = term x n + items_demand xs n
