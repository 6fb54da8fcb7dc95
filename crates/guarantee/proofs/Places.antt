-- Where the tasks and the server of a table stand in its list of items, and what stands above them.
use Rattle.std.specs.Prelude.{ℕ, zero, suc, ◌+◌, ◌*◌, ◌≤◌, ◌<◌, ◌≡◌, refl, Bool, true, false, ◌||◌, List, [], ◌∷◌, length, take, get_or}
use Rattle.std.proofs.Common.{arith, ap, ap₂}
use Rattle.lists.specs.Time.{ceil}
use Rattle.server.specs.declared.Server.{Server}
use Rattle.server.specs.Kind.{Kind}
use Rattle.server.proofs.Account.{Bits}
use Rattle.table.specs.declared.Task.{Task}
use Rattle.bounds.specs.Demand.{tasks_demand}
use Rattle.rules.specs.Tick.{is_open, any_open, opened, opened_all}
use Rattle.guarantee.proofs.Items.{Item, server, Cell, Cells, start, wants, later, taken, term, items_demand}
use Rattle.guarantee.proofs.Window.{cut, alone, Plain, Tasks, Sole}
use Rattle.guarantee.proofs.Chain.{Sound, SoundAll}
use Rattle.guarantee.proofs.Done.{Holds, left_at}
use Rattle.guarantee.proofs.TieLaws.{only_tasks, insert, task_cells, insert_cell, nth}

-- the place of task i, where the server stands below s tasks
abbrev pub pos : ℕ → ℕ → ℕ
pos zero i = suc i
pos (suc s) zero = 0
pos (suc s) (suc i) = suc (pos s i)

-- the place of the server
abbrev pub seat : ℕ → List Task → ℕ
seat zero xs = 0
seat (suc s) [] = 0
seat (suc s) (x ∷ xs) = suc (seat s xs)

-- ---- a task
only_holds : (xs : List Task) (i : ℕ) (d : Task) → i < length xs → Holds (only_tasks xs) i (get_or xs i d)
only_holds [] i d h = absurd (omega arith)
only_holds (x ∷ xs) zero d h = refl
only_holds (x ∷ xs) (suc i) d h = only_holds xs i d (omega arith)

pub pos-holds : (s : ℕ) (xs : List Task) (z : Item) (i : ℕ) (d : Task) → i < length xs → Holds (insert s xs z) (pos s i) (get_or xs i d)
pos-holds zero xs z i d h = only_holds xs i d h
pos-holds (suc s) [] z i d h = absurd (omega arith)
pos-holds (suc s) (x ∷ xs) z zero d h = refl
pos-holds (suc s) (x ∷ xs) z (suc i) d h = pos-holds s xs z i d (omega arith)

only_left : (xs : List Task) (f : ℕ → ℕ) (i : ℕ) → i < length xs → left_at (only_tasks xs) (task_cells xs f) i ≡ f i
only_left [] f i h = absurd (omega arith)
only_left (x ∷ xs) f zero h = refl
only_left (x ∷ xs) f (suc i) h = only_left xs (later f) i (omega arith)

pub pos-left : (s : ℕ) (xs : List Task) (z : Item) (f : ℕ → ℕ) (c : Cell z) (i : ℕ) → i < length xs → left_at (insert s xs z) (insert_cell s xs z f c) (pos s i)
    ≡ f i
pos-left zero xs z f c i h = only_left xs f i h
pos-left (suc s) [] z f c i h = absurd (omega arith)
pos-left (suc s) (x ∷ xs) z f c zero h = refl
pos-left (suc s) (x ∷ xs) z f c (suc i) h = pos-left s xs z (later f) c i (omega arith)

only_demand : (xs : List Task) (i n : ℕ) → items_demand (take i (only_tasks xs)) n ≡ tasks_demand (take i xs) n
unfolding items_demand
only_demand xs zero n = refl
only_demand [] (suc i) n = refl
only_demand (x ∷ xs) (suc i) n = ap (λ (k : ℕ). ceil n x.period * x.exec + k) (only_demand xs i n)

-- above the server, and below it
pub pos-above : (s : ℕ) (xs : List Task) (z : Item) (i n : ℕ) → i < length xs → i < s → items_demand (take (pos s i) (insert s xs z)) n
    ≡ tasks_demand (take i xs) n
unfolding items_demand
pos-above zero xs z i n h q = absurd (omega arith)
pos-above (suc s) [] z i n h q = absurd (omega arith)
pos-above (suc s) (x ∷ xs) z zero n h q = refl
pos-above (suc s) (x ∷ xs) z (suc i) n h q = ap (λ (k : ℕ). ceil n x.period * x.exec + k) (pos-above s xs z i n (omega arith) (omega arith))

pub pos-below : (s : ℕ) (xs : List Task) (z : Item) (i n : ℕ) → i < length xs → s ≤ i → items_demand (take (pos s i) (insert s xs z)) n
    ≡ tasks_demand (take i xs) n + term z n
unfolding items_demand
pos-below zero xs z i n h q = omega (arith, only_demand xs i n)
pos-below (suc s) [] z i n h q = absurd (omega arith)
pos-below (suc s) (x ∷ xs) z zero n h q = absurd (omega arith)
pos-below (suc s) (x ∷ xs) z (suc i) n h q = omega (arith, pos-below s xs z i n (omega arith) (omega arith))

-- ---- the server
pub seat-demand : (s : ℕ) (xs : List Task) (z : Item) (n : ℕ) → items_demand (take (seat s xs) (insert s xs z)) n ≡ tasks_demand (take s xs) n
unfolding items_demand
seat-demand zero xs z n = refl
seat-demand (suc s) [] z n = refl
seat-demand (suc s) (x ∷ xs) z n = ap (λ (k : ℕ). ceil n x.period * x.exec + k) (seat-demand s xs z n)

-- what stands above it takes a tick where a task above is open
pub seat-taken : (s : ℕ) (xs : List Task) (z : Item) (ls : List ℕ) (c : Cell z) → length xs ≤ length ls → (t : ℕ) (busy : Bool) (w : Bits) →
    taken (take (seat s xs) (insert s xs z)) t busy (λ _. w) (cut (seat s xs) (insert s xs z) (insert_cell s xs z (nth ls) c))
    ≡ any_open (take s (opened_all t xs ls))
unfolding taken start wants
seat-taken zero xs z ls c h t busy w = refl
seat-taken (suc s) [] z ls c h t busy w = refl
seat-taken (suc s) (x ∷ xs) z [] c h t busy w = absurd (omega arith)
seat-taken (suc s) (x ∷ xs) z (l ∷ ls) c h t busy w = ap (λ (b : Bool). is_open (opened t x l) || b) (seat-taken s xs z ls c (omega arith) t busy w)

-- ---- a list with one server
pub only_tasks_lem : (xs : List Task) → Tasks (only_tasks xs)
only_tasks_lem [] = tt
only_tasks_lem (x ∷ xs) = only_tasks_lem xs

only_plain : (xs : List Task) → Plain (only_tasks xs)
only_plain [] = tt
only_plain (x ∷ xs) = only_plain xs

pub insert-plain : (s : ℕ) (xs : List Task) (k : Kind) (v : Server) → alone k ≡ false → Plain (insert s xs (server k v))
insert-plain zero xs k v e = (e, only_plain xs)
insert-plain (suc s) [] k v e = (e, tt)
insert-plain (suc s) (x ∷ xs) k v e = insert-plain s xs k v e

pub insert_sole : (s : ℕ) (xs : List Task) (k : Kind) (v : Server) → alone k ≡ true → Sole (insert s xs (server k v))
insert_sole zero xs k v e = (e, only_tasks_lem xs)
insert_sole (suc s) [] k v e = (e, tt)
insert_sole (suc s) (x ∷ xs) k v e = insert_sole s xs k v e

only_sound : (xs : List Task) (d : Task) → ((i : ℕ) → i < length xs → 0 < (get_or xs i d).period) → SoundAll (only_tasks xs)
only_sound [] d h = tt
only_sound (x ∷ xs) d h = (h 0 (omega arith), only_sound xs d (λ i q. h (suc i) (omega arith)))

pub insert-sound : (s : ℕ) (xs : List Task) (z : Item) (d : Task) → ((i : ℕ) → i < length xs → 0 < (get_or xs i d).period) → Sound z → SoundAll (insert s xs z)
insert-sound zero xs z d h a = (a, only_sound xs d h)
insert-sound (suc s) [] z d h a = (a, tt)
insert-sound (suc s) (x ∷ xs) z d h a = (h 0 (omega arith), insert-sound s xs z d (λ i q. h (suc i) (omega arith)) a)

-- ---- cells are told by what is left of each task
only_same : (xs : List Task) (f g : ℕ → ℕ) → ((i : ℕ) → i < length xs → f i ≡ g i) → task_cells xs f ≡ task_cells xs g
only_same [] f g h = refl
only_same (x ∷ xs) f g h = ap₂ (λ (a : ℕ) (r : Cells (only_tasks xs)). (a, r)) (h 0 (omega arith))
    (only_same xs (later f) (later g) (λ i q. h (suc i) (omega arith)))

pub cells_same : (s : ℕ) (xs : List Task) (z : Item) (f g : ℕ → ℕ) (c : Cell z) → ((i : ℕ) → i < length xs → f i ≡ g i) → insert_cell s xs z f c
    ≡ insert_cell s xs z g c
cells_same zero xs z f g c h = ap (λ (r : Cells (only_tasks xs)). (c, r)) (only_same xs f g h)
cells_same (suc s) [] z f g c h = refl
cells_same (suc s) (x ∷ xs) z f g c h =
    ap₂ (λ (a : ℕ) (r : Cells (insert s xs z)). (a, r)) (h 0 (omega arith)) (cells_same s xs z (later f) (later g) c (λ i q. h (suc i) (omega arith)))
