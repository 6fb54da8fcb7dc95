-- A task with a bound R has nothing left from R ticks after each release until the next: what is left was released in the window,
-- and the window is shorter than R.
use Rattle.std.specs.Prelude.{ℕ, zero, suc, ◌+◌, ◌*◌, ◌≤◌, ◌<◌, ◌≡◌, refl, true, List, [], ◌∷◌, ◌⊎◌, take}
use Rattle.std.proofs.Common.{mul-le-mul_right, arith}
use Rattle.lists.specs.Time.{due}
use Rattle.lists.specs.Count.{dues, dues_mono, dues-period, due_true, ceil-one}
use Rattle.server.proofs.Account.{Bits}
use Rattle.table.specs.declared.Task.{Task}
use Rattle.guarantee.proofs.Items.{Item, task, server, Cells, states, items_demand}
use Rattle.guarantee.proofs.Jobs.{work}
use Rattle.guarantee.proofs.Chain.{Acc, SoundAll, AccAll}
use Rattle.guarantee.proofs.Window.{Window, cut, Plain, Sole, window_at}

-- the j-th item is the task x
abbrev pub Holds : List Item → ℕ → Task → Type 0
Holds [] j x = ⊥
Holds (task y ∷ xs) zero x = y ≡ x
Holds (server k s ∷ xs) zero x = ⊥
Holds (y ∷ xs) (suc j) x = Holds xs j x

-- what is left of the j-th item, if it is a task
abbrev pub left_at : (xs : List Item) → Cells xs → ℕ → ℕ
left_at [] cs j = 0
left_at (task x ∷ xs) cs zero = cs.0
left_at (server k s ∷ xs) cs zero = 0
left_at (x ∷ xs) cs (suc j) = left_at xs cs.1 j

pub left_cut : (n : ℕ) (xs : List Item) (cs : Cells xs) (j : ℕ) → j < n → left_at (take n xs) (cut n xs cs) j ≡ left_at xs cs j
left_cut zero xs cs j h = absurd (omega arith)
left_cut (suc n) [] cs j h = refl
left_cut (suc n) (task x ∷ xs) cs zero h = refl
left_cut (suc n) (server k s ∷ xs) cs zero h = refl
left_cut (suc n) (x ∷ xs) cs (suc j) h = left_cut n xs cs.1 j (omega arith)

holds_take : (xs : List Item) (j : ℕ) (x : Task) → Holds xs j x → Holds (take (suc j) xs) j x
holds_take [] j x h = h
holds_take (task y ∷ xs) zero x h = h
holds_take (server k s ∷ xs) zero x h = h
holds_take (y ∷ xs) (suc j) x h = holds_take xs j x h

pub holds-period : (xs : List Item) (j : ℕ) (x : Task) → Holds xs j x → SoundAll xs → 0 < x.period
holds-period [] j x h a = absurd h
holds-period (task y ∷ xs) zero x h a = rw (← h) a.0
holds-period (server k s ∷ xs) zero x h a = absurd h
holds-period (y ∷ xs) (suc j) x h a = holds-period xs j x h a.1

-- what is left of a task was released in the window
own : (xs : List Item) (cs : Cells xs) (t from g y : ℕ) → AccAll xs cs t from g y → (j : ℕ) (x : Task) → Holds xs j x → left_at xs cs j + work x from ≤ work x t
unfolding Acc
own [] cs t from g y a j x h = absurd h
own (task z ∷ xs) cs t from g y a zero x h = rw (← h) (omega (arith, a.6.0, a.6.1, a.6.2))
own (server k s ∷ xs) cs t from g y a zero x h = absurd h
own (z ∷ xs) cs t from g y a (suc j) x h = own xs cs.1 t from a.1 a.3 a.7 j x h

pub done : (xs : List Item) → SoundAll xs → Plain xs ⊎ Sole xs → (w : ℕ → ℕ → Bits) (j : ℕ) (x : Task) → Holds xs j x → (R : ℕ) → 0 < R →
    items_demand (take (suc j) xs) R ≤ R →
    (r t : ℕ) → due r x.phase x.period ≡ true → r + R ≤ t → t ≤ r + x.period → left_at xs (states xs w t) j ≡ 0
done xs a m w j x h R r0 fit r t e c q =
    let cs : Cells xs = states xs w t in
    let v : Window (take (suc j) xs) R t (cut (suc j) xs cs) = window_at xs a m (suc j) R r0 fit w t in
    let p : 0 < x.period = holds-period xs j x h a in
    let d : (n : ℕ) × (r ≡ x.phase + n * x.period) = due_true r x.phase x.period e in
    let m1 : dues x.phase x.period t ≤ dues x.phase x.period (suc r) = dues-period x.phase x.period p r d.0 t d.1 q in
    let m2 : dues x.phase x.period (suc r) ≤ dues x.phase x.period v.from = dues_mono x.phase x.period p (suc r) v.from
    (omega (arith, v.short)) in
    let k : left_at (take (suc j) xs) (cut (suc j) xs cs) j + work x v.from ≤ work x t =
    own (take (suc j) xs) (cut (suc j) xs cs) t v.from v.given v.left v.acc j x (holds_take xs j x h) in
    omega (arith, k, left_cut (suc j) xs cs j (omega arith), mul-le-mul_right x.exec m1, mul-le-mul_right x.exec m2)

-- up to its period a task's own term is its execution, once
pub demand-last : (xs : List Item) (j : ℕ) (x : Task) → Holds xs j x → (n : ℕ) → 0 < n → n ≤ x.period →
    items_demand (take (suc j) xs) n ≡ x.exec + items_demand (take j xs) n
unfolding items_demand
demand-last [] j x b n h q = absurd b
demand-last (task y ∷ xs) zero x b n h q = rw (b, ceil-one n x.period h q) (omega arith)
demand-last (server k s ∷ xs) zero x b n h q = absurd b
demand-last (y ∷ xs) (suc j) x b n h q = omega (arith, demand-last xs j x b n h q)
