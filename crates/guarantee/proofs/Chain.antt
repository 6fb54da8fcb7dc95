-- The account of an item, and of a list of items: two suppliers in priority order are a supplier.
use Rattle.std.specs.Prelude.{ℕ, zero, suc, ◌+◌, ◌≤◌, ◌<◌, ◌≡◌, refl, Bool, true, false, ◌&&◌, ◌||◌, not, List, [], ◌∷◌, ltb}
use Rattle.std.proofs.Common.{arith, ltb-true}
use Rattle.lists.specs.Tests.{never, and_split}
use Rattle.server.specs.Kind.{background, polling, deferrable, sporadic, returning}
use Rattle.server.proofs.Account.{Bits, After}
use Rattle.server.proofs.SupplyPolling.{Polled, polling_next, polling_supply, polling_fresh}
use Rattle.server.proofs.SupplyDeferrable.{Deferred, deferrable_next, deferrable_supply, deferrable_fresh}
use Rattle.server.proofs.SupplyReturning.{Returned, returning_next, returning_supply, returning_fresh}
use Rattle.server.proofs.SupplySporadic.{Spread, sporadic_next, sporadic_supply, sporadic_fresh}
use Rattle.guarantee.proofs.Items.{Item, task, server, Cell, Cells, start, wants, finish, fresh, later, taken, chain, fresh_all, term, items_demand}
use Rattle.guarantee.proofs.Jobs.{Job, job_next, job_supply}

-- ---- one clause for each kind: the account, the limits, and what the tick must say of the others
unfoldable pub Acc : (x : Item) → Cell x → ℕ → ℕ → ℕ → ℕ → Type 0
Acc (task x) c t from g y = Job x c t from g y
Acc (server background s) c t from g y = (c.part.budget ≡ 0) × (g ≡ 0) × (y ≡ 0)
Acc (server polling s) c t from g y = Polled s c.part t from g y
Acc (server deferrable s) c t from g y = Deferred s c.part t from g y
Acc (server sporadic s) c t from g y = Spread s c.part t from g y
Acc (server returning s) c t from g y = Returned s c t from g y

abbrev pub Sound : Item → Type 0
Sound (task x) = 0 < x.period
Sound (server background s) = Unit {0}
Sound (server polling s) = 0 < s.period
Sound (server deferrable s) = (0 < s.period) × (s.budget ≤ s.period)
Sound (server sporadic s) = (0 < s.period) × (0 < s.budget)
Sound (server returning s) = 0 < s.period

-- a sporadic server wants the window to end where no task is open; polling and deferrable ones may have work left there
unfoldable pub Lively : (x : Item) → Bool → Bool → Bool → Cell x → Type 0
Lively (task x) busy live free c = 0 < c → live ≡ true
Lively (server background s) busy live free c = Unit {0}
Lively (server polling s) busy live free c = live ≡ true
Lively (server deferrable s) busy live free c = live ≡ true
Lively (server sporadic s) busy live free c = (live ≡ busy) × (free ≡ false → busy ≡ true)
Lively (server returning s) busy live free c = live ≡ true

pub item_next : (x : Item) → Sound x → (busy live free : Bool) (w : Bits) (t from g y : ℕ) (c : Cell x) → Lively x busy live free (start x t busy c) →
    Acc x c t from g y →
    After (Acc x (finish x t busy free w (start x t busy c)) (suc t)) live free (wants x t w (start x t busy c)) t from g y
unfolding start wants finish Acc Lively
item_next (task x) h busy live free w t from g y c l a = job_next x h live free t from g y c l a
item_next (server background s) h busy live free w t from g y c l a = record {
  g' = 0;
  y' = 0;
  acc = λ _. (a.0, refl, refl);
  again = λ _. (a.0, refl, refl);
  calm = λ _. refl;
  pay = omega (arith, a.1, a.2);
  used = λ _ _ q. absurd (omega (arith, a.0, ltb-true 0 c.part.budget (and_split w.waits (ltb 0 c.part.budget) q).1));
  idle = λ _ q. absurd (omega arith);
}
item_next (server polling s) h busy live free w t from g y c l a = polling_next s h busy live free w t from g y c.part l a
item_next (server deferrable s) h busy live free w t from g y c l a = deferrable_next s h.0 busy live free w t from g y c.part l a
item_next (server sporadic s) h busy live free w t from g y c l a = rw l.0 (sporadic_next s h.0 busy free w t from g y c.part l.1 a)
item_next (server returning s) h busy live free w t from g y c l a = returning_next s h busy live free w t from g y c l a

pub item_supply : (x : Item) → Sound x → (c : Cell x) (t from g y n : ℕ) → Acc x c t from g y → t ≤ from + n → g ≤ term x n
unfolding Acc
item_supply (task x) h c t from g y n a b = job_supply x h c t from g y n a b
item_supply (server background s) h c t from g y n a b = omega (arith, a.1)
item_supply (server polling s) h c t from g y n a b = polling_supply s h c.part t from g y n a b
item_supply (server deferrable s) h c t from g y n a b = deferrable_supply s h.0 c.part t from g y n a b
item_supply (server sporadic s) h c t from g y n a b = sporadic_supply s h.0 c.part t from g y n a b
item_supply (server returning s) h c t from g y n a b = returning_supply s h c t from g y n a b

pub item_fresh : (x : Item) → Sound x → Acc x (fresh x) 0 0 0 0
unfolding Acc
item_fresh (task x) h = (refl, omega arith, omega arith)
item_fresh (server background s) h = (refl, refl, refl)
item_fresh (server polling s) h = polling_fresh s
item_fresh (server deferrable s) h = deferrable_fresh s h.1
item_fresh (server sporadic s) h = sporadic_fresh s h.1
item_fresh (server returning s) h = returning_fresh s

-- ---- the list
abbrev pub SoundAll : List Item → Type 0
SoundAll [] = Unit {0}
SoundAll (x ∷ xs) = Sound x × SoundAll xs

abbrev pub AccAll : (xs : List Item) → Cells xs → ℕ → ℕ → ℕ → ℕ → Type 0
AccAll [] cs t from g y = (g ≡ 0) × (y ≡ 0)
AccAll (x ∷ xs) cs t from g y =
    (g1 : ℕ) × (g2 : ℕ) × (y1 : ℕ) × (y2 : ℕ) × (g ≡ g1 + g2) × (y ≡ y1 + y2) × Acc x cs.0 t from g1 y1 × AccAll xs cs.1 t from g2 y2

abbrev pub LivelyAll : (xs : List Item) → ℕ → Bool → Bool → Bool → (ℕ → Bits) → Cells xs → Type 0
LivelyAll [] t busy live free w cs = Unit {0}
LivelyAll (x ∷ xs) t busy live free w cs =
    Lively x busy live free (start x t busy cs.0) × LivelyAll xs t busy live (free && not (wants x t (w 0) (start x t busy cs.0))) (later w) cs.1

-- two suppliers, the second below the first
both : (A C : ℕ → ℕ → ℕ → Type 0) (live free p q : Bool) (t from g y g1 g2 y1 y2 : ℕ) → g ≡ g1 + g2 → y ≡ y1 + y2 → After A live free p t from g1 y1 →
    After C live (free && not p) q t from g2 y2 →
    After (λ from g y. (g1 : ℕ) × (g2 : ℕ) × (y1 : ℕ) × (y2 : ℕ) × (g ≡ g1 + g2) × (y ≡ y1 + y2) × A from g1 y1 × C from g2 y2) live free (p || q) t from g y
both A C live free p q t from g y g1 g2 y1 y2 eg ey a c =
    record {
      g' = a.g' + c.g';
      y' = a.y' + c.y';
      acc = λ l. (a.g', c.g', a.y', c.y', refl, refl, a.acc l, c.acc l);
      again = λ e. (0, 0, 0, 0, refl, refl, a.again (omega arith), c.again (omega arith));
      calm = λ l. omega (arith, a.calm l, c.calm l);
      pay = omega (arith, a.pay, c.pay);
      used = λ l f e. spent l f p q e (a.used l f) (c.used l);
      idle = λ f. rest f live a.calm c.calm p (λ l. a.used l f) (a.idle f) c.idle;
    }
  where
    spent : live ≡ true → free ≡ true → (p q : Bool) → (p || q) ≡ true → (p ≡ true → a.y' + g1 < y1 + a.g') →
        ((free && not p) ≡ true → q ≡ true → c.y' + g2 < y2 + c.g') → a.y' + c.y' + g < y + (a.g' + c.g')
    spent l f true q e u v = omega (arith, u refl, c.pay)
    spent l f false q e u v = omega (arith, a.pay, v (rw f refl) e)

    rest : free ≡ true → (live : Bool) → (live ≡ false → a.y' ≡ 0) → (live ≡ false → c.y' ≡ 0) → (p : Bool) →
        (live ≡ true → p ≡ true → a.y' + g1 < y1 + a.g') → (0 < a.y' → a.y' + g1 < y1 + a.g') →
        ((free && not p) ≡ true → 0 < c.y' → c.y' + g2 < y2 + c.g') → 0 < a.y' + c.y' → a.y' + c.y' + g < y + (a.g' + c.g')
    rest f false z1 z2 p u i j n = absurd (omega (arith, z1 refl, z2 refl))
    rest f true z1 z2 true u i j n = omega (arith, u refl refl, c.pay)
    rest f true z1 z2 false u i j n = split a.y' refl
      where
        split : (m : ℕ) → a.y' ≡ m → a.y' + c.y' + g < y + (a.g' + c.g')
        split zero e = omega (arith, a.pay, j (rw f refl) (omega arith))
        split (suc m) e = omega (arith, i (omega arith), c.pay)

pub chain_next : (xs : List Item) → SoundAll xs → (busy live free : Bool) (w : ℕ → Bits) (t from g y : ℕ) (cs : Cells xs) → LivelyAll xs t busy live free w cs →
    AccAll xs cs t from g y → After (AccAll xs (chain xs t busy free w cs) (suc t)) live free (taken xs t busy w cs) t from g y
unfolding chain taken
chain_next [] h busy live free w t from g y cs l a = record {
  g' = 0;
  y' = 0;
  acc = λ _. (refl, refl);
  again = λ _. (refl, refl);
  calm = λ _. refl;
  pay = omega (arith, a.0, a.1);
  used = λ _ _ q. never refl q;
  idle = λ _ q. absurd (omega arith);
}
chain_next (x ∷ xs) h busy live free w t from g y cs l a =
    both (Acc x (finish x t busy free (w 0) (start x t busy cs.0)) (suc t))
    (AccAll xs (chain xs t busy (free && not (wants x t (w 0) (start x t busy cs.0))) (later w) cs.1) (suc t))
    live free (wants x t (w 0) (start x t busy cs.0)) (taken xs t busy (later w) cs.1) t from g y a.0 a.1 a.2 a.3 a.4 a.5
    (item_next x h.0 busy live free (w 0) t from a.0 a.2 cs.0 l.0 a.6)
    (chain_next xs h.1 busy live (free && not (wants x t (w 0) (start x t busy cs.0))) (later w) t from a.1 a.3 cs.1 l.1 a.7)

pub chain-supply : (xs : List Item) → SoundAll xs → (cs : Cells xs) (t from g y n : ℕ) → AccAll xs cs t from g y → t ≤ from + n → g ≤ items_demand xs n
unfolding items_demand
chain-supply [] h cs t from g y n a b = omega (arith, a.0)
chain-supply (x ∷ xs) h cs t from g y n a b =
    omega (arith, a.4, item_supply x h.0 cs.0 t from a.0 a.2 n a.6 b, chain-supply xs h.1 cs.1 t from a.1 a.3 n a.7 b)

pub chain-fresh : (xs : List Item) → SoundAll xs → AccAll xs (fresh_all xs) 0 0 0 0
unfolding fresh_all
chain-fresh [] h = (refl, refl)
chain-fresh (x ∷ xs) h = (0, 0, 0, 0, refl, refl, item_fresh x h.0, chain-fresh xs h.1)
