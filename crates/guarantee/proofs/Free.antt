-- What stands above the i-th item takes at most its demand of a window, so the other ticks of it are free.
use Prim.Native.Nat.{ℕ, zero, suc, ◌+◌, ◌-◌, ◌≤◌, ◌<◌, zero-le}
use Rattle.std.proofs.Common.{arith, inl}
use Rattle.std.specs.Prelude.{◌≡◌, Bool, false, cond}
use Rattle.std.proofs.Math.Path.{refl}
use Rattle.std.proofs.Math.Bool.{true}
use mathlib.Core.List.{List}
use Rattle.std.proofs.Math.ListN.{take}
use Rattle.server.proofs.Account.{Bits, After}
use Rattle.guarantee.proofs.Items.{Item, Cells, taken, chain, some_open, tick_items, states, items_demand}
use Rattle.guarantee.proofs.Chain.{SoundAll, AccAll, chain_next, chain-supply}
use Rattle.guarantee.proofs.Window.{Window, cut, chain-cut, sound_take, Plain, plain_take, plain_lively, window_at}

module _ (xs : List Item) (w : ℕ → ℕ → Bits) (i : ℕ) where
  abbrev pub busy : ℕ → Bool
  busy t = some_open xs t (states xs w t)

  -- something above takes tick t
  unfoldable pub above : ℕ → Bool
  above t = taken (take i xs) t (busy t) (w t) (cut i xs (states xs w t))

  -- of the n ticks from t on, those in which nothing above does
  unfoldable pub frees : ℕ → ℕ → ℕ
  frees t zero = 0
  frees t (suc n) = cond (above t) 0 1 + frees (suc t) n

  frees_mono : (n m t : ℕ) → n ≤ m → frees t n ≤ frees t m
  unfolding frees
  frees_mono zero m t h = zero-le
  frees_mono (suc n) zero t h = absurd (omega arith)
  frees_mono (suc n) (suc m) t h = omega (arith, frees_mono n m (suc t) (omega arith))

  states-cut : (t : ℕ) → cut i xs (states xs w (suc t)) ≡ chain (take i xs) t (busy t) true (w t) (cut i xs (states xs w t))
  unfolding states tick_items
  states-cut t = chain-cut i xs t (busy t) true (w t) (states xs w t)

  -- f of the window's ticks before t were free
  free_ticks : SoundAll xs → Plain xs → (R from n t g y f : ℕ) → AccAll (take i xs) (cut i xs (states xs w t)) t from g y → t + n ≡ from + R →
      y + t ≤ g + from + f →
      R ≤ items_demand (take i xs) R + f + frees t n
  unfolding frees above
  free_ticks h k R from zero t g y f a e p = omega (arith, chain-supply (take i xs) (sound_take i xs h) (cut i xs (states xs w t)) t from g y R a (omega arith))
  free_ticks h k R from (suc n) t g y f a e p = go (above t) refl (free_ticks h k R from n (suc t) r.g' r.y')
    where
      pre : List Item
      pre = take i xs

      cs : Cells pre
      cs = cut i xs (states xs w t)

      r : After (AccAll pre (chain pre t (busy t) true (w t) cs) (suc t)) true true (taken pre t (busy t) (w t) cs) t from g y
      r = chain_next pre (sound_take i xs h) (busy t) true true (w t) t from g y cs (plain_lively pre (plain_take i xs k) t (busy t) true (w t) cs) a

      next : AccAll pre (cut i xs (states xs w (suc t))) (suc t) from r.g' r.y'
      next = rw (states-cut t) (r.acc refl)

      go : (b : Bool) → above t ≡ b →
          ((f : ℕ) → AccAll pre (cut i xs (states xs w (suc t))) (suc t) from r.g' r.y' → suc t + n ≡ from + R → r.y' + suc t ≤ r.g' + from + f →
          R ≤ items_demand pre R + f + frees (suc t) n) →
          R ≤ items_demand pre R + f + (cond b 0 1 + frees (suc t) n)
      go true q ih = omega (arith, ih f next (omega arith) (omega (arith, r.used refl refl q)))
      go false q ih = omega (arith, ih (suc f) next (omega arith) (omega (arith, r.pay)))

  -- where B more than the demand of what stands above meets R, B of any P ticks are free, R ≤ P
  pub enough_free : SoundAll xs → Plain xs → (B P R : ℕ) → 0 < R → R ≤ P → B + items_demand (take i xs) R ≤ R → (a : ℕ) → B ≤ frees a P
  enough_free h k B P R r0 soon fit a =
      let v : Window (take i xs) R a (cut i xs (states xs w a)) = window_at xs h (inl k) i R r0 (omega arith) w a in
      let n : ℕ = v.from + R - a in
      let f : R ≤ items_demand (take i xs) R + 0 + frees a n = free_ticks h k R v.from n a v.given v.left 0 v.acc (omega (arith, v.short))
      (omega (arith, v.paid)) in
      let m : frees a n ≤ frees a P = frees_mono n P a (omega (arith, v.past)) in
      omega arith
