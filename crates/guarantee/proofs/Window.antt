-- The window: since its start every tick was used by the list, so it stays shorter than a length that meets the list's demand.
use Rattle.std.specs.Prelude.{ℕ, zero, suc, ◌+◌, ◌≤◌, ◌<◌, ◌≡◌, refl, Bool, true, false, ◌&&◌, ◌||◌, not, List, [], ◌∷◌, ◌⊎◌, take}
use Rattle.std.proofs.Common.{arith, ap, inl, inr, lt-ltb}
use Rattle.lists.specs.Tests.{never}
use Rattle.server.specs.declared.Server.{Server}
use Rattle.server.specs.Whole.{Whole}
use Rattle.server.specs.Kind.{Kind, background, polling, deferrable, sporadic, returning}
use Rattle.server.proofs.Account.{Bits, After}
use Rattle.rules.specs.Tick.{is_open, opened}
use Rattle.guarantee.proofs.Items.{Item, task, server, Cells, start, wants, finish, fresh, later, taken, chain, some_open, tick_items, fresh_all, states, items_demand}
use Rattle.guarantee.proofs.Chain.{Lively, SoundAll, AccAll, LivelyAll, chain_next, chain-supply, chain-fresh}

-- R is a length that meets the demand of the list; the window began at `from`, is shorter than R, and every tick of it was used
pub record Window (xs : List Item) (R t : ℕ) (cs : Cells xs) : Type 0 where
  pub from : ℕ
  pub given : ℕ
  pub left : ℕ
  pub past : from ≤ t
  pub short : t < from + R
  pub acc : AccAll xs cs t from given left
  pub paid : left + t ≤ given + from

pub window_tick : (xs : List Item) → SoundAll xs → (R : ℕ) → 0 < R → items_demand xs R ≤ R → (busy live : Bool) (w : ℕ → Bits) (t : ℕ) (cs : Cells xs) →
    LivelyAll xs t busy live true w cs →
    Window xs R t cs → Window xs R (suc t) (chain xs t busy true w cs)
window_tick xs h R r0 fit busy live w t cs l x = go a.y' refl live refl
  where
    a : After (AccAll xs (chain xs t busy true w cs) (suc t)) live true (taken xs t busy w cs) t x.from x.given x.left
    a = chain_next xs h busy live true w t x.from x.given x.left cs l x.acc

    go : (n : ℕ) → a.y' ≡ n → (b : Bool) → live ≡ b → Window xs R (suc t) (chain xs t busy true w cs)
    go zero e b q = record { from = suc t; given = 0; left = 0; past = omega arith; short = omega arith; acc = a.again e; paid = omega arith }
    go (suc n) e false q = absurd (omega (arith, a.calm q))
    go (suc n) e true q =
        let k : AccAll xs (chain xs t busy true w cs) (suc t) x.from a.g' a.y' = a.acc q in
        let s : a.g' ≤ items_demand xs R = chain-supply xs h (chain xs t busy true w cs) (suc t) x.from a.g' a.y' R k x.short in
        let f : a.y' + x.given < x.left + a.g' = a.idle refl (omega arith) in
        record {
          from = x.from;
          given = a.g';
          left = a.y';
          past = omega (arith, x.past);
          short = omega (arith, x.paid);
          acc = k;
          paid = omega (arith, x.paid);
        }

-- ---- the first n items go their way whatever stands below them
abbrev pub cut : (n : ℕ) (xs : List Item) → Cells xs → Cells (take n xs)
cut zero xs cs = tt
cut (suc n) [] cs = tt
cut (suc n) (x ∷ xs) cs = (cs.0, cut n xs cs.1)

pub chain-cut : (n : ℕ) (xs : List Item) (t : ℕ) (busy free : Bool) (w : ℕ → Bits) (cs : Cells xs) → cut n xs (chain xs t busy free w cs)
    ≡ chain (take n xs) t busy free w (cut n xs cs)
unfolding chain
chain-cut zero xs t busy free w cs = refl
chain-cut (suc n) [] t busy free w cs = refl
chain-cut (suc n) (x ∷ xs) t busy free w cs =
    ap (λ (r : Cells (take n xs)). (finish x t busy free (w 0) (start x t busy cs.0), r))
    (chain-cut n xs t busy (free && not (wants x t (w 0) (start x t busy cs.0))) (later w) cs.1)

pub fresh-cut : (n : ℕ) (xs : List Item) → cut n xs (fresh_all xs) ≡ fresh_all (take n xs)
unfolding fresh_all
fresh-cut zero xs = refl
fresh-cut (suc n) [] = refl
fresh-cut (suc n) (x ∷ xs) = ap (λ (r : Cells (take n xs)). (fresh x, r)) (fresh-cut n xs)

pub sound_take : (n : ℕ) (xs : List Item) → SoundAll xs → SoundAll (take n xs)
sound_take zero xs h = tt
sound_take (suc n) [] h = tt
sound_take (suc n) (x ∷ xs) h = (h.0, sound_take n xs h.1)

-- ---- which servers stand in one list: any without a sporadic one, or one sporadic one alone
abbrev pub alone : Kind → Bool
alone background = false
alone polling = false
alone deferrable = false
alone sporadic = true
alone returning = false

abbrev pub Plain : List Item → Type 0
Plain [] = Unit {0}
Plain (task x ∷ xs) = Plain xs
Plain (server k s ∷ xs) = (alone k ≡ false) × Plain xs

abbrev pub Tasks : List Item → Type 0
Tasks [] = Unit {0}
Tasks (task x ∷ xs) = Tasks xs
Tasks (server k s ∷ xs) = ⊥

abbrev pub Sole : List Item → Type 0
Sole [] = Unit {0}
Sole (task x ∷ xs) = Sole xs
Sole (server k s ∷ xs) = (alone k ≡ true) × Tasks xs

kind-plain : (k : Kind) (s : Server) (busy free : Bool) (c : Whole) → alone k ≡ false → Lively (server k s) busy true free c
unfolding Lively
kind-plain background s busy free c e = tt
kind-plain polling s busy free c e = refl
kind-plain deferrable s busy free c e = refl
kind-plain sporadic s busy free c e = never e refl
kind-plain returning s busy free c e = refl

kind_sole : (k : Kind) (s : Server) (busy free : Bool) (c : Whole) → alone k ≡ true → (free ≡ false → busy ≡ true) → Lively (server k s) busy busy free c
unfolding Lively
kind_sole background s busy free c e f = tt
kind_sole polling s busy free c e f = never refl e
kind_sole deferrable s busy free c e f = never refl e
kind_sole sporadic s busy free c e f = (refl, f)
kind_sole returning s busy free c e f = never refl e

pub plain_lively : (xs : List Item) → Plain xs → (t : ℕ) (busy free : Bool) (w : ℕ → Bits) (cs : Cells xs) → LivelyAll xs t busy true free w cs
unfolding Lively
plain_lively [] h t busy free w cs = tt
plain_lively (task x ∷ xs) h t busy free w cs = (λ _. refl, plain_lively xs h t busy _ (later w) cs.1)
plain_lively (server k s ∷ xs) h t busy free w cs = (kind-plain k s busy free _ h.0, plain_lively xs h.1 t busy _ (later w) cs.1)

or_left : (a b : Bool) → a ≡ true → (a || b) ≡ true
or_left true b e = refl
or_left false b e = never refl e

or_right : (a b : Bool) → b ≡ true → (a || b) ≡ true
or_right true b e = refl
or_right false b e = e

tasks_lively : (xs : List Item) → Tasks xs → (t : ℕ) (busy free : Bool) (w : ℕ → Bits) (cs : Cells xs) → (some_open xs t cs ≡ true → busy ≡ true) →
    LivelyAll xs t busy busy free w cs
unfolding Lively some_open start
tasks_lively [] h t busy free w cs o = tt
tasks_lively (task x ∷ xs) h t busy free w cs o = (
  λ q. o (or_left _ (some_open xs t cs.1) (lt-ltb 0 (opened t x cs.0) q)),
  tasks_lively xs h t busy _ (later w) cs.1
      (λ q. o (or_right (is_open (opened t x cs.0)) _ q)),
)
tasks_lively (server k s ∷ xs) h t busy free w cs o = absurd h

sole_lively : (xs : List Item) → Sole xs → (t : ℕ) (busy free : Bool) (w : ℕ → Bits) (cs : Cells xs) → (some_open xs t cs ≡ true → busy ≡ true) →
    (free ≡ false → busy ≡ true) → LivelyAll xs t busy busy free w cs
unfolding Lively some_open start wants
sole_lively [] h t busy free w cs o f = tt
sole_lively (task x ∷ xs) h t busy free w cs o f =
    let l : is_open (opened t x cs.0) ≡ true → busy ≡ true = λ q. o (or_left (is_open (opened t x cs.0)) (some_open xs t cs.1) q) in (
      λ q. l (lt-ltb 0 (opened t x cs.0) q),
      sole_lively xs h t busy _ (later w) cs.1 (λ q. o (or_right (is_open (opened t x cs.0)) _ q))
          (go free (is_open (opened t x cs.0)) f l),
    )
  where
    go : (a b : Bool) → (a ≡ false → busy ≡ true) → (b ≡ true → busy ≡ true) → (a && not b) ≡ false → busy ≡ true
    go true true f l q = l refl
    go true false f l q = never q refl
    go false b f l q = f refl
sole_lively (server k s ∷ xs) h t busy free w cs o f = (kind_sole k s busy free _ h.0 f, tasks_lively xs h.1 t busy _ (later w) cs.1 o)

open_cut : (n : ℕ) (xs : List Item) (t : ℕ) (cs : Cells xs) → some_open (take n xs) t (cut n xs cs) ≡ true → some_open xs t cs ≡ true
unfolding some_open
open_cut zero xs t cs e = never refl e
open_cut (suc n) [] t cs e = e
open_cut (suc n) (task x ∷ xs) t cs e = go (is_open (opened t x cs.0)) (open_cut n xs t cs.1) e
  where
    go : (b : Bool) → (some_open (take n xs) t (cut n xs cs.1) ≡ true → some_open xs t cs.1 ≡ true) → (b || some_open (take n xs) t (cut n xs cs.1))
        ≡ true → (b || some_open xs t cs.1) ≡ true
    go true ih e = refl
    go false ih e = ih e
open_cut (suc n) (server k s ∷ xs) t cs e = open_cut n xs t cs.1 e

pub plain_take : (n : ℕ) (xs : List Item) → Plain xs → Plain (take n xs)
plain_take zero xs h = tt
plain_take (suc n) [] h = tt
plain_take (suc n) (task x ∷ xs) h = plain_take n xs h
plain_take (suc n) (server k s ∷ xs) h = (h.0, plain_take n xs h.1)

tasks_take : (n : ℕ) (xs : List Item) → Tasks xs → Tasks (take n xs)
tasks_take zero xs h = tt
tasks_take (suc n) [] h = tt
tasks_take (suc n) (task x ∷ xs) h = tasks_take n xs h
tasks_take (suc n) (server k s ∷ xs) h = absurd h

sole_take : (n : ℕ) (xs : List Item) → Sole xs → Sole (take n xs)
sole_take zero xs h = tt
sole_take (suc n) [] h = tt
sole_take (suc n) (task x ∷ xs) h = sole_take n xs h
sole_take (suc n) (server k s ∷ xs) h = (h.0, tasks_take n xs h.1)

-- ---- the window of the first n items, at every tick
pub window_at : (xs : List Item) → SoundAll xs → Plain xs ⊎ Sole xs → (n R : ℕ) → 0 < R → items_demand (take n xs) R ≤ R → (w : ℕ → ℕ → Bits) (t : ℕ) →
    Window (take n xs) R t (cut n xs (states xs w t))
unfolding states tick_items
window_at xs h m n R r0 fit w zero =
    rw (fresh-cut n xs) (record {
      from = 0;
      given = 0;
      left = 0;
      past = omega arith;
      short = omega arith;
      acc = chain-fresh (take n xs) (sound_take n xs h);
      paid = omega arith;
    })
window_at xs h m n R r0 fit w (suc t) = rw (chain-cut n xs t busy true (w t) cs) (go m (window_at xs h m n R r0 fit w t))
  where
    cs : Cells xs
    cs = states xs w t

    busy : Bool
    busy = some_open xs t cs

    go : Plain xs ⊎ Sole xs → Window (take n xs) R t (cut n xs cs) → Window (take n xs) R (suc t) (chain (take n xs) t busy true (w t) (cut n xs cs))
    go (inl k) x = window_tick (take n xs) (sound_take n xs h) R r0 fit busy true (w t) t (cut n xs cs)
        (plain_lively (take n xs) (plain_take n xs k) t busy true (w t) (cut n xs cs)) x
    go (inr k) x =
        window_tick (take n xs) (sound_take n xs h) R r0 fit busy busy (w t) t (cut n xs cs)
        (sole_lively (take n xs) (sole_take n xs k) t busy true (w t) (cut n xs cs) (open_cut n xs t cs) (λ q. never q refl)) x
