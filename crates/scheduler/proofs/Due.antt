-- When a task is due: what the ticks since its release say of the tick, that no tick before the next due one is due, and that a calm
-- tick leaves the tasks as they are.
use Prim.Native.Nat.{ℕ, zero, suc, ◌+◌, ◌-◌, ◌*◌, ◌/◌, ◌≤◌, ◌<◌}
use native.Mathlib.Omega.{arith}
use native.Mathlib.Nat.{div-add-mod', mod-lt, lt_of_mul-lt-mul_right}
use mathlib.Core.Path.{◌≡◌, refl, sym, ap₂, subst, ◌∙◌}
use mathlib.Core.Bool.{Bool, true, false, cond}
use mathlib.Core.List.{List, [], ◌∷◌}
use lib.ListN.{length, take, get_or}
use lib.Dec.{ltb, eqb}
use borrow.Author.Tests.{lt-leb, lt-ltb, ltb-true, ltb-false, eqb-true, eqb-false}
use Rattle.lists.specs.Lists.{overlay_take}
use Rattle.lists.specs.Loops.{and_false}
use Rattle.lists.specs.Time.{due}
use Rattle.lists.specs.Count.{due_true, due-at}
use Rattle.table.specs.declared.Task.{Task}
use Rattle.table.specs.Facts.{TaskLimits, no_task}
use Rattle.rules.specs.Tick.{is_open, expires, dropped, opened, opened_all}
use Rattle.std.proofs.Math.Nat.{min-le_left, min-le_right}
use Rattle.scheduler.specs.Opening.{since, next_due, soonest, Rests, Calm, calm_after, left_opened, drops_of}

pub positive : (n : ℕ) → (n ≡ 0 → ⊥) → 0 < n
positive zero f = absurd (f refl)
positive (suc n) f = omega arith

-- ---- times that are not due: before the start, and between two that stand a period apart
not_so : (b : Bool) → (b ≡ true → ⊥) → b ≡ false
not_so true f = absurd (f refl)
not_so false f = refl

early : (u g p : ℕ) → u < g → due u g p ≡ false
early u g p h = rw (lt-leb g u h)

between : (u g p n : ℕ) → g + n * p < u → u < g + suc n * p → due u g p ≡ false
between u g p n a b = not_so (due u g p) (λ e.
    let m = due_true u g p e in
    let lo : n < m.0 = lt_of_mul-lt-mul_right p (omega (arith, m.1)) in
    let hi : m.0 < suc n = lt_of_mul-lt-mul_right p (omega (arith, m.1)) in
    omega arith)

-- ---- a task by its numbers: phase f, period p, deadline d
module _ (f p d : ℕ) (some : 1 ≤ d) (within : d ≤ p) where
  -- no deadline falls from a release up to the next deadline, but where it is a period later and so falls at the release
  before-deadline : (n u : ℕ) → f + (n * p + d) < u + p → u < f + (n * p + d) → due u (f + d) p ≡ false
  before-deadline zero u a b = early u (f + d) p (omega arith)
  before-deadline (suc n) u a b = between u (f + d) p n (omega arith) (omega arith)

  at_release_late : (n u : ℕ) → u ≡ f + n * p → p ≤ d → f < u → due u (f + d) p ≡ true
  at_release_late zero u e a b = absurd (omega arith)
  at_release_late (suc n) u e a b =
      let g : u ≡ f + d + n * p = omega arith in
      rw g (due-at (f + d) p n)

-- ---- a task in tick t, from its phase on
module _ (t : ℕ) (x : Task) (limits : TaskLimits x) where
  module _ (from : x.phase ≤ t) where
    abbrev n : ℕ
    n = (t - x.phase) / x.period

    is : t ≡ x.phase + (n * x.period + since t x)
    is = omega (arith, div-add-mod' (t - x.phase) x.period)

    pub since-short : since t x < x.period
    since-short = mod-lt (t - x.phase) (omega (arith, limits.some, limits.within, limits.constrained))

    -- the release: since = 0
    released : since t x ≡ 0 → due t x.phase x.period ≡ true
    released z =
        let e : t ≡ x.phase + n * x.period = omega (arith, is) in
        subst (λ (u : ℕ). due u x.phase x.period ≡ true) (sym e) (due-at x.phase x.period n)

    -- a deadline at the release: that of the job before
    late-at_release : since t x ≡ 0 → x.period ≤ x.deadline → x.phase < t → due t (x.phase + x.deadline) x.period ≡ true
    late-at_release z a b =
        at_release_late x.phase x.period x.deadline (omega (arith, limits.some, limits.within)) limits.constrained n t (omega (arith, is)) a b

    -- before the deadline, at it, after it
    not_yet_late : 0 < since t x → since t x < x.deadline → due t (x.phase + x.deadline) x.period ≡ false
    not_yet_late a b =
        before-deadline x.phase x.period x.deadline (omega (arith, limits.some, limits.within)) limits.constrained n t
        (omega (arith, is, limits.constrained)) (omega (arith, is))

    late : since t x ≡ x.deadline → due t (x.phase + x.deadline) x.period ≡ true
    late z =
        let e : t ≡ x.phase + x.deadline + n * x.period = omega (arith, is) in
        subst (λ (u : ℕ). due u (x.phase + x.deadline) x.period ≡ true) (sym e) (due-at (x.phase + x.deadline) x.period n)

    past-late : x.deadline < since t x → due t (x.phase + x.deadline) x.period ≡ false
    past-late h = between t (x.phase + x.deadline) x.period n (omega (arith, is)) (omega (arith, is, since-short))

    -- the ticks after t, before the next due one
    rests_before : since t x < x.deadline → (u : ℕ) → t < u → u < t + (x.deadline - since t x) → Rests u x
    rests_before h u a b = (
      between u x.phase x.period n (omega (arith, is)) (omega (arith, is, limits.constrained)),
      before-deadline x.phase x.period x.deadline (omega (arith, limits.some, limits.within)) limits.constrained n u
          (omega (arith, is, limits.constrained)) (omega (arith, is)),
    )

    rests_after : x.deadline ≤ since t x → (u : ℕ) → t < u → u < t + (x.period - since t x) → Rests u x
    rests_after h u a b = (
      between u x.phase x.period n (omega (arith, is)) (omega (arith, is, since-short)),
      between u (x.phase + x.deadline) x.period n (omega (arith, is)) (omega (arith, is, since-short)),
    )

  rests_early : (u : ℕ) → u < x.phase → Rests u x
  rests_early u h = (early u x.phase x.period h, early u (x.phase + x.deadline) x.period (omega arith))

  -- no tick before the next due one is due
  pub rests_until : (u : ℕ) → t < u → u < next_due t x → Rests u x
  rests_until u a b = by (ltb t x.phase) refl b
    where
      later : x.phase ≤ t → (c : Bool) → ltb (since t x) x.deadline ≡ c → u < t + cond c (x.deadline - since t x) (x.period - since t x) → Rests u x
      later from true e b = rests_before from (ltb-true _ _ e) u a b
      later from false e b = rests_after from (ltb-false _ _ e) u a b

      by : (c : Bool) → ltb t x.phase ≡ c → u < cond c x.phase (t + cond (ltb (since t x) x.deadline) (x.deadline - since t x) (x.period - since t x)) → Rests u x
      by true e b = rests_early u b
      by false e b = later (ltb-false _ _ e) (ltb (since t x) x.deadline) refl b

  -- ---- steps 1 and 2
  module _ (l : ℕ) where
    not_due : due t (x.phase + x.deadline) x.period ≡ false → expires t x l ≡ false
    not_due e = rw e (and_false (is_open l))

    module _ (from : x.phase ≤ t) (some : 0 < l) where
      is_due : expires t x l ≡ due t (x.phase + x.deadline) x.period
      is_due = rw (lt-ltb 0 l some)

      -- a deadline shorter than the period falls so many ticks after the release
      pub expires_short : x.deadline < x.period → eqb (since t x) x.deadline ≡ expires t x l
      expires_short h = by (eqb (since t x) x.deadline) refl ∙ sym is_due
        where
          by : (b : Bool) → eqb (since t x) x.deadline ≡ b → b ≡ due t (x.phase + x.deadline) x.period
          by true e = sym (late from (eqb-true _ _ e))
          by false e =
              let apart : since t x ≡ x.deadline → ⊥ = eqb-false _ _ e in
              order (ltb (since t x) x.deadline) refl apart
            where
              order : (b : Bool) → ltb (since t x) x.deadline ≡ b → (since t x ≡ x.deadline → ⊥) → false ≡ due t (x.phase + x.deadline) x.period
              order true o apart =
                  let lt : since t x < x.deadline = ltb-true _ _ o in
                  sym (before-deadline x.phase x.period x.deadline (omega (arith, limits.some, limits.within)) limits.constrained (n from) t
                  (omega (arith, is from)) (omega (arith, is from)))
              order false o apart =
                  let le : x.deadline ≤ since t x = ltb-false _ _ o in
                  sym (past-late from (omega arith))

      -- one that is as long as the period falls at the next release
      pub expires_long : x.period ≤ x.deadline → since t x ≡ 0 → ltb x.phase t ≡ expires t x l
      expires_long h z = by (ltb x.phase t) refl ∙ sym is_due
        where
          by : (b : Bool) → ltb x.phase t ≡ b → b ≡ due t (x.phase + x.deadline) x.period
          by true e = sym (late-at_release from z h (ltb-true _ _ e))
          by false e =
              let le : t ≤ x.phase = ltb-false x.phase t e in
              sym (early t (x.phase + x.deadline) x.period (omega (arith, limits.some, limits.within)))

      pub expires_between : x.period ≤ x.deadline → (since t x ≡ 0 → ⊥) → eqb (since t x) 0 ≡ expires t x l
      expires_between h z = by (eqb (since t x) 0) refl
        where
          by : (b : Bool) → eqb (since t x) 0 ≡ b → b ≡ expires t x l
          by true e = absurd (z (eqb-true _ _ e))
          by false e = sym (not_due (not_yet_late from (positive _ z) (omega (arith, since-short from))))

-- ---- the tasks of a table
-- the soonest of the next ticks is no later than each of them
soonest_le : (t : ℕ) (xs : List Task) (n i : ℕ) → i < n → soonest t xs n ≤ next_due t (get_or xs i no_task)
soonest_le t xs zero i h = absurd (omega arith)
soonest_le t xs (suc n) i h = by (ltb i n) refl (soonest_le t xs n i)
  where
    by : (c : Bool) → ltb i n ≡ c → (i < n → soonest t xs n ≤ next_due t (get_or xs i no_task)) → soonest t xs (suc n) ≤ next_due t (get_or xs i no_task)
    by true e rest = let lt : i < n = ltb-true i n e in omega (arith, rest lt, min-le_left (soonest t xs n) (next_due t (get_or xs n no_task)))
    by false e rest =
        let le : n ≤ i = ltb-false i n e in
        let same : i ≡ n = omega arith in
        rw same (min-le_right (soonest t xs n) (next_due t (get_or xs n no_task)))

-- the calm that is known after tick t lasts
pub calm-on : (t : ℕ) (xs : List Task) (n c : ℕ) → ((i : ℕ) → i < n → TaskLimits (get_or xs i no_task)) → Calm xs n t c → Calm xs n (t + 1) (calm_after t xs n c)
calm-on t xs n c limits calm u i from before h = by (ltb t c) refl before
  where
    by : (b : Bool) → ltb t c ≡ b → u < cond b c (soonest t xs n) → Rests u (get_or xs i no_task)
    by true e k = calm u i (omega arith) k h
    by false e k = rests_until t (get_or xs i no_task) (limits i h) u (omega arith) (omega (arith, soonest_le t xs n i h))

-- a calm tick leaves the tasks as they are, and drops nothing
rests_opened : (u : ℕ) (x : Task) (l : ℕ) → Rests u x → (opened u x l ≡ l) × (expires u x l ≡ false)
rests_opened u x l r =
    let e : expires u x l ≡ false = rw r.1 (and_false (is_open l)) in
    (rw (r.0, e), e)

module _ (u : ℕ) where
  pub calm-opened : (n : ℕ) (xs : List Task) (ls : List ℕ) → n ≤ length xs → ((i : ℕ) → i < n → Rests u (get_or xs i no_task)) →
      opened_all u (take n xs) (take n ls) ≡ take n ls
  calm-opened zero xs ls h rests = refl
  calm-opened (suc n) [] ls h rests = absurd (omega arith)
  calm-opened (suc n) (x ∷ xs) [] h rests = refl
  calm-opened (suc n) (x ∷ xs) (l ∷ ls) h rests =
      ap₂ (λ (k : ℕ) (ks : List ℕ). k ∷ ks) (rests_opened u x l (rests 0 (omega arith))).0 (calm-opened n xs ls (omega arith) (λ i k. rests (suc i) (omega arith)))

  pub calm-dropped : (n : ℕ) (xs : List Task) (ls : List ℕ) → ((i : ℕ) → i < n → Rests u (get_or xs i no_task)) → dropped u (take n xs) (take n ls) ≡ 0
  calm-dropped zero xs ls rests = refl
  calm-dropped (suc n) [] ls rests = refl
  calm-dropped (suc n) (x ∷ xs) [] rests = refl
  calm-dropped (suc n) (x ∷ xs) (l ∷ ls) rests =
      rw (rests_opened u x l (rests 0 (omega arith))).1 (calm-dropped n xs ls (λ i k. rests (suc i) (omega arith)))

module _ (t : ℕ) (xs : List Task) (ls : List ℕ) (n c : ℕ) (few : n ≤ length xs) (calm : Calm xs n t c) (h : t < c) where
  rests : (i : ℕ) → i < n → Rests t (get_or xs i no_task)
  rests i k = calm t i (omega arith) h k

  pub calm-left : ls ≡ left_opened t xs ls n
  calm-left = rw (calm-opened t n xs ls few rests, overlay_take n ls)

  pub calm-drops : 0 ≡ drops_of t xs ls n
  calm-drops = rw (calm-dropped t n xs ls rests)
