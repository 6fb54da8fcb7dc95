-- Tests: a list of tests as one test and as facts, and what the parts of a test say.
use Rattle.std.specs.Prelude.{ℕ, ◌≡◌, refl, Bool, true, false, cond, not, ◌&&◌, List, [], ◌∷◌, leb, ltb}
use Rattle.std.proofs.Common.{sym, ◌∙◌, ltb-true, ltb-false, leb-true, leb-false, lt-ltb, le-ltb, le-leb}
use Rattle.std.proofs.lemmas.Bool.{false≢true, lt-leb}

-- lo ≤ n ≤ hi
abbrev pub between : ℕ → ℕ → ℕ → Bool
between lo hi n = leb lo n && leb n hi

-- every test of a list passes, as one test and as facts
abbrev pub every : List Bool → Bool
every [] = true
every (b ∷ bs) = b && every bs

abbrev pub Every : List Bool → Type 0
Every [] = Unit {0}
Every (b ∷ bs) = (b ≡ true) × Every bs

-- ---- laws
pub never : {A : Type 0} {b : Bool} → b ≡ false → b ≡ true → A
never e f = absurd (false≢true (sym e ∙ f))

pub and_split : (a b : Bool) → a && b ≡ true → (a ≡ true) × (b ≡ true)
and_split true b e = (refl, e)
and_split false b e = never refl e

pub and_join : (a b : Bool) → a ≡ true → b ≡ true → a && b ≡ true
and_join true b e f = f
and_join false b e f = e

pub every-facts : (bs : List Bool) → every bs ≡ true → Every bs
every-facts [] e = tt
every-facts (b ∷ bs) e = let s = and_split b (every bs) e in (s.0, every-facts bs s.1)

pub facts-every : (bs : List Bool) → Every bs → every bs ≡ true
facts-every [] h = refl
facts-every (b ∷ bs) h = rw h.0 (facts-every bs h.1)

-- a test and the opposite one
pub at_least : (a b : ℕ) → leb b a ≡ not (ltb a b)
at_least a b = by (ltb a b) refl
  where
    by : (c : Bool) → ltb a b ≡ c → leb b a ≡ not c
    by true e = lt-leb b a (ltb-true a b e)
    by false e = le-leb b a (ltb-false a b e)

pub above : (a b : ℕ) → ltb b a ≡ not (leb a b)
above a b = by (leb a b) refl
  where
    by : (c : Bool) → leb a b ≡ c → ltb b a ≡ not c
    by true e = le-ltb b a (leb-true a b e)
    by false e = lt-ltb b a (leb-false a b e)

-- what holds of both choices holds of the choice
pub either : {A : Type 0} (P : A → Type 0) (c : Bool) {x y : A} → P x → P y → P (cond c x y)
either P true p q = p
either P false p q = q
