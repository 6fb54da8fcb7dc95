-- The kinds of server.
use Rattle.std.specs.Prelude.{ℕ, zero, suc, ◌≡◌, refl}

pub data Kind : Type 0 where
  background polling deferrable sporadic returning : Kind

-- "The server has a kind (0 background, 1 polling, 2 deferrable, 3 simple sporadic)." 3/13: "Add kind 4 in ticks".
-- A server of another number passes no check; its steps are those of kind 0, which change nothing.
abbrev pub kind_of : ℕ → Kind
kind_of zero = background
kind_of (suc zero) = polling
kind_of (suc (suc zero)) = deferrable
kind_of (suc (suc (suc zero))) = sporadic
kind_of (suc (suc (suc (suc zero)))) = returning
kind_of (suc (suc (suc (suc (suc k))))) = background

-- ---- law
pub kind-other : (k : ℕ) → (k ≡ 1 → ⊥) → (k ≡ 2 → ⊥) → (k ≡ 3 → ⊥) → (k ≡ 4 → ⊥) → kind_of k ≡ background
kind-other zero a b c d = refl
kind-other (suc zero) a b c d = absurd (a refl)
kind-other (suc (suc zero)) a b c d = absurd (b refl)
kind-other (suc (suc (suc zero))) a b c d = absurd (c refl)
kind-other (suc (suc (suc (suc zero)))) a b c d = absurd (d refl)
kind-other (suc (suc (suc (suc (suc k))))) a b c d = refl

-- what kinds 0 to 3 have alike, every number but 4 has
pub kind_but : {A : Type 0} (f : Kind → A) (d : A) → f background ≡ d → f polling ≡ d → f deferrable ≡ d → f sporadic ≡ d →
    (k : ℕ) → (k ≡ 4 → ⊥) → f (kind_of k) ≡ d
kind_but f d a b c e zero h = a
kind_but f d a b c e (suc zero) h = b
kind_but f d a b c e (suc (suc zero)) h = c
kind_but f d a b c e (suc (suc (suc zero))) h = e
kind_but f d a b c e (suc (suc (suc (suc zero)))) h = absurd (h refl)
kind_but f d a b c e (suc (suc (suc (suc (suc k))))) h = a
