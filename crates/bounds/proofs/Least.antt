-- The least length at which a demand is met, and what makes it the least.
use Rattle.std.specs.Prelude.{ℕ, zero, suc, ◌+◌, ◌≤◌, ◌<◌, ◌≡◌, refl, Bool, cond}
use Rattle.std.proofs.Common.{arith, ap, le-leb}
use Rattle.std.proofs.Math.Decide.{dec_le}
use Rattle.std.proofs.lemmas.Bool.{lt-leb}
use Rattle.bounds.specs.Least.{least}

-- R is the least of the k lengths from `from` on at which d is met: it is one of them and meets d, and none before it does
pub record IsLeast (d : ℕ → ℕ) (from k R : ℕ) : Type 0 where
  pub starts : from ≤ R
  pub ends : R < from + k
  pub meets : d R ≤ R
  pub first : (L : ℕ) → from ≤ L → L < R → L < d L

-- none of them meets d
abbrev pub NoneMeets : (ℕ → ℕ) → ℕ → ℕ → Type 0
NoneMeets d from k = (L : ℕ) → from ≤ L → L < from + k → L < d L

-- above 0 it is the least length, and 0 exactly where there is none
pub record Decided (d : ℕ → ℕ) (from k R : ℕ) : Type 0 where
  pub found : 0 < R → IsLeast d from k R
  pub none : R ≡ 0 → NoneMeets d from k
  pub zeroed : NoneMeets d from k → R ≡ 0

-- the first of the lengths, if it meets d; else the least of the others
module _ (d : ℕ → ℕ) (k from : ℕ) where
  least_first : d from ≤ from → least d (suc k) from ≡ from
  least_first m = omega (arith, ap {B = ℕ} (λ (b : Bool). cond b from (least d k (suc from))) (le-leb (d from) from m))

  least-later : from < d from → least d (suc k) from ≡ least d k (suc from)
  least-later m = omega (arith, ap {B = ℕ} (λ (b : Bool). cond b from (least d k (suc from))) (lt-leb (d from) from m))

pub least_decided : (d : ℕ → ℕ) (k from : ℕ) → 0 < from → Decided d from k (least d k from)
least_decided d zero from h = record { found = λ q. absurd (omega arith); none = λ q L a b. absurd (omega arith); zeroed = λ q. refl }
least_decided d (suc k) from h = go (dec_le (d from) from) (least_decided d k (suc from) (omega arith))
  where
    go : Dec (d from ≤ from) → Decided d (suc from) k (least d k (suc from)) → Decided d from (suc k) (least d (suc k) from)
    go (yes m) ih = rw (least_first d k from m) (record {
      found = λ q. record { starts = omega arith; ends = omega arith; meets = m; first = λ L a b. absurd (omega arith) };
      none = λ q. absurd (omega arith);
      zeroed = λ q. absurd (omega (arith, q from (omega arith) (omega arith)));
    })
    go (no m) ih = rw (least-later d k from (omega arith)) (record {
      found = λ q. let r = ih.found q in
          record { starts = omega (arith, r.starts); ends = omega (arith, r.ends); meets = r.meets; first = λ L a b. past L a (λ s. r.first L s b) };
      none = λ q L a b. past L a (λ s. ih.none q L s (omega arith));
      zeroed = λ q. ih.zeroed (λ L a b. q L (omega arith) (omega arith));
    })
      where
        past : (L : ℕ) → from ≤ L → (suc from ≤ L → L < d L) → L < d L
        past L a later = by (dec_le (suc from) L)
          where
            by : Dec (suc from ≤ L) → L < d L
            by (yes s) = later s
            by (no s) =
                let same : L ≡ from = omega arith in
                rw same (omega arith)
