-- The account of a task: what is given is what its releases bring, and what is left is its execution left.
use Rattle.std.specs.Prelude.{ℕ, zero, suc, ◌+◌, ◌-◌, ◌*◌, ◌≤◌, ◌<◌, ◌≡◌, refl, Bool, true, false, cond}
use Rattle.std.proofs.Common.{mul-le-mul_right, arith, ltb-true}
use Rattle.lists.specs.Tests.{never}
use Rattle.lists.specs.Time.{due, ceil}
use Rattle.lists.specs.Count.{dues, dues_mono, dues_rises, dues_window, due_true}
use Rattle.server.proofs.Account.{After}
use Rattle.table.specs.declared.Task.{Task}
use Rattle.rules.specs.Tick.{is_open, expires, after_drop, opened}

-- the work that was released before t
abbrev pub work : Task → ℕ → ℕ
work x t = dues x.phase x.period t * x.exec

abbrev pub Job : Task → ℕ → ℕ → ℕ → ℕ → ℕ → Type 0
Job x l t from g y = (y ≡ l) × (y ≤ g) × (g + work x from ≤ work x t)

-- steps 1 and 2: what is given, and what is left of it
arrived : (x : Task) → 0 < x.period → (t from g l : ℕ) → l ≤ g → g + work x from ≤ work x t →
    (g' : ℕ) × (opened t x l ≤ g') × (opened t x l + g ≤ l + g') × (g' + work x from ≤ work x (suc t))
arrived x h t from g l a b = go (due t x.phase x.period) refl (after_drop t x l) (drop (expires t x l))
  where
    drop : (c : Bool) → cond c 0 l ≤ l
    drop true = omega arith
    drop false = omega arith

    m : work x t ≤ work x (suc t)
    m = mul-le-mul_right x.exec (dues_mono x.phase x.period h t (suc t) (omega arith))

    go : (r : Bool) → due t x.phase x.period ≡ r → (k : ℕ) → k ≤ l →
        (g' : ℕ) × (cond r x.exec k ≤ g') × (cond r x.exec k + g ≤ l + g') × (g' + work x from ≤ work x (suc t))
    go true e k q =
        let d : (n : ℕ) × (t ≡ x.phase + n * x.period) = due_true t x.phase x.period e in
        (g + x.exec, omega arith, omega arith, omega (arith, mul-le-mul_right x.exec (dues_rises x.phase x.period h t d.0 d.1)))
    go false e k q = (g, omega arith, omega arith, omega (arith, m))

pub job_next : (x : Task) → 0 < x.period → (live free : Bool) (t from g y l : ℕ) → (0 < opened t x l → live ≡ true) → Job x l t from g y →
    After (Job x (cond free (opened t x l - 1) (opened t x l)) (suc t)) live free (is_open (opened t x l)) t from g y
job_next x h live free t from g y l o j = go free
  where
    n : ℕ
    n = opened t x l

    a : (g' : ℕ) × (n ≤ g') × (n + g ≤ l + g') × (g' + work x from ≤ work x (suc t))
    a = arrived x h t from g l (omega (arith, j.0, j.1)) j.2

    low : live ≡ false → n ≡ 0
    low e = zeroed n (λ q. o q)
      where
        zeroed : (k : ℕ) → (0 < k → live ≡ true) → k ≡ 0
        zeroed zero q = refl
        zeroed (suc k) q = never e (q (omega arith))

    go : (free : Bool) → After (Job x (cond free (n - 1) n) (suc t)) live free (is_open n) t from g y
    go false = record {
      g' = a.0;
      y' = n;
      acc = λ _. (refl, a.1, a.3);
      again = λ e. (omega arith, omega arith, omega arith);
      calm = low;
      pay = omega (arith, a.2, j.0);
      used = λ _ q. never refl q;
      idle = λ q. never refl q;
    }
    go true = record {
      g' = a.0;
      y' = n - 1;
      acc = λ _. (refl, omega (arith, a.1), a.3);
      again = λ e. (omega arith, omega arith, omega arith);
      calm = λ e. omega (arith, low e);
      pay = omega (arith, a.2, j.0);
      used = λ _ _ q. omega (arith, a.2, j.0, ltb-true 0 n q);
      idle = λ _ q. omega (arith, a.2, j.0);
    }

pub job_supply : (x : Task) → 0 < x.period → (l t from g y n : ℕ) → Job x l t from g y → t ≤ from + n → g ≤ ceil n x.period * x.exec
job_supply x h l t from g y n j b = omega (arith, j.2, mul-le-mul_right x.exec (dues_window x.phase x.period h from t n b))
