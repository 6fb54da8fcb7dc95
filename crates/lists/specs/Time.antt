-- When something that recurs falls due, and how often it may in a stretch of time.
use Rattle.std.specs.Prelude.{ℕ, ◌+◌, ◌-◌, ◌%◌, ◌/◌, Bool, ◌&&◌, leb, eqb}

-- "t ≥ f and (t − f) divisible by p": t is `start`, or a whole number of periods after it.
-- The one test for releases, deadlines and replenishments. Where the period is 0 only t = `start` is due.
abbrev pub due : ℕ → ℕ → ℕ → Bool
due t start period = leb start t && eqb ((t - start) % period) 0

-- ceil(n/d)
abbrev pub ceil : ℕ → ℕ → ℕ
ceil n d = (n + (d - 1)) / d
