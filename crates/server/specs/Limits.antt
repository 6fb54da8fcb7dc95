-- The limits of times that the server's steps and the table share.
use Rattle.std.specs.Prelude.{ℕ}

-- "p ≤ 60,000 and f ≤ 60,000", "P ≤ 60,000"
abbrev pub max_time : ℕ
max_time = 60_000

-- "The clock may stand at 0 to 4,000,000,000; at the last value no tick runs."
abbrev pub last_clock : ℕ
last_clock = 4_000_000_000

-- "nr above 4,000,060,000": the last clock and the longest period
abbrev pub last_nr : ℕ
last_nr = 4_000_060_000
