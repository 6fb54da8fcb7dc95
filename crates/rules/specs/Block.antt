-- A block: the list of idle entries that a caller lends a run, who has none of its own.
use Rattle.std.specs.Prelude.{ℕ, List, replicate}
use Rattle.rules.specs.declared.Entry.{Entry}

-- how many entries a block has
abbrev pub block_ticks : ℕ
block_ticks = 32

-- the list of a block before its ticks
abbrev pub idle_entries : List Entry
idle_entries = replicate block_ticks (record { kind = 0; id = 0; drops = 0 })
