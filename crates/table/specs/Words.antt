-- What a call's refusal prints as.
use Rattle.std.specs.Prelude.{ℕ, List, ◌++◌, codes}
use Rattle.std.specs.Fmt.{decimal}
use Rattle.table.specs.declared.Refusal.{Refusal}

-- the words of the table of refusals; a bad row says which
abbrev pub word : Refusal → List ℕ
word Refusal.TaskCount = codes "row count"
word (Refusal.BadTask i) = codes "bad row " ++ decimal i
word Refusal.BadServer = codes "bad server"
word Refusal.BadWork = codes "bad work"
word Refusal.QueueFull = codes "queue full"
word Refusal.ClockSpent = codes "clock spent"
word Refusal.ShortRecord = codes "short record"
word Refusal.UnfitState = codes "unfit state"
