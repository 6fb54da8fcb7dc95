-- What is counted of the ticks, and the line that says it.
use Rattle.std.specs.Prelude.{ℕ, List, eqb, ltb, Ok, Err, Result}
use Rattle.lists.specs.Numbers.{bit_of, capped_sum}
use Rattle.table.specs.declared.Refusal.{Refusal}
use Rattle.rules.specs.declared.Ticked.{Ticked}
use Rattle.rules.specs.declared.Entry.{Entry}
use Rattle.rules.specs.Calls.{entry_by}
use Rattle.text.specs.Lines.{line_bytes}
use Rattle.lines.specs.Lines.{totals_line}
use Rattle.output.specs.declared.totals.Totals.{Totals}

-- of no tick
abbrev pub no_totals : Totals
no_totals = record { idle = 0; tasks = 0; requests = 0; drops = 0 }

-- 02: "Each of the last four equals the count (for drops, the sum) over the X lines": with a tick more, by its record, "occupant kind
-- (0 idle, 1 row, 2 request) .. and the drops". A sum that 32 bits do not hold stands at their last number; the totals of an accepted plan
-- stay far below it (proofs/ReadBack.antt).
abbrev pub counted : Totals → Entry → Totals
counted t e = record {
  idle = capped_sum t.idle (bit_of (eqb e.kind 0));
  tasks = capped_sum t.tasks (bit_of (eqb e.kind 1));
  requests = capped_sum t.requests (bit_of (ltb 1 e.kind));
  drops = capped_sum t.drops e.drops;
}

-- with the tick of an answer; a refused one prints no X line
abbrev pub answered : Totals → Result Ticked Refusal → Totals
answered t (Ok x) = counted t (entry_by x.occupant x.drops)
answered t (Err r) = t

-- 02: "`schedule` shall end with `E,ticks,idle,rows,requests,drops`"
abbrev pub closing_text : ℕ → Totals → List ℕ
closing_text ticks t = line_bytes (totals_line ticks t.idle t.tasks t.requests t.drops)
