-- What a reader still gives: the A lines from its position on, in their order.
use Rattle.std.specs.Prelude.{List}
use Rattle.plan.specs.declared.line.Arrival.{Arrival}
use Rattle.plan.specs.declared.reader.Reader.{Reader}
use Rattle.plan.specs.Plan.{arrivals_from}

abbrev pub arrivals_left : Reader → List Arrival
arrivals_left r = arrivals_from r.plan.now r.at
