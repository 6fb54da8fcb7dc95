use Rattle.table.specs.Facts.{table-facts}
use Rattle.admission.proofs.Load.of.Goals as goal

pub server_lead-requires-clause-facts : goal.server_lead-requires-clause-facts
server_lead-requires-clause-facts c = table-facts c.args.table.now c.requires

pub invariant_of-result-clause-facts : goal.invariant_of-result-clause-facts
invariant_of-result-clause-facts c = table-facts c.args.table.now c.requires
