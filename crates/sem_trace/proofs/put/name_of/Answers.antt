use Rattle.sem_trace.proofs.CallRows.{form_name, short_name}
use Rattle.sem_trace.proofs.put.name_of.Goals as goal

pub returns-clause-name : goal.returns-clause-name
returns-clause-name c = form_name c.of.result.now c.args.kind c.of.ensures.row c.of.ensures.kind

pub returns-clause-short : goal.returns-clause-short
returns-clause-short c = short_name c.of.result.now c.args.kind c.of.ensures.row c.of.ensures.kind
