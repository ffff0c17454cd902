use Rattle.std.proofs.Common.{◌∙◌}
use Rattle.sem_journal.proofs.MessageNames.{form_name, short_name}
use Rattle.sem_journal.proofs.put.name_of.Goals as goal

pub returns-clause-name : goal.returns-clause-name
returns-clause-name c =
    c.as_bytes.ensures.value ∙ form_name c.of_message.result.now c.args.kind c.of_message.ensures.row c.of_message.ensures.kind

pub returns-clause-short : goal.returns-clause-short
returns-clause-short c =
    rw c.as_bytes.ensures.value (short_name c.of_message.result.now c.args.kind c.of_message.ensures.row c.of_message.ensures.kind)
