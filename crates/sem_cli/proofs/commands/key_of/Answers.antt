use Rattle.std.proofs.Common.{◌∙◌}
use Rattle.sem_cli.proofs.KeyWords.{read-is}
use Rattle.sem_cli.proofs.commands.key_of.Goals as goal

pub returns : goal.returns
returns c = rw c.as_bytes.ensures.value at (c.ok.ensures.value
    ∙ read-is c.as_bytes.result.now c.read_key.result c.read_key.ensures.fault c.read_key.ensures.printed c.read_key.ensures.told)
