use Rattle.std.proofs.Common.{arith}
use Rattle.sem_cli.proofs.OtherWords.{no_form}
use Rattle.sem_cli.proofs.commands.command.Goals as goal

-- five words or more
pub returns-in_default : goal.returns-in_default
returns-in_default c = no_form _ c.args.words.now (omega arith) (omega arith) (omega arith) (omega arith)
