use Rattle.sem_fs.proofs.CompiledServices.{is-service}
use Rattle.sem_fs.proofs.commands.commands_make_services.Goals as goal

pub returns : goal.returns
returns c = record { service = is-service }
