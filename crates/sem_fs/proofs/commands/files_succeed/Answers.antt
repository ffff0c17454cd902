use Rattle.sem_files.specs.Compiled.{compiled}
use Rattle.sem_fs.proofs.CompiledServices.{is-service}
use Rattle.sem_fs.proofs.Serving.{all-succeed}
use Rattle.sem_fs.proofs.commands.files_succeed.Goals as goal

pub returns : goal.returns
returns c = record { succeed = λ F AF. all-succeed (compiled F) (is-service F AF) }
