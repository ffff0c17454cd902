use Rattle.sem_fs.proofs.FileClosings.{closed-gone}
use Rattle.sem_fs.proofs.commands.files_closed.Goals as goal

pub returns : goal.returns
returns c = record { gone = closed-gone }
