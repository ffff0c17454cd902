use Rattle.sem_run.proofs.alone.semper_alone.Goals as goal

pub returns : goal.returns
returns g c = c.leave.ensures _ (rw c.command.ensures at c.respond.ensures)
