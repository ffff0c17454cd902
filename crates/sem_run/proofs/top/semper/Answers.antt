use Rattle.sem_run.proofs.top.semper.Goals as goal

pub returns : goal.returns
returns g c = c.leave.ensures _ (rw c.command.ensures at c.respond_to.ensures)
