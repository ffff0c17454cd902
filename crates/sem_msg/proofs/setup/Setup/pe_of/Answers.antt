use Rattle.sem_msg.proofs.Declared.{placed}
use Rattle.sem_msg.proofs.setup.Setup.pe_of.Goals as goal

pub returns-clause-placed : goal.returns-clause-placed
returns-clause-placed c = placed c.args.self.now c.args.vpe (rw c.decl.ensures.decl at c.decl.ensures.valid)
