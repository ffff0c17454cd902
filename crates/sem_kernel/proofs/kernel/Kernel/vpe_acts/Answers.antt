use Rattle.sem_kernel.proofs.Owned.{own-here, own-calls}
use Rattle.sem_kernel.proofs.kernel.Kernel.vpe_acts.Goals as goal

pub vpe_acts-requires-clause-here : goal.vpe_acts-requires-clause-here
vpe_acts-requires-clause-here c =
    rw c.get.ensures (own-here c.self.inside.setup c.self.invariant.are.setup c.self.inside.id c.args.own (rw (← c.self.view_is) at c.requires))

pub vpe_acts-requires-clause-calls : goal.vpe_acts-requires-clause-calls
vpe_acts-requires-clause-calls c =
    rw c.get.ensures (own-calls c.self.inside.setup c.self.invariant.are.setup c.self.inside.id c.args.own (rw (← c.self.view_is) at c.requires))
