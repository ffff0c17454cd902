use Rattle.std.proofs.Common.{subst}
use Rattle.sem_kernel.specs.Worlds.{NamesPeer}
use Rattle.sem_node.proofs.linking.fetched_link.Goals as goal

pub full-requires-clause-kernels : goal.full-requires-clause-kernels
full-requires-clause-kernels c = ((subst (NamesPeer c.args.fabric.now.kernels c.args.kernel) c.in-Fetch.is c.requires.peer).0, c.requires.kernel)

pub full-requires-clause-other : goal.full-requires-clause-other
full-requires-clause-other c = (subst (NamesPeer c.args.fabric.now.kernels c.args.kernel) c.in-Fetch.is c.requires.peer).1

pub waiting-requires-clause-kernels : goal.waiting-requires-clause-kernels
waiting-requires-clause-kernels c = ((subst (NamesPeer c.args.fabric.now.kernels c.args.kernel) c.in-Fetch.is c.requires.peer).0, c.requires.kernel)

pub waiting-requires-clause-other : goal.waiting-requires-clause-other
waiting-requires-clause-other c = (subst (NamesPeer c.args.fabric.now.kernels c.args.kernel) c.in-Fetch.is c.requires.peer).1
