use Rattle.sem_check.proofs.Following.{start-after}
use Rattle.sem_tree.proofs.trees.tree_of.Goals as goal

pub follow-requires-clause-start : goal.follow-requires-clause-start
follow-requires-clause-start c = start-after c.args.setup.now c.in_ok-world.world c.in_ok-world.ensures
