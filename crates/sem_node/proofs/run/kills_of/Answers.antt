use Rattle.std.proofs.Common.{arith}
use Rattle.std.proofs.lemmas.Grind.{common_steps}
use Rattle.std.proofs.lemmas.List.Elements.{filter_map-append}
use Rattle.sem_node.proofs.run.kills_of.Goals as goal

pub loop-kill-preserved : goal.loop-kill-preserved
loop-kill-preserved c = grind (arith, common_steps, filter_map-append)
