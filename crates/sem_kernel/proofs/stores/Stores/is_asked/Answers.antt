use Rattle.std.proofs.Common.{◌∙◌, ap}
use Rattle.std.specs.Prelude.{nat_lt}
use Rattle.sem_msg.specs.VpeRows.{row}
use Rattle.sem_kernel.proofs.Passing.{some-within}
use Rattle.sem_kernel.proofs.stores.Stores.is_asked.Goals as goal

pub returns : goal.returns
returns c = ap (nat_lt 0) c.asks.ensures.asks ∙ some-within (row c.args.self.now.vpes.rows c.args.vpe).asks 0
