use Rattle.std.proofs.Common.{sym, ◌∙◌, ap}
use Rattle.std.specs.Prelude.{nat_lt}
use Rattle.sem_msg.specs.Fabric.{link_in}
use Rattle.sem_kernel.specs.Worlds.{is_passable}
use Rattle.sem_kernel.proofs.Passing.{some-within}
use Rattle.sem_kernel.proofs.carrying.is_passable.Goals as goal

-- a message is in the link
pub returns-in-Fetch : goal.returns-in-Fetch
returns-in-Fetch c =
    ap (nat_lt 0) c.waiting.ensures.count
    ∙ (some-within (link_in c.args.fabric.now.links c.in-Fetch.from c.args.kernel) 0
    ∙ ap (is_passable c.args.fabric.now c.args.kernel) (sym c.in-Fetch.is))
