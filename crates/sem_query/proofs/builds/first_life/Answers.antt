use Rattle.std.proofs.Common.{ap, ◌∙◌}
use Rattle.std.specs.Option.{option_map}
use Rattle.sem_key.specs.Capability.{Capability}
use Rattle.sem_msg.specs.Lookups.{owner_of}
use Rattle.sem_machine.specs.Sides.{cap}
use Rattle.sem_machine.specs.Machine.{World, side}
use Rattle.sem_query.specs.Building.{begun_life}
use Rattle.sem_query.proofs.Begin.{begun-is}
use Rattle.sem_query.proofs.builds.first_life.Goals as goal

pub returns : goal.returns
returns c =
    c.new.ensures
    ∙ (ap (begun_life c.args.key) (c.held_selector.ensures
    ∙ ap (λ (W : World). option_map (λ (x : Capability). x.selector) (cap (side W (owner_of c.args.setup.now c.args.key)) c.args.key)) c.requires.start)
    ∙ begun-is c.args.setup.now c.requires.setup c.args.key)
