use Rattle.std.proofs.Common.{◌≡◌, ap, sym, ◌∙◌}
use Rattle.std.specs.Option.{option_map, option_map_or}
use Rattle.sem_key.specs.Capability.{Capability}
use Rattle.sem_msg.specs.Lookups.{owner_of}
use Rattle.sem_machine.specs.Sides.{cap}
use Rattle.sem_machine.specs.Machine.{World, side}
use Rattle.sem_query.specs.declared.holder.Holder.TheVariants.{Unmarked, No}
use Rattle.sem_query.proofs.Followed.{start-seen}
use Rattle.sem_query.proofs.sighting.Sighting.begin.Goals as goal
use Rattle.sem_query.proofs.sighting.Sighting.begin.Goals.{in-Some, in-None}

-- a root is held unmarked at the start, and no other key is anywhere
pub returns-clause-seen : goal.returns-clause-seen
returns-clause-seen c =
    let T = c.args.setup.now in
    let k = c.args.self.now.key in
    let there : c.match-held_selector.self ≡ option_map_or Unmarked c.held_selector.result No = elim c.match-held_selector.branch [
      | in-Some w ↦ w.self-is ∙ ap (λ o. option_map_or Unmarked o No) (sym w.in-Some.is)
      | in-None w ↦ w.self-is ∙ ap (λ o. option_map_or Unmarked o No) (sym w.in-None.is)
    ] in
    start-seen T c.keeps_its_rules.ensures k c.args.self.now.count c.match-held_selector.self c.held_selector.result
    (c.held_selector.ensures ∙ ap (λ (W : World). option_map (λ (x : Capability). x.selector) (cap (side W (owner_of T k)) k)) c.requires)
    there
