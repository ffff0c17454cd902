use Rattle.std.proofs.Common.{ap, arith, sym, ◌∙◌}
use Rattle.sem_msg.specs.Lookups.{owner_of}
use Rattle.sem_machine.specs.Machine.{World, side}
use Rattle.sem_query.specs.Changes.{seen_at_home}
use Rattle.sem_query.specs.Building.{seen_granted}
use Rattle.sem_query.proofs.Followed.{granted-seen, moved-seen, unmoved-seen}
use Rattle.sem_query.proofs.sighting.Sighting.after.Goals as goal

pub returns-then-is_granted-clause-seen : goal.returns-then-is_granted-clause-seen
returns-then-is_granted-clause-seen c =
    let T = c.args.setup.now in
    let k = c.args.self.now.key in
    c.see_granted-self.ensures
    ∙ (ap (λ (V : World). seen_granted k (side V (owner_of T k))) c.requires.world
    ∙ granted-seen T c.keeps_its_rules.ensures c.args.past.now c.args.next.now c.requires.schedule c.args.self.now c.requires.readied
    (omega arith) (sym c.if-is_granted.ensures))

pub returns-then-self-clause-seen : goal.returns-then-self-clause-seen
returns-then-self-clause-seen c =
    let T = c.args.setup.now in
    let k = c.args.self.now.key in
    c.see-self.ensures
    ∙ (ap (λ (V : World). seen_at_home k (side V (owner_of T k))) c.requires.world
    ∙ moved-seen T c.keeps_its_rules.ensures c.args.past.now c.args.next.now c.requires.schedule c.args.self.now c.requires.readied
    (omega arith) (sym c.if-is_granted.ensures) c.if-self.true)

pub returns-else-self-clause-seen : goal.returns-else-self-clause-seen
returns-else-self-clause-seen c =
    unmoved-seen c.args.setup.now c.keeps_its_rules.ensures c.args.past.now c.args.next.now c.requires.schedule c.args.self.now
    c.requires.readied (omega arith) (sym c.if-is_granted.ensures) c.if-self.false
