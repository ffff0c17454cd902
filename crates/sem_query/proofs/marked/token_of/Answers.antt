use Rattle.std.proofs.Common.{sym, ap, ◌∙◌}
use Rattle.sem_query.specs.MarkedKeys.{above_in}
use Rattle.sem_query.specs.MarkedKeys.IsSeen.{idle, token}
use Rattle.sem_machine.specs.Machine.{side}
use Rattle.sem_query.proofs.Parting.{idle-none, idle-unlisted}
use Rattle.sem_query.proofs.marked.token_of.Goals as goal

pub returns-in_default : goal.returns-in_default
returns-in_default c = idle (idle-none c.args.setup.now c.args.world.now.world c.args.entry.now c.args.marked.now c.requires (sym c.returned.ensures
    ∙ c.in_default.is))

pub returns-in-Some-first_marked : goal.returns-in-Some-first_marked
returns-in-Some-first_marked c =
    let key = c.in-Some-first_marked.key in
    let there = c.in-Some-first_marked.ensures.found in
    token (record {
      comes_back = sym c.returned.ensures ∙ c.in-Some.is;
      home = there.1;
      marked = (c.requires key c.in-Some.job).0 there.0;
      parent = c.above.ensures ∙ ap (λ i. above_in (side c.args.world.now.world i) key) there.1;
    })

pub returns-in-None : goal.returns-in-None
returns-in-None c =
    idle (idle-unlisted c.args.setup.now c.args.world.now.world c.args.entry.now c.args.marked.now c.requires c.in-Some.job (sym c.returned.ensures
    ∙ c.in-Some.is) c.in-None.ensures.none)
