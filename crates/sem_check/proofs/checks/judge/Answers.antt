use Rattle.sem_check.proofs.Judging.{completes}
use Rattle.sem_check.proofs.checks.judge.Goals as goal

pub returns-in-Ok-None-clause-complete : goal.returns-in-Ok-None-clause-complete
returns-in-Ok-None-clause-complete c =
    let none = rw c.in-Ok-None.field-0-is at c.in-Ok-None.ensures.next in
    completes c.args.setup.now c.args.entries.now c.args.world c.requires none c.keeps_its_rules.ensures
