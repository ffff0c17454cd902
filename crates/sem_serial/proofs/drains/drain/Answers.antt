use Rattle.std.proofs.Common.{refl}
use Rattle.sem_pick.specs.Seeds.{generator_of}
use Rattle.sem_bound.proofs.Spent.{limited}
use Rattle.sem_serial.proofs.Running.{part-of}
use Rattle.sem_serial.proofs.drains.drain.Goals as goal

-- nothing happened
pub returns-in_err-lists-clause-prefix : goal.returns-in_err-lists-clause-prefix
returns-in_err-lists-clause-prefix c = part-of c.args.setup.now c.args.fabric.now.journal (generator_of c.args.seed) c.args.fabric.now.journal
    (generator_of c.args.seed) refl

-- a schedule has few entries
pub returns-in_err-lists-clause-few : goal.returns-in_err-lists-clause-few
returns-in_err-lists-clause-few c = limited c.args.setup.now c.keeps_its_rules.ensures c.args.fabric.now.journal c.requires.schedule

pub returns-clause-few : goal.returns-clause-few
returns-clause-few c = limited c.args.setup.now c.keeps_its_rules.ensures c.run_on.new.fabric.journal c.run_on.ensures.stand.schedule
