use Rattle.std.proofs.Common.{refl}
use Rattle.sem_run.proofs.Finding.{begun}
use Rattle.sem_run.proofs.watches.FindingWatch.begin.Goals as goal

pub returns-in_default : goal.returns-in_default
returns-in_default c = record { gathered = begun c.args.setup.now c.args.self.now c.in_default.not-Sighted c.requires.new; same = refl }
