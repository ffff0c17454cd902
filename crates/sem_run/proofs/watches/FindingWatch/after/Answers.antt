use Rattle.std.proofs.Common.{[], ◌∷◌, ◌++◌, refl}
use Rattle.sem_run.proofs.Finding.{idle-after}
use Rattle.sem_run.proofs.watches.FindingWatch.after.Goals as goal

pub returns-in_default : goal.returns-in_default
returns-in_default c = record {
  gathered = idle-after c.args.setup.now (c.args.past.now ++ c.args.next.now ∷ []) c.args.self.now c.in_default.not-Accounted c.in_default.not-Sighted;
  same = refl;
}
