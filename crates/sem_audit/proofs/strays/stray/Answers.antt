use Rattle.std.proofs.Common.{List, ◌∙◌, ap}
use Rattle.sem_kernel.specs.Worlds.{WorldValue}
use Rattle.sem_machine.specs.Sides.{Side}
use Rattle.sem_reader.proofs.ReadText.{if_ok}
use Rattle.sem_audit.specs.Straying.{stray_count}
use Rattle.sem_audit.proofs.strays.stray.Goals as goal

-- the kernels are those of the world after the journal
pub returns : goal.returns
returns c =
    if_ok c.stray_of.result _ _ c.stray_of.ensures
    (λ count is. is ∙ ap (λ (ss : List Side). stray_count c.args.setup.now c.args.journal.now.entries ss) (c.kernels.ensures
    ∙ ap (λ (w : WorldValue). w.world.sides) c.in_ok-world.ensures))
