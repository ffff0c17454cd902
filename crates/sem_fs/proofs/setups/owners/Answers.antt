use Rattle.std.proofs.Common.{ap, ◌∙◌}
use Rattle.sem_key.specs.MembershipTable.{MembershipTable}
use Rattle.sem_files.specs.Files.{Files}
use Rattle.sem_fs.proofs.CompiledParts.{owns-none}
use Rattle.sem_fs.proofs.setups.owners.Goals as goal

pub loop-pe-init : goal.loop-pe-init
loop-pe-init c = owns-none c.args.files.now c.empty-owners.result
    (ap (λ (m : MembershipTable). m.kernels) c.empty-owners.ensures.empty ∙ ap (λ (F : Files). F.kernels) c.files.view_is)
    (ap (λ (m : MembershipTable). m.owners) c.empty-owners.ensures.empty)
