use Rattle.std.proofs.Common.{ℕ, ◌∙◌, ap, arith, List, Option}
use Rattle.sem_gen.proofs.Owning.{owners-none, is_set, set-more}
use Rattle.sem_gen.proofs.setups.own.Goals as goal

pub loop-pe-init : goal.loop-pe-init
loop-pe-init c = c.empty-owners.ensures.empty ∙ ap (λ (os : List (Option ℕ)). record { kernels = c.args.kernels; owners = os }) (owners-none c.args.kernels)

pub unwrap-requires : goal.unwrap-requires
unwrap-requires c = is_set c.args.kernels c.loop-pe.pe c.loop-pe.owners c.set.result c.loop-pe.invariant (omega arith) c.set.ensures.taken

pub loop-pe-preserved : goal.loop-pe-preserved
loop-pe-preserved c = set-more c.args.kernels c.loop-pe.pe c.loop-pe.owners c.set.new.self c.set.result c.loop-pe.invariant
    (omega arith) c.set.ensures.taken c.set.ensures.ok
