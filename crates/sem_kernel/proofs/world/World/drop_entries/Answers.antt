use Rattle.std.proofs.Common.{ap, length, ◌∙◌}
use Rattle.sem_fabric.proofs.Entries.{replies-kept}
use Rattle.sem_kernel.specs.Worlds.{world_of}
use Rattle.sem_kernel.proofs.world.World.drop_entries.Goals as goal

pub returns : goal.returns
returns c =
    let inside = c.self.inside in
    let W = world_of inside.kernels.items inside.fabric in
    ap (λ f. record { setup = inside.setup; world = world_of inside.kernels.items f }) c.keep_replies.ensures
    ∙ (ap (λ n. record { setup = inside.setup; world = record W { replies = n } }) (ap length (replies-kept inside.fabric.journal)) ∙ c.self.view_is)
