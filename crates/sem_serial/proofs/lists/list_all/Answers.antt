use Rattle.std.proofs.Common.{[], ◌∷◌, ◌++◌, ◌∙◌, map, ap}
use Rattle.std.proofs.lemmas.List.{map-append}
use Rattle.sem_kernel.specs.Worlds.{world_of}
use Rattle.sem_kernel.specs.Listing.{enabled_of}
use Rattle.sem_serial.proofs.Renewing.{listed-more}
use Rattle.sem_serial.proofs.lists.list_all.Goals as goal

pub loop-kernel-preserved : goal.loop-kernel-preserved
loop-kernel-preserved c =
    let W = world_of c.args.kernels.now c.args.fabric.now in
    ap (map (λ list. list.items)) c.in_ok-push.ensures.items
    ∙ (map-append (λ list. list.items) c.loop-kernel.lists.items (c.append_enabled.new.out ∷ [])
    ∙ listed-more c.args.setup.now W c.loop-kernel.kernel (map (λ list. list.items) c.loop-kernel.lists.items) c.append_enabled.new.out.items
    c.loop-kernel.invariant (c.in_ok-append_enabled.ensures ∙ ap (λ es. es ++ enabled_of c.args.setup.now W c.loop-kernel.kernel) c.new-list.ensures.items))
