use Rattle.std.proofs.Common.{◌≡◌, ◌++◌, subst}
use Rattle.std.specs.Prelude.{OnOk}
use Rattle.sem_kernel.proofs.PeerRows.{flushes-kept}
use Rattle.sem_kernel.proofs.listing.append_flushes.Goals as goal

pub returns : goal.returns
returns c =
    let k = c.index-kernels-kernel.result in
    let valid = c.keeps_its_rules.ensures in
    subst (λ es. OnOk c.append_peers.result (c.append_peers.new.out.items ≡ c.args.out.now.items ++ es))
    (flushes-kept c.args.setup.now c.args.kernels.now c.args.fabric.now c.requires.together c.args.kernel c.requires.few k c.index-kernels-kernel.is valid
    c.without-mask.result c.filled-filled.result c.full_to.result c.without-mask.ensures c.filled-filled.ensures c.full_to.ensures)
    c.append_peers.ensures
