use Rattle.std.proofs.Common.{◌≡◌, ◌++◌, sym, ◌∙◌, ap, subst}
use Rattle.std.specs.Prelude.{OnOk}
use Rattle.std.specs.List.{range_with_len}
use Rattle.std.proofs.lemmas.List.{append-nil}
use Rattle.sem_msg.specs.declared.event.Act.TheVariants.{Fetch}
use Rattle.sem_machine.specs.Machine.{event}
use Rattle.sem_kernel.specs.Worlds.{world_of}
use Rattle.sem_kernel.proofs.Happened.{enabled-here}
use Rattle.sem_kernel.proofs.Listings.{none-kept}
use Rattle.sem_kernel.proofs.Passing.{deaf}
use Rattle.sem_kernel.proofs.PeerRows.{fetches-kept}
use Rattle.sem_kernel.proofs.listing.append_fetches.Goals as goal

-- with a message in its inbox it has none
pub returns-then-is_handling : goal.returns-then-is_handling
returns-then-is_handling c =
    let T = c.args.setup.now in
    let ks = c.args.kernels.now in
    let f = c.args.fabric.now in
    let i = c.args.kernel in
    let k = c.index-kernels-kernel.result in
    let none = none-kept T (world_of ks f) (λ j. event i (Fetch j)) (range_with_len 0 T.kernels)
    (λ j. sym (enabled-here T ks f c.requires.together i c.requires.few k c.index-kernels-kernel.is (Fetch j))
    ∙ deaf k f j (sym c.is_handling.ensures ∙ c.if-is_handling.true)) in
    sym (ap (λ es. c.args.out.now.items ++ es) none ∙ append-nil c.args.out.now.items)

-- from the other kernels from which a message waits
pub returns : goal.returns
returns c =
    let k = c.index-kernels-kernel.result in
    let valid = c.keeps_its_rules.ensures in
    subst (λ es. OnOk c.append_peers.result (c.append_peers.new.out.items ≡ c.args.out.now.items ++ es))
    (fetches-kept c.args.setup.now c.args.kernels.now c.args.fabric.now c.requires.together c.args.kernel c.requires.few k c.index-kernels-kernel.is valid
    (sym c.is_handling.ensures ∙ c.if-is_handling.false) c.coming.result c.coming.ensures)
    c.append_peers.ensures
