use Rattle.std.proofs.Common.{ℕ, ◌∷◌, List, map, ap, sym, subst, ◌∙◌}
use Rattle.sem_msg.specs.Setup.{IsSetup}
use Rattle.sem_files.specs.Files.{Files}
use Rattle.sem_files.specs.Compiled.{AreFiles, offer_of_extent}
use Rattle.sem_fs.specs.Clients.{clients_below}
use Rattle.sem_fs.specs.Extents.{server_with}
use Rattle.sem_fs.proofs.CompiledParts.{extents-near, same-compiled}
use Rattle.sem_fs.proofs.CompiledSetups.{setup-is}
use Rattle.sem_fs.proofs.Ordered.{client-valid}
use Rattle.sem_fs.proofs.setups.compile.Goals as goal

pub all_vpes-requires : goal.all_vpes-requires
all_vpes-requires c = extents-near c.args.files.now (subst AreFiles c.files.view_is c.files.invariant) c.as_slice.result.now (c.as_slice.ensures
    ∙ c.in_ok-extents.ensures)

pub offers-requires : goal.offers-requires
offers-requires c = extents-near c.args.files.now (subst AreFiles c.files.view_is c.files.invariant) c.as_slice-2.result.now (c.as_slice-2.ensures
    ∙ c.in_ok-extents.ensures)

pub invariant_of-result : goal.invariant_of-result
invariant_of-result c =
    let F : Files = c.args.files.now in
    let AF : AreFiles F = subst AreFiles c.files.view_is c.files.invariant in
    subst IsSetup
    (sym (same-compiled F c.files.inside.kernels c.owners.result c.in_ok-extents.extents c.in_ok-vpes.vpes c.in_ok-services.services c.in_ok-offers.offers
    c.new.result c.new-2.result (ap (λ (G : Files). G.kernels) c.files.view_is) c.owners.ensures c.in_ok-extents.ensures
    (c.in_ok-vpes.ensures ∙ ap (λ (xs : List ℕ). server_with xs ∷ clients_below F 63) c.as_slice.ensures)
    c.in_ok-services.ensures (c.in_ok-offers.ensures ∙ ap (map offer_of_extent) c.as_slice-2.ensures) c.new.ensures c.new-2.ensures))
    (setup-is F AF (λ v among. client-valid F AF v))

pub returns : goal.returns
returns c = same-compiled c.args.files.now c.files.inside.kernels c.owners.result c.in_ok-extents.extents c.in_ok-vpes.vpes c.in_ok-services.services
    c.in_ok-offers.offers
    c.new.result c.new-2.result (ap (λ (F : Files). F.kernels) c.files.view_is) c.owners.ensures c.in_ok-extents.ensures
    (c.in_ok-vpes.ensures ∙ ap (λ (xs : List ℕ). server_with xs ∷ clients_below c.args.files.now 63) c.as_slice.ensures)
    c.in_ok-services.ensures (c.in_ok-offers.ensures ∙ ap (map offer_of_extent) c.as_slice-2.ensures) c.new.ensures c.new-2.ensures
