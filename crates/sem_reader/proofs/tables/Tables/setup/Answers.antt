use Rattle.std.proofs.Common.{ℕ, Option, ap, sym, ◌∙◌}
use Rattle.std.specs.Option.{option_map_or}
use Rattle.sem_trace.specs.declared.limits.TheConstants.{LINK_WINDOW}
use Rattle.sem_trace.specs.SetupOfText.{services_of, offers_of, denies_of}
use Rattle.sem_reader.proofs.SetupIs.{plain_vpes, setup_is, same_setup}
use Rattle.sem_reader.proofs.tables.Tables.setup.Goals as goal

pub services_of-requires : goal.services_of-requires
services_of-requires c = rw (c.in_ok-vpes.ensures _ _ _ c.requires.told.tells) (plain_vpes _ _ _ c.requires.told.tells.accepted)

pub kills_of-requires : goal.kills_of-requires
kills_of-requires c = rw (c.in_ok-vpes.ensures _ _ _ c.requires.told.tells) (plain_vpes _ _ _ c.requires.told.tells.accepted)

pub invariant_of-result : goal.invariant_of-result
invariant_of-result c =
    let told = c.requires.told.tells in
    rw (
      told.same_version,
      same_setup c.requires.told.version c.requires.told.kernels c.kernels.result c.unwrap_or.result c.requires.told.ds c.args.self.now.owners
          c.in_ok-vpes.vpes c.in_ok-services.services c.in_ok-offers.offers c.in_ok-denies.denies c.in_ok-kills.kills (c.unwrap_or.ensures
          ∙ ap (λ (o : Option ℕ). option_map_or (λ n. n) o LINK_WINDOW) told.window) c.requires.sizes.owners told.number told.owner c.kernels.ensures.number
          (c.in_ok-vpes.ensures _ _ _ told) c.in_ok-services.ensures (c.in_ok-offers.ensures _ _ _ told
          ∙ ap (offers_of _) (sym (c.in_ok-services.ensures ∙ ap services_of (c.in_ok-vpes.ensures _ _ _ told)))) (c.in_ok-denies.ensures _ _ _ told
          ∙ ap (denies_of _) (sym (c.in_ok-vpes.ensures _ _ _ told))) (c.in_ok-kills.ensures _ _ _ told),
    )
    (setup_is _ _ _ told.versions told.some told.few told.accepted)

pub returns : goal.returns
returns c = record {
  setup =
      λ version kernels ds told. rw told.same_version (same_setup version kernels c.kernels.result c.unwrap_or.result ds c.args.self.now.owners c.in_ok-vpes.vpes
      c.in_ok-services.services c.in_ok-offers.offers c.in_ok-denies.denies c.in_ok-kills.kills (c.unwrap_or.ensures
      ∙ ap (λ (o : Option ℕ). option_map_or (λ n. n) o LINK_WINDOW) told.window) c.requires.sizes.owners told.number told.owner c.kernels.ensures.number
      (c.in_ok-vpes.ensures _ _ _ told) c.in_ok-services.ensures (c.in_ok-offers.ensures _ _ _ told
      ∙ ap (offers_of _) (sym (c.in_ok-services.ensures ∙ ap services_of (c.in_ok-vpes.ensures _ _ _ told)))) (c.in_ok-denies.ensures _ _ _ told
      ∙ ap (denies_of _) (sym (c.in_ok-vpes.ensures _ _ _ told))) (c.in_ok-kills.ensures _ _ _ told));
}
