-- The parts of what file commands are compiled to, number by number.
use Rattle.std.proofs.Common.{◌≡◌, ℕ, ◌+◌, Bool, true, false, cond, List, [], ◌∷◌, ◌++◌, map, replicate, length, get_or, Option, None, refl, sym, ap, ◌∙◌}
use Rattle.std.proofs.Common.{subst, inl, inr, arith}
use Rattle.std.specs.Prelude.{if◌then◌else◌}
use Rattle.std.specs.List.{All, filter, range_with_len}
use Rattle.std.proofs.lemmas.Bool.{cases_lt}
use Rattle.std.proofs.lemmas.List.{map-append, get_or_past, get_or-replicate, length-replicate}
use Rattle.std.proofs.lemmas.List.Elements.{filter-append}
use Rattle.std.proofs.lemmas.List.FromFn.{fill_by_all}
use Rattle.sem_key.specs.declared.limits.TheConstants.{PES}
use Rattle.sem_key.specs.MembershipTable.{MembershipTable}
use Rattle.sem_msg.specs.declared.setup.Offer.{Offer}
use Rattle.sem_msg.specs.declared.setup.Service.{Service}
use Rattle.sem_msg.specs.declared.setup.VpeDecl.{VpeDecl}
use Rattle.sem_files.specs.Files.{Files, is_client}
use Rattle.sem_files.specs.Compiled.{below, client, extents, owner_of_pe, offer_of_extent, service_key, compiled, AreFiles}
use Rattle.sem_fs.specs.Clients.{clients_below}
use Rattle.sem_fs.specs.Extents.{IsExtent, server_with}
use Rattle.sem_fs.specs.Owning.{OwnsBelow}
use Rattle.sem_fs.proofs.Growing.{range-more}
use Rattle.sem_fs.proofs.Rising.{Less, all-of, extent-near}

module _ (F : Files) where
  -- Clients.

  pub clients-none : clients_below F 0 ≡ []
  unfolding clients_below
  clients-none = refl

  one-client : (b : Bool) (v : ℕ) → map (client F) (cond b (v ∷ []) []) ≡ (if b then client F v ∷ [] else [])
  one-client true v = refl
  one-client false v = refl

  clients-push : (n : ℕ) → clients_below F (n + 1) ≡ clients_below F n ++ (if is_client F (n + 1) then client F (n + 1) ∷ [] else [])
  unfolding clients_below
  clients-push n =
      ap (λ ns. map (client F) (filter (is_client F) ns)) (range-more 1 n (n + 1) (omega arith))
      ∙ (ap (map (client F)) (filter-append (is_client F) (range_with_len 1 n) ((n + 1) ∷ []))
      ∙ (map-append (client F) (filter (is_client F) (range_with_len 1 n)) (filter (is_client F) ((n + 1) ∷ []))
      ∙ ap (λ ds. map (client F) (filter (is_client F) (range_with_len 1 n)) ++ ds) (one-client (is_client F (n + 1)) (n + 1))))

  -- the client of one number more
  pub clients-more : (n : ℕ) (first : VpeDecl) (now after : List VpeDecl) → now ≡ first ∷ clients_below F n
      → after ≡ now ++ (if is_client F (n + 1) then client F (n + 1) ∷ [] else []) → after ≡ first ∷ clients_below F (n + 1)
  clients-more n first now after so_far more =
      more ∙ (ap (λ ds. ds ++ (if is_client F (n + 1) then client F (n + 1) ∷ [] else [])) so_far ∙ ap (λ ds. first ∷ ds) (sym (clients-push n)))

  -- Owners.

  abbrev nobody : Option ℕ
  nobody = None

  no-owner : (n p : ℕ) → get_or (replicate n nobody) p nobody ≡ nobody
  no-owner n p = elim (cases_lt p n) [
    | inl within ↦ get_or-replicate n p nobody nobody within
    | inr past ↦ get_or_past (replicate n nobody) p nobody (let long = length-replicate n nobody in omega (arith, long, past))
  ]

  pub owns-none : (table : MembershipTable) → table.kernels ≡ F.kernels → table.owners ≡ replicate PES nobody → OwnsBelow F 0 table
  owns-none table kernels none = record {
    kernels = kernels;
    all_pes = ap length none ∙ length-replicate PES nobody;
    owner = λ p less. absurd (omega (arith, less));
    others = λ p past. ap (λ os. get_or os p nobody) none ∙ no-owner PES p;
  }

  owners-are : (table : MembershipTable) (n : ℕ) → length table.owners ≡ n → OwnsBelow F n table → table.owners ≡ map (owner_of_pe F) (below n)
  owners-are table n long owns = fill_by_all (owner_of_pe F) table.owners n None long owns.owner

  abbrev table_of : ℕ → List (Option ℕ) → MembershipTable
  table_of kernels owners = record { kernels = kernels; owners = owners }

  table-is : (table : MembershipTable) → OwnsBelow F PES table → table ≡ table_of F.kernels (map (owner_of_pe F) (below PES))
  table-is table owns = ap (λ k. table_of k table.owners) owns.kernels ∙ ap (table_of F.kernels) (owners-are table PES owns.all_pes owns)

  -- Extents.

  pub extents-near : AreFiles F → (xs : List ℕ) → xs ≡ extents F → All IsExtent xs
  extents-near AF xs same = subst (All IsExtent) (sym same) (all-of Less IsExtent (extents F) (λ x among. extent-near F AF x among))

  -- The whole.

  pub same-compiled : (kernels : ℕ) (owners : MembershipTable) (numbers : List ℕ) (vpes : List VpeDecl) (services : List Service) (offers : List Offer)
      (denies : List (ℕ × ℕ)) (kills : List (ℕ × ℕ)) → kernels ≡ F.kernels → OwnsBelow F PES owners → numbers ≡ extents F
      → vpes ≡ server_with numbers ∷ clients_below F 63 → services ≡ record { name = 0; key = service_key } ∷ []
      → offers ≡ map offer_of_extent numbers → denies ≡ [] → kills ≡ []
      → record {
        version = 1;
        window = 4;
        kernels = kernels;
        owners = owners;
        vpes = vpes;
        services = services;
        offers = offers;
        denies = denies;
        kills = kills;
      }
      ≡ compiled F
  unfolding compiled clients_below
  same-compiled kernels owners numbers vpes services offers denies kills is_kernels owns is_numbers is_vpes is_services is_offers is_denies is_kills =
      let is_owners = table-is owners owns in
      rw (is_offers, is_vpes, is_numbers, is_services, is_denies, is_kills, is_owners, is_kernels) refl
