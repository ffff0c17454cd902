-- The VPEs that a kernel knows, and the acts of their rows.
use Rattle.std.proofs.Common.{◌≡◌, ℕ, ◌<◌, ◌&&◌, suc, Bool, true, false, cond, List, [], ◌∷◌, length, map, get_or, refl, sym, ◌∙◌, ap, subst, arith}
use Rattle.std.specs.List.{Contains, filter}
use Rattle.std.specs.Option.{option_map_or}
use Rattle.std.proofs.lemmas.Bool.{cond-false, eqb-true}
use Rattle.sem_key.proofs.Members.{Contains-from_map, Contains-from_filter}
use Rattle.sem_msg.specs.declared.event.Event.{Event}
use Rattle.sem_msg.specs.declared.setup.VpeDecl.{VpeDecl}
use Rattle.sem_msg.specs.Setup.{Setup, IsSetup}
use Rattle.sem_msg.specs.Fabric.{FabricValue}
use Rattle.sem_msg.specs.Lookups.{kernel_of, calls_of, own_vpes, pe_owner, runs_on}
use Rattle.sem_machine.specs.Machine.{World, event, is_enabled, is_locally_enabled}
use Rattle.sem_machine.proofs.FirstNumbers.{find-decl}
use Rattle.sem_kernel.specs.declared.listing.VpeRow.{VpeRow}
use Rattle.sem_kernel.specs.declared.listing.VpeRow.TheVariants.{Calls, Resumes, Upcalls}
use Rattle.sem_kernel.specs.declared.own.OwnVpe.{OwnVpe}
use Rattle.sem_kernel.specs.KernelValue.{KernelValue}
use Rattle.sem_kernel.specs.Worlds.{world_of, AreKernelsOf, IsKernelOf, can_do}
use Rattle.sem_kernel.specs.Listing.{enabled_among, vpe_act}
use Rattle.sem_kernel.specs.Owning.{own_row, own_rows}
use Rattle.sem_kernel.proofs.Happened.{and-true, enabled-here}
use Rattle.sem_kernel.proofs.Listings.{elsewhere}

-- one of them is declared so
module _ (T : Setup) (valid : IsSetup T) (i : ℕ) where
  pub own-here : (o : OwnVpe) → Contains (own_rows T i) o → kernel_of T o.vpe ≡ i
  own-here o among =
      let (d, inside, same) = Contains-from_map own_row (own_vpes T i) o among in
      let (there, runs) = Contains-from_filter (runs_on T i) T.vpes d inside in
      subst (λ (x : OwnVpe). kernel_of T x.vpe ≡ i) same
      (ap (λ m. option_map_or (λ (x : VpeDecl). pe_owner T x.pe) m T.kernels) (find-decl T.vpes d valid.vpes_rise there)
      ∙ eqb-true (pe_owner T d.pe) i runs)

  pub own-calls : (o : OwnVpe) → Contains (own_rows T i) o → length (calls_of T o.vpe) ≡ o.calls
  own-calls o among =
      let (d, inside, same) = Contains-from_map own_row (own_vpes T i) o among in
      let (there, runs) = Contains-from_filter (runs_on T i) T.vpes d inside in
      subst (λ (x : OwnVpe). length (calls_of T x.vpe) ≡ x.calls) same
      (ap (λ m. length (option_map_or (λ (x : VpeDecl). x.calls) m [])) (find-decl T.vpes d valid.vpes_rise there))

-- the VPEs of other kernels have no enabled events
module _ (T : Setup) (W : World) (valid : IsSetup T) (i : ℕ) (row : VpeRow) where
  abbrev of_own : OwnVpe → Event
  of_own o = event i (vpe_act row o.vpe)

  abbrev of_decl : VpeDecl → Event
  of_decl d = event i (vpe_act row d.vpe)

  own-among : (ds : List VpeDecl) → ((d : VpeDecl) → Contains ds d → Contains T.vpes d) →
      enabled_among T W (map of_own (map own_row (filter (runs_on T i) ds))) ≡ enabled_among T W (map of_decl ds)
  own-among [] within = refl
  own-among (d ∷ ds) within = from (runs_on T i d) refl (own-among ds (λ x there. within x (suc (there.0), omega (arith, there.1), there.2)))
    where
      from : (b : Bool) → runs_on T i d ≡ b → enabled_among T W (map of_own (map own_row (filter (runs_on T i) ds))) ≡ enabled_among T W (map of_decl ds) →
          enabled_among T W (map of_own (map own_row (cond b (d ∷ filter (runs_on T i) ds) (filter (runs_on T i) ds))))
          ≡ enabled_among T W (map of_decl (d ∷ ds))
      from true own rest = ap (λ es. cond (is_enabled T W (of_decl d)) (of_decl d ∷ es) es) rest
      from false other rest = rest
          ∙ sym (cond-false (is_enabled T W (of_decl d)) (of_decl d ∷ enabled_among T W (map of_decl ds)) (enabled_among T W (map of_decl ds))
          (elsewhere T W valid i row d (within d (0, omega arith, refl)) other))

  pub own-enough : enabled_among T W (map of_own (own_rows T i)) ≡ enabled_among T W (map of_decl T.vpes)
  own-enough = own-among T.vpes (λ d there. there)

-- what the kernel tells of an act of a row is so in the world
module _ (T : Setup) (ks : List KernelValue) (f : FabricValue) (are : AreKernelsOf T ks f) (i : ℕ) (few : i < T.kernels) (k : KernelValue) (at : k
    ≡ get_or ks i k) where
  is : IsKernelOf T i k
  is = subst (IsKernelOf T i) (sym at) (are.each i k few)

  pub own-same : own_rows k.setup k.id ≡ own_rows T i
  own-same = λ j. own_rows (is.setup j) (is.id j)

  pub vpe-told : (row : VpeRow) (v : ℕ) → is_locally_enabled k.setup k.id k.side (vpe_act row v) ≡ is_enabled T (world_of ks f) (event i (vpe_act row v))
  vpe-told row v = sym (from row) ∙ enabled-here T ks f are i few k at (vpe_act row v)
    where
      from : (r : VpeRow) → can_do k f (vpe_act r v) ≡ is_locally_enabled k.setup k.id k.side (vpe_act r v)
      from Calls = and-true (is_locally_enabled k.setup k.id k.side (vpe_act Calls v) && true)
          ∙ and-true (is_locally_enabled k.setup k.id k.side (vpe_act Calls v))
      from Resumes = and-true (is_locally_enabled k.setup k.id k.side (vpe_act Resumes v) && true)
          ∙ and-true (is_locally_enabled k.setup k.id k.side (vpe_act Resumes v))
      from Upcalls = and-true (is_locally_enabled k.setup k.id k.side (vpe_act Upcalls v) && true)
          ∙ and-true (is_locally_enabled k.setup k.id k.side (vpe_act Upcalls v))
