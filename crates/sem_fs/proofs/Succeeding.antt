-- Every reply is a success, in every schedule of a file service that does not run out.
use Rattle.std.proofs.Common.{◌≡◌, ℕ, ◌++◌, true, List, [], ◌∷◌, Option, Some, None, slice_get, append-nil, append_assoc, refl, sym, ap, ◌∙◌, subst, inl, inr}
use Rattle.std.specs.List.{Contains}
use Rattle.std.proofs.lemmas.Bool.{cases_eq}
use Rattle.std.proofs.lemmas.List.Elements.{Contains-append_cases}
use Rattle.sem_machine.specs.Journals.{root_keys, cut_from}
use Rattle.sem_key.specs.declared.key.Kind.TheVariants.{Mem as MemKind}
use Rattle.sem_key.specs.KeyName.{KeyName}
use Rattle.sem_key.proofs.Members.{Contains-nil, Contains-cons_cases}
use Rattle.sem_msg.specs.declared.call.Call.{Call}
use Rattle.sem_msg.specs.declared.entry.Entry.{Entry}
use Rattle.sem_msg.specs.declared.state.Slot.TheVariants.{Held}
use Rattle.sem_msg.specs.Setup.{Setup}
use Rattle.sem_msg.specs.Lookups.{kernel_of}
use Rattle.sem_machine.specs.Sides.{row, slot}
use Rattle.sem_machine.specs.Machine.{World, side, start, is_enabled, entry_of}
use Rattle.sem_machine.specs.Schedules.{IsSchedule, world_after}
use Rattle.sem_safety.proofs.GoingOn.{run-prefix}
use Rattle.sem_files.specs.Compiled.{SERVER}
use Rattle.sem_fs.specs.Service.{IsService, IsExtent}
use Rattle.sem_fs.specs.Serving.{IsServedWorld, Served}
use Rattle.sem_fs.specs.Holding.{home}
use Rattle.sem_fs.specs.Supplies.{IsSupplied, IsServing}
use Rattle.sem_fs.specs.Going.{IsGoing}
use Rattle.sem_fs.proofs.Unending.{entered}
use Rattle.sem_fs.proofs.Lifting.{side-other, world-next}
use Rattle.sem_fs.proofs.ServedSteps.{ActPasses}
use Rattle.sem_fs.proofs.ServedWorlds.{start-served, after-served, reply-succeeds, any-serves, any-asks}
use Rattle.sem_fs.proofs.HoldingSteps.{holding-next, stays-there, root-uncut-next}
use Rattle.sem_fs.proofs.Roots.{root-there}
use Rattle.sem_fs.proofs.Events.{act-passes}
use Rattle.sem_fs.proofs.Starts.{start-holding, start-serving}

module _ (T : Setup) (S : IsService T) where
  pub start-going : IsGoing T []
  start-going = record {
    served = start-served T (Served T) (any-serves T);
    holding = start-holding T S;
    serving = start-serving T S;
    succeeds =
        λ e r none there. absurd (Contains-nil e none);
  }

  -- one entry more
  module _ (J : List Entry) (e : Entry) (runs' : IsSchedule T (J ++ e ∷ [])) (X : IsSupplied T J) (I : IsGoing T J) where
    abbrev W : World
    W = world_after T J

    abbrev J' : List Entry
    J' = J ++ e ∷ []

    parts : IsSchedule T J × (is_enabled T W e.event ≡ true) × (e ≡ entry_of T W e.event)
    parts = entered T J [] e runs'

    pub passes : ActPasses T e.event.kernel (side W e.event.kernel) e.event.act
    passes = act-passes T S J parts.0 X I.served I.holding I.serving e parts.1

    serving-next : IsServing T J'
    serving-next = record { extent = stays; uncut = uncut' }
      where
        uncut' : (k : KeyName) → Contains (root_keys T) k → Contains (cut_from [] (J ++ e ∷ [])) k → ⊥
        uncut' k root = root-uncut-next T S J e runs' I.served passes k root (I.serving.uncut k root)

        stays : (sel : ℕ) → IsExtent T sel → (k : KeyName) × (slot (home T (world_after T (J ++ e ∷ [])) SERVER) SERVER sel ≡ Held k) × Contains (root_keys T) k
            × (k.kind ≡ MemKind)
        stays sel x =
            let was = I.serving.extent sel x in
            let k : KeyName = was.0 in
            elim (cases_eq (kernel_of T SERVER) e.event.kernel) [
              | inr away ↦ (k, ap (λ s. slot s SERVER sel) (side-other T J e (kernel_of T SERVER) away) ∙ was.1, was.2, was.3)
              | inl local ↦
                  let there = root-there T S J' runs' k was.2 (uncut' k was.2) in (
                    k,
                    stays-there T S J e runs' I.served passes SERVER S.server S.declared local sel x.near k was.1 there.0 there.1
                        (λ c act next asks. let none : ◌≡◌ {A = Option Call} None (Some c) =
                        sym (ap (λ cs. slice_get cs (row (home T W SERVER) SERVER).next_call) S.rests) ∙ next in absurd cc),
                    was.2,
                    was.3,
                  )
            ]

    pub going-next : IsGoing T J'
    going-next = record {
      served = subst (IsServedWorld T) (sym (world-next T J e))
          (after-served T (Served T) (any-serves T) W I.served e parts.2 passes (any-asks T (side W e.event.kernel) e.event.act));
      holding = λ v d at client. holding-next T S J e runs' I.served passes v d at client (I.holding v d at client);
      serving = serving-next;
      succeeds = λ x r among there. elim (Contains-append_cases J (e ∷ []) x among) [
        | inl before ↦ I.succeeds x r before there
        | inr now ↦ elim (Contains-cons_cases e [] x now) [
          | inl same ↦ reply-succeeds T (Served T) (any-serves T) W I.served e parts.2 passes (any-asks T (side W e.event.kernel) e.event.act) r
              (ap (λ (y : Entry). y.reply) same ∙ there)
          | inr none ↦ absurd (Contains-nil x none)
        ]
      ];
    }

  -- Where nothing runs out after what is going, every schedule goes on: also with something that each entry keeps.
  pub all-going-with : (P : List Entry → Type 0) → P []
      → ((J : List Entry) (e : Entry) → IsSchedule T (J ++ e ∷ []) → IsSupplied T J → IsGoing T J → IsGoing T (J ++ e ∷ []) → P J → P (J ++ e ∷ []))
      → ((J : List Entry) → IsSchedule T J → IsGoing T J → P J → IsSupplied T J) → (J : List Entry) → IsSchedule T J → IsGoing T J × P J
  all-going-with P first keeps supplied J runs = from [] J refl start-going first
    where
      from : (before later : List Entry) → J ≡ before ++ later → IsGoing T before → P before → IsGoing T J × P J
      from before [] parts I is = let same = sym (parts ∙ append-nil before) in (subst (IsGoing T) same I, subst P same is)
      from before (e ∷ later) parts I is =
          let runs' : IsSchedule T (before ++ e ∷ []) = run-prefix T before later e (start T) (subst (IsSchedule T) parts runs) in
          let X : IsSupplied T before = supplied before (entered T before [] e runs').0 I is in
          let I' : IsGoing T (before ++ e ∷ []) = going-next before e runs' X I in
          from (before ++ e ∷ []) later (parts ∙ sym (append_assoc before (e ∷ []) later)) I' (keeps before e runs' X I I' is)
