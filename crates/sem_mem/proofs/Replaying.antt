-- A world that goes through the events of a schedule while their accesses are gathered.
use Rattle.std.proofs.Common.{◌≡◌, ℕ, suc, ◌+◌, ◌<◌, true, List, [], ◌∷◌, ◌++◌, length, take, drop, get_or, sym, ◌∙◌, ap, subst}
use Rattle.std.specs.Option.{option_to_list}
use Rattle.std.proofs.lemmas.List.{take_more, take-append-drop}
use Rattle.std.proofs.Math.Seq.{drop-cons}
use Rattle.sem_msg.specs.declared.entry.Entry.{Entry}
use Rattle.sem_msg.specs.Setup.{Setup, IsSetup}
use Rattle.sem_machine.specs.Machine.{World, start, after, is_enabled, entry_of}
use Rattle.sem_machine.specs.Schedules.{IsSchedule, world_after}
use Rattle.sem_safety.proofs.GoingOn.{entry-enabled, run-append, run-prefix}
use Rattle.sem_kernel.specs.Worlds.{WorldValue}
use Rattle.sem_access.specs.declared.access.Access.{Access}
use Rattle.sem_access.specs.Accesses.{accesses}
use Rattle.sem_access.specs.Transfers.{transfer_of, access_by}
use Rattle.sem_access.proofs.Gathering.{gather-more}

-- the world after some entries, with its setup
abbrev world_at : Setup → List Entry → WorldValue
world_at T J = record { setup = T; world = world_after T J }

-- It has come to the entry at place i.
module _ (T : Setup) (J : List Entry) (runs : IsSchedule T J) (i : ℕ) (e : Entry) (now : WorldValue) (so_far : now ≡ world_at T (take i J))
    (within : i < length J) (at : e ≡ get_or J i e) where
  with-it : J ≡ take i J ++ e ∷ drop (suc i) J
  with-it = sym (ap (λ (xs : List Entry). take i J ++ xs) (sym (drop-cons J i e within ∙ ap (λ (x : Entry). x ∷ drop (suc i) J) (sym at)))
      ∙ take-append-drop i J)

  on : IsSchedule T (take i J) × (is_enabled T (world_after T (take i J)) e.event ≡ true) × (e ≡ entry_of T (world_after T (take i J)) e.event)
  on = entry-enabled T (take i J) (start T) e (drop (suc i) J) (subst (IsSchedule T) with-it runs)

  -- its event is enabled
  pub next-enabled : is_enabled now.setup now.world e.event ≡ true
  next-enabled = subst (λ (w : WorldValue). is_enabled w.setup w.world e.event ≡ true) (sym so_far) on.1

  -- after it one more entry is behind it
  pub next-world : (new : WorldValue) → new ≡ record { setup = now.setup; world = after now.setup now.world e.event } → new ≡ world_at T (take (i + 1) J)
  next-world new is =
      let one-more : take (i + 1) J ≡ take i J ++ e ∷ [] = take_more J i e within ∙ ap (λ (x : Entry). take i J ++ x ∷ []) (sym at) in
      is ∙ (ap (λ (w : WorldValue). record { setup = w.setup; world = after w.setup w.world e.event }) so_far
      ∙ ap (λ (W : World). record { setup = T; world = W }) (sym (ap (world_after T) one-more ∙ run-append T (take i J) (e ∷ []) (start T))))

  -- they are a schedule together
  pub next-runs : IsSchedule T (take i J ++ e ∷ [])
  next-runs = run-prefix T (take i J) e' e (start T) (subst (IsSchedule T) with-it runs)
    where
      e' : List Entry
      e' = drop (suc i) J

  pub next-entries : take i J ++ e ∷ [] ≡ take (i + 1) J
  next-entries = sym (take_more J i e within ∙ ap (λ (x : Entry). take i J ++ x ∷ []) (sym at))

  -- and its access is found
  pub next-accesses : IsSetup T → (found : List Access) → found ≡ accesses T (take i J) →
      found ++ option_to_list (access_by now.setup now.world i (transfer_of e)) ≡ accesses T (take (i + 1) J)
  next-accesses valid found is =
      ap (λ (w : WorldValue). found ++ option_to_list (access_by w.setup w.world i (transfer_of e))) so_far
      ∙ gather-more T valid J i e within at on.1 on.2 found is
