-- What an event leaves of what its kernel held: it is held on, or may be lost; and each job has a cause.
use Rattle.sem_msg.specs.declared.message.Message.{Message}
use Rattle.std.proofs.Common.{◌≡◌, ◌⊎◌, ℕ, List, Option, Some, None, refl, inl, ◌++◌, [], get_or, ◌∙◌, ap}
use Rattle.sem_key.specs.KeyName.{KeyName}
use Rattle.sem_key.specs.Capability.{Capability}
use Rattle.sem_msg.specs.declared.event.Act.{Act}
use Rattle.sem_msg.specs.declared.event.Act.TheVariants.{Call as Calls, Fetch, Handle, Upcall, Resume, Flush, Kill}
use Rattle.sem_msg.specs.Rows.{JobRow}
use Rattle.sem_msg.specs.Setup.{Setup}
use Rattle.sem_machine.specs.Sides.{Side, cap, job, call_counted, with_inbox, outbox}
use Rattle.sem_machine.specs.Steps.{unshown}
use Rattle.sem_machine.specs.Calls.{call_row}
use Rattle.sem_machine.specs.Ends.{ended}
use Rattle.sem_machine.specs.Machine.{World, side, after, event, next_call, local_step}
use Rattle.sem_machine.proofs.Folds.{option-keeps}
use Rattle.sem_safety.proofs.CarryingWorlds.{stepped}
use Rattle.sem_safety.proofs.Lives.{all_held}
use Rattle.sem_safety.proofs.LiveWorlds.{after-lives}
use Rattle.sem_revoke.specs.Views.{IsCaused}
use Rattle.sem_revoke.proofs.Events.{Par, IsReady, Losing, Holds}
use Rattle.sem_revoke.proofs.Turning.{here, Keeps, Sends, by-call, by-upcall, by-resume, by-inbox, row-step, in_row}
use Rattle.sem_revoke.proofs.Revoking.{Told, ActLoses, facts-of}
use Rattle.sem_revoke.proofs.Rowing.{row-ended}

module _ (T : Setup) (gs : List (KeyName × KeyName)) (W : World) (R : IsReady T gs W) (H : Holds T gs W) (L : Losing gs W) (i : ℕ) where
  abbrev now : Side
  now = side W i

  -- where a key is granted no job changes
  pub record Leaves (o : Option (KeyName × KeyName)) (t : Side) : Type 0 where
    pub lasts : (k : KeyName) (c : Capability) → cap now k ≡ Some c → ((d : Capability) × (cap t k ≡ Some d)) ⊎ L.lost k
    pub caused : (n : ℕ) (x : JobRow) → job t n ≡ Some x → IsCaused (Par gs) L.lost x
    pub steady : (p k : KeyName) → ◌≡◌ {A = Option (KeyName × KeyName)} o (Some (p, k)) → t.jobs ≡ now.jobs

  sent-leaves : (o : Option (KeyName × KeyName)) (t : Side) → Sends T gs W R H L i o now t → Leaves o t
  sent-leaves o t S = record { lasts = S.lasts; caused = S.caused; steady = S.steady }

  taken-leaves : (o : Option (KeyName × KeyName)) (t : Side) → Sends T gs W R H L i o (with_inbox None now) t → Leaves o t
  taken-leaves o t S = record { lasts = S.lasts; caused = S.caused; steady = S.steady }

  pub event-leaves : (a : Act) → ActLoses gs L.lost T now a → Told T gs (stepped T W (event i a)).outcome.grant →
      Leaves (stepped T W (event i a)).outcome.grant (stepped T W (event i a)).side
  unfolding after local_step
  event-leaves (Calls v) loses told =
      sent-leaves _ _ (option-keeps (Keeps T gs W R H L i) (call_row T i (call_counted v now) v) (next_call T now v) (unshown now)
      (λ c there. by-call T gs W R H L i v c (loses c there)) (λ _. row-step T gs W R H L i now (in_row T gs W R H L i))
      (facts-of T gs W R H L i (Calls v) (stepped T W (event i (Calls v))) refl told (λ k. after-lives k all_held T W i (Calls v)))).1
  event-leaves (Upcall v) loses told =
      sent-leaves _ _ (by-upcall T gs W R H L i v (facts-of T gs W R H L i (Upcall v) (stepped T W (event i (Upcall v))) refl told
      (λ k. after-lives k all_held T W i (Upcall v)))).1
  event-leaves (Resume v) loses told =
      sent-leaves _ _ (by-resume T gs W R H L i v (facts-of T gs W R H L i (Resume v) (stepped T W (event i (Resume v))) refl told
      (λ k. after-lives k all_held T W i (Resume v)))).1
  event-leaves (Kill v) loses told =
      sent-leaves None (ended T i v now) (row-step T gs W R H L i (ended T i v now) (row-ended (here T gs W R H L i) v now loses (in_row T gs W R H L i))).1
  event-leaves Handle loses told =
      taken-leaves None _
      (by-inbox T gs W R H L i now.inbox refl (facts-of T gs W R H L i Handle (stepped T W (event i Handle)) refl told
      (λ k. after-lives k all_held T W i Handle))).1
  event-leaves (Fetch j) loses told = record { lasts = λ k c held. inl (c, held); caused = L.caused i; steady = λ p k none. refl }
  event-leaves (Flush j) loses told = record { lasts = λ k c held. inl (c, held); caused = L.caused i; steady = λ p k none. refl }

  -- The outboxes only grow, but by a flush; and the inbox stays, but where its message is handled.
  abbrev pub Boxes : Side → Type 0
  Boxes t = (j : ℕ) → (ms : List Message) × (outbox t j ≡ outbox now j ++ ms)

  abbrev pub Grows : Act → Side → Type 0
  Grows (Fetch j) t = Unit {0}
  Grows (Flush j) t = Unit {0}
  Grows Handle t = ((t.inbox ≡ None) ⊎ (t.inbox ≡ now.inbox)) × Boxes t
  Grows (Calls v) t = (t.inbox ≡ now.inbox) × Boxes t
  Grows (Upcall v) t = (t.inbox ≡ now.inbox) × Boxes t
  Grows (Resume v) t = (t.inbox ≡ now.inbox) × Boxes t
  Grows (Kill v) t = (t.inbox ≡ now.inbox) × Boxes t

  boxes : (o : Option (KeyName × KeyName)) (b t : Side) → b.outs ≡ now.outs → Sends T gs W R H L i o b t → Boxes t
  boxes o b t same S = λ j. let x = S.sends j in (x.0, x.1 ∙ ap (λ bs. get_or bs j [] ++ x.0) same)

  pub event-grows : (a : Act) → ActLoses gs L.lost T now a → Told T gs (stepped T W (event i a)).outcome.grant → Grows a (stepped T W (event i a)).side
  unfolding after local_step
  event-grows (Calls v) loses told = let S =
      (option-keeps (Keeps T gs W R H L i) (call_row T i (call_counted v now) v) (next_call T now v) (unshown now)
      (λ c there. by-call T gs W R H L i v c (loses c there)) (λ _. row-step T gs W R H L i now (in_row T gs W R H L i))
      (facts-of T gs W R H L i (Calls v) (stepped T W (event i (Calls v))) refl told (λ k. after-lives k all_held T W i (Calls v)))).1 in
      (S.inbox, boxes (stepped T W (event i (Calls v))).outcome.grant now (stepped T W (event i (Calls v))).side refl S)
  event-grows (Upcall v) loses told = let S =
      (by-upcall T gs W R H L i v (facts-of T gs W R H L i (Upcall v) (stepped T W (event i (Upcall v))) refl told
      (λ k. after-lives k all_held T W i (Upcall v)))).1 in
      (S.inbox, boxes (stepped T W (event i (Upcall v))).outcome.grant now (stepped T W (event i (Upcall v))).side refl S)
  event-grows (Resume v) loses told = let S =
      (by-resume T gs W R H L i v (facts-of T gs W R H L i (Resume v) (stepped T W (event i (Resume v))) refl told
      (λ k. after-lives k all_held T W i (Resume v)))).1 in
      (S.inbox, boxes (stepped T W (event i (Resume v))).outcome.grant now (stepped T W (event i (Resume v))).side refl S)
  event-grows (Kill v) loses told = let S = (row-step T gs W R H L i (ended T i v now) (row-ended (here T gs W R H L i) v now loses (in_row T gs W R H L i))).1
      in (S.inbox, boxes None now (ended T i v now) refl S)
  event-grows Handle loses told = let S =
      (by-inbox T gs W R H L i now.inbox refl (facts-of T gs W R H L i Handle (stepped T W (event i Handle)) refl told
      (λ k. after-lives k all_held T W i Handle))).1 in (inl S.inbox, boxes None (with_inbox None now) (stepped T W (event i Handle)).side refl S)
  event-grows (Fetch j) loses told = tt
  event-grows (Flush j) loses told = tt
