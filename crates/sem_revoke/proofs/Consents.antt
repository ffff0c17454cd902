-- What a VPE consents to give is held at once, or an ObtainOk brings it; so it is not lost.
use Rattle.std.proofs.Common.{◌≡◌, ◌⊎◌, ℕ, ◌++◌, Bool, true, false, not, ◌&&◌, List, [], ◌∷◌, Option, Some, None, slice_get, append_assoc, refl, sym, ap, ◌∙◌}
use Rattle.std.proofs.Common.{subst, inl, inr, arith}
use Rattle.std.specs.Prelude.{◌==◌}
use Rattle.std.specs.List.{Contains}
use Rattle.std.specs.Option.{IsSome}
use Rattle.std.proofs.lemmas.Bool.{cond_both}
use Rattle.std.proofs.lemmas.Option.{same_Some, slice_get_within, get_or_from_slice_get}
use Rattle.std.proofs.lemmas.List.Elements.{Contains-append_right}
use Rattle.sem_key.specs.declared.object.Object.{Object}
use Rattle.sem_key.specs.KeyName.{KeyName}
use Rattle.sem_key.specs.PlaceName.{PlaceName, keyed}
use Rattle.sem_key.specs.Capability.{Capability}
use Rattle.sem_key.specs.CapList.{fresh}
use Rattle.sem_key.proofs.Members.{Contains-head}
use Rattle.sem_key.proofs.Puts.{get_or-put_same}
use Rattle.sem_msg.specs.declared.entry.Entry.{Entry}
use Rattle.sem_msg.specs.declared.event.Act.TheVariants.{Upcall}
use Rattle.sem_msg.specs.declared.message.Message.TheVariants.{ObtainOk}
use Rattle.sem_msg.specs.declared.message.Target.{Target}
use Rattle.sem_msg.specs.declared.state.Ask.{Ask}
use Rattle.sem_msg.specs.declared.state.Ask.TheVariants.{Obtain as ObtainAsk, Delegate as DelegateAsk}
use Rattle.sem_msg.specs.declared.state.Parked.{Parked}
use Rattle.sem_msg.specs.declared.state.Parked.TheVariants.{ObtainWait, ObtainReady, ObtainCancelled, DelegateWait, DelegateReady, RevokeWait, Ready}
use Rattle.sem_msg.specs.Setup.{Setup, IsSetup}
use Rattle.sem_msg.specs.Lookups.{kernel_of, denies, place_owner}
use Rattle.sem_machine.specs.Sides.{Side, row, cap, outbox, parked, ask_taken, drawn, linked, send}
use Rattle.sem_machine.specs.Steps.{Step, unshown}
use Rattle.sem_machine.specs.Asks.{asker, is_unawaited, is_obtain_wait, ask_refused}
use Rattle.sem_machine.specs.Calls.{next_key, destination_tests}
use Rattle.sem_machine.specs.Upcalls.{source, source_tests, parent_tests, given, given_kind, given_here, delegate_here, delegate_prepared, child_given}
use Rattle.sem_machine.specs.Upcalls.{consented, ask_decided, upcall_row}
use Rattle.sem_machine.specs.Machine.{World, side, link, local_step, input_of, start}
use Rattle.sem_machine.specs.Schedules.{IsSchedule, world_after}
use Rattle.sem_machine.specs.Living.{way, fetched_from, IsLive}
use Rattle.sem_machine.proofs.Folds.{option-keeps}
use Rattle.sem_machine.proofs.FirstCodes.{unless-keeps}
use Rattle.sem_safety.proofs.CarryingWorlds.{stepped, among-grants}
use Rattle.sem_safety.proofs.GoingOn.{entry-enabled}
use Rattle.sem_revoke.specs.Revocation.{IsDoomed}
use Rattle.sem_revoke.proofs.Asking.{Waits, asks-awaited, all-awaited, waits-on}
use Rattle.sem_revoke.proofs.Lasting.{all-caused, side-here, held-lasts}
use Rattle.sem_revoke.proofs.Obtained.{flight-about, obtained-lasts}
use Rattle.sem_revoke.proofs.ReadyCalls.{here-one, installed-held}
use Rattle.sem_revoke.proofs.Revoking.{shown}

given-held : (k p : KeyName) (object : Object) (number : ℕ) (state : Option Parked) (t : Side) → is_obtain_wait number state ≡ true →
    (c : Capability) × (cap (given_here k p object state t) k ≡ Some c)
given-held k p object number None t waits = absurd cc
given-held k p object number (Some (ObtainWait n sel)) t waits = (fresh k (Some p) sel object, installed-held k (Some p) sel object t)
given-held k p object number (Some (ObtainReady key parent object' sel)) t waits = absurd cc
given-held k p object number (Some ObtainCancelled) t waits = absurd cc
given-held k p object number (Some (DelegateWait parent)) t waits = absurd cc
given-held k p object number (Some (DelegateReady parent key)) t waits = absurd cc
given-held k p object number (Some (RevokeWait j)) t waits = absurd cc
given-held k p object number (Some (Ready code)) t waits = absurd cc

second-true : (a b : Bool) → (a && not b) ≡ false → a ≡ true → b ≡ true
second-true true true no' is = refl
second-true true false no' is = absurd cc
second-true false b no' is = absurd cc

module _ (T : Setup) (i : ℕ) where
  -- an ObtainOk of the key is sent, for the ask
  abbrev pub Sent : Ask → KeyName → KeyName → Side → Type 0
  Sent a p k t = (place : PlaceName) × (target : Target) × (o : Object) × (a ≡ ObtainAsk place target) × (k.vpe ≡ place.vpe) × (k.number ≡ place.number)
      × Contains (outbox t (place_owner T place)) (ObtainOk p k o)

  -- where a step grants, the key is held, or so
  abbrev pub Gives : Ask → Step → Type 0
  Gives a x = (p k : KeyName) → ◌≡◌ {A = Option (KeyName × KeyName)} x.outcome.grant (Some (p, k)) → ((c : Capability) × (cap x.side k ≡ Some c))
      ⊎ Sent a p k x.side

  move : (a : Ask) (p0 k0 p k : KeyName) (t : Side) → ((c : Capability) × (cap t k0 ≡ Some c)) ⊎ Sent a p0 k0 t →
      ◌≡◌ {A = Option (KeyName × KeyName)} (Some (p0, k0)) (Some (p, k)) → ((c : Capability) × (cap t k ≡ Some c)) ⊎ Sent a p k t
  move a p0 k0 p k t is some = subst (λ (g : KeyName × KeyName). ((c : Capability) × (cap t g.1 ≡ Some c))
      ⊎ Sent a g.0 g.1 t) (same_Some (p0, k0) (p, k) some) is

  child-gives : (place : PlaceName) (target : Target) (u : Side) (c : Capability) → is_unawaited T i u (ObtainAsk place target) ≡ false →
      Gives (ObtainAsk place target) (child_given T i place target u c)
  child-gives place target u c awaited p k some =
      let k0 : KeyName = keyed place (given_kind target c) in
      let object : Object = given target place.vpe c in
      let linking : Side = linked c.key k0 u in
      move (ObtainAsk place target) c.key k0 p k (child_given T i place target u c).side
      (cond_both (kernel_of T place.vpe == i) (given_here k0 c.key object (parked linking place.vpe) linking)
      (send (place_owner T place) (ObtainOk c.key k0 object) linking) (λ (t : Side). ((d : Capability) × (cap t k0 ≡ Some d))
      ⊎ Sent (ObtainAsk place target) c.key k0 t)
      (λ local. inl (given-held k0 c.key object place.number (parked linking place.vpe) linking
      (second-true (kernel_of T place.vpe == i) (is_obtain_wait place.number (parked u place.vpe)) awaited local)))
      (λ _. inr (
        place,
        target,
        object,
        refl,
        refl,
        refl,
        subst (λ xs. Contains xs (ObtainOk c.key k0 object))
            (sym (get_or-put_same [] linking.outs (place_owner T place) (outbox linking (place_owner T place) ++ ObtainOk c.key k0 object ∷ [])))
            (Contains-append_right (outbox linking (place_owner T place)) (ObtainOk c.key k0 object ∷ []) (ObtainOk c.key k0 object)
            (Contains-head (ObtainOk c.key k0 object) [])),
      )))
      some

  here-gives : (v : ℕ) (parent : KeyName) (object : Object) (sel : ℕ) (u : Side) → Gives (DelegateAsk parent object sel) (delegate_here T v parent object sel u)
  here-gives v parent object sel u p k some =
      let k0 : KeyName = next_key T u v parent.kind in
      move (DelegateAsk parent object sel) parent k0 p k (delegate_here T v parent object sel u).side (inl (
        fresh k0 (Some parent) sel object,
        installed-held k0 (Some parent) sel object (linked parent k0 (drawn v u)),
      )) some

  consent-gives : (v : ℕ) (a : Ask) (u : Side) → is_unawaited T i u a ≡ false → Gives a (consented T i v a u)
  consent-gives v (ObtainAsk place target) u awaited = unless-keeps (Gives (ObtainAsk place target)) (source_tests target (source T u v target)) _ _
      (λ code p k some. absurd cc) (option-keeps (Gives (ObtainAsk place target)) (child_given T i place target u) (source T u v target) (unshown u)
      (λ c there. child-gives place target u c awaited) (λ p k some. absurd cc))
  consent-gives v (DelegateAsk parent object sel) u awaited = cond_both (kernel_of T parent.vpe == i) _ _ (Gives (DelegateAsk parent object sel))
      (λ _. unless-keeps (Gives (DelegateAsk parent object sel)) (parent_tests (cap u parent) ++ destination_tests u v sel)
      (λ code. unshown (ask_refused T i code (DelegateAsk parent object sel) u)) (delegate_here T v parent object sel u) (λ code p k some. absurd cc)
      (here-gives v parent object sel u))
      (λ _. unless-keeps (Gives (DelegateAsk parent object sel)) (destination_tests u v sel)
      (λ code. unshown (ask_refused T i code (DelegateAsk parent object sel) u)) (delegate_prepared T v parent object sel u) (λ code p k some. absurd cc)
      (λ p k some. absurd cc))

  decided-gives : (v : ℕ) (a : Ask) (u : Side) → Gives a (ask_decided T i v a u)
  decided-gives v a u = cond_both (is_unawaited T i u a) _ _ (Gives a) (λ _ p k some. absurd cc)
      (λ awaited. cond_both (denies T v (asker a)) _ _ (Gives a) (λ _ p k some. absurd cc) (λ _. consent-gives v a u awaited))

  pub upcall-gives : (s : Side) (v : ℕ) (p k : KeyName) → ◌≡◌ {A = Option (KeyName × KeyName)} (upcall_row T i s v).outcome.grant (Some (p, k)) →
      ((c : Capability) × (cap (upcall_row T i s v).side k ≡ Some c)) ⊎ ((a : Ask) × Contains (row s v).asks a × Sent a p k (upcall_row T i s v).side)
  unfolding upcall_row
  upcall-gives s v = option-keeps P (λ (a : Ask). ask_decided T i v a (ask_taken v s)) (slice_get (row s v).asks 0) (unshown s)
      (λ a there p k some. elim (decided-gives v a (ask_taken v s) p k some) [
        | inl held ↦ inl held
        | inr sent' ↦ inr (a, (0, slice_get_within (row s v).asks 0 a there, get_or_from_slice_get (row s v).asks 0 a a there), sent')
      ]) (λ p k some. absurd cc)
    where
      P : Step → Type 0
      P x = (p k : KeyName) → ◌≡◌ {A = Option (KeyName × KeyName)} x.outcome.grant (Some (p, k)) → ((c : Capability) × (cap x.side k ≡ Some c))
          ⊎ ((a : Ask) × Contains (row s v).asks a × Sent a p k x.side)

-- Along the journal.
pub given-lasts : (T : Setup) → IsSetup T → (J : List Entry) → IsSchedule T J → (before : List Entry) (e : Entry) (later : List Entry) (u : ℕ) (p k : KeyName) →
    J ≡ before ++ e ∷ later → e.event.act ≡ Upcall u → e.grant ≡ Some (p, k) → IsLive (world_after T J) k ⊎ IsDoomed J k
unfolding local_step
given-lasts T valid J runs before e later u p k parts act granted =
    let W : World = world_after T before in
    let i : ℕ = e.event.kernel in
    let s : Side = side W i in
    let runs' : IsSchedule T (before ++ e ∷ later) = subst (IsSchedule T) parts runs in
    let enabled = entry-enabled T before (start T) e later runs' in
    let step : stepped T W e.event ≡ upcall_row T i s u = ap (λ a. local_step T i s a (input_of W i a)) act in
    let shows : ◌≡◌ {A = Option (KeyName × KeyName)} (upcall_row T i s u).outcome.grant (Some (p, k)) = sym (ap (λ (x : Step). x.outcome.grant) step)
    ∙ (sym (shown T W e enabled.2) ∙ granted) in
    let next : J ≡ (before ++ e ∷ []) ++ later = parts ∙ sym (append_assoc before (e ∷ []) later) in
    let now : side (world_after T (before ++ e ∷ [])) i ≡ (upcall_row T i s u).side =
    side-here T valid J runs before e later parts (all-caused T valid J runs before (e ∷ later) parts) i refl ∙ ap (λ (x : Step). x.side) step in
    elim (upcall-gives T i s u p k shows) [
      | inl (c, held) ↦ elim (held-lasts T valid J runs (before ++ e ∷ []) later i k c next (ap (λ (t : Side). cap t k) now ∙ held)) [
        | inl (d, holds) ↦ inl (inl (i, subst IsSome (sym holds) refl))
        | inr doomed ↦ inr doomed
      ]
      | inr (a, among, (place, target, o, is, vpe, number, out)) ↦
          let V : World = world_after T (before ++ e ∷ []) in
          let b : ℕ = place_owner T place in
          let there : Contains (way V i b) (ObtainOk p k o) = Contains-append_right (fetched_from i (side V b).inbox ++ link V i b) (outbox (side V i) b)
          (ObtainOk p k o) (subst (λ t. Contains (outbox t b) (ObtainOk p k o)) (sym now) out) in
          let asked : Waits T W place.vpe place.number = asks-awaited T valid before enabled.0 i u place target (subst (Contains (row s u).asks) is among) in
          let q : Waits T W k.vpe k.number = subst (λ n. Waits T W k.vpe n) (sym number) (subst (λ v. Waits T W v place.number) (sym vpe) asked) in
          let one = here-one k.vpe in
          let about' = flight-about V k.vpe i b (ObtainOk p k o) there (omega (arith, one)) in
          obtained-lasts T valid J runs (before ++ e ∷ []) later p k o next
          (among-grants (before ++ e ∷ []) e (p, k) (Contains-append_right before (e ∷ []) e (Contains-head e [])) granted)
          (i, b, there) (waits-on T valid J runs before e later parts (all-awaited T valid before enabled.0) k.vpe k.number about' q)
    ]
