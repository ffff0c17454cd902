-- A VPE that has ended is dead.
use Rattle.std.proofs.Common.{◌≡◌, ℕ, true, false, List, [], ◌∷◌, ◌++◌, Option, Some, None, get_or, append-nil, append_assoc, refl, sym, ap, ◌∙◌, subst, inl}
use Rattle.std.proofs.Common.{inr}
use Rattle.std.specs.Prelude.{◌==◌}
use Rattle.std.specs.Option.{option_map_or}
use Rattle.std.proofs.lemmas.Bool.{cases_eq, cond_both, eqb-true}
use Rattle.std.proofs.lemmas.List.Elements.{Contains-append_cases}
use Rattle.sem_key.specs.Lists.{in_turn, put}
use Rattle.sem_key.proofs.Members.{list_any-at, Contains-nil, Contains-cons_cases, list_any-some}
use Rattle.sem_key.proofs.Puts.{get_or-put_same, get_or-put_other}
use Rattle.sem_msg.specs.declared.call.Call.{Call}
use Rattle.sem_msg.specs.declared.call.Call.TheVariants.{Derive, Gate, Obtain, Delegate, OpenSession, AskOffer, Revoke, Bind, Read, Write, Send as SendCall}
use Rattle.sem_msg.specs.declared.call.Call.TheVariants.{Credit, Exit, Clear}
use Rattle.sem_msg.specs.declared.code.Code.TheVariants.{Dead}
use Rattle.sem_msg.specs.declared.entry.Detail.TheVariants.{Called, Nothing}
use Rattle.sem_msg.specs.declared.entry.Entry.{Entry}
use Rattle.sem_msg.specs.declared.event.Act.{Act}
use Rattle.sem_msg.specs.declared.event.Act.TheVariants.{Call as Calls, Fetch, Handle, Upcall, Resume, Flush, Kill}
use Rattle.sem_msg.specs.declared.message.Message.{Message}
use Rattle.sem_msg.specs.declared.state.Ask.{Ask}
use Rattle.sem_msg.specs.declared.state.Ask.TheVariants.{Obtain as ObtainAsk, Delegate as DelegateAsk}
use Rattle.sem_msg.specs.declared.state.Parked.{Parked}
use Rattle.sem_msg.specs.declared.state.Parked.TheVariants.{ObtainWait, ObtainReady, ObtainCancelled, DelegateWait, DelegateReady, RevokeWait, Ready}
use Rattle.sem_msg.specs.declared.state.Slot.TheVariants.{Free}
use Rattle.sem_msg.specs.Rows.{VpeRow, no_vpe}
use Rattle.sem_msg.specs.Setup.{Setup}
use Rattle.sem_msg.specs.Lookups.{kernel_of}
use Rattle.sem_machine.specs.Sides.{Side, row, parked, unparked, is_alive, buried, freed, call_counted}
use Rattle.sem_machine.specs.Steps.{unshown}
use Rattle.sem_machine.specs.Asks.{asker, is_unawaited, promise_freed, refusal_sent, ask_refused}
use Rattle.sem_machine.specs.Calls.{call_row}
use Rattle.sem_machine.specs.Ends.{ask_ended, call_ended, keys_of_vpe, revoked_if_left, ended}
use Rattle.sem_machine.specs.Journals.{ends, has_ended}
use Rattle.sem_machine.specs.Machine.{World, side, start, input_of, next_call, local_step, detail_of, entry_of, after, is_enabled}
use Rattle.sem_machine.specs.Schedules.{IsSchedule, world_after}
use Rattle.sem_machine.proofs.Folds.{in_turn-keeps}
use Rattle.sem_safety.proofs.CarryingWorlds.{stepped}
use Rattle.sem_safety.proofs.Drawers.{side-after}
use Rattle.sem_safety.proofs.GoingOn.{entry-enabled, run-append, dead-later}
use Rattle.sem_revoke.proofs.AddressedWorlds.{vpe-local}
use Rattle.sem_revoke.proofs.Parkers.{EndsBy}
use Rattle.sem_revoke.proofs.Revoking.{enabled-parts}
use Rattle.sem_revoke.proofs.Serving.{tells}
use Rattle.sem_revoke.proofs.Steady.{IsSteady, rest-steady, left_job-steady}

module _ (v : ℕ) where
  abbrev IsDead : Side → Type 0
  IsDead t = (row t v).alive ≡ false

  slot-dead : (t : Side) (u sel : ℕ) → IsDead t → IsDead (freed u sel t)
  slot-dead t u sel dead =
      let r : VpeRow = record (row t u) { slots = put Free (row t u).slots sel Free } in
      elim (cases_eq v u) [
        | inl here ↦ ap (λ (y : VpeRow). y.alive) (ap (λ q. get_or (put no_vpe t.vpes u r) q no_vpe) here ∙ get_or-put_same no_vpe t.vpes u r)
            ∙ (ap (λ q. (row t q).alive) (sym here) ∙ dead)
        | inr other ↦ ap (λ (y : VpeRow). y.alive) (get_or-put_other no_vpe t.vpes u v r other) ∙ dead
      ]

  steady : IsSteady IsDead
  steady = record {
    caps = λ t cs thin is. is;
    restores = λ u t x was among keeps is. is;
    bound = λ t es is. is;
    jobs = λ t js less is. is;
    opens = λ t root up ws is. is;
    frees = λ t w sel is. slot-dead t w sel is;
    wakes = λ t w is. is;
    sends = λ t j m loud is. is;
  }

  -- a VPE that ends is dead
  ended-dead : (T : Setup) (i : ℕ) (s : Side) → IsDead (ended T i v s)
  unfolding ended
  ended-dead T i s =
      let asks : List Ask = (row s v).asks in
      let answered : Side = in_turn (ask_ended T i) asks (buried v s) in
      let told : IsDead answered =
      in_turn-keeps IsDead (ask_ended T i) (λ a t here. cond_both (is_unawaited T i t a) t (ask_refused T i Dead a t) IsDead (λ _. here)
      (λ _. refuses a t here)) asks (buried v s)
      (ap (λ (r : VpeRow). r.alive) (get_or-put_same no_vpe s.vpes v (record (row s v) { alive = false; asks = [] }))) in
      let last : Side = call_ended T (parked answered v) v (unparked v answered) in
      in_turn-keeps IsDead (revoked_if_left T i) (λ k t here. rest-steady IsDead steady T i k t here) (keys_of_vpe last v) last
      (owes (parked answered v) (unparked v answered) told)
    where
      refuses : (a : Ask) (t : Side) → IsDead t → IsDead (ask_refused T i Dead a t)
      refuses a t here = cond_both (kernel_of T (asker a) == i) _ _ IsDead (λ _. frees (parked t (asker a)) (asker a)) (λ _. sends a)
        where
          frees : (p : Option Parked) (u : ℕ) → IsDead (promise_freed p u t)
          frees None u = here
          frees (Some (ObtainWait number sel)) u = slot-dead t u sel here
          frees (Some (ObtainReady key parent object sel)) u = here
          frees (Some ObtainCancelled) u = here
          frees (Some (DelegateWait parent)) u = here
          frees (Some (DelegateReady parent key)) u = here
          frees (Some (RevokeWait j)) u = here
          frees (Some (Ready number)) u = here

          sends : (b : Ask) → IsDead (refusal_sent T Dead b t)
          sends (ObtainAsk place target) = here
          sends (DelegateAsk parent object sel) = here

      owes : (p : Option Parked) (t : Side) → IsDead t → IsDead (call_ended T p v t)
      owes None t here = here
      owes (Some (ObtainWait number sel)) t here = here
      owes (Some (ObtainReady key parent object sel)) t here = here
      owes (Some ObtainCancelled) t here = here
      owes (Some (DelegateWait parent)) t here = here
      owes (Some (DelegateReady parent key)) t here = here
      owes (Some (RevokeWait j)) t here = left_job-steady IsDead steady j v t here
      owes (Some (Ready code)) t here = here

  step-dead : (T : Setup) (i : ℕ) (s : Side) (a : Act) (input : Option Message) → EndsBy T s a v → IsDead (local_step T i s a input).side
  unfolding local_step call_row
  step-dead T i s a input (inl kills) = ap (λ b. (row (local_step T i s b input).side v).alive) kills ∙ ended-dead T i s
  step-dead T i s a input (inr (asks, exits)) = ap (λ b. (row (local_step T i s b input).side v).alive) asks
      ∙ (ap (λ o. (row (option_map_or (call_row T i (call_counted v s) v) o (unshown s)).side v).alive) exits ∙ ended-dead T i (call_counted v s))

  -- an entry that tells of an end
  call-exits : (w n : ℕ) (c : Call) → ends v (Calls w) (Called n c) ≡ true → (w ≡ v) × (c ≡ Exit)
  call-exits w n (Derive src dst off len rights) is = absurd cc
  call-exits w n (Gate src dst label credits) is = absurd cc
  call-exits w n (Obtain dst u src) is = absurd cc
  call-exits w n (Delegate src u dst) is = absurd cc
  call-exits w n (OpenSession dst name) is = absurd cc
  call-exits w n (AskOffer dst session index) is = absurd cc
  call-exits w n (Revoke src) is = absurd cc
  call-exits w n (Bind ep src) is = absurd cc
  call-exits w n (Read ep off len) is = absurd cc
  call-exits w n (Write ep off len) is = absurd cc
  call-exits w n (SendCall ep len) is = absurd cc
  call-exits w n (Credit ep) is = absurd cc
  call-exits w n Exit is = (eqb-true w v is, refl)
  call-exits w n (Clear src) is = absurd cc

  ends-by : (T : Setup) (W : World) (e : Entry) → e ≡ entry_of T W e.event → ends v e.event.act e.detail ≡ true → EndsBy T (side W e.event.kernel) e.event.act v
  ends-by T W e made' is = by e.event.act refl (sym (ap (ends v e.event.act) (tells T W e made').detail) ∙ is)
    where
      s : Side
      s = side W e.event.kernel

      called : (w : ℕ) (o : Option Call) → next_call T s w ≡ o → ends v (Calls w) (option_map_or (λ call. Called (row s w).next_call call) o Nothing) ≡ true →
          (w ≡ v) × (next_call T s w ≡ Some Exit)
      called w None none no' = absurd cc
      called w (Some c) some over = let both = call-exits w (row s w).next_call c over in (both.0, some ∙ ap Some both.1)

      by : (a : Act) → e.event.act ≡ a → ends v e.event.act (detail_of T s e.event.act (input_of W e.event.kernel e.event.act) (stepped T W e.event).outcome)
          ≡ true → EndsBy T s e.event.act v
      by (Kill w) at over = inl (at
          ∙ ap Kill (eqb-true w v (sym (ap (λ b. ends v b (detail_of T s b (input_of W e.event.kernel b) (stepped T W e.event).outcome)) at) ∙ over)))
      by (Calls w) at over =
          let both = called w (next_call T s w) refl (sym (ap (λ b. ends v b (detail_of T s b (input_of W e.event.kernel b) (stepped T W e.event).outcome)) at)
          ∙ over) in
          inr (at ∙ ap Calls both.0, subst (λ u. next_call T s u ≡ Some Exit) both.0 both.1)
      by (Fetch j) at over = let no' : false ≡ true = sym (ap (λ b. ends v b (detail_of T s b (input_of W e.event.kernel b) (stepped T W e.event).outcome)) at)
          ∙ over in absurd cc
      by Handle at over = let no' : false ≡ true = sym (ap (λ b. ends v b (detail_of T s b (input_of W e.event.kernel b) (stepped T W e.event).outcome)) at)
          ∙ over in absurd cc
      by (Upcall w) at over = let no' : false ≡ true = sym (ap (λ b. ends v b (detail_of T s b (input_of W e.event.kernel b) (stepped T W e.event).outcome)) at)
          ∙ over in absurd cc
      by (Resume w) at over = let no' : false ≡ true = sym (ap (λ b. ends v b (detail_of T s b (input_of W e.event.kernel b) (stepped T W e.event).outcome)) at)
          ∙ over in absurd cc
      by (Flush j) at over = let no' : false ≡ true = sym (ap (λ b. ends v b (detail_of T s b (input_of W e.event.kernel b) (stepped T W e.event).outcome)) at)
          ∙ over in absurd cc

  module _ (T : Setup) where
    abbrev h : ℕ
    h = kernel_of T v

    next-dead : (before : List Entry) (e : Entry) → is_enabled T (world_after T before) e.event ≡ true → e ≡ entry_of T (world_after T before) e.event →
        (has_ended before v ≡ true → IsDead (side (world_after T before) h)) → has_ended (before ++ e ∷ []) v ≡ true →
        IsDead (side (world_after T (before ++ e ∷ [])) h)
    next-dead before e enabled made' is over =
        let W : World = world_after T before in
        let i : ℕ = e.event.kernel in
        let some = list_any-some (λ (x : Entry). ends v x.event.act x.detail) (before ++ e ∷ []) over in
        elim (Contains-append_cases before (e ∷ []) some.0 some.1) [
          | inl old ↦ dead-later T before (e ∷ []) h v (is (list_any-at (λ (x : Entry). ends v x.event.act x.detail) before some.0 old some.2))
          | inr new ↦ elim (Contains-cons_cases e [] some.0 new) [
            | inr none ↦ absurd (Contains-nil some.0 none)
            | inl same ↦
                let by = ends-by T W e made' (ap (λ (x : Entry). ends v x.event.act x.detail) same ∙ some.2) in
                let local : h ≡ i = vpe-local T i (side W i) e.event.act (enabled-parts T W i e.event.act enabled).0 v
                (elim by [ inl kills ↦ inr (inr (inr kills)) | inr exits ↦ inl exits.0 ]) in
                let onward : world_after T (before ++ e ∷ []) ≡ after T W e.event = run-append T before (e ∷ []) (start T) in
                ap (λ (X : World). (row (side X h) v).alive) onward
                ∙ (ap (λ n. (row (side (after T W e.event) n) v).alive) local
                ∙ (ap (λ (t : Side). (row t v).alive) (side-after T W e.event) ∙ step-dead T i (side W i) e.event.act (input_of W i e.event.act) by))
          ]
        ]

    pub all-dead : (J : List Entry) → IsSchedule T J → has_ended J v ≡ true → is_alive (side (world_after T J) h) v ≡ false
    all-dead J runs = from [] J refl (λ no'. absurd cc)
      where
        from : (before later : List Entry) → J ≡ before ++ later → (has_ended before v ≡ true → IsDead (side (world_after T before) h)) → has_ended J v ≡ true →
            is_alive (side (world_after T J) h) v ≡ false
        from before [] parts is = subst (λ K. has_ended K v ≡ true → IsDead (side (world_after T K) h)) (sym (parts ∙ append-nil before)) is
        from before (e ∷ later) parts is =
            let y = entry-enabled T before (start T) e later (subst (IsSchedule T) parts runs) in
            from (before ++ e ∷ []) later (parts ∙ sym (append_assoc before (e ∷ []) later)) (next-dead before e y.1 y.2 is)
