-- Revoked is gone, along every schedule of every setup.
use Rattle.std.proofs.Common.{◌≡◌, ◌≢◌, ◌⊎◌, ℕ, ◌≤◌, ◌<◌, ◌++◌, true, false, not, ◌&&◌, List, [], ◌∷◌, map, get_or, Option, Some, None, slice_get, is_none}
use Rattle.std.proofs.Common.{option_to_list, append-nil, append_assoc, refl, sym, ap, ◌∙◌, subst, inl, inr, arith, eq-eqb}
use Rattle.std.specs.Prelude.{◌==◌}
use Rattle.std.specs.List.{Contains, filter, flat_map, fold}
use Rattle.std.specs.Option.{option_map, option_map_or}
use Rattle.std.proofs.lemmas.Bool.{cases_eq, cond_both, cond-true, eqb-true, and_parts, true≢false, not-true}
use Rattle.std.proofs.lemmas.Option.{same_Some}
use Rattle.std.proofs.lemmas.List.Elements.{Contains-append_cases, Contains-append_left, Contains-append_right}
use Rattle.sem_key.specs.KeyName.{KeyName, key_eq}
use Rattle.sem_key.specs.Capability.{Capability}
use Rattle.sem_msg.specs.declared.call.Call.{Call}
use Rattle.sem_msg.specs.declared.call.Call.TheVariants.{Derive, Gate, Obtain, Delegate, OpenSession, AskOffer, Revoke, Bind, Read, Write, Send as SendCall}
use Rattle.sem_msg.specs.declared.call.Call.TheVariants.{Credit, Exit, Clear}
use Rattle.sem_msg.specs.declared.event.Act.{Act}
use Rattle.sem_msg.specs.declared.event.Act.TheVariants.{Call as Calls, Fetch, Handle, Upcall, Resume, Flush, Kill}
use Rattle.sem_msg.specs.declared.entry.Entry.{Entry}
use Rattle.sem_msg.specs.declared.entry.Reply.{Reply}
use Rattle.sem_msg.specs.declared.entry.Detail.{Detail}
use Rattle.sem_msg.specs.declared.entry.Detail.TheVariants.{Called, Nothing}
use Rattle.sem_msg.specs.declared.message.Message.{Message}
use Rattle.sem_msg.specs.declared.setup.Service.{Service}
use Rattle.sem_msg.specs.declared.state.Parked.{Parked}
use Rattle.sem_msg.specs.declared.state.Parked.TheVariants.{ObtainWait, ObtainReady, ObtainCancelled, DelegateWait, DelegateReady, RevokeWait, Ready}
use Rattle.sem_msg.specs.Rows.{JobRow}
use Rattle.sem_msg.specs.Setup.{Setup, IsSetup}
use Rattle.sem_msg.specs.Lookups.{kernel_of, owner_of, service_named, denies}
use Rattle.sem_msg.specs.declared.code.Code.TheVariants.{NoCap, NoService, BadKind}
use Rattle.sem_machine.specs.Sides.{Side, no_side, row, cap, cap_in, own, slot, endpoint, parked, is_alive, call_counted, ask_taken, unparked, with_inbox, sent}
use Rattle.sem_machine.specs.Steps.{Step, unshown, answer, cutting}
use Rattle.sem_machine.specs.Calls.{own_tests, destination_tests, derive_tests, gate_tests, ask_made, obtain_tests, open_tests, offer_tests, delegate_tests}
use Rattle.sem_machine.specs.Calls.{bind_tests, call_row}
use Rattle.sem_msg.specs.Uses.{memory_tests, send_tests, credit_tests}
use Rattle.sem_machine.specs.Revokes.{revoke_begun, clear_begun}
use Rattle.sem_msg.specs.declared.message.Target.TheVariants.{Serv as ServTarget, Offer as OfferTarget}
use Rattle.sem_machine.proofs.Folds.{option-keeps}
use Rattle.sem_machine.proofs.FirstCodes.{unless-keeps}
use Rattle.sem_msg.specs.declared.state.Ask.{Ask}
use Rattle.sem_msg.specs.declared.state.Ask.TheVariants.{Obtain as ObtainAsk, Delegate as DelegateAsk}
use Rattle.sem_msg.specs.declared.event.Event.{Event}
use Rattle.sem_machine.specs.Asks.{asker, is_unawaited}
use Rattle.sem_machine.specs.Upcalls.{source, source_tests, child_given, parent_tests, consented, ask_decided, upcall_row}
use Rattle.sem_machine.specs.Ends.{ended}
use Rattle.sem_machine.specs.Resumes.{can_resume, delegate_granted, delegate_resumed, resumed, resume_row}
use Rattle.sem_machine.specs.Handles.{handled}
use Rattle.sem_machine.specs.Machine.{World, side, with_side, input_of, start, local_step, local_entry, next_call, detail_of, replied_vpe, after, entry_of}
use Rattle.sem_machine.specs.Machine.{is_enabled, is_locally_enabled}
use Rattle.sem_machine.specs.Schedules.{IsSchedule, world_after}
use Rattle.sem_machine.specs.Journals.{grants, root_keys, made, answered, cut_off}
use Rattle.sem_machine.specs.Safety.{revoked_is_gone}
use Rattle.sem_key.proofs.KeyTests.{key_eq-same, key_eq-true, Contains-from_has_key, has_key-from_Contains}
use Rattle.sem_key.proofs.Members.{found, Contains-nil, Contains-cons_cases, Contains-from_filter, Contains-map, Contains-from_map, Contains-from_flat_map}
use Rattle.sem_key.proofs.Puts.{get_or-put_other}
use Rattle.sem_safety.specs.History.{History, no_history, note, history, cut_at, call_by, replies_to, replies_ok}
use Rattle.sem_machine.specs.Sound.{IsSound}
use Rattle.sem_msg.specs.declared.state.Slot.{Slot}
use Rattle.sem_msg.specs.declared.state.Slot.TheVariants.{Free, Held, Promised}
use Rattle.sem_key.proofs.Regions.{find-at}
use Rattle.sem_safety.proofs.GrownLines.{child-grown}
use Rattle.sem_revoke.specs.Views.{Alive}
use Rattle.sem_safety.proofs.CarryingWorlds.{stepped}
use Rattle.sem_safety.proofs.Drawers.{side-after}
use Rattle.sem_safety.proofs.GoingOn.{moved-sides, run-append, entry-enabled, run-prefix}
use Rattle.sem_safety.proofs.HeldOnce.{weigh-at}
use Rattle.sem_safety.proofs.Noted.{history-grants, history-answered}
use Rattle.sem_safety.proofs.OneLife.{all-new, all-grown}
use Rattle.sem_safety.proofs.Lives.{all_held, at_message, at_parked, at_inbox, at_side}
use Rattle.sem_safety.proofs.LiveWorlds.{at_world, after-lives}
use Rattle.sem_sound.proofs.Scheduling.{schedule-sound}
use Rattle.sem_revoke.proofs.Viewing.{on_its_way}
use Rattle.sem_revoke.proofs.Worlds.{whole, alive-weighs, weighs-alive}
use Rattle.sem_revoke.proofs.Events.{Par, Made, ranked, own-cap}
use Rattle.sem_revoke.proofs.Revoking.{enabled-parts, start-each, start-bare, more-grants, shown}
use Rattle.sem_revoke.proofs.Linking.{holds}
use Rattle.sem_revoke.proofs.Readying.{enabled-low, schedule-homes, schedule-fit, grant-weighs}
use Rattle.sem_revoke.proofs.Ancestors.{ancestor-alive}
use Rattle.sem_revoke.proofs.Waits.{Ends, Resting}
use Rattle.sem_revoke.proofs.Waiting.{Waiting}
use Rattle.sem_revoke.proofs.Resting.{Unrooted, Unrevoked}
use Rattle.sem_revoke.proofs.Answered.{child-in, AreKept, AtRest, Fresh, Acks, still-rest, call-rest, upcall-rest, kill-rest, resume-rest, message-rest}

none-of : {X : Type 0} (o : Option X) → is_none o ≡ true → o ≡ None
none-of None h = refl
none-of (Some x) h = absurd cc

pub fold-push : (J : List Entry) (h : History) (e : Entry) → fold note h (J ++ e ∷ []) ≡ note (fold note h J) e
fold-push [] h e = refl
fold-push (x ∷ J) h e = fold-push J (note h x) e

calls-vpe : (a b : ℕ) → Calls a ≡ Calls b → a ≡ b
calls-vpe a b same = ap vpe same
  where
    vpe : Act → ℕ
    vpe (Calls v) = v
    vpe (Fetch j) = 0
    vpe Handle = 0
    vpe (Upcall v) = 0
    vpe (Resume v) = 0
    vpe (Flush j) = 0
    vpe (Kill v) = 0

-- One event.
module _ (T : Setup) (i : ℕ) (s : Side) (gs : List (KeyName × KeyName)) (pend : ℕ → KeyName → KeyName → Type 0) (R : Waiting pend None s)
    (apart : (p k : KeyName) → Contains gs (p, k) → k ≡ p → ⊥)
    (owns : (v sel : ℕ) (c : Capability) → own s v sel ≡ Some c → c.key.vpe ≡ v)
    (drawn_marks : (k : KeyName) (c : Capability) (n : ℕ) → cap s k ≡ Some c → c.mark ≡ Some n → n < s.next_job) where
  -- a call that begins with the act waits from then on, by its own key, for what it cuts off
  abbrev pub BeginsAt : Act → Detail → Option KeyName → ℕ → KeyName → KeyName → Type 0
  BeginsAt a d cut v k r = (a ≡ Calls v) × (◌≡◌ {A = Option KeyName} cut (Some r)) × Contains (cut_off gs d r) k

  abbrev Goal : Act → Step → Option Message → Type 0
  Goal a x input = ((v : ℕ) (k r : KeyName) → pend v k r ⊎ BeginsAt a (detail_of T s a input x.outcome) x.outcome.cut v k r →
      Resting None x.side k r v (parked x.side v)) × AreKept T i s gs pend R apart owns drawn_marks x.side

  only : (a : Act) (d : Detail) (cut : Option KeyName) (t : Side) → ((v : ℕ) → a ≡ Calls v → ⊥) → AtRest T i s gs pend R apart owns drawn_marks t
      → ((v : ℕ) (k r : KeyName) → pend v k r ⊎ BeginsAt a d cut v k r → Resting None t k r v (parked t v)) × AreKept T i s gs pend R apart owns drawn_marks t
  only a d cut t other rest = (λ v k r which. elim which [ inl pends ↦ rest.0 v k r pends | inr (is, cuts, among) ↦ absurd (other v is) ], rest.1)

  act-rest : (a : Act) (input : Option Message) → is_locally_enabled T i s a ≡ true → Fresh T i s gs pend R apart owns drawn_marks (local_step T i s a input)
      → ((v : ℕ) → a ≡ Resume v → ((k r : KeyName) → pend v k r → ⊥) × Unrevoked pend s (parked s v))
      → ((from : ℕ) (m : Message) → s.inbox ≡ Some (from, m) → Acks T i s gs pend R apart owns drawn_marks m)
      → Goal a (local_step T i s a input) input
  unfolding local_step is_locally_enabled
  act-rest (Calls v) input enabled fresh over acks = from (next_call T s v) fresh
    where
      parts : (is_alive s v ≡ true) × (is_none (parked s v) ≡ true)
      parts = let one = and_parts (kernel_of T v == i) _ enabled in let two = and_parts (is_alive s v) _ one.1 in
          (two.0, (and_parts (is_none (parked s v)) _ two.1).0)

      GoalOf : Option Call → Type 0
      GoalOf o = ((w : ℕ) (k r : KeyName) →
          pend w k r ⊎ BeginsAt (Calls v) (option_map_or (λ call. Called (row s v).next_call call) o Nothing)
          (option_map_or (call_row T i (call_counted v s) v) o (unshown s)).outcome.cut w k r
          → Resting None (option_map_or (call_row T i (call_counted v s) v) o (unshown s)).side k r w
          (parked (option_map_or (call_row T i (call_counted v s) v) o (unshown s)).side w))
          × AreKept T i s gs pend R apart owns drawn_marks (option_map_or (call_row T i (call_counted v s) v) o (unshown s)).side

      from : (o : Option Call) → Fresh T i s gs pend R apart owns drawn_marks (option_map_or (call_row T i (call_counted v s) v) o (unshown s)) → GoalOf o
      from None fresh' = (
        λ w k r which. elim which [ inl pends ↦ R.rests w k r pends | inr (is, cuts, among) ↦ (let two : None ≡ Some r = cuts in absurd cc) ],
        R.keepers,
      )
      from (Some c) fresh' =
          let rest = call-rest T i s gs pend R apart owns drawn_marks v (none-of (parked s v) parts.1) parts.0 (row s v).next_call c fresh' in
          (λ w k r which. rest.0 w k r (elim which [ inl pends ↦ inl pends | inr (is, cuts, among) ↦ inr (calls-vpe w v (sym is), cuts, among) ]), rest.1)
  act-rest (Fetch j) input enabled fresh over acks = only (Fetch j) (detail_of T s (Fetch j) input (local_step T i s (Fetch j) input).outcome)
      (local_step T i s (Fetch j) input).outcome.cut (with_inbox (option_map (λ m. (j, m)) input) s) (λ v no'. absurd cc)
      (still-rest T i s gs pend R apart owns drawn_marks (with_inbox (option_map (λ m. (j, m)) input) s) refl refl refl refl refl)
  act-rest Handle input enabled fresh over acks = only Handle (detail_of T s Handle input (local_step T i s Handle input).outcome)
      (local_step T i s Handle input).outcome.cut (option_map_or (λ m. handled T i (with_inbox None s) m.0 m.1) s.inbox s) (λ v no'. absurd cc)
      (from s.inbox refl)
    where
      from : (o : Option (ℕ × Message)) → s.inbox ≡ o →
          AtRest T i s gs pend R apart owns drawn_marks (option_map_or (λ m. handled T i (with_inbox None s) m.0 m.1) o s)
      from None none = (R.rests, R.keepers)
      from (Some (sender, m)) full = message-rest T i s gs pend R apart owns drawn_marks sender m (acks sender m full)
  act-rest (Upcall v) input enabled fresh over acks = only (Upcall v) (detail_of T s (Upcall v) input (local_step T i s (Upcall v) input).outcome)
      (local_step T i s (Upcall v) input).outcome.cut (upcall_row T i s v).side (λ w no'. absurd cc)
      (upcall-rest T i s gs pend R apart owns drawn_marks v fresh)
  act-rest (Resume v) input enabled fresh over acks = only (Resume v) (detail_of T s (Resume v) input (local_step T i s (Resume v) input).outcome)
      (local_step T i s (Resume v) input).outcome.cut (resume_row T s v).side (λ w no'. absurd cc)
      (resume-rest T i s gs pend R apart owns drawn_marks v (over v refl).0 (and_parts (kernel_of T v == i) (can_resume (parked s v)) enabled).1
      (over v refl).1 fresh)
  act-rest (Flush j) input enabled fresh over acks = only (Flush j) (detail_of T s (Flush j) input (local_step T i s (Flush j) input).outcome)
      (local_step T i s (Flush j) input).outcome.cut (sent j s) (λ v no'. absurd cc)
      (still-rest T i s gs pend R apart owns drawn_marks (sent j s) refl refl refl refl refl)
  act-rest (Kill v) input enabled fresh over acks = only (Kill v) (detail_of T s (Kill v) input (local_step T i s (Kill v) input).outcome)
      (local_step T i s (Kill v) input).outcome.cut (ended T i v s) (λ w no'. absurd cc) (kill-rest T i s gs pend R apart owns drawn_marks v)

-- a call that goes on is answered, with the code that was ready
pub resumed-replies : (T : Setup) (p : Option Parked) (t : Side) → can_resume p ≡ true →
    (code : ℕ) × (◌≡◌ {A = Option ℕ} (resumed T p t).outcome.reply (Some code)) × ((c : ℕ) → p ≡ Some (Ready c) → code ≡ c)
resumed-replies T None t can = absurd cc
resumed-replies T (Some (ObtainWait number sel)) t can = absurd cc
resumed-replies T (Some (ObtainReady key parent object sel)) t can = (0, refl, λ c is. absurd cc)
resumed-replies T (Some ObtainCancelled) t can = (11, refl, λ c is. absurd cc)
resumed-replies T (Some (DelegateWait parent)) t can = absurd cc
resumed-replies T (Some (DelegateReady parent key)) t can = by (cap t parent)
  where
    by_mark : (m : Option ℕ) → (code : ℕ) × (◌≡◌ {A = Option ℕ} (delegate_granted T parent key m t).outcome.reply (Some code))
        × ((c : ℕ) → Some (DelegateReady parent key) ≡ Some (Ready c) → code ≡ c)
    by_mark None = (0, refl, λ c is. absurd cc)
    by_mark (Some j) = (4, refl, λ c is. absurd cc)

    by : (o : Option Capability) → (code : ℕ) × (◌≡◌ {A = Option ℕ} (delegate_resumed T parent key o t).outcome.reply (Some code))
        × ((c : ℕ) → Some (DelegateReady parent key) ≡ Some (Ready c) → code ≡ c)
    by None = (11, refl, λ c is. absurd cc)
    by (Some c) = by_mark c.mark
resumed-replies T (Some (RevokeWait j)) t can = absurd cc
resumed-replies T (Some (Ready code)) t can = (code, refl, λ c is. code-is code c is)
  where
    code-is : (a b : ℕ) → Some (Ready a) ≡ Some (Ready b) → a ≡ b
    code-is a b is = ap number (same_Some (Ready a) (Ready b) is)
      where
        number : Parked → ℕ
        number (ObtainWait n sel) = 0
        number (ObtainReady key parent object sel) = 0
        number ObtainCancelled = 0
        number (DelegateWait parent) = 0
        number (DelegateReady parent key) = 0
        number (RevokeWait n) = 0
        number (Ready c) = c

-- what the entry of an event tells
pub record Tells (T : Setup) (W : World) (e : Entry) : Type 0 where
  pub detail : e.detail ≡ detail_of T (side W e.event.kernel) e.event.act (input_of W e.event.kernel e.event.act) (stepped T W e.event).outcome
  pub cut : ◌≡◌ {A = Option KeyName} e.cut (stepped T W e.event).outcome.cut
  pub reply : e.reply ≡ option_map (λ code. record { vpe = replied_vpe e.event.act; code = code }) (stepped T W e.event).outcome.reply

pub tells : (T : Setup) (W : World) (e : Entry) → e ≡ entry_of T W e.event → Tells T W e
unfolding entry_of local_entry
tells T W e made' = record {
  detail = ap (λ (x : Entry). x.detail) made';
  cut = ap (λ (x : Entry). x.cut) made';
  reply = ap (λ (x : Entry). x.reply) made';
}

-- a call that begins to wait, and what it cuts off
new-wait : (a : Act) (d : Detail) (cut : Option KeyName) (gs : List (KeyName × KeyName)) (v : ℕ) (ks : List KeyName) (k : KeyName) →
    Contains (call_by a (option_map_or (cut_off gs d) cut [])) (v, ks) → Contains ks k
    → (r : KeyName) × (a ≡ Calls v) × (◌≡◌ {A = Option KeyName} cut (Some r)) × Contains (cut_off gs d r) k
new-wait (Calls w) d None gs v ks k among cuts = elim (Contains-cons_cases (w, []) [] (v, ks) among) [
  | inl same ↦ absurd (Contains-nil k (subst (λ xs. Contains xs k) (sym (ap (λ (g : ℕ × List KeyName). g.1) same)) cuts))
  | inr none ↦ absurd (Contains-nil (v, ks) none)
]
new-wait (Calls w) d (Some r) gs v ks k among cuts = elim (Contains-cons_cases (w, cut_off gs d r) [] (v, ks) among) [
  | inl same ↦ (r, ap (λ (g : ℕ × List KeyName). Calls g.0) same, refl, subst (λ xs. Contains xs k) (sym (ap (λ (g : ℕ × List KeyName). g.1) same)) cuts)
  | inr none ↦ absurd (Contains-nil (v, ks) none)
]
new-wait (Fetch j) d cut gs v ks k among cuts = absurd (Contains-nil (v, ks) among)
new-wait Handle d cut gs v ks k among cuts = absurd (Contains-nil (v, ks) among)
new-wait (Upcall w) d cut gs v ks k among cuts = absurd (Contains-nil (v, ks) among)
new-wait (Resume w) d cut gs v ks k among cuts = absurd (Contains-nil (v, ks) among)
new-wait (Flush j) d cut gs v ks k among cuts = absurd (Contains-nil (v, ks) among)
new-wait (Kill w) d cut gs v ks k among cuts = absurd (Contains-nil (v, ks) among)

-- what is cut off is the call's own key, or a child of it
pub cut-key : (gs : List (KeyName × KeyName)) (d : Detail) (r k : KeyName) → Contains (cut_off gs d r) k → (k ≡ r) ⊎ Contains gs (r, k)
cut-key gs (Called index (Revoke src)) r k among = elim (Contains-cons_cases r [] k among) [
  | inl same ↦ inl (sym same)
  | inr none ↦ absurd (Contains-nil k none)
]
cut-key gs (Called index (Clear src)) r k among = inr (child-in gs r k among)
cut-key gs d r k among = absurd (Contains-nil k among)

-- what a call cuts is held
abbrev pub CutHeld : Side → Step → Type 0
CutHeld s x = (k : KeyName) → ◌≡◌ {A = Option KeyName} x.outcome.cut (Some k) → (c : Capability) × (cap s k ≡ Some c)

pub call-cut : (T : Setup) (i : ℕ) (s : Side) (v : ℕ) (c : Call) → CutHeld s (call_row T i s v c)
unfolding call_row
call-cut T i s v (Derive src dst off len rights) = unless-keeps (CutHeld s) (derive_tests s v src dst off len rights) _ _ (λ code k some. absurd cc)
    (option-keeps (CutHeld s) _ (own s v src) (answer NoCap s) (λ p held k some. absurd cc) (λ k some. absurd cc))
call-cut T i s v (Gate src dst label credits) = unless-keeps (CutHeld s) (gate_tests s v src dst credits) _ _ (λ code k some. absurd cc)
    (option-keeps (CutHeld s) _ (own s v src) (answer NoCap s) (λ p held k some. absurd cc) (λ k some. absurd cc))
call-cut T i s v (Obtain dst w src) = unless-keeps (CutHeld s) (obtain_tests T i s v dst w) _ _ (λ code k some. absurd cc) (λ k some. absurd cc)
call-cut T i s v (Delegate src w dst) = unless-keeps (CutHeld s) (delegate_tests T i s v src w) _ _ (λ code k some. absurd cc)
    (option-keeps (CutHeld s) _ (own s v src) (answer NoCap s) (λ p held k some. absurd cc) (λ k some. absurd cc))
call-cut T i s v (OpenSession dst name) = unless-keeps (CutHeld s) (open_tests T i s v dst name) _ _ (λ code k some. absurd cc)
    (option-keeps (CutHeld s) (λ (x : Service). ask_made T i v dst (ServTarget x.key) s) (service_named T name) (answer NoService s)
    (λ x there k some. absurd cc) (λ k some. absurd cc))
call-cut T i s v (AskOffer dst session index) = unless-keeps (CutHeld s) (offer_tests T i s v dst session) _ _ (λ code k some. absurd cc)
    (option-keeps (CutHeld s) (λ (k : KeyName). ask_made T i v dst (OfferTarget k index) s) _ (answer BadKind s) (λ q there k some. absurd cc)
    (λ k some. absurd cc))
call-cut T i s v (Revoke src) = option-keeps (CutHeld s) (λ (c : Capability). cutting c.key (unshown (revoke_begun T i v c.key c.mark s))) (own s v src)
    (answer NoCap s) (λ c held k some. (c, ap (cap s) (sym (same_Some c.key k some)) ∙ own-cap s v src c held)) (λ k some. absurd cc)
call-cut T i s v (Bind ep src) = unless-keeps (CutHeld s) (bind_tests s v src) _ _ (λ code k some. absurd cc)
    (option-keeps (CutHeld s) _ (own s v src) (answer NoCap s) (λ p held k some. absurd cc) (λ k some. absurd cc))
call-cut T i s v (Read ep off len) = unless-keeps (CutHeld s) (memory_tests 1 off len (endpoint s v ep)) _ _ (λ code k some. absurd cc) (λ k some. absurd cc)
call-cut T i s v (Write ep off len) = unless-keeps (CutHeld s) (memory_tests 2 off len (endpoint s v ep)) _ _ (λ code k some. absurd cc) (λ k some. absurd cc)
call-cut T i s v (SendCall ep len) = unless-keeps (CutHeld s) (send_tests (endpoint s v ep)) _ _ (λ code k some. absurd cc) (λ k some. absurd cc)
call-cut T i s v (Credit ep) = unless-keeps (CutHeld s) (credit_tests (endpoint s v ep)) _ _ (λ code k some. absurd cc) (λ k some. absurd cc)
call-cut T i s v Exit = λ k some. absurd cc
call-cut T i s v (Clear src) = unless-keeps (CutHeld s) (own_tests (own s v src)) _ _ (λ code k some. absurd cc)
    (option-keeps (CutHeld s) (λ (c : Capability). cutting c.key (unshown (clear_begun T i v c.key s))) (own s v src) (answer NoCap s)
    (λ c held k some. (c, ap (cap s) (sym (same_Some c.key k some)) ∙ own-cap s v src c held)) (λ k some. absurd cc))

pub step-cut : (T : Setup) (i : ℕ) (s : Side) (v : ℕ) (input : Option Message) → CutHeld s (local_step T i s (Calls v) input)
unfolding local_step
step-cut T i s v input = option-keeps (CutHeld s) (call_row T i (call_counted v s) v) (next_call T s v) (unshown s)
    (λ c there. call-cut T i (call_counted v s) v c) (λ k some. absurd cc)

pub enabled-call : (T : Setup) (i : ℕ) (s : Side) (v : ℕ) → is_locally_enabled T i s (Calls v) ≡ true → (kernel_of T v ≡ i) × (is_alive s v ≡ true)
    × (parked s v ≡ None)
unfolding is_locally_enabled
enabled-call T i s v enabled = let one = and_parts (kernel_of T v == i) _ enabled in let two = and_parts (is_alive s v) _ one.1 in
    (eqb-true (kernel_of T v) i one.0, two.0, none-of (parked s v) (and_parts (is_none (parked s v)) _ two.1).0)

pub enabled-resume : (T : Setup) (i : ℕ) (s : Side) (v : ℕ) → is_locally_enabled T i s (Resume v) ≡ true →
    (kernel_of T v ≡ i) × (can_resume (parked s v) ≡ true)
unfolding is_locally_enabled
enabled-resume T i s v enabled = let one = and_parts (kernel_of T v == i) _ enabled in (eqb-true (kernel_of T v) i one.0, one.1)

-- which acts reply, and to whom
abbrev pub reply_is : ℕ → Option ℕ → Option Reply
reply_is w o = option_map (λ code. record { vpe = w; code = code }) o

replied-to : (w v : ℕ) (o : Option ℕ) → option_map_or (λ (r : Reply). r.vpe == v) (reply_is w o) false ≡ true → w ≡ v
replied-to w v None no' = absurd cc
replied-to w v (Some code) same = eqb-true w v same

-- an upcall replies to nobody
abbrev Silent : Step → Type 0
Silent x = ◌≡◌ {A = Option ℕ} x.outcome.reply None

upcall-silent : (T : Setup) (i : ℕ) (s : Side) (v : ℕ) → Silent (upcall_row T i s v)
unfolding upcall_row
upcall-silent T i s v = option-keeps Silent (λ (a : Ask). ask_decided T i v a (ask_taken v s)) (slice_get (row s v).asks 0) (unshown s)
    (λ a there. decided a (ask_taken v s)) refl
  where
    consents : (a : Ask) (t : Side) → Silent (consented T i v a t)
    consents (ObtainAsk place target) t = unless-keeps Silent (source_tests target (source T t v target)) _ _ (λ code. refl)
        (option-keeps Silent (child_given T i place target t) (source T t v target) (unshown t) (λ p held. refl) refl)
    consents (DelegateAsk parent object sel) t =
        cond_both (kernel_of T parent.vpe == i) _ _ Silent (λ _. unless-keeps Silent (parent_tests (cap t parent) ++ destination_tests t v sel) _ _
        (λ code. refl) refl) (λ _. unless-keeps Silent (destination_tests t v sel) _ _ (λ code. refl) refl)

    decided : (a : Ask) (t : Side) → Silent (ask_decided T i v a t)
    decided a t = cond_both (is_unawaited T i t a) _ _ Silent (λ _. refl) (λ _. cond_both (denies T v (asker a)) _ _ Silent (λ _. refl) (λ _. consents a t))

pub act-replies : (T : Setup) (i : ℕ) (s : Side) (a : Act) (input : Option Message) (v : ℕ) →
    option_map_or (λ (r : Reply). r.vpe == v) (reply_is (replied_vpe a) (local_step T i s a input).outcome.reply) false ≡ true → (a ≡ Calls v) ⊎ (a ≡ Resume v)
unfolding local_step
act-replies T i s (Calls w) input v yes' = inl (ap Calls (replied-to w v (local_step T i s (Calls w) input).outcome.reply yes'))
act-replies T i s (Resume w) input v yes' = inr (ap Resume (replied-to w v (local_step T i s (Resume w) input).outcome.reply yes'))
act-replies T i s (Fetch j) input v yes' = absurd cc
act-replies T i s Handle input v yes' = absurd cc
act-replies T i s (Upcall w) input v yes' =
    absurd (true≢false (sym yes' ∙ ap (λ o. option_map_or (λ (r : Reply). r.vpe == v) (reply_is 0 o) false) (upcall-silent T i s w)))
act-replies T i s (Flush j) input v yes' = absurd cc
act-replies T i s (Kill w) input v yes' = absurd cc

pub resume-step : (T : Setup) (i : ℕ) (s : Side) (v : ℕ) (input : Option Message) →
    ◌≡◌ {A = Option ℕ} (local_step T i s (Resume v) input).outcome.reply (resumed T (parked s v) (unparked v s)).outcome.reply
unfolding local_step resume_row
resume-step T i s v input = refl

other-side : (T : Setup) (W : World) (e : Event) (a : ℕ) → a ≢ e.kernel → side (after T W e) a ≡ side W a
unfolding after
other-side T W e a away =
    ap (λ (ss : List Side). get_or ss a no_side) (moved-sides e.kernel (side W e.kernel) e.act (with_side e.kernel (stepped T W e).side W))
    ∙ get_or-put_other no_side W.sides e.kernel a (stepped T W e).side away

made-more : (T : Setup) (before : List Entry) (e : Entry) (k : KeyName) → Contains (made T before) k → Contains (made T (before ++ e ∷ [])) k
made-more T before e k there = elim (Contains-append_cases (root_keys T) (map (λ g. g.1) (grants before)) k there) [
  | inl root ↦ Contains-append_left (root_keys T) (map (λ g. g.1) (grants (before ++ e ∷ []))) k root
  | inr child ↦
      let g = Contains-from_map (λ (g : KeyName × KeyName). g.1) (grants before) k child in
      let gs = more-grants before e e.grant refl in
      Contains-append_right (root_keys T) (map (λ g. g.1) (grants (before ++ e ∷ []))) k
      (subst (Contains (map (λ (g : KeyName × KeyName). g.1) (grants (before ++ e ∷ [])))) g.2
      (Contains-map (λ (g : KeyName × KeyName). g.1) (grants (before ++ e ∷ [])) g.0
      (subst (λ xs. Contains xs g.0) (sym gs) (Contains-append_left (grants before) (option_to_list e.grant) g.0 g.1))))
]

-- A call of v that waits cuts off k, by its own key r.
pub record Waits (T : Setup) (J : List Entry) (v : ℕ) (k r : KeyName) : Type 0 where
  pub key : (k ≡ r) ⊎ Contains (grants J) (r, k)
  pub home : kernel_of T v ≡ owner_of T r
  pub cut_made : Contains (made T J) k
  pub own_made : Contains (made T J) r
  -- its own key is not on its way
  pub still : at_world r on_its_way (world_after T J) ≡ 0
  pub rest : Resting None (side (world_after T J) (owner_of T r)) k r v (parked (side (world_after T J) (owner_of T r)) v)

-- a call that has done its work has what it cuts off dead
pub ends-dead : (T : Setup) (valid : IsSetup T) (J : List Entry) → IsSchedule T J → (v : ℕ) (k r : KeyName) → Waits T J v k r →
    ((c : Capability) → cap (side (world_after T J) (owner_of T r)) r ≡ Some c → Ends k r c)
    → Alive (owner_of T) (Par (grants J)) (Made T (grants J)) (whole T (world_after T J)) k → ⊥
ends-dead T valid J runs v k r w ends alive = elim w.key [
  | inl same ↦ own (subst (Alive (owner_of T) (Par (grants J)) (Made T (grants J)) (whole T (world_after T J))) same alive) same
  | inr granted ↦
      let leads = (holds T valid J runs).linked r k granted alive in
      let none = (ends leads.0 leads.1).1 in
      true≢false (sym leads.2 ∙ none)
]
  where
    own : Alive (owner_of T) (Par (grants J)) (Made T (grants J)) (whole T (world_after T J)) r → k ≡ r → ⊥
    own (inl (c, held)) same = (ends c held).0 same
    own (inr more) same = let none = w.still in omega (arith, more, none)

module _ (T : Setup) (valid : IsSetup T) where
  -- the calls that wait are at rest, and what was cut off by those that were answered is gone
  pub record Served (J : List Entry) : Type 0 where
    pub rest : (v : ℕ) (ks : List KeyName) (k : KeyName) → Contains (history J).waiting (v, ks) → Contains ks k → (r : KeyName) × Waits T J v k r
    pub done : (k : KeyName) → Contains (history J).answered k → Contains (made T J) k × (at_world k all_held (world_after T J) ≡ 0)
    -- a root that is kept is one of a VPE that waits
    pub keepers : (i : ℕ) (x : JobRow) → Contains (side (world_after T J) i).jobs x → x.keep ≡ true → Contains x.waiters x.root.vpe

  served-start : Served []
  served-start = record {
    rest = λ v ks k none. absurd (Contains-nil (v, ks) none);
    done = λ k none. absurd (Contains-nil k none);
    keepers = λ i x among. absurd
        (Contains-nil x (subst (λ xs. Contains xs x) (start-each T (λ (s : Side). s.jobs ≡ []) refl (λ a. (start-bare T a).0) i) among));
  }

  module _ (before : List Entry) (e : Entry) (runs : IsSchedule T before) (prefix : IsSchedule T (before ++ e ∷ []))
      (enabled : is_enabled T (world_after T before) e.event ≡ true) (made' : e ≡ entry_of T (world_after T before) e.event) (S : Served before)
      (new : (p k : KeyName) → ◌≡◌ {A = Option (KeyName × KeyName)} (stepped T (world_after T before) e.event).outcome.grant (Some (p, k)) →
      Contains (made T before) k → ⊥)
      (on : (k : KeyName) → Contains (made T before) k → Contains (made T (before ++ e ∷ [])) k) where
    abbrev W : World
    W = world_after T before

    abbrev i : ℕ
    i = e.event.kernel

    abbrev s : Side
    s = side W i

    abbrev h : History
    h = history before

    abbrev gs : List (KeyName × KeyName)
    gs = grants before

    abbrev told : Tells T W e
    told = tells T W e made'

    abbrev locally : is_locally_enabled T i s e.event.act ≡ true
    locally = (enabled-parts T W i e.event.act enabled).0

    abbrev pend : ℕ → KeyName → KeyName → Type 0
    pend v k r = Waits T before v k r × ((owner_of T r ≡ i) × (replies_to e v ≡ false))

    sound : IsSound T i s
    sound = (schedule-sound T valid before runs).sides i (enabled-low T W e.event enabled)

    -- a capability that is held under a key is one of the list
    found-cap : (k : KeyName) (c : Capability) → cap s k ≡ Some c → Contains s.caps c × (c.key ≡ k)
    found-cap k c held = let there = found (λ (x : Capability). key_eq x.key k) s.caps c held in (there.0, key_eq-true c.key k there.1)

    waits : Waiting pend None s
    waits = record {
      rests = λ v k r pends. subst (λ n. Resting None (side W n) k r v (parked (side W n) v)) pends.1.0 pends.0.rest;
      waiters = λ x among open_ v waits'. sound.waiters x v among (λ none. absurd cc) waits';
      keepers = S.keepers i;
      roots = λ x among open_ c held.
          let root = sound.roots x among (λ none. absurd cc) in
          let is : root.0 ≡ c = same_Some root.0 c (sym (find-at s.caps sound.caps_rise x.root root.0 root.1 root.2) ∙ held) in
          ap (λ (d : Capability). d.mark) (sym is) ∙ root.3;
      drawn = sound.ids_drawn;
      rises = sound.caps_rise;
    }

    -- a child is another key than its parent
    apart : (p k : KeyName) → Contains gs (p, k) → k ≡ p → ⊥
    apart p k granted same =
        let rank = ranked T gs (all-grown T valid before runs) in
        let less = rank.1 p k granted in
        let equal = ap rank.0 same in
        omega (arith, less, equal)

    -- what stands at a selector of a VPE is a key of it
    owns : (v sel : ℕ) (c : Capability) → own s v sel ≡ Some c → c.key.vpe ≡ v
    owns v sel c held = from (slot s v sel) refl held
      where
        from : (x : Slot) → slot s v sel ≡ x → cap_in s x ≡ Some c → c.key.vpe ≡ v
        from Free at none = absurd cc
        from (Held k) at some = ap (λ (q : KeyName). q.vpe) (found-cap k c some).1 ∙ (sound.held v sel k at).0
        from Promised at none = absurd cc

    drawn_marks : (k : KeyName) (c : Capability) (n : ℕ) → cap s k ≡ Some c → c.mark ≡ Some n → n < s.next_job
    drawn_marks k c n held marked =
        let opens = (sound.marker c n (found-cap k c held).0 marked).0 in
        let low = sound.ids_drawn opens.0 opens.1 in
        let id = opens.2 in
        omega (arith, low, id)

    world : world_after T (before ++ e ∷ []) ≡ after T W e.event
    world = run-append T before (e ∷ []) (start T)

    -- what was made and is not on its way stays so
    not-coming : (k : KeyName) → Contains (made T before) k → at_world k on_its_way W ≡ 0 → at_world k on_its_way (world_after T (before ++ e ∷ [])) ≡ 0
    not-coming k there none =
        let less = after-lives k on_its_way T W i e.event.act in
        let grant = grant-weighs T valid k (stepped T W e.event).outcome.grant (λ p now'. new p k now' there) in
        let is = ap (at_world k on_its_way) world in
        omega (arith, less, grant, is, none)

    not-alive : (k : KeyName) → Contains (made T before) k → at_world k all_held W ≡ 0 → at_world k all_held (world_after T (before ++ e ∷ [])) ≡ 0
    not-alive k there none =
        let less = after-lives k all_held T W i e.event.act in
        let grant = grant-weighs T valid k (stepped T W e.event).outcome.grant (λ p now'. new p k now' there) in
        let is = ap (at_world k all_held) world in
        omega (arith, less, grant, is, none)

    -- a key that is on its way is not the own key of a call that waits
    not-waited : (key : KeyName) → 1 ≤ at_world key on_its_way W → Unrooted pend s key
    not-waited key coming v k r pends same = let none = pends.0.still in let is = ap (λ q. at_world q on_its_way W) same in omega (arith, coming, none, is)

    side-coming : (k : KeyName) → 1 ≤ at_side k on_its_way s → 1 ≤ at_world k on_its_way W
    side-coming k more = let part = weigh-at (at_side k on_its_way) no_side refl W.sides i in omega (arith, part, more)

    fresh : Fresh T i s gs pend waits apart owns drawn_marks (stepped T W e.event)
    fresh p k now' = (
      λ v q r pends same. new p k now' (subst (Contains (made T before)) (sym same) pends.0.own_made),
      λ v q r pends same. new p k now' (subst (Contains (made T before)) (sym same) pends.0.cut_made),
    )

    over : (v : ℕ) → e.event.act ≡ Resume v → ((k r : KeyName) → pend v k r → ⊥) × Unrevoked pend s (parked s v)
    over v is = (λ k r pends. true≢false (sym replied ∙ pends.1.1), unrevoked (parked s v) refl)
      where
        can : can_resume (parked s v) ≡ true
        can = (enabled-resume T i s v (subst (λ a. is_locally_enabled T i s a ≡ true) is locally)).1

        replied : replies_to e v ≡ true
        replied =
            let r = resumed-replies T (parked s v) (unparked v s) can in
            let step : (stepped T W e.event).outcome.reply ≡ Some r.0 = ap (λ a. (local_step T i s a (input_of W i a)).outcome.reply) is
            ∙ (resume-step T i s v (input_of W i (Resume v)) ∙ r.1) in
            ap (λ o. option_map_or (λ (q : Reply). q.vpe == v) o false) (told.reply
            ∙ (ap (reply_is (replied_vpe e.event.act)) step ∙ ap (λ a. reply_is (replied_vpe a) (Some r.0)) is)) ∙ eq-eqb v v refl

        unrevoked : (p : Option Parked) → parked s v ≡ p → Unrevoked pend s p
        unrevoked None at = tt
        unrevoked (Some (ObtainWait number sel)) at = tt
        unrevoked (Some (ObtainReady key parent object sel)) at =
            let calls = weigh-at (at_parked key) None refl s.parks v in
            let weight : at_parked key (parked s v) ≡ 1 = ap (at_parked key) at ∙ cond-true (key_eq key key) 1 0 (key_eq-same key) in
            not-waited key (side-coming key (omega (arith, calls, weight)))
        unrevoked (Some ObtainCancelled) at = tt
        unrevoked (Some (DelegateWait parent)) at = tt
        unrevoked (Some (DelegateReady parent key)) at = tt
        unrevoked (Some (RevokeWait j)) at = tt
        unrevoked (Some (Ready code)) at = tt

    acks : (sender : ℕ) (m : Message) → s.inbox ≡ Some (sender, m) → Acks T i s gs pend waits apart owns drawn_marks m
    acks sender m full key is =
        let weight : at_inbox key s.inbox ≡ 1 = ap (at_inbox key) full ∙ (ap (at_message key) is ∙ cond-true (key_eq key key) 1 0 (key_eq-same key)) in
        not-waited key (side-coming key (omega (arith, weight)))

    -- a call that begins with the event, and waits from then on
    abbrev BeginsNow : ℕ → KeyName → KeyName → Type 0
    BeginsNow v k r = (e.event.act ≡ Calls v) × (◌≡◌ {A = Option KeyName} e.cut (Some r)) × Contains (cut_off gs e.detail r) k

    after-rest : ((v : ℕ) (k r : KeyName) → pend v k r ⊎ BeginsNow v k r → Resting None (stepped T W e.event).side k r v (parked (stepped T W e.event).side v))
        × ((x : JobRow) → Contains (stepped T W e.event).side.jobs x → x.keep ≡ true → Contains x.waiters x.root.vpe)
    after-rest =
        let rest = act-rest T i s gs pend waits apart owns drawn_marks e.event.act (input_of W i e.event.act) locally fresh over acks in (
          λ v k r which. rest.0 v k r (elim which [
            | inl pends ↦ inl pends
            | inr (is, cuts, among) ↦ inr (is, sym told.cut ∙ cuts, subst (λ d. Contains (cut_off gs d r) k) told.detail among)
          ]),
          rest.1,
        )

    -- its own key is held, by this kernel
    begun-home : (v : ℕ) (k r : KeyName) → BeginsNow v k r → (owner_of T r ≡ i) × ((kernel_of T v ≡ i) × ((c : Capability) × (cap s r ≡ Some c)))
    begun-home v k r (is, cuts, among) =
        let call = enabled-call T i s v (subst (λ a. is_locally_enabled T i s a ≡ true) is locally) in
        let shows : ◌≡◌ {A = Option KeyName} (local_step T i s (Calls v) (input_of W i (Calls v))).outcome.cut (Some r) =
        ap (λ a. (local_step T i s a (input_of W i a)).outcome.cut) (sym is) ∙ (sym told.cut ∙ cuts) in
        let held = step-cut T i s v (input_of W i (Calls v)) r shows in
        (schedule-homes T valid before runs i r held.0 held.1, (call.0, held))

    side-i : side (world_after T (before ++ e ∷ [])) i ≡ (stepped T W e.event).side
    side-i = ap (λ V. side V i) world ∙ side-after T W e.event

    side-other : (a : ℕ) → a ≢ i → side (world_after T (before ++ e ∷ [])) a ≡ side W a
    side-other a away = ap (λ V. side V a) world ∙ other-side T W e.event a away

    hist : history (before ++ e ∷ []) ≡ note h e
    hist = fold-push before no_history e

    in-waiting : (v : ℕ) (ks : List KeyName) → Contains (history (before ++ e ∷ [])).waiting (v, ks) → (Contains h.waiting (v, ks) × (replies_to e v ≡ false))
        ⊎ Contains (call_by e.event.act (cut_at gs e)) (v, ks)
    in-waiting v ks among = elim (Contains-append_cases (filter (λ w. not (replies_to e w.0)) h.waiting) (call_by e.event.act (cut_at h.grants e)) (
      v,
      ks,
    ) (subst (λ (H : History). Contains H.waiting (v, ks)) hist among)) [
      | inl old ↦ let kept = Contains-from_filter (λ (w : ℕ × List KeyName). not (replies_to e w.0)) h.waiting (v, ks) old in
          inl (kept.0, not-true (replies_to e v) kept.1)
      | inr now' ↦ inr (subst (λ xs. Contains (call_by e.event.act (cut_at xs e)) (v, ks)) (history-grants before) now')
    ]

    -- a call that is answered with success has what it cut off gone
    served-now : (v : ℕ) (k r : KeyName) → Waits T before v k r → replies_to e v ≡ true → replies_ok e ≡ true → at_world k all_held W ≡ 0
    served-now v k r w yes' well =
        elim (act-replies T i s e.event.act (input_of W i e.event.act) v (ap (λ o. option_map_or (λ (r : Reply). r.vpe == v) o false) (sym told.reply) ∙ yes')) [
          | inl calls ↦
              let call = enabled-call T i s v (subst (λ a. is_locally_enabled T i s a ≡ true) calls locally) in
              let dead : is_alive s v ≡ false = subst (Resting None s k r v) call.2 (rest-here call.0) in
              absurd (true≢false (sym call.1 ∙ dead))
          | inr resumes ↦
              let can = enabled-resume T i s v (subst (λ a. is_locally_enabled T i s a ≡ true) resumes locally) in
              let r' = resumed-replies T (parked s v) (unparked v s) can.1 in
              let step : (stepped T W e.event).outcome.reply ≡ Some r'.0 = ap (λ a. (local_step T i s a (input_of W i a)).outcome.reply) resumes
              ∙ (resume-step T i s v (input_of W i (Resume v)) ∙ r'.1) in
              let zero' : r'.0 ≡ 0 =
              eqb-true r'.0 0 (ap (λ o. option_map_or (λ (q : Reply). q.code == 0) o false) (sym (told.reply ∙ ap (reply_is (replied_vpe e.event.act)) step))
              ∙ well) in
              gone can.0 (parked s v) refl can.1 (λ c at. sym (r'.2 c at) ∙ zero')
        ]
      where
        rest-here : kernel_of T v ≡ i → Resting None s k r v (parked s v)
        rest-here at = subst (λ n. Resting None (side W n) k r v (parked (side W n) v)) (sym w.home ∙ at) w.rest

        gone : kernel_of T v ≡ i → (p : Option Parked) → parked s v ≡ p → can_resume p ≡ true → ((c : ℕ) → p ≡ Some (Ready c) → c ≡ 0) →
            at_world k all_held W ≡ 0
        gone at None is can code = absurd cc
        gone at (Some (ObtainWait number sel)) is can code = absurd cc
        gone at (Some (ObtainReady key parent object sel)) is can code = absurd (subst (Resting None s k r v) is (rest-here at))
        gone at (Some ObtainCancelled) is can code = absurd (subst (Resting None s k r v) is (rest-here at))
        gone at (Some (DelegateWait parent)) is can code = absurd cc
        gone at (Some (DelegateReady parent key)) is can code = absurd (subst (Resting None s k r v) is (rest-here at))
        gone at (Some (RevokeWait j)) is can code = absurd cc
        gone at (Some (Ready c)) is can code = elim (cases_eq (at_world k all_held W) 0) [
          | inl none ↦ none
          | inr some ↦ absurd
              (ends-dead T valid before runs v k r w (λ d held. (subst (Resting None s k r v) is (rest-here at)).1 d (ap (λ n. cap (side W n) r) (sym at
              ∙ w.home) ∙ held)) (weighs-alive T W k (Par gs) (Made T gs) (λ a d held. schedule-homes T valid before runs a k d held) (omega (arith, some))))
        ]

    -- a call that waits goes on to do so
    waits-on : (v : ℕ) (k r : KeyName) → Waits T before v k r → replies_to e v ≡ false → Waits T (before ++ e ∷ []) v k r
    waits-on v k r w unanswered = record {
      key = elim w.key [
        | inl same ↦ inl same
        | inr granted ↦ inr (subst (λ xs. Contains xs (r, k)) (sym (more-grants before e e.grant refl)) (Contains-append_left gs (option_to_list e.grant) (
          r,
          k,
        ) granted))
      ];
      home = w.home;
      cut_made = on k w.cut_made;
      own_made = on r w.own_made;
      still = not-coming r w.own_made w.still;
      rest = elim (cases_eq (owner_of T r) i) [
        | inl here ↦ subst (λ t. Resting None t k r v (parked t v)) (sym (ap (side (world_after T (before ++ e ∷ []))) here ∙ side-i))
            (after-rest.0 v k r (inl (w, (here, unanswered))))
        | inr away ↦ subst (λ t. Resting None t k r v (parked t v)) (sym (side-other (owner_of T r) away)) w.rest
      ];
    }

    waits-new : (v : ℕ) (k r : KeyName) → BeginsNow v k r → Waits T (before ++ e ∷ []) v k r
    waits-new v k r now' =
        let is = begun-home v k r now' in
        let held : cap (side W (owner_of T r)) r ≡ Some is.1.1.0 = ap (λ n. cap (side W n) r) is.0 ∙ is.1.1.1 in
        let fit = schedule-fit T valid before runs in
        let there = fit.made r (inl (is.1.1.0, held)) in
        let key = cut-key gs e.detail r k now'.2 in
        record {
          key = elim key [
            | inl same ↦ inl same
            | inr granted ↦ inr (subst (λ xs. Contains xs (r, k)) (sym (more-grants before e e.grant refl))
                (Contains-append_left gs (option_to_list e.grant) (r, k) granted))
          ];
          home = is.1.0 ∙ sym is.0;
          cut_made = on k (elim key [ inl same ↦ subst (Contains (made T before)) (sym same) there | inr granted ↦ child-grown (root_keys T) gs r k granted ]);
          own_made = on r there;
          still = not-coming r there (fit.apart r is.1.1.0 held);
          rest = subst (λ t. Resting None t k r v (parked t v)) (sym (ap (side (world_after T (before ++ e ∷ []))) is.0 ∙ side-i))
              (after-rest.0 v k r (inr now'));
        }

    served-next : Served (before ++ e ∷ [])
    served-next = record {
      rest = λ v ks k among cuts. elim (in-waiting v ks among) [
        | inl old ↦ let w = S.rest v ks k old.0 cuts in (w.0, waits-on v k w.0 w.1 old.1)
        | inr now' ↦ let r = new-wait e.event.act e.detail e.cut gs v ks k now' cuts in (r.0, waits-new v k r.0 (r.1, r.2, r.3))
      ];
      done = λ k among. elim (Contains-append_cases h.answered (flat_map (λ w. w.1) (filter (λ w. replies_to e w.0 && replies_ok e) h.waiting)) k
          (subst (λ (H : History). Contains H.answered k) hist among)) [
            | inl old ↦ let is = S.done k old in (on k is.0, not-alive k is.0 is.1)
            | inr now' ↦
                let w = Contains-from_flat_map (λ (w : ℕ × List KeyName). w.1) (filter (λ w. replies_to e w.0 && replies_ok e) h.waiting) k now' in
                let kept = Contains-from_filter (λ (w : ℕ × List KeyName). replies_to e w.0 && replies_ok e) h.waiting w.0 w.1 in
                let both = and_parts (replies_to e w.0.0) (replies_ok e) kept.1 in
                let waits' = S.rest w.0.0 w.0.1 k kept.0 w.2 in
                (on k waits'.1.cut_made, not-alive k waits'.1.cut_made (served-now w.0.0 k waits'.0 waits'.1 both.0 both.1))
          ];
      keepers = λ a x among keeps. elim (cases_eq a i) [
        | inl here ↦ after-rest.1 x (subst (λ (t : Side). Contains t.jobs x) (ap (side (world_after T (before ++ e ∷ []))) here ∙ side-i) among) keeps
        | inr away ↦ S.keepers a x (subst (λ (t : Side). Contains t.jobs x) (side-other a away) among) keeps
      ];
    }

  pub schedule-served : (J : List Entry) → IsSchedule T J → Served J
  schedule-served J runs = from [] J refl served-start
    where
      from : (before later : List Entry) → J ≡ before ++ later → Served before → Served J
      from before [] parts S = subst Served (sym (parts ∙ append-nil before)) S
      from before (e ∷ es) parts S =
          let runs' : IsSchedule T (before ++ e ∷ es) = subst (IsSchedule T) parts runs in
          let at = entry-enabled T before (start T) e es runs' in
          let prefix : IsSchedule T (before ++ e ∷ []) = run-prefix T before es e (start T) runs' in
          from (before ++ e ∷ []) es (parts ∙ sym (append_assoc before (e ∷ []) es))
          (served-next before e at.0 prefix at.1 at.2 S (λ p k now'. all-new T valid J runs before es e p k parts (shown T (world_after T before) e at.2
          ∙ now')) (λ k there. made-more T before e k there))

  pub all-gone : (J : List Entry) → IsSchedule T J → revoked_is_gone T J
  all-gone J runs k a used above among =
      let there : Contains (history J).answered a = Contains-from_has_key (history J).answered a (history-answered J a
      ∙ has_key-from_Contains (answered J) a among) in
      let dead = ((schedule-served J runs).done a there).1 in
      let weighs = alive-weighs T (world_after T J) a (Par (grants J)) (Made T (grants J)) (ancestor-alive T valid J runs k a used above) in
      omega (arith, dead, weighs)
