-- What a call cuts off is waited for until the call is answered with success.
use Rattle.std.proofs.Common.{◌≡◌, ◌⊎◌, ℕ, true, false, not, ◌&&◌, List, [], ◌∷◌, ◌++◌, Option, Some, None, slice_get, append-nil, append_assoc, filter}
use Rattle.std.proofs.Common.{flat_map, refl, sym, ap, ◌∙◌, subst, inl, inr, eq-eqb, ◌<◌}
use Rattle.std.specs.Prelude.{◌==◌}
use Rattle.std.specs.List.{Contains}
use Rattle.std.specs.Option.{option_map_or, option_to_list}
use Rattle.std.proofs.lemmas.Bool.{cases_Bool, and_from, cond_both, true≢false}
use Rattle.std.proofs.lemmas.List.Elements.{Contains-append_left, Contains-append_right, Contains-append_cases}
use Rattle.sem_key.specs.KeyName.{KeyName}
use Rattle.sem_key.specs.Capability.{Capability}
use Rattle.sem_key.proofs.Members.{Contains-head, Contains-nil, Contains-filter, Contains-flat_map}
use Rattle.sem_msg.specs.declared.entry.Entry.{Entry}
use Rattle.sem_msg.specs.declared.entry.Reply.{Reply}
use Rattle.sem_msg.specs.declared.event.Act.{Act}
use Rattle.sem_msg.specs.declared.event.Act.TheVariants.{Call as Calls, Fetch, Handle, Upcall, Resume, Flush, Kill}
use Rattle.sem_msg.specs.declared.message.Message.{Message}
use Rattle.sem_msg.specs.declared.state.Ask.{Ask}
use Rattle.sem_msg.specs.declared.state.Ask.TheVariants.{Obtain as ObtainAsk, Delegate as DelegateAsk}
use Rattle.sem_msg.specs.declared.state.Parked.{Parked}
use Rattle.sem_msg.specs.declared.state.Parked.TheVariants.{ObtainWait, ObtainReady, ObtainCancelled, DelegateWait, DelegateReady, RevokeWait, Ready}
use Rattle.sem_msg.specs.Setup.{Setup, IsSetup}
use Rattle.sem_msg.specs.Lookups.{kernel_of, denies, calls_of}
use Rattle.sem_machine.specs.Sides.{Side, row, cap, parked, unparked, is_alive, ask_taken, call_counted}
use Rattle.sem_machine.specs.Steps.{Step, unshown}
use Rattle.sem_machine.specs.Asks.{asker, is_unawaited}
use Rattle.sem_machine.specs.Calls.{destination_tests, call_row}
use Rattle.sem_machine.specs.Upcalls.{source, source_tests, child_given, parent_tests, consented, ask_decided, upcall_row}
use Rattle.sem_machine.specs.Resumes.{can_resume, delegate_granted, delegate_resumed, resumed, resume_row}
use Rattle.sem_machine.specs.Machine.{World, side, start, input_of, local_step, entry_of, is_enabled, is_locally_enabled, replied_vpe, next_call}
use Rattle.sem_machine.specs.Schedules.{IsSchedule, world_after}
use Rattle.sem_machine.specs.Journals.{cut_off, grants, answered}
use Rattle.sem_machine.proofs.Folds.{option-keeps}
use Rattle.sem_machine.proofs.FirstCodes.{unless-keeps}
use Rattle.sem_safety.specs.History.{History, no_history, note, history, cut_at, call_by, replies_to, replies_ok}
use Rattle.sem_safety.proofs.CarryingWorlds.{stepped}
use Rattle.sem_safety.proofs.GoingOn.{entry-enabled}
use Rattle.sem_safety.proofs.Noted.{history-cut, history-grants, history-answered}
use Rattle.sem_revoke.proofs.Revoking.{enabled-parts, more-grants}
use Rattle.sem_revoke.proofs.Serving.{Waits, schedule-served, tells, enabled-call, enabled-resume, reply_is, act-replies, resumed-replies, resume-step, cut-key}
use Rattle.sem_revoke.proofs.Serving.{fold-push}
use Rattle.std.proofs.lemmas.Option.{same_Some, slice_get_within}
use Rattle.sem_msg.specs.declared.call.Call.{Call}
use Rattle.sem_machine.specs.Sound.{IsSound}
use Rattle.sem_revoke.specs.Rest.{IsBeingCut, cuts_answered}
use Rattle.sem_safety.proofs.Skeleton.{call_row-by}
use Rattle.sem_sound.proofs.Calling.{own-among}
use Rattle.sem_sound.proofs.Changing.{counted-sound}
use Rattle.sem_sound.proofs.Scheduling.{schedule-sound}
use Rattle.sem_revoke.proofs.AddressedWorlds.{vpe-local}
use Rattle.sem_revoke.proofs.Readying.{enabled-low}
use Rattle.sem_key.proofs.KeyTests.{Contains-from_has_key, has_key-from_Contains}
use Rattle.sem_revoke.proofs.Waits.{Resting}

-- of all acts, calls alone cut off
abbrev pub CutsNone : Step → Type 0
CutsNone x = ◌≡◌ {A = Option KeyName} x.outcome.cut None

upcall-cuts : (T : Setup) (i : ℕ) (s : Side) (v : ℕ) → CutsNone (upcall_row T i s v)
unfolding upcall_row
upcall-cuts T i s v = option-keeps CutsNone (λ (a : Ask). ask_decided T i v a (ask_taken v s)) (slice_get (row s v).asks 0) (unshown s)
    (λ a there. decided a (ask_taken v s)) refl
  where
    consents : (a : Ask) (t : Side) → CutsNone (consented T i v a t)
    consents (ObtainAsk place target) t = unless-keeps CutsNone (source_tests target (source T t v target)) _ _ (λ code. refl)
        (option-keeps CutsNone (child_given T i place target t) (source T t v target) (unshown t) (λ p held. refl) refl)
    consents (DelegateAsk parent object sel) t =
        cond_both (kernel_of T parent.vpe == i) _ _ CutsNone (λ _. unless-keeps CutsNone (parent_tests (cap t parent) ++ destination_tests t v sel) _ _
        (λ code. refl) refl) (λ _. unless-keeps CutsNone (destination_tests t v sel) _ _ (λ code. refl) refl)

    decided : (a : Ask) (t : Side) → CutsNone (ask_decided T i v a t)
    decided a t = cond_both (is_unawaited T i t a) _ _ CutsNone (λ _. refl) (λ _. cond_both (denies T v (asker a)) _ _ CutsNone (λ _. refl) (λ _. consents a t))

resume-cuts : (T : Setup) (s : Side) (v : ℕ) → CutsNone (resume_row T s v)
unfolding resume_row
resume-cuts T s v = by (parked s v)
  where
    granted : (parent key : KeyName) (m : Option ℕ) → CutsNone (delegate_granted T parent key m (unparked v s))
    granted parent key None = refl
    granted parent key (Some j) = refl

    answered : (parent key : KeyName) (o : Option Capability) → CutsNone (delegate_resumed T parent key o (unparked v s))
    answered parent key None = refl
    answered parent key (Some c) = granted parent key c.mark

    by : (p : Option Parked) → CutsNone (resumed T p (unparked v s))
    by None = refl
    by (Some (ObtainWait number sel)) = refl
    by (Some (ObtainReady key parent object sel)) = refl
    by (Some ObtainCancelled) = refl
    by (Some (DelegateWait parent)) = refl
    by (Some (DelegateReady parent key)) = answered parent key (cap (unparked v s) parent)
    by (Some (RevokeWait j)) = refl
    by (Some (Ready code)) = refl

pub act-cuts : (T : Setup) (i : ℕ) (s : Side) (a : Act) (input : Option Message) (r : KeyName) →
    ◌≡◌ {A = Option KeyName} (local_step T i s a input).outcome.cut (Some r) → (v : ℕ) × (a ≡ Calls v)
unfolding local_step
act-cuts T i s (Calls v) input r some = (v, refl)
act-cuts T i s (Fetch j) input r some = absurd cc
act-cuts T i s Handle input r some = absurd cc
act-cuts T i s (Upcall v) input r some = let none = upcall-cuts T i s v in let no' : ◌≡◌ {A = Option KeyName} None (Some r) = sym none ∙ some in absurd cc
act-cuts T i s (Resume v) input r some = let none = resume-cuts T s v in let no' : ◌≡◌ {A = Option KeyName} None (Some r) = sym none ∙ some in absurd cc
act-cuts T i s (Flush j) input r some = absurd cc
act-cuts T i s (Kill v) input r some = absurd cc

-- a call cuts off by a key of its VPE
abbrev CutsOwn : ℕ → Step → Type 0
CutsOwn v x = (r : KeyName) → ◌≡◌ {A = Option KeyName} x.outcome.cut (Some r) → r.vpe ≡ v

call-owns : (T : Setup) (valid : IsSetup T) (i : ℕ) (low : i < T.kernels) (v : ℕ) (s : Side) → IsSound T i s → (c : Call) → CutsOwn v (call_row T i s v c)
call-owns T valid i low v s sound c = call_row-by (CutsOwn v) T i v s (record {
  answered = λ code r some. absurd cc;
  child = λ src dst object p held r some. absurd cc;
  ask = λ dst target r some. absurd cc;
  offer = λ src u dst p held r some. absurd cc;
  revoke = λ src c held r some. ap (λ (k : KeyName). k.vpe) (sym (same_Some c.key r some)) ∙ (own-among T valid i low s sound v src c held).1;
  clear = λ src c held unmarked r some. ap (λ (k : KeyName). k.vpe) (sym (same_Some c.key r some)) ∙ (own-among T valid i low s sound v src c held).1;
  bound = λ ep src c held r some. absurd cc;
  rung = λ ep f r some. absurd cc;
  ends = λ r some. absurd cc;
}) c

step-owns : (T : Setup) (valid : IsSetup T) (i : ℕ) (low : i < T.kernels) (v : ℕ) → kernel_of T v ≡ i → (s : Side) → IsSound T i s → (input : Option Message) →
    CutsOwn v (local_step T i s (Calls v) input)
unfolding local_step
step-owns T valid i low v local s sound input = from (next_call T s v) refl
  where
    from : (o : Option Call) → next_call T s v ≡ o → CutsOwn v (option_map_or (call_row T i (call_counted v s) v) o (unshown s))
    from None at = λ r some. absurd cc
    from (Some c) at =
        call-owns T valid i low v (call_counted v s)
        (counted-sound T valid i low None None None None s sound v local (slice_get_within (calls_of T v) (row s v).next_call c at)) c

-- a key that is cut off: its call waits, or was answered with success
pub data IsCut (J : List Entry) (k : KeyName) : Type 0 where
  is_waited : (v : ℕ) (ks : List KeyName) (r : KeyName) → Contains (history J).waiting (v, ks) → Contains ks k → r.vpe ≡ v →
      (k ≡ r) ⊎ Contains (grants J) (r, k) → IsCut J k
  is_answered : Contains (history J).answered k → IsCut J k

module _ (T : Setup) (valid : IsSetup T) where
  module _ (before : List Entry) (e : Entry) (runs : IsSchedule T before) (enabled : is_enabled T (world_after T before) e.event ≡ true) (made' : e
      ≡ entry_of T (world_after T before) e.event) where
    abbrev W : World
    W = world_after T before

    abbrev i : ℕ
    i = e.event.kernel

    abbrev s : Side
    s = side W i

    abbrev h : History
    h = history before

    hist : history (before ++ e ∷ []) ≡ note h e
    hist = fold-push before no_history e

    -- who waits for what it cuts off is answered with success
    replied-well : (v : ℕ) (k r : KeyName) → Waits T before v k r → replies_to e v ≡ true → replies_ok e ≡ true
    replied-well v k r w yes' =
        elim (act-replies T i s e.event.act (input_of W i e.event.act) v
        (ap (λ o. option_map_or (λ (q : Reply). q.vpe == v) o false) (sym (tells T W e made').reply) ∙ yes')) [
          | inl asks ↦
              let call = enabled-call T i s v (subst (λ a. is_locally_enabled T i s a ≡ true) asks (enabled-parts T W i e.event.act enabled).0) in
              let dead : is_alive s v ≡ false = subst (Resting None s k r v) call.2 (rest-here call.0) in
              absurd (true≢false (sym call.1 ∙ dead))
          | inr resumes ↦
              let can = enabled-resume T i s v (subst (λ a. is_locally_enabled T i s a ≡ true) resumes (enabled-parts T W i e.event.act enabled).0) in
              let r' = resumed-replies T (parked s v) (unparked v s) can.1 in
              let step : (stepped T W e.event).outcome.reply ≡ Some r'.0 = ap (λ a. (local_step T i s a (input_of W i a)).outcome.reply) resumes
              ∙ (resume-step T i s v (input_of W i (Resume v)) ∙ r'.1) in
              let zero' : r'.0 ≡ 0 = well can.0 (parked s v) refl can.1 r'.0 r'.2 in
              ap (λ o. option_map_or (λ (q : Reply). q.code == 0) o false) ((tells T W e made').reply ∙ ap (reply_is (replied_vpe e.event.act)) step)
              ∙ eq-eqb r'.0 0 zero'
        ]
      where
        rest-here : kernel_of T v ≡ i → Resting None s k r v (parked s v)
        rest-here at = subst (λ n. Resting None (side W n) k r v (parked (side W n) v)) (sym w.home ∙ at) w.rest

        well : kernel_of T v ≡ i → (p : Option Parked) → parked s v ≡ p → can_resume p ≡ true → (code : ℕ) → ((c : ℕ) → p ≡ Some (Ready c) → code ≡ c) →
            code ≡ 0
        well at None is can code same = absurd cc
        well at (Some (ObtainWait number sel)) is can code same = absurd cc
        well at (Some (ObtainReady key parent object sel)) is can code same = absurd (subst (Resting None s k r v) is (rest-here at))
        well at (Some ObtainCancelled) is can code same = absurd (subst (Resting None s k r v) is (rest-here at))
        well at (Some (DelegateWait parent)) is can code same = absurd cc
        well at (Some (DelegateReady parent key)) is can code same = absurd (subst (Resting None s k r v) is (rest-here at))
        well at (Some (RevokeWait j)) is can code same = absurd cc
        well at (Some (Ready c)) is can code same = same c refl ∙ (subst (Resting None s k r v) is (rest-here at)).0

    on-key : (k r : KeyName) → (k ≡ r) ⊎ Contains (grants before) (r, k) → (k ≡ r) ⊎ Contains (grants (before ++ e ∷ [])) (r, k)
    on-key k r (inl same) = inl same
    on-key k r (inr granted) =
        inr (subst (λ xs. Contains xs (r, k)) (sym (more-grants before e e.grant refl)) (Contains-append_left (grants before) (option_to_list e.grant) (
          r,
          k,
        ) granted))

    -- what is waited for stays so, or is answered
    waited-on : (v : ℕ) (ks : List KeyName) (k r : KeyName) → Contains h.waiting (v, ks) → Contains ks k → r.vpe ≡ v →
        (k ≡ r) ⊎ Contains (grants before) (r, k) → IsCut (before ++ e ∷ []) k
    waited-on v ks k r among cuts whose key = elim (cases_Bool (replies_to e v)) [
      | inr silent ↦ is_waited v ks r (subst (λ (H : History). Contains H.waiting (v, ks)) (sym hist)
          (Contains-append_left (filter (λ w. not (replies_to e w.0)) h.waiting) (call_by e.event.act (cut_at h.grants e)) (
            v,
            ks,
          ) (Contains-filter (λ (w : ℕ × List KeyName). not (replies_to e w.0)) h.waiting (v, ks) among (ap not silent)))) cuts whose (on-key k r key)
      | inl replied ↦
          let w = (schedule-served T valid before runs).rest v ks k among cuts in
          let well = replied-well v k w.0 w.1 replied in
          let done = filter (λ (w : ℕ × List KeyName). replies_to e w.0 && replies_ok e) h.waiting in
          is_answered (subst (λ (H : History). Contains H.answered k) (sym hist)
          (Contains-append_right h.answered (flat_map (λ (w : ℕ × List KeyName). w.1) done) k (Contains-flat_map (λ (w : ℕ × List KeyName). w.1) done (
            v,
            ks,
          ) k (Contains-filter (λ (w : ℕ × List KeyName). replies_to e w.0 && replies_ok e) h.waiting (
            v,
            ks,
          ) among (and_from (replies_to e v) (replies_ok e) replied well)) cuts)))
    ]

    -- what is cut off now is waited for
    begun : (k : KeyName) → Contains (cut_at h.grants e) k → IsCut (before ++ e ∷ []) k
    begun k among = by e.cut refl
      where
        by : (o : Option KeyName) → e.cut ≡ o → IsCut (before ++ e ∷ []) k
        by None none = absurd (Contains-nil k (subst (λ xs. Contains xs k) (ap (λ o. option_map_or (cut_off h.grants e.detail) o []) none) among))
        by (Some r) some =
            let a = act-cuts T i s e.event.act (input_of W i e.event.act) r (sym (tells T W e made').cut ∙ some) in
            is_waited a.0 (cut_at h.grants e) r (subst (λ (H : History). Contains H.waiting (a.0, cut_at h.grants e)) (sym hist)
            (Contains-append_right (filter (λ w. not (replies_to e w.0)) h.waiting) (call_by e.event.act (cut_at h.grants e)) (a.0, cut_at h.grants e)
            (subst (λ b. Contains (call_by b (cut_at h.grants e)) (a.0, cut_at h.grants e)) (sym a.1) (Contains-head (a.0, cut_at h.grants e) [])))) among
            (let low = enabled-low T W e.event enabled in
            let local = vpe-local T i s e.event.act (enabled-parts T W i e.event.act enabled).0 a.0 (inl a.1) in
            step-owns T valid i low a.0 local s ((schedule-sound T valid before runs).sides i low) (input_of W i (Calls a.0)) r
            (ap (λ b. (local_step T i s b (input_of W i b)).outcome.cut) (sym a.1) ∙ (sym (tells T W e made').cut ∙ some)))
            (on-key k r (elim
            (cut-key h.grants e.detail r k (subst (λ xs. Contains xs k) (ap (λ o. option_map_or (cut_off h.grants e.detail) o []) some) among)) [
              | inl same ↦ inl same
              | inr granted ↦ inr (subst (λ gs. Contains gs (r, k)) (history-grants before) granted)
            ]))

    next-cut : ((k : KeyName) → Contains h.cut k → IsCut before k) → (k : KeyName) → Contains (history (before ++ e ∷ [])).cut k → IsCut (before ++ e ∷ []) k
    next-cut is k among = elim (Contains-append_cases h.cut (cut_at h.grants e) k (subst (λ (H : History). Contains H.cut k) hist among)) [
      | inl old ↦ goes (is k old)
      | inr now' ↦ begun k now'
    ]
      where
        goes : IsCut before k → IsCut (before ++ e ∷ []) k
        goes (is_waited v ks r there cuts whose key) = waited-on v ks k r there cuts whose key
        goes (is_answered there) = is_answered (subst (λ (H : History). Contains H.answered k) (sym hist) (Contains-append_left h.answered _ k there))

  all-cut : (J : List Entry) → IsSchedule T J → (k : KeyName) → Contains (history J).cut k → IsCut J k
  all-cut J runs = from [] J refl (λ k none. absurd (Contains-nil k none))
    where
      from : (before later : List Entry) → J ≡ before ++ later → ((k : KeyName) → Contains (history before).cut k → IsCut before k) → (k : KeyName) →
          Contains (history J).cut k → IsCut J k
      from before [] parts is = subst (λ K. (k : KeyName) → Contains (history K).cut k → IsCut K k) (sym (parts ∙ append-nil before)) is
      from before (e ∷ later) parts is =
          let y = entry-enabled T before (start T) e later (subst (IsSchedule T) parts runs) in
          from (before ++ e ∷ []) later (parts ∙ sym (append_assoc before (e ∷ []) later)) (next-cut before e y.0 y.1 y.2 is)

  -- what was cut off is waited for, or was answered
  pub cut-answered : (J : List Entry) → IsSchedule T J → cuts_answered J
  cut-answered J runs k among = from (all-cut J runs k (subst (λ ks. Contains ks k) (sym (history-cut J)) among))
    where
      from : IsCut J k → IsBeingCut J k ⊎ Contains (answered J) k
      from (is_waited v ks r waits cuts whose key) = inl (record { vpe = v; keys = ks; own = r; waits = waits; among = cuts; whose = whose; below = key })
      from (is_answered there) = inr (Contains-from_has_key (answered J) k (sym (history-answered J k) ∙ has_key-from_Contains (history J).answered k there))
