-- The forest: what is in it is not doomed, so what was held and is in it is held.
use Rattle.sem_safety.proofs.CarryingWorlds.{used-made}
use Rattle.sem_revoke.proofs.Worlds.{caps-some}
use Rattle.sem_revoke.proofs.Lasting.{grants-on, held-lasts}
use Rattle.sem_revoke.specs.Revocation.{IsDoomed}
use Rattle.sem_revoke.specs.Resting.{IsCutOff}
use Rattle.sem_msg.specs.declared.call.Call.TheVariants.{Derive, Gate, Obtain, Delegate, OpenSession, AskOffer, Revoke, Bind, Read, Write, Send as SendCall}
use Rattle.sem_msg.specs.declared.call.Call.TheVariants.{Credit, Exit, Clear}
use Rattle.std.specs.Option.{option_map_or, IsSome}
use Rattle.sem_msg.specs.declared.entry.Detail.TheVariants.{Called, Carried, Asked, Nothing}
use Rattle.sem_msg.specs.declared.entry.Detail.{Detail}
use Rattle.std.proofs.Common.{◌≡◌, ℕ, false, not, List, [], ◌∷◌, ◌++◌, length, map, Option, Some, None, refl, sym, ap, ◌∙◌, subst, inl, inr, ◌⊎◌, append-nil}
use Rattle.std.proofs.Common.{append_assoc}
use Rattle.std.specs.Prelude.{◌==◌, filter_map, slice_get}
use Rattle.std.specs.List.{Contains, cons_option, filter}
use Rattle.std.proofs.lemmas.Bool.{cond_both, true≢false, not-true}
use Rattle.std.proofs.lemmas.List.Elements.{Contains-append_left, Contains-append_right, Contains-append_cases}
use Rattle.sem_key.specs.KeyName.{KeyName, IsValidKey, key_eq}
use Rattle.sem_key.specs.Capability.{Capability}
use Rattle.sem_msg.specs.declared.entry.Entry.{Entry}
use Rattle.sem_msg.specs.declared.event.Act.{Act}
use Rattle.sem_msg.specs.declared.event.Act.TheVariants.{Call as Calls, Fetch, Handle, Upcall, Resume, Flush, Kill}
use Rattle.sem_msg.specs.declared.message.Message.{Message}
use Rattle.sem_msg.specs.declared.state.Ask.{Ask}
use Rattle.sem_msg.specs.declared.state.Ask.TheVariants.{Obtain as ObtainAsk, Delegate as DelegateAsk}
use Rattle.sem_msg.specs.declared.state.Parked.{Parked}
use Rattle.sem_msg.specs.declared.state.Parked.TheVariants.{ObtainWait, ObtainReady, ObtainCancelled, DelegateWait, DelegateReady, RevokeWait, Ready}
use Rattle.sem_msg.specs.Setup.{Setup, IsSetup}
use Rattle.sem_msg.specs.Lookups.{kernel_of, denies}
use Rattle.sem_machine.specs.Sides.{Side, row, cap, parked, ask_taken, unparked}
use Rattle.sem_machine.specs.Steps.{Step, unshown}
use Rattle.sem_machine.specs.Asks.{asker, is_unawaited}
use Rattle.sem_machine.specs.Upcalls.{source, source_tests, child_given, consented, ask_decided, upcall_row}
use Rattle.sem_machine.specs.Resumes.{delegate_granted, delegate_resumed, resumed, resume_row}
use Rattle.sem_key.specs.Region.{has_key}
use Rattle.sem_machine.specs.Machine.{World, side, start, local_step, local_entry, input_of, entry_of}
use Rattle.sem_machine.specs.Schedules.{IsSchedule, world_after}
use Rattle.sem_machine.specs.Journals.{grants, root_keys, made, ancestry, cut, has_ended, descends_from_any, forest, cut_off, cut_by, cut_from}
use Rattle.sem_machine.specs.Living.{HoldsCap, IsLive}
use Rattle.sem_key.proofs.KeyTests.{key_eq-true, has_key-from_Contains}
use Rattle.sem_key.proofs.Members.{Contains-nil, Contains-cons_cases, Contains-filter, Contains-from_filter, Contains-from_map, list_any-at, Contains-map}
use Rattle.sem_safety.proofs.GoingOn.{entry-enabled}
use Rattle.sem_safety.proofs.GrownLines.{line-grown}
use Rattle.sem_machine.proofs.Folds.{option-keeps}
use Rattle.sem_machine.proofs.FirstCodes.{unless-keeps}
use Rattle.sem_key.proofs.KeySets.{key_set-has}
use Rattle.sem_safety.proofs.OneLife.{all-grown}
use Rattle.sem_revoke.proofs.Firsts.{root-held, started-valid}
use Rattle.sem_revoke.proofs.Readying.{schedule-valid}
use Rattle.sem_revoke.proofs.Serving.{CutHeld, step-cut}

-- Only calls cut.

abbrev NoCut : Step → Type 0
NoCut x = ◌≡◌ {A = Option KeyName} x.outcome.cut None

upcall-cut : (T : Setup) (i : ℕ) (s : Side) (v : ℕ) → NoCut (upcall_row T i s v)
unfolding upcall_row
upcall-cut T i s v = option-keeps NoCut (λ a. ask_decided T i v a (ask_taken v s)) (slice_get (row s v).asks 0) (unshown s)
    (λ a there. cond_both (is_unawaited T i (ask_taken v s) a) _ _ NoCut (λ _. refl)
    (λ _. cond_both (denies T v (asker a)) _ _ NoCut (λ _. refl) (λ _. consent a (ask_taken v s)))) refl
  where
    consent : (a : Ask) (u : Side) → NoCut (consented T i v a u)
    consent (ObtainAsk place target) u = unless-keeps NoCut (source_tests target (source T u v target)) _ _ (λ code. refl)
        (option-keeps NoCut (child_given T i place target u) (source T u v target) (unshown u) (λ p there. refl) refl)
    consent (DelegateAsk parent object sel) u = cond_both (kernel_of T parent.vpe == i) _ _ NoCut (λ _. unless-keeps NoCut _ _ _ (λ code. refl) refl)
        (λ _. unless-keeps NoCut _ _ _ (λ code. refl) refl)

resume-cut : (T : Setup) (s : Side) (v : ℕ) → NoCut (resume_row T s v)
unfolding resume_row
resume-cut T s v = by (parked s v)
  where
    granted : (parent key : KeyName) (m : Option ℕ) → NoCut (delegate_granted T parent key m (unparked v s))
    granted parent key None = refl
    granted parent key (Some j) = refl

    answered : (parent key : KeyName) (o : Option Capability) → NoCut (delegate_resumed T parent key o (unparked v s))
    answered parent key None = refl
    answered parent key (Some c) = granted parent key c.mark

    by : (p : Option Parked) → NoCut (resumed T p (unparked v s))
    by None = refl
    by (Some (ObtainWait number sel)) = refl
    by (Some (ObtainReady key parent object sel)) = refl
    by (Some ObtainCancelled) = refl
    by (Some (DelegateWait parent)) = refl
    by (Some (DelegateReady parent key)) = answered parent key (cap (unparked v s) parent)
    by (Some (RevokeWait j)) = refl
    by (Some (Ready code)) = refl

-- what is cut is held
act-cut : (T : Setup) (i : ℕ) (s : Side) (a : Act) (input : Option Message) → CutHeld s (local_step T i s a input)
unfolding local_step
act-cut T i s (Calls v) input = step-cut T i s v input
act-cut T i s (Fetch j) input = λ k some. absurd cc
act-cut T i s Handle input = λ k some. absurd cc
act-cut T i s (Upcall v) input = λ k some. let none = sym (upcall-cut T i s v) ∙ some in absurd cc
act-cut T i s (Resume v) input = λ k some. let none = sym (resume-cut T s v) ∙ some in absurd cc
act-cut T i s (Flush j) input = λ k some. absurd cc
act-cut T i s (Kill v) input = λ k some. absurd cc

-- a grant stands at an entry, with what is before and behind it
pub granted-at : (h : Entry → Option (KeyName × KeyName)) (xs : List Entry) (y : KeyName × KeyName) → Contains (filter_map h xs) y →
    (before : List Entry) × (x : Entry) × (later : List Entry) × (xs ≡ before ++ x ∷ later) × (h x ≡ Some y)
granted-at h [] y among = absurd (Contains-nil y among)
granted-at h (x ∷ xs) y among = from (h x) refl (λ rest. granted-at h xs y rest) among
  where
    later' : (before : List Entry) × (z : Entry) × (later : List Entry) × (xs ≡ before ++ z ∷ later) × (h z ≡ Some y) →
        (before : List Entry) × (z : Entry) × (later : List Entry) × (x ∷ xs ≡ before ++ z ∷ later) × (h z ≡ Some y)
    later' at = (x ∷ at.0, at.1, at.2, ap (λ zs. x ∷ zs) at.3, at.4)

    from : (o : Option (KeyName × KeyName)) → h x ≡ o →
        (Contains (filter_map h xs) y → (before : List Entry) × (z : Entry) × (later : List Entry) × (xs ≡ before ++ z ∷ later) × (h z ≡ Some y)) →
        Contains (cons_option o (filter_map h xs)) y → (before : List Entry) × (z : Entry) × (later : List Entry) × (x ∷ xs ≡ before ++ z ∷ later)
        × (h z ≡ Some y)
    from None none rest among = later' (rest among)
    from (Some w) some rest among = elim (Contains-cons_cases w (filter_map h xs) y among) [
      | inl same ↦ ([], x, xs, refl, some ∙ ap Some same)
      | inr behind ↦ later' (rest behind)
    ]

-- what is cut off stands at an entry
cut-at : (xs ys : List Entry) (k : KeyName) → Contains (cut_from xs ys) k → (before : List Entry) × (e : Entry) × (later : List Entry)
    × (ys ≡ before ++ e ∷ later) × Contains (cut_by (xs ++ before) e) k
unfolding cut_from
cut-at xs [] k among = absurd (Contains-nil k among)
cut-at xs (y ∷ ys) k among = elim (Contains-append_cases (cut_by xs y) (cut_from (xs ++ y ∷ []) ys) k among) [
  | inl now ↦ ([], y, ys, refl, subst (λ zs. Contains (cut_by zs y) k) (sym (append-nil xs)) now)
  | inr behind ↦
      let at = cut-at (xs ++ y ∷ []) ys k behind in
      (y ∷ at.0, at.1, at.2, ap (λ zs. y ∷ zs) at.3, subst (λ zs. Contains (cut_by zs at.1) k) (append_assoc xs (y ∷ []) at.0) at.4)
]

-- the key at which an entry cuts, and what it cuts off
cut-key : (gs : List (KeyName × KeyName)) (d : Detail) (o : Option KeyName) (k : KeyName) → Contains (option_map_or (cut_off gs d) o []) k →
    (r : KeyName) × (o ≡ Some r) × Contains (cut_off gs d r) k
cut-key gs d None k among = absurd (Contains-nil k among)
cut-key gs d (Some r) k among = (r, refl, among)

-- it is that key, or was granted below it
cut-of : (gs : List (KeyName × KeyName)) (d : Detail) (r k : KeyName) → Contains (cut_off gs d r) k → (k ≡ r) ⊎ Contains gs (r, k)
cut-of gs (Called index (Revoke src)) r k among = elim (Contains-cons_cases r [] k among) [
  | inl same ↦ inl (sym same)
  | inr none ↦ absurd (Contains-nil k none)
]
cut-of gs (Called index (Clear src)) r k among =
    let from = Contains-from_map (λ (g : KeyName × KeyName). g.1) (filter (λ (g : KeyName × KeyName). key_eq g.0 r) gs) k among in
    let there = Contains-from_filter (λ (g : KeyName × KeyName). key_eq g.0 r) gs from.0 from.1 in
    inr (subst (λ q. Contains gs (q, k)) (key_eq-true from.0.0 r there.1) (subst (λ q. Contains gs (from.0.0, q)) from.2 there.0))
cut-of gs (Called index (Derive src dst off len rights)) r k among = absurd (Contains-nil k among)
cut-of gs (Called index (Gate src dst label credits)) r k among = absurd (Contains-nil k among)
cut-of gs (Called index (Obtain dst w src)) r k among = absurd (Contains-nil k among)
cut-of gs (Called index (Delegate src w dst)) r k among = absurd (Contains-nil k among)
cut-of gs (Called index (OpenSession dst name)) r k among = absurd (Contains-nil k among)
cut-of gs (Called index (AskOffer dst session offer)) r k among = absurd (Contains-nil k among)
cut-of gs (Called index (Bind ep src)) r k among = absurd (Contains-nil k among)
cut-of gs (Called index (Read ep off len)) r k among = absurd (Contains-nil k among)
cut-of gs (Called index (Write ep off len)) r k among = absurd (Contains-nil k among)
cut-of gs (Called index (SendCall ep len)) r k among = absurd (Contains-nil k among)
cut-of gs (Called index (Credit ep)) r k among = absurd (Contains-nil k among)
cut-of gs (Called index Exit) r k among = absurd (Contains-nil k among)
cut-of gs (Carried kernel message) r k among = absurd (Contains-nil k among)
cut-of gs (Asked asker answer) r k among = absurd (Contains-nil k among)
cut-of gs Nothing r k among = absurd (Contains-nil k among)

module _ (T : Setup) (valid : IsSetup T) (J : List Entry) (runs : IsSchedule T J) where
  shown-cut : (W : World) (e : Entry) → e ≡ entry_of T W e.event → (k : KeyName) → e.cut ≡ Some k → (c : Capability) × (cap (side W e.event.kernel) k ≡ Some c)
  unfolding entry_of local_entry
  shown-cut W e made' k some = act-cut T e.event.kernel (side W e.event.kernel) e.event.act (input_of W e.event.kernel e.event.act) k
      (sym (ap (λ (x : Entry). x.cut) made') ∙ some)

  granted-made : (p k : KeyName) → Contains (grants J) (p, k) → Contains (made T J) k
  granted-made p k granted = Contains-append_right (root_keys T) (map (λ (g : KeyName × KeyName). g.1) (grants J)) k
      (Contains-map (λ (g : KeyName × KeyName). g.1) (grants J) (p, k) granted)

  -- what was made by then was made
  made-on : (before later : List Entry) → J ≡ before ++ later → (k : KeyName) → Contains (made T before) k → Contains (made T J) k
  made-on before later parts k there = elim (Contains-append_cases (root_keys T) (map (λ (g : KeyName × KeyName). g.1) (grants before)) k there) [
    | inl root ↦ Contains-append_left (root_keys T) (map (λ (g : KeyName × KeyName). g.1) (grants J)) k root
    | inr child ↦
        let g = Contains-from_map (λ (g : KeyName × KeyName). g.1) (grants before) k child in
        subst (Contains (made T J)) g.2 (granted-made g.0.0 g.0.1 (grants-on T valid J runs before later parts g.0.0 g.0.1 g.1))
  ]

  -- what is cut off was made
  pub cut-made : (k : KeyName) → Contains (cut_from [] J) k → Contains (made T J) k
  cut-made k among =
      let at = cut-at [] J k among in
      let by = cut-key (grants at.0) at.1.detail at.1.cut k at.4 in
      let enabled = entry-enabled T at.0 (start T) at.1 at.2 (subst (IsSchedule T) at.3 runs) in
      let held = shown-cut (world_after T at.0) at.1 enabled.2 by.0 by.1 in
      elim (cut-of (grants at.0) at.1.detail by.0 k by.2) [
        | inl same ↦ made-on at.0 (at.1 ∷ at.2) at.3 k
            (used-made T at.0 enabled.0 k
            (inl (inl (at.1.event.kernel, subst (λ o. IsSome o) (sym (ap (cap (side (world_after T at.0) at.1.event.kernel)) same ∙ held.1)) refl))))
        | inr granted ↦ granted-made by.0 k (grants-on T valid J runs at.0 (at.1 ∷ at.2) at.3 by.0 k granted)
      ]

  pub made-valid : (k : KeyName) → Contains (made T J) k → IsValidKey k
  made-valid k there = elim (Contains-append_cases (root_keys T) (map (λ (g : KeyName × KeyName). g.1) (grants J)) k there) [
    | inl root ↦ started-valid k T valid root
    | inr child ↦ let at = Contains-from_map (λ (g : KeyName × KeyName). g.1) (grants J) k child in
        subst IsValidKey at.2 (schedule-valid T valid J runs at.0.0 at.0.1 at.1)
  ]

  -- what is cut off, or of a VPE that has ended, is in the cut
  pub in-cut : (a : KeyName) → Contains (made T J) a → IsCutOff J a → Contains (cut T J) a
  in-cut a there is =
      let dead : List KeyName = filter (λ k. has_ended J k.vpe) (made T J) in
      key_set-has (cut_from [] J ++ dead) (λ q among. elim (Contains-append_cases (cut_from [] J) dead q among) [
        | inl was_cut ↦ made-valid q (cut-made q was_cut)
        | inr ended ↦ made-valid q (Contains-from_filter (λ k. has_ended J k.vpe) (made T J) q ended).0
      ]) a (elim is [
        | inl was_cut ↦ Contains-append_left (cut_from [] J) dead a was_cut
        | inr over ↦ Contains-append_right (cut_from [] J) dead a (Contains-filter (λ k. has_ended J k.vpe) (made T J) a there over)
      ])

  -- nothing in the forest is doomed
  pub forest-spared : (k : KeyName) → Contains (forest T J) k → Contains (made T J) k × (IsDoomed J k → ⊥)
  forest-spared k in_forest =
      let parts = Contains-from_filter (λ k. not (descends_from_any J (cut T J) k)) (made T J) k in_forest in
      let free : descends_from_any J (cut T J) k ≡ false = not-true (descends_from_any J (cut T J) k) parts.1 in (
        parts.0,
        λ cause.
            let there : Contains (made T J) cause.0 = line-grown (root_keys T) (grants J) (all-grown T valid J runs) (length J) k cause.0 parts.0 cause.1 in
            true≢false (sym (list_any-at (has_key (cut T J)) (ancestry J k) cause.0 cause.1
            (has_key-from_Contains (cut T J) cause.0 (in-cut cause.0 there cause.2))) ∙ free),
      )

  -- what a kernel held once, and is in the forest, it holds
  pub held-not-lost : (before later : List Entry) → J ≡ before ++ later → (i : ℕ) (k : KeyName) (c : Capability) → HoldsCap (world_after T before) i k c →
      Contains (forest T J) k → IsSome (cap (side (world_after T J) i) k)
  held-not-lost before later parts i k c held in_forest = elim (held-lasts T valid J runs before later i k c parts held) [
    | inl (d, holds) ↦ subst (λ o. IsSome o) (sym holds) refl
    | inr cause ↦ absurd ((forest-spared k in_forest).1 cause)
  ]

  -- no root is lost
  pub root-not-lost : (k : KeyName) → Contains (root_keys T) k → Contains (forest T J) k → IsLive (world_after T J) k
  root-not-lost k root in_forest =
      let at = root-held k T valid root in
      let c = caps-some T (start T) k (side (start T) at.0).caps at.1 in
      inl (at.0, held-not-lost [] J refl at.0 k c.0 c.1 in_forest)
