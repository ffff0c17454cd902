-- The events, one after the other.
use Rattle.sem_msg.specs.Rows.{JobRow}
use Rattle.std.proofs.Common.{◌≡◌, ◌⊎◌, ◌≢◌, ℕ, ◌+◌, ◌≤◌, Bool, true, false, not, ◌&&◌, List, [], ◌∷◌, ◌++◌, get_or, drop, Option, Some, None, slice_get}
use Rattle.std.proofs.Common.{append-nil, refl, sym, ap, ◌∙◌, subst, inl, inr, arith, eq-eqb}
use Rattle.std.specs.Prelude.{◌==◌}
use Rattle.std.specs.List.{sum_by}
use Rattle.std.specs.Option.{option_map_or}
use Rattle.std.proofs.lemmas.Bool.{cases_eq, cond-true, cond_both, eqb-true, eqb-false, and_parts, and_from, not-true}
use Rattle.std.proofs.lemmas.List.Sums.{sum_by_push}
use Rattle.sem_key.specs.KeyName.{KeyName, IsValidKey, key_eq}
use Rattle.sem_key.specs.Capability.{Capability}
use Rattle.sem_key.specs.CapList.{cap_of}
use Rattle.sem_msg.specs.JobRows.{job_of}
use Rattle.sem_msg.specs.declared.call.Call.{Call}
use Rattle.sem_msg.specs.declared.call.Call.TheVariants.{Derive, Gate, Obtain, Delegate, OpenSession, AskOffer, Revoke, Bind, Read, Write, Send as SendCall}
use Rattle.sem_msg.specs.declared.call.Call.TheVariants.{Credit, Exit, Clear}
use Rattle.sem_msg.specs.declared.message.Message.{Message}
use Rattle.sem_msg.specs.declared.message.Message.TheVariants.{ObtainReq, ObtainOk, ObtainNo, DelegateReq, DelegatePrepared, DelegateNo, Ack, Orphan, RevokeReq}
use Rattle.sem_msg.specs.declared.message.Message.TheVariants.{RevokeDone, Unlink}
use Rattle.sem_msg.specs.declared.state.Parked.{Parked}
use Rattle.sem_msg.specs.declared.state.Parked.TheVariants.{ObtainWait, ObtainReady, ObtainCancelled, DelegateWait, DelegateReady, RevokeWait, Ready}
use Rattle.sem_msg.specs.declared.state.Pending.{Pending}
use Rattle.sem_msg.specs.ParkedStates.{is_ready_with}
use Rattle.sem_msg.specs.Setup.{Setup}
use Rattle.sem_msg.specs.Lookups.{owner_of}
use Rattle.sem_msg.specs.declared.code.Code.TheVariants.{NoCap}
use Rattle.sem_machine.specs.Sides.{Side, no_side, cap, own, parked, pending, outbox, is_alive, call_counted, pending_removed, send, sent, with_inbox}
use Rattle.sem_machine.specs.Sides.{installed, job}
use Rattle.sem_machine.specs.Steps.{Step, unshown, answer, cutting}
use Rattle.sem_key.specs.Region.{has_key}
use Rattle.sem_machine.specs.Revokes.{obtain_cancelled, ready_freed, revoke_begun, clear_begun}
use Rattle.sem_machine.specs.Ends.{ended}
use Rattle.sem_machine.specs.Calls.{own_tests, call_row}
use Rattle.sem_machine.specs.Upcalls.{upcall_row}
use Rattle.sem_machine.specs.Resumes.{resume_row}
use Rattle.sem_machine.specs.Handles.{is_stray, handle_row, handled, acknowledged, delegation_held, obtain_ready}
use Rattle.sem_machine.specs.Machine.{World, side, link, with_side, with_link}
use Rattle.sem_machine.specs.Journals.{root_keys}
use Rattle.sem_key.proofs.KeyTests.{key_eq-same, key_eq-true, key_eq-from}
use Rattle.sem_key.proofs.Puts.{get_or-put_same, get_or-put_other}
use Rattle.sem_safety.specs.Growth.{IsGrown}
use Rattle.sem_machine.proofs.Folds.{option-keeps}
use Rattle.sem_machine.proofs.FirstCodes.{unless-passed, unmarked-own}
use Rattle.sem_machine.proofs.Weighing.{of_option, weigh-drop}
use Rattle.sem_safety.proofs.Lives.{all_held, at_parked, at_side, at_message, at_inbox, at_grant, lives-inbox, lives-unparked}
use Rattle.sem_safety.proofs.LiveWorlds.{at_world}
use Rattle.sem_revoke.specs.Views.{no_obligations, token, request, IsCaused}
use Rattle.sem_revoke.specs.Scales.{Scale, sum_from, of_messages, of_side, of_inbox, of_world, bit, requesting, naming, counting, noticing, straying}
use Rattle.sem_revoke.specs.Scales.{requesting_message, notice_message, token_message}
use Rattle.sem_revoke.proofs.Keeping.{cases_Option}
use Rattle.sem_revoke.proofs.Scaling.{world-side, world-link, side-inbox, side-sent}
use Rattle.sem_revoke.proofs.Viewing.{on_its_way, Scene, one-more, one-true, owner, view, IsGone, IsUnder, Row, hold-here, rows-changed, pendings-row, row-sent}
use Rattle.sem_revoke.proofs.Closing.{row-unlinked}
use Rattle.sem_revoke.proofs.Rowing.{row-taken, row-requested, row-done, row-revoked, row-cleared, row-ended}
use Rattle.sem_revoke.proofs.Growing.{is_plain, IsPlainCall, Grown, grown-start, grown-vpes, call-grown, upcall-grown, resume-grown, Installs}
use Rattle.sem_revoke.proofs.Growing.{obtain_asked-grown, delegate_asked-grown, obtain_ok-grown, no-grown, delegate_ready-grown, held-installed, dropped-grown}
use Rattle.sem_revoke.proofs.Worlds.{whole, Same, revokes-same, gifts-parts, leave}
use Rattle.sem_revoke.proofs.Events.{of_asking, Par, Made, one-parent, IsReady, Holds, C, entered, left, more, more-none, own-cap, link_of, grown-holds, Losing}

-- what a call cuts off is lost, and so is what a VPE has that ends
abbrev pub CallLoses : List (KeyName × KeyName) → (KeyName → Type 0) → Side → ℕ → Call → Type 0
CallLoses gs lost s v (Revoke src) = (c : Capability) → own s v src ≡ Some c → lost c.key
CallLoses gs lost s v (Clear src) = (c : Capability) → own s v src ≡ Some c → c.mark ≡ None → (k : KeyName) → Par gs c.key k → lost k
CallLoses gs lost s v Exit = (k : KeyName) → k.vpe ≡ v → lost k
CallLoses gs lost s v (Derive src dst off len rights) = Unit {0}
CallLoses gs lost s v (Gate src dst label credits) = Unit {0}
CallLoses gs lost s v (Obtain dst w src) = Unit {0}
CallLoses gs lost s v (Delegate src w dst) = Unit {0}
CallLoses gs lost s v (OpenSession dst name) = Unit {0}
CallLoses gs lost s v (AskOffer dst session index) = Unit {0}
CallLoses gs lost s v (Bind ep src) = Unit {0}
CallLoses gs lost s v (Read ep off len) = Unit {0}
CallLoses gs lost s v (Write ep off len) = Unit {0}
CallLoses gs lost s v (SendCall ep len) = Unit {0}
CallLoses gs lost s v (Credit ep) = Unit {0}

module _ (T : Setup) (gs : List (KeyName × KeyName)) (W : World) (R : IsReady T gs W) (H : Holds T gs W) (L : Losing gs W) (i : ℕ) where
  abbrev pub here : Scene
  here = C T gs W R H L i

  abbrev now : Side
  now = side W i

  abbrev pub in_row : Row here no_obligations now
  in_row = entered T gs W R H L i

  -- what is known of a step
  pub record Facts (x : Step) : Type 0 where
    pub next : IsGrown (root_keys T) (more T gs W R H L i x.outcome.grant)
    pub new : (p k : KeyName) → link_of T gs W R H L i x.outcome.grant now now p k → Made T gs k → ⊥
    pub below : (p k : KeyName) → link_of T gs W R H L i x.outcome.grant now now p k → (d : Capability) × (cap now p ≡ Some d) × (d.mark ≡ None)
    pub valid : (p k : KeyName) → link_of T gs W R H L i x.outcome.grant now now p k → IsValidKey k
    pub few : (k : KeyName) → at_world k all_held (with_side i x.side W) ≤ at_world k all_held W + at_grant k x.outcome.grant

  -- what a step from the side b sends: each key in it is granted, and goes to its owner
  pub record Sends (o : Option (KeyName × KeyName)) (b t : Side) : Type 0 where
    pub inbox : t.inbox ≡ b.inbox
    pub sends : (j : ℕ) → (ms : List Message) × (outbox t j ≡ outbox b j ++ ms) × ((k : KeyName) → 1 ≤ sum_by (at_message k) ms →
        (owner_of T k ≡ j) × ((p : KeyName) × ◌≡◌ {A = Option (KeyName × KeyName)} o (Some (p, k))))
    -- and where a key is granted nothing is asked for
    pub quiet : (p k : KeyName) → ◌≡◌ {A = Option (KeyName × KeyName)} o (Some (p, k)) → (q : KeyName) (a c : ℕ) →
        sum_from (of_messages (requesting q a c) i) 0 t.outs ≡ sum_from (of_messages (requesting q a c) i) 0 b.outs
    -- and no job changes
    pub steady : (p k : KeyName) → ◌≡◌ {A = Option (KeyName × KeyName)} o (Some (p, k)) → t.jobs ≡ b.jobs
    -- what was held is held, or lost, and each job has a cause
    pub lasts : (k : KeyName) (c : Capability) → cap b k ≡ Some c → ((d : Capability) × (cap t k ≡ Some d)) ⊎ L.lost k
    pub caused : (n : ℕ) (x : JobRow) → job t n ≡ Some x → IsCaused (Par gs) L.lost x

  abbrev pub Keeps : Step → Type 0
  Keeps x = Facts x → Holds T (more T gs W R H L i x.outcome.grant) (with_side i x.side W) × Sends x.outcome.grant now x.side

  -- a side that nothing is granted in
  abbrev Kept : Side → Type 0
  Kept t = Facts (unshown t) → Holds T gs (with_side i t W) × Sends None (with_inbox None now) t

  -- the same, once the message was taken out
  abbrev pub there : Scene
  there = record here { before = with_inbox None now }

  row-sends : (C' : Scene) (t : Side) → Row C' no_obligations t →
      ((k : KeyName) (c : Capability) → cap C'.before k ≡ Some c → ((d : Capability) × (cap t k ≡ Some d)) ⊎ L.lost k) →
      ((n : ℕ) (x : JobRow) → job t n ≡ Some x → IsCaused (Par gs) L.lost x) → Sends None C'.before t
  row-sends C' t S lasts caused = record {
    inbox = S.sent.inbox;
    sends = λ j. let x = S.sent.sends j in
        (x.0, x.1, λ k some. let none = x.2 k in absurd (omega (arith, some, none)));
    quiet = λ p k none. absurd cc;
    steady = λ p k none. absurd cc;
    lasts = lasts;
    caused = caused;
  }

  pub by-row : (t : Side) → Row there no_obligations t → Kept t
  by-row t S = λ _. (leave there t S, row-sends there t S S.lasts S.caused)

  pub row-step : (t : Side) → Row here no_obligations t → Holds T (more T gs W R H L i None) (with_side i t W) × Sends None now t
  row-step t S = (more-none T gs W R H L i (with_side i t W) (left T gs W R H L i t S), row-sends here t S S.lasts S.caused)

  absent-now : (k : KeyName) → (Made T gs k → ⊥) → cap now k ≡ None
  absent-now k new = elim (cases_Option (cap now k)) [
    | inl (c, held) ↦ absurd (new (R.fit.made k (inl (c, ap (λ a. cap (side W a) k) (R.homes i k c held) ∙ held))))
    | inr none ↦ none
  ]

  valid-now : (p : KeyName) (e : Capability) (k : KeyName) → cap now p ≡ Some e → has_key e.children k ≡ true → IsValidKey k
  valid-now p e k held child = R.valid p k (R.fit.links p k (e, ap (λ a. cap (side W a) p) (R.homes i p e held) ∙ held, child))

  grown-both : (o : Option (KeyName × KeyName)) (b : Side) (x : Step) (F : Facts x) (absent : (p k : KeyName) →
      link_of T gs W R H L i x.outcome.grant now now p k → cap now k ≡ None) (parent : (p k : KeyName) → link_of T gs W R H L i x.outcome.grant now now p k →
      (d : Capability) × (cap now p ≡ Some d)) →
      Grown (owner_of T) i now (link_of T gs W R H L i x.outcome.grant now now) F.valid absent parent (link_of T gs W R H L i x.outcome.grant now now) x.side →
      Holds T (more T gs W R H L i x.outcome.grant) (with_side i x.side W) × Sends x.outcome.grant now x.side
  grown-both o b x F absent parent G = (
    grown-holds T gs W R H L i x.outcome.grant now x.side refl refl refl (λ S of. refl) F.next F.new F.below F.valid absent parent F.few G,
    record {
      inbox = G.inbox;
      sends = G.sends;
      quiet = λ p k is q a c. G.outs (requesting q a c) (of_asking q a c);
      steady = λ p k is. G.jobs;
      lasts = λ k c held. let e = G.on k c held in inl (e.0, e.1);
      caused = λ n y open_. L.caused i n y (ap (λ xs. job_of xs n) (sym G.jobs) ∙ open_);
    },
  )

  -- Calls.

  plain-call : (v : ℕ) (c : Call) → IsPlainCall c → Keeps (call_row T i (call_counted v now) v c)
  plain-call v c quiet = λ F.
      let x : Step = call_row T i (call_counted v now) v c in
      let o = x.outcome.grant in
      let absent : (p k : KeyName) → link_of T gs W R H L i o now now p k → cap now k ≡ None = λ p k is. absent-now k (F.new p k is) in
      let parent : (p k : KeyName) → link_of T gs W R H L i o now now p k →
      (d : Capability) × (cap now p ≡ Some d) = λ p k is. ((F.below p k is).0, (F.below p k is).1) in
      grown-both o now x F absent parent (call-grown (owner_of T) i now (link_of T gs W R H L i o now now) F.valid absent parent T
      (call_counted v now) v c quiet (grown-vpes (owner_of T) i now (link_of T gs W R H L i o now now) F.valid absent parent now _
      (grown-start (owner_of T) i now (link_of T gs W R H L i o now now) F.valid absent parent valid-now)) (λ p k is. is))

  pub counted-row : (v : ℕ) → Row here no_obligations (call_counted v now)
  counted-row v = rows-changed here no_obligations now _ now.endpoints now.parks (λ k. omega arith) in_row

  pub by-call : (v : ℕ) (c : Call) → CallLoses gs L.lost (call_counted v now) v c → Keeps (call_row T i (call_counted v now) v c)
  unfolding call_row
  by-call v (Derive src dst off len rights) loses = plain-call v (Derive src dst off len rights) tt
  by-call v (Gate src dst label credits) loses = plain-call v (Gate src dst label credits) tt
  by-call v (Obtain dst w src) loses = plain-call v (Obtain dst w src) tt
  by-call v (Delegate src w dst) loses = plain-call v (Delegate src w dst) tt
  by-call v (OpenSession dst name) loses = plain-call v (OpenSession dst name) tt
  by-call v (AskOffer dst session index) loses = plain-call v (AskOffer dst session index) tt
  by-call v (Revoke src) loses = option-keeps Keeps (λ (c : Capability). cutting c.key (unshown (revoke_begun T i v c.key c.mark (call_counted v now))))
      (own (call_counted v now) v src) (answer NoCap (call_counted v now))
      (λ c held _. row-step (revoke_begun T i v c.key c.mark (call_counted v now))
      (row-revoked here v c.key (call_counted v now) c (own-cap (call_counted v now) v src c held) (loses c held) (counted-row v)))
      (λ _. row-step (call_counted v now) (counted-row v))
  by-call v (Bind ep src) loses = plain-call v (Bind ep src) tt
  by-call v (Read ep off len) loses = plain-call v (Read ep off len) tt
  by-call v (Write ep off len) loses = plain-call v (Write ep off len) tt
  by-call v (SendCall ep len) loses = plain-call v (SendCall ep len) tt
  by-call v (Credit ep) loses = plain-call v (Credit ep) tt
  by-call v (Clear src) loses = unless-passed Keeps (own_tests (own (call_counted v now) v src)) _ _ (λ code _. row-step (call_counted v now) (counted-row v))
      (λ passed. option-keeps Keeps (λ (c : Capability). cutting c.key (unshown (clear_begun T i v c.key (call_counted v now)))) (own (call_counted v now) v src)
      (answer NoCap (call_counted v now))
      (λ c held _. row-step (clear_begun T i v c.key (call_counted v now))
      (row-cleared here v c.key (call_counted v now) c (own-cap (call_counted v now) v src c held)
      (unmarked-own (own (call_counted v now) v src) c held passed.1.0) (loses c held (unmarked-own (own (call_counted v now) v src) c held passed.1.0))
      (counted-row v)))
      (λ _. row-step (call_counted v now) (counted-row v)))
  by-call v Exit loses = λ _. row-step (ended T i v (call_counted v now)) (row-ended here v (call_counted v now) loses (counted-row v))

  -- Upcalls, parked calls.

  pub by-upcall : (v : ℕ) → Keeps (upcall_row T i now v)
  by-upcall v = λ F.
      let x : Step = upcall_row T i now v in
      let o = x.outcome.grant in
      let absent : (p k : KeyName) → link_of T gs W R H L i o now now p k → cap now k ≡ None = λ p k is. absent-now k (F.new p k is) in
      let parent : (p k : KeyName) → link_of T gs W R H L i o now now p k →
      (d : Capability) × (cap now p ≡ Some d) = λ p k is. ((F.below p k is).0, (F.below p k is).1) in
      grown-both o now x F absent parent (upcall-grown (owner_of T) i now (link_of T gs W R H L i o now now) F.valid absent parent T (λ k. refl) now v
      (grown-start (owner_of T) i now (link_of T gs W R H L i o now now) F.valid absent parent valid-now) (λ p k is. is))

  -- a key that is on its way is not held
  coming-absent : (k : KeyName) → 1 ≤ at_side k on_its_way now → cap now k ≡ None
  coming-absent k more' = elim (cases_Option (cap now k)) [
    | inl (c, held) ↦
        let none = in_row.fit.apart k c (hold-here here now k (R.homes i k c held) ∙ held) in
        absurd (omega (arith, none, more'))
    | inr none ↦ none
  ]

  pub by-resume : (v : ℕ) → Keeps (resume_row T now v)
  by-resume v = λ F.
      let x : Step = resume_row T now v in
      let o = x.outcome.grant in
      let absent : (p k : KeyName) → link_of T gs W R H L i o now now p k → cap now k ≡ None = λ p k is. absent-now k (F.new p k is) in
      let parent : (p k : KeyName) → link_of T gs W R H L i o now now p k →
      (d : Capability) × (cap now p ≡ Some d) = λ p k is. ((F.below p k is).0, (F.below p k is).1) in
      grown-both o now x F absent parent (resume-grown (owner_of T) i now (link_of T gs W R H L i o now now) F.valid absent parent T (λ k. refl) now v
      (installs (link_of T gs W R H L i o now now) F.valid absent parent (parked now v) refl)
      (grown-start (owner_of T) i now (link_of T gs W R H L i o now now) F.valid absent parent valid-now) (λ p k is. is))
    where
      installs : (linking : KeyName → KeyName → Type 0) (valid : (p k : KeyName) → linking p k → IsValidKey k) (new : (p k : KeyName) → linking p k →
          cap now k ≡ None) (parent : (p k : KeyName) → linking p k → (d : Capability) × (cap now p ≡ Some d)) (p : Option Parked) → parked now v ≡ p →
          Installs (owner_of T) i now linking valid new parent p
      installs linking valid new parent None is = tt
      installs linking valid new parent (Some (ObtainWait number sel)) is = tt
      installs linking valid new parent (Some (ObtainReady key parent' object sel)) is =
          let calls = lives-unparked key on_its_way now v in
          let weight : at_parked key (parked now v) ≡ 1 = ap (at_parked key) is ∙ cond-true (key_eq key key) 1 0 (key_eq-same key) in
          coming-absent key (omega (arith, calls, weight))
      installs linking valid new parent (Some ObtainCancelled) is = tt
      installs linking valid new parent (Some (DelegateWait parent')) is = tt
      installs linking valid new parent (Some (DelegateReady parent' key)) is = tt
      installs linking valid new parent (Some (RevokeWait j)) is = tt
      installs linking valid new parent (Some (Ready code)) is = tt

  -- Messages.

  module _ (from : ℕ) (m : Message) (full : now.inbox ≡ Some (from, m)) where
    abbrev base : Side
    base = with_inbox None now

    abbrev none_linked : KeyName → KeyName → Type 0
    none_linked = link_of T gs W R H L i None now now

    no-valid : (p k : KeyName) → none_linked p k → IsValidKey k
    no-valid p k none = absurd cc

    no-absent : (p k : KeyName) → none_linked p k → cap base k ≡ None
    no-absent p k none = absurd cc

    no-parent : (p k : KeyName) → none_linked p k → (d : Capability) × (cap base p ≡ Some d)
    no-parent p k none = absurd cc

    abbrev GrownBy : Side → Type 0
    GrownBy t = Grown (owner_of T) i base none_linked no-valid no-absent no-parent none_linked t

    begun : GrownBy base
    begun = grown-start (owner_of T) i base none_linked no-valid no-absent no-parent valid-now

    by-growth : is_plain m ≡ true → (t : Side) → GrownBy t → Kept t
    by-growth quiet t G = λ F. (
      subst (λ xs. Holds T xs (with_side i t W)) (append-nil gs)
          (grown-holds T gs W R H L i None base t refl refl refl (λ S of. sym (ap (of_inbox S i) full ∙ of from i m quiet)) F.next (λ p k none. absurd cc)
          (λ p k none. absurd cc) no-valid no-absent no-parent F.few G),
      record {
        inbox = G.inbox;
        sends = G.sends;
        quiet = λ p k is q a c. G.outs (requesting q a c) (of_asking q a c);
        steady = λ p k is. G.jobs;
        lasts = λ k c held. let e = G.on k c held in inl (e.0, e.1);
        caused = λ n y open_. L.caused i n y (ap (λ xs. job_of xs n) (sym G.jobs) ∙ open_);
      },
    )

    -- the message is taken out, and the row owes nothing for it
    taken : ((k : KeyName) (a b : ℕ) → requesting_message k a b from i m ≡ 0) → ((a b : ℕ) → token_message a b from i m ≡ 0) → Row there no_obligations base
    taken quiet tokenless = row-taken here no_obligations now from m full (λ k a b more'. let none = quiet k a b in
        omega (arith, none, more')) (λ a b. sym (tokenless a b)) (λ k a b care. absurd care) in_row

    -- what the message weighs is in the inbox
    weighs : (S : Scale) → S.message from i m ≤ of_side S i now
    weighs S = let inbox : of_inbox S i now.inbox ≡ S.message from i m = ap (of_inbox S i) full in omega (arith, inbox)

    gift-taken : (k : KeyName) → at_side k on_its_way base + at_message k m ≡ at_side k on_its_way now
    gift-taken k =
        let sum = lives-inbox k on_its_way now None in
        let inbox : at_inbox k now.inbox ≡ at_message k m = ap (at_inbox k) full in
        omega (arith, sum, inbox)

    -- a gift that nobody takes is gone
    lost : (k : KeyName) → at_message k m ≡ 1 → IsGone there base k × Made T gs k
    lost k one =
        let sum = gift-taken k in
        let most = in_row.fit.few k in (
          (
            elim (cases_Option ((view here now).hold k)) [
              | inl (c, held) ↦ let none = in_row.fit.apart k c held in absurd (omega (arith, none, sum, one))
              | inr none ↦ none
            ],
            omega (arith, sum, most, one),
          ),
          in_row.fit.made k (inr (omega (arith, sum, one))),
        )

    orphaned : (parent key : KeyName) → at_message key m ≡ 1 → ((k : KeyName) (a b : ℕ) → requesting_message k a b from i m ≡ 0) → (t : Side) →
        Row there no_obligations t → ((IsGone there base key × Made T gs key) → IsGone there t key × Made T gs key) →
        Kept (send (owner here parent) (Orphan parent key) t)
    orphaned parent key one quiet t K moves = by-row (send (owner here parent) (Orphan parent key) t)
        (row-sent there no_obligations no_obligations t (owner here parent) (Orphan parent key) (λ k a b. refl) (λ k. refl) refl (λ a b. refl) (λ a b k alive care. care)
        (λ a b k care. care) (λ a n loose. loose)
        (λ k more'. let same : key ≡ k = key_eq-true key k (one-more (key_eq key k) more') in
        subst (λ z. IsGone there t z × Made T gs z) same (moves (lost key one))) K)

    -- what the message says that is gone is so
    gone-said : (k : KeyName) → 1 ≤ notice_message k from i m → IsGone there base k
    gone-said k some =
        let w = weighs (noticing k) in
        let is = in_row.revokes.noticed k (omega (arith, some, w)) in
        let sum = gift-taken k in
        let zero' = is.0.1 in
        (is.0.0, omega (arith, sum, zero'))

  cancelled-caps : (k : KeyName) (t : Side) → (obtain_cancelled k t).caps ≡ t.caps
  cancelled-caps k t = cond_both (is_ready_with k (parked t k.vpe)) _ t (λ (u : Side). u.caps ≡ t.caps) (λ _. freed-caps (parked t k.vpe)) (λ _. refl)
    where
      freed-caps : (p : Option Parked) → (ready_freed p k.vpe t).caps ≡ t.caps
      freed-caps None = refl
      freed-caps (Some (ObtainReady key parent object sel)) = refl
      freed-caps (Some (ObtainWait number sel)) = refl
      freed-caps (Some ObtainCancelled) = refl
      freed-caps (Some (DelegateWait parent)) = refl
      freed-caps (Some (DelegateReady parent key)) = refl
      freed-caps (Some (RevokeWait j)) = refl
      freed-caps (Some (Ready code)) = refl

  -- the row owes a request: of a key of this kernel, from another one, which marks its parent
  pub request-owed : (from : ℕ) (k : KeyName) (j : ℕ) → now.inbox ≡ Some (from, RevokeReq k j)
      → (owner here k ≡ i) × (from ≢ i) × IsUnder there (with_inbox None now) k from j × Row there (request k from j) (with_inbox None now)
  request-owed from k j full =
      let w = weighs from (RevokeReq k j) full (straying (owner here)) in
      let none = in_row.revokes.placed in
      let test : ((owner here k == i) && not (owner here k == from)) ≡ true =
      placed-test ((owner here k == i) && not (owner here k == from)) (omega (arith, w, none)) in
      let parts = and_parts (owner here k == i) (not (owner here k == from)) test in
      let at : owner here k ≡ i = eqb-true (owner here k) i parts.0 in
      let away : from ≢ i = λ same. eqb-false (owner here k) from (not-true (owner here k == from) parts.1) (at ∙ sym same) in
      let asks = weighs from (RevokeReq k j) full (requesting k from j) in
      let one = one-true (key_eq k k && ((from == from) && (j == j)))
      (and_from (key_eq k k) ((from == from) && (j == j)) (key_eq-same k) (and_from (from == from) (j == j) (eq-eqb from from refl) (eq-eqb j j refl))) in
      let under = in_row.revokes.asking k from j (omega (arith, asks, one)) in
      let inhand : Row there (request k from j) (with_inbox None now) = row-taken here (request k from j) now from (RevokeReq k j) full
      (λ q a b more'. let pass = one-more (key_eq k q && ((from == a) && (j == b))) more' in
      let outer = and_parts (key_eq k q) ((from == a) && (j == b)) pass in let inner = and_parts (from == a) (j == b) outer.1 in
      (sym (eqb-true from a inner.0), sym (eqb-true j b inner.1), sym (key_eq-true k q outer.0)))
      (λ a b. refl)
      (λ q a b (at', job', same). let one' =
      one-true (key_eq k q && ((from == a) && (j == b))) (and_from (key_eq k q) ((from == a) && (j == b)) (key_eq-from k q (sym same))
      (and_from (from == a) (j == b) (eq-eqb from a (sym at')) (eq-eqb j b (sym job')))) in omega (arith, one'))
      in_row in
      (at, away, under, inhand)
    where
      placed-test : (t : Bool) → bit (not t) ≡ 0 → t ≡ true
      placed-test true none = refl
      placed-test false none = absurd (omega (arith, none))

  by-request : (from : ℕ) (k : KeyName) (j : ℕ) → now.inbox ≡ Some (from, RevokeReq k j) →
      Row there no_obligations (handle_row T i (with_inbox None now) from (RevokeReq k j))
  unfolding handle_row
  by-request from k j full =
      let owes = request-owed from k j full in
      row-requested there k from j (with_inbox None now) owes.0 owes.1 owes.2 owes.3
      (λ none'. (
        hold-here there (obtain_cancelled k (with_inbox None now)) k owes.0
            ∙ (ap (λ (cs : List Capability). cap_of cs k) (cancelled-caps k (with_inbox None now)) ∙ none'),
        let late = R.late i from j k full none' in let parts' = gifts-parts there k (obtain_cancelled k (with_inbox None now)) in omega (arith, late, parts'),
      ))

  -- the row owes a token
  pub token-owed : (from j : ℕ) → now.inbox ≡ Some (from, RevokeDone j) → Row there (token i j) (with_inbox None now)
  token-owed from j full = row-taken here (token i j) now from (RevokeDone j) full (λ k a b more'. absurd (omega (arith, more'))) (λ a b. refl)
      (λ k a b care. absurd care) in_row

  by-token : (from j : ℕ) → now.inbox ≡ Some (from, RevokeDone j) → Row there no_obligations (handle_row T i (with_inbox None now) from (RevokeDone j))
  unfolding handle_row
  by-token from j full = row-done there j (with_inbox None now) (token-owed from j full)

  by-message : (from : ℕ) (m : Message) → now.inbox ≡ Some (from, m) → Kept (handled T i (with_inbox None now) from m)
  unfolding handle_row
  by-message from (ObtainReq place target) full =
      by-growth from (ObtainReq place target) full refl _ (cond_both (is_stray T i b (ObtainReq place target)) b _ (GrownBy from (ObtainReq place target) full)
      (λ _. G) (λ _. obtain_asked-grown (owner_of T) i b _ _ _ _ T place target b G))
    where
      b : Side
      b = with_inbox None now

      G : GrownBy from (ObtainReq place target) full b
      G = begun from (ObtainReq place target) full
  by-message from (ObtainOk parent key object) full =
      cond_both (is_stray T i b m) b _ Kept (λ _. by-row b K) (λ _. cond_both (is_alive b key.vpe) (obtain_ready parent key object (parked b key.vpe) b)
      (send (owner_of T parent) (Orphan parent key) b) Kept
      (λ _. by-growth from m full refl (obtain_ready parent key object (parked b key.vpe) b)
      (obtain_ok-grown (owner_of T) i b _ _ _ _ parent key object b (begun from m full)))
      (λ _. orphaned from m full parent key (cond-true (key_eq key key) 1 0 (key_eq-same key)) (λ k a c. refl) b K (λ is. is)))
    where
      m : Message
      m = ObtainOk parent key object

      b : Side
      b = with_inbox None now

      K : Row there no_obligations b
      K = taken from m full (λ k a c. refl) (λ a c. refl)
  by-message from (ObtainNo place code) full =
      by-growth from (ObtainNo place code) full refl _ (cond_both (is_stray T i b (ObtainNo place code)) b _ (GrownBy from (ObtainNo place code) full) (λ _. G)
      (λ _. no-grown (owner_of T) i b _ _ _ _ code place.vpe b G))
    where
      b : Side
      b = with_inbox None now

      G : GrownBy from (ObtainNo place code) full b
      G = begun from (ObtainNo place code) full
  by-message from (DelegateReq parent object vpe sel) full =
      by-growth from (DelegateReq parent object vpe sel) full refl _
      (cond_both (is_stray T i b (DelegateReq parent object vpe sel)) b _ (GrownBy from (DelegateReq parent object vpe sel) full) (λ _. G)
      (λ _. delegate_asked-grown (owner_of T) i b _ _ _ _ T parent object vpe sel b G))
    where
      b : Side
      b = with_inbox None now

      G : GrownBy from (DelegateReq parent object vpe sel) full b
      G = begun from (DelegateReq parent object vpe sel) full
  by-message from (DelegatePrepared parent key) full =
      by-growth from (DelegatePrepared parent key) full refl _
      (cond_both (is_stray T i b (DelegatePrepared parent key)) b _ (GrownBy from (DelegatePrepared parent key) full) (λ _. G)
      (λ _. delegate_ready-grown (owner_of T) i b _ _ _ _ T parent key b G))
    where
      b : Side
      b = with_inbox None now

      G : GrownBy from (DelegatePrepared parent key) full b
      G = begun from (DelegatePrepared parent key) full
  by-message from (DelegateNo parent code) full =
      by-growth from (DelegateNo parent code) full refl _ (cond_both (is_stray T i b (DelegateNo parent code)) b _ (GrownBy from (DelegateNo parent code) full)
      (λ _. G) (λ _. no-grown (owner_of T) i b _ _ _ _ code parent.vpe b G))
    where
      b : Side
      b = with_inbox None now

      G : GrownBy from (DelegateNo parent code) full b
      G = begun from (DelegateNo parent code) full
  by-message from (Ack key true) full =
      cond_both (is_stray T i b m) b _ Kept (λ _. by-row b K) (λ _. option-keeps Kept (acknowledged T key true b) (pending b key) b (λ p there. held p)
      (by-row b K))
    where
      m : Message
      m = Ack key true

      b : Side
      b = with_inbox None now

      K : Row there no_obligations b
      K = taken from m full (λ k a c. refl) (λ a c. refl)

      one : at_message key m ≡ 1
      one = cond-true (key_eq key key) 1 0 (key_eq-same key)

      held : (p : Pending) → Kept (delegation_held T key b p)
      held p = cond_both (is_alive b key.vpe) (installed key (Some p.parent) p.sel p.object (pending_removed key b))
          (send (owner_of T p.parent) (Orphan p.parent key) (pending_removed key b)) Kept
          (λ _. by-growth from m full refl (installed key (Some p.parent) p.sel p.object (pending_removed key b))
          (held-installed (owner_of T) i b _ _ _ _ key b p (coming-absent key (let sum = gift-taken from m full key in omega (arith, sum, one)))
          (begun from m full)))
          (λ _. orphaned from m full p.parent key one (λ k a c. refl) (pending_removed key b) (pendings-row there no_obligations b _ K) (λ is. is))
  by-message from (Ack key false) full =
      by-growth from (Ack key false) full refl _ (cond_both (is_stray T i b (Ack key false)) b _ (GrownBy from (Ack key false) full) (λ _. G)
      (λ _. option-keeps (GrownBy from (Ack key false) full) (acknowledged T key false b) (pending b key) b
      (λ p there. dropped-grown (owner_of T) i b _ _ _ _ key b p G) G))
    where
      b : Side
      b = with_inbox None now

      G : GrownBy from (Ack key false) full b
      G = begun from (Ack key false) full
  by-message from (Orphan parent key) full =
      by-row _ (row-unlinked there (with_inbox None now) parent key
      (gone-said from (Orphan parent key) full key (omega (arith, one-true (key_eq key key) (key_eq-same key)))) no_obligations
      (taken from (Orphan parent key) full (λ k a c. refl) (λ a c. refl)))
  by-message from (RevokeReq key j) full = by-row _ (by-request from key j full)
  by-message from (RevokeDone j) full = by-row _ (by-token from j full)
  by-message from (Unlink parent key) full =
      by-row _ (row-unlinked there (with_inbox None now) parent key
      (gone-said from (Unlink parent key) full key (omega (arith, one-true (key_eq key key) (key_eq-same key)))) no_obligations
      (taken from (Unlink parent key) full (λ k a c. refl) (λ a c. refl)))

  pub by-inbox : (o : Option (ℕ × Message)) → now.inbox ≡ o → Kept (option_map_or (λ m. handled T i (with_inbox None now) m.0 m.1) o now)
  by-inbox None none = λ _. (
    left T gs W R H L i now in_row,
    record {
      inbox = none;
      sends = λ j. ([], sym (append-nil (outbox now j)), λ k some. absurd (omega (arith, some)));
      quiet = λ p k none. absurd cc;
      steady = λ p k none. absurd cc;
      lasts = λ k c held. inl (c, held);
      caused = L.caused i;
    },
  )
  by-inbox (Some (from, m)) full = by-message from m full

  -- A message moves on its way.

  side-at : (t : Side) → side (with_side i t W) i ≡ t
  side-at t = get_or-put_same no_side W.sides i t

  front-of : (S : Scale) (from to : ℕ) (ms : List Message) (m : Message) → slice_get ms 0 ≡ Some m →
      of_messages S from to (drop 1 ms) + S.message from to m ≡ of_messages S from to ms
  front-of S from to ms m front = let sum = weigh-drop (S.message from to) ms in
      let one : of_option (S.message from to) (slice_get ms 0) ≡ S.message from to m = ap (of_option (S.message from to)) front in omega (arith, sum, one)

  pub fetched-sum : (S : Scale) (j : ℕ) (m : Message) → slice_get (link W j i) 0 ≡ Some m → now.inbox ≡ None →
      of_world S (with_link j i (drop 1 (link W j i)) (with_side i (with_inbox (Some (j, m)) now) W)) ≡ of_world S W
  fetched-sum S j m front empty =
      let t : Side = with_inbox (Some (j, m)) now in
      let V : World = with_side i t W in
      let world = world-side S W i t in
      let moved : of_world S (with_link j i (drop 1 (link W j i)) V) + of_messages S j i (link W j i) ≡ of_world S V + of_messages S j i (drop 1 (link W j i)) =
      world-link S V j i (drop 1 (link W j i)) in
      let first = front-of S j i (link W j i) m front in
      let inbox = side-inbox S i now (Some (j, m)) in
      let none : of_inbox S i now.inbox ≡ 0 = ap (of_inbox S i) empty in
      omega (arith, world, moved, first, inbox, none)

  flushed-more : (S : Scale) (V : World) (j : ℕ) (o : Option Message) → of_world S (option_map_or (λ m. with_link i j (link V i j ++ m ∷ []) V) o V)
      ≡ of_world S V + of_option (S.message i j) o
  flushed-more S V j None = omega arith
  flushed-more S V j (Some m) = let more' = world-link S V i j (link V i j ++ m ∷ []) in let push = sum_by_push (S.message i j) (link V i j) m in
      omega (arith, more', push)

  pub flushed-sum : (S : Scale) (j : ℕ) →
      of_world S (option_map_or (λ m. with_link i j (link W i j ++ m ∷ []) (with_side i (sent j now) W)) (slice_get (outbox now j) 0)
      (with_side i (sent j now) W)) ≡ of_world S W
  flushed-sum S j =
      let V : World = with_side i (sent j now) W in
      let world = world-side S W i (sent j now) in
      let gone = side-sent S i now j in
      let more' : of_world S (option_map_or (λ m. with_link i j (link W i j ++ m ∷ []) V) (slice_get (outbox now j) 0) V)
      ≡ of_world S V + of_option (S.message i j) (slice_get (outbox now j) 0) = flushed-more S V j (slice_get (outbox now j) 0) in
      omega (arith, world, gone, more')

  -- a world in which the side has the same capabilities and jobs, and every message weighs the same
  pub moved : (t : Side) (V : World) → V.sides ≡ (with_side i t W).sides → t.caps ≡ now.caps → t.jobs ≡ now.jobs → ((S : Scale) → of_world S V ≡ of_world S W) →
      ((k : KeyName) → at_world k on_its_way V ≤ at_world k on_its_way W) → Holds T gs V
  moved t V sides caps jobs sums gifts = revokes-same (owner_of T) (Par gs) (one-parent T gs R.grown_so) (Made T gs) (whole T W) (whole T V) same R.fit H
    where
      side-same : (a : ℕ) → ((side V a).caps ≡ (side W a).caps) × ((side V a).jobs ≡ (side W a).jobs)
      side-same a = elim (cases_eq a i) [
        | inl is ↦
            let at : side V a ≡ t = ap (λ (ss : List Side). get_or ss a no_side) sides ∙ (ap (side (with_side i t W)) is ∙ side-at t) in (
              ap (λ (x : Side). x.caps) at ∙ (caps ∙ ap (λ n. (side W n).caps) (sym is)),
              ap (λ (x : Side). x.jobs) at
                  ∙ (jobs ∙ ap (λ n. (side W n).jobs) (sym is)),
            )
        | inr away ↦
            let at : side V a ≡ side W a = ap (λ (ss : List Side). get_or ss a no_side) sides ∙ get_or-put_other no_side W.sides i a t away in
            (ap (λ (x : Side). x.caps) at, ap (λ (x : Side). x.jobs) at)
      ]

      same : Same (whole T W) (whole T V)
      same = record {
        hold = λ k. ap (λ (cs : List Capability). cap_of cs k) (side-same (owner_of T k)).0;
        gifts = gifts;
        job = λ a n. ap (λ xs. job_of xs n) (side-same a).1;
        asked = λ k a b. sums (requesting k a b);
        tokens = λ a b. sums (naming a b);
        count = λ a b. sums (counting a b);
        notices = λ k. sums (noticing k);
        misplaced = sums (straying (owner_of T));
      }
