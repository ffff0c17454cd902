-- In a file service what an entry cuts off is the key that its call revokes.
use Rattle.std.proofs.Common.{◌≡◌, ◌⊎◌, ℕ, ◌++◌, List, [], ◌∷◌, Option, Some, None, take, refl, sym, ap, ◌∙◌, subst, inl, inr}
use Rattle.std.specs.List.{Contains}
use Rattle.std.specs.Option.{option_map_or, option_and_then}
use Rattle.std.proofs.lemmas.Option.{same_Some}
use Rattle.std.proofs.lemmas.List.Elements.{Contains-append_cases}
use Rattle.sem_key.specs.KeyName.{KeyName}
use Rattle.sem_key.specs.Capability.{Capability}
use Rattle.sem_key.proofs.Members.{Contains-nil, Contains-cons_cases}
use Rattle.sem_msg.specs.declared.call.Call.{Call}
use Rattle.sem_msg.specs.declared.call.Call.TheVariants.{Derive, Gate, Obtain, Delegate, OpenSession, AskOffer, Revoke, Bind, Read as ReadCall}
use Rattle.sem_msg.specs.declared.call.Call.TheVariants.{Write as WriteCall, Send as SendCall, Credit, Exit, Clear}
use Rattle.sem_msg.specs.declared.code.Code.TheVariants.{Ok as OkCode, NoService, BadKind, NoCap}
use Rattle.sem_msg.specs.declared.entry.Detail.{Detail}
use Rattle.sem_msg.specs.declared.entry.Detail.TheVariants.{Called, Nothing}
use Rattle.sem_msg.specs.declared.entry.Entry.{Entry}
use Rattle.sem_msg.specs.declared.event.Act.TheVariants.{Call as Calls}
use Rattle.sem_msg.specs.declared.message.Target.TheVariants.{Serv as ServTarget, Offer as OfferTarget}
use Rattle.sem_msg.specs.declared.setup.Service.{Service}
use Rattle.sem_msg.specs.Setup.{Setup}
use Rattle.sem_msg.specs.Lookups.{calls_of, service_named}
use Rattle.sem_msg.specs.Uses.{memory_tests}
use Rattle.sem_machine.specs.Sides.{Side, row, own, endpoint, call_counted, with_endpoint}
use Rattle.sem_machine.specs.Steps.{Step, unshown, answer, cutting}
use Rattle.sem_machine.specs.Calls.{call_row, ask_made, offer_made, open_tests, offer_tests, delegate_tests, bind_tests, session_service, with_held}
use Rattle.sem_machine.specs.Revokes.{revoke_begun}
use Rattle.sem_machine.specs.Journals.{cut_off, cut_from}
use Rattle.sem_machine.specs.Machine.{World, side, next_call, local_step, input_of, entry_of, detail_of}
use Rattle.sem_machine.specs.Schedules.{world_after}
use Rattle.sem_machine.proofs.FirstCodes.{unless-keeps}
use Rattle.sem_machine.proofs.Folds.{option-keeps}
use Rattle.sem_safety.specs.History.{History, no_history, history, cut_at}
use Rattle.sem_safety.proofs.CarryingWorlds.{stepped}
use Rattle.sem_safety.proofs.Noted.{history-cut}
use Rattle.sem_revoke.proofs.Lasting.{call-step}
use Rattle.sem_revoke.proofs.Serving.{tells, fold-push}
use Rattle.sem_fs.specs.Service.{IsService, MayComeNext}
use Rattle.sem_revoke.proofs.Cuts.{CutsNone, act-cuts}

-- the key that a call revokes, if it revokes one
abbrev pub Cuts : Side → ℕ → Call → KeyName → Type 0
Cuts s u (Revoke src) k = (c : Capability) × (own s u src ≡ Some c) × (c.key ≡ k)
Cuts s u c k = ⊥

module _ (T : Setup) (i u : ℕ) (s : Side) where
  none-cut : (x : Step) (k : KeyName) → CutsNone x → ◌≡◌ {A = Option KeyName} x.outcome.cut (Some k) → ⊥
  none-cut x k none some = let no' : ◌≡◌ {A = Option KeyName} None (Some k) = sym none ∙ some in absurd cc

  call-revokes : (before : List Call) (c : Call) (k : KeyName) → MayComeNext T u before c → ◌≡◌ {A = Option KeyName} (call_row T i s u c).outcome.cut (Some k)
      → Cuts s u c k
  unfolding call_row
  call-revokes before (OpenSession dst name) k so cut =
      absurd (none-cut (call_row T i s u (OpenSession dst name)) k
      (unless-keeps CutsNone (open_tests T i s u dst name) _ _ (λ code. refl)
      (option-keeps CutsNone (λ (y : Service). ask_made T i u dst (ServTarget y.key) s) (service_named T name) (answer NoService s) (λ y there. refl) refl))
      cut)
  call-revokes before (AskOffer dst session index) k so cut =
      absurd (none-cut (call_row T i s u (AskOffer dst session index)) k
      (unless-keeps CutsNone (offer_tests T i s u dst session) _ _ (λ code. refl)
      (option-keeps CutsNone (λ (q : KeyName). ask_made T i u dst (OfferTarget q index) s)
      (option_and_then (λ (c : Capability). session_service c.object) (own s u session)) (answer BadKind s) (λ q there. refl) refl)) cut)
  call-revokes before (Delegate src w dst) k so cut =
      absurd (none-cut (call_row T i s u (Delegate src w dst)) k
      (unless-keeps CutsNone (delegate_tests T i s u src w) _ _ (λ code. refl)
      (option-keeps CutsNone (λ (p : Capability). offer_made T i u w dst p s) (own s u src) (answer NoCap s) (λ p there. refl) refl)) cut)
  call-revokes before (Revoke src) k so cut = from (own s u src) refl cut
    where
      from : (o : Option Capability) → own s u src ≡ o → ◌≡◌ {A = Option KeyName}
          (with_held o (λ c. cutting c.key (unshown (revoke_begun T i u c.key c.mark s))) s).outcome.cut (Some k) → Cuts s u (Revoke src) k
      from None at none = absurd cc
      from (Some c) at some = (c, at, same_Some c.key k some)
  call-revokes before (Bind ep src) k so cut =
      absurd (none-cut (call_row T i s u (Bind ep src)) k
      (unless-keeps CutsNone (bind_tests s u src) _ _ (λ code. refl)
      (option-keeps CutsNone (λ (c : Capability). answer OkCode (with_endpoint u ep (Some (record { key = c.key; object = c.object; ring = [] })) s))
      (own s u src)
      (answer NoCap s) (λ p there. refl) refl)) cut)
  call-revokes before (ReadCall ep off len) k so cut =
      absurd (none-cut (call_row T i s u (ReadCall ep off len)) k (unless-keeps CutsNone (memory_tests 1 off len (endpoint s u ep)) _ _ (λ code. refl) refl)
      cut)
  call-revokes before (WriteCall ep off len) k so cut =
      absurd (none-cut (call_row T i s u (WriteCall ep off len)) k (unless-keeps CutsNone (memory_tests 2 off len (endpoint s u ep)) _ _ (λ code. refl) refl)
      cut)
  call-revokes before (Derive src dst off len rights) k so cut = absurd so
  call-revokes before (Gate src dst label credits) k so cut = absurd so
  call-revokes before (Obtain dst w src) k so cut = absurd so
  call-revokes before (SendCall ep len) k so cut = absurd so
  call-revokes before (Credit ep) k so cut = absurd so
  call-revokes before Exit k so cut = absurd so
  call-revokes before (Clear src) k so cut = absurd so

-- who has no call left cuts off nothing
no-call : (T : Setup) (i : ℕ) (s : Side) (v : ℕ) → next_call T s v ≡ None → CutsNone (local_step T i s (Calls v) None)
unfolding local_step
no-call T i s v none = ap (λ o. (option_map_or (call_row T i (call_counted v s) v) o (unshown s)).outcome.cut) none

-- an entry that cuts off the key
pub record IsCutBy (T : Setup) (W : World) (e : Entry) (k : KeyName) : Type 0 where
  pub vpe : ℕ
  pub act : e.event.act ≡ Calls vpe
  pub call : Call
  pub next : next_call T (side W e.event.kernel) vpe ≡ Some call
  pub revokes : Cuts (call_counted vpe (side W e.event.kernel)) vpe call k

module _ (T : Setup) (S : IsService T) (before : List Entry) (e : Entry) (made : e ≡ entry_of T (world_after T before) e.event) where
  abbrev W : World
  W = world_after T before

  abbrev s : Side
  s = side W e.event.kernel

  by-act : (k : KeyName) → Contains (cut_at (history before).grants e) k → IsCutBy T W e k
  by-act k among = by_cut e.cut refl
    where
      by_cut : (o : Option KeyName) → e.cut ≡ o → IsCutBy T W e k
      by_cut None none =
          absurd (Contains-nil k (subst (λ ks. Contains ks k) (ap (λ o. option_map_or (cut_off (history before).grants e.detail) o []) none) among))
      by_cut (Some r) some = by_call (next_call T s a.0) refl
        where
          cut_so : ◌≡◌ {A = Option KeyName} (local_step T e.event.kernel s e.event.act (input_of W e.event.kernel e.event.act)).outcome.cut (Some r)
          cut_so = sym (tells T W e made).cut ∙ some

          a : (v : ℕ) × (e.event.act ≡ Calls v)
          a = act-cuts T e.event.kernel s e.event.act (input_of W e.event.kernel e.event.act) r cut_so

          at : ◌≡◌ {A = Option KeyName} (local_step T e.event.kernel s (Calls a.0) None).outcome.cut (Some r)
          at = ap (λ b. (local_step T e.event.kernel s b (input_of W e.event.kernel b)).outcome.cut) (sym a.1) ∙ cut_so

          told : (c : Call) → next_call T s a.0 ≡ Some c → e.detail ≡ Called (row s a.0).next_call c
          told c there = (tells T W e made).detail
              ∙ (ap (λ b. detail_of T s b (input_of W e.event.kernel b) (stepped T W e.event).outcome) a.1
              ∙ ap (λ o. option_map_or (λ call. Called (row s a.0).next_call call) o Nothing) there)

          revoked : (index : ℕ) (c : Call) → Cuts (call_counted a.0 s) a.0 c r → Contains (cut_off (history before).grants (Called index c) r) k → r ≡ k
          revoked index (Revoke src) is there = elim (Contains-cons_cases r [] k there) [ inl same ↦ same | inr none ↦ absurd (Contains-nil k none) ]
          revoked index (Derive src dst off len rights) is there = absurd is
          revoked index (Gate src dst label credits) is there = absurd is
          revoked index (Obtain dst w src) is there = absurd is
          revoked index (Delegate src w dst) is there = absurd is
          revoked index (OpenSession dst name) is there = absurd is
          revoked index (AskOffer dst session index') is there = absurd is
          revoked index (Bind ep src) is there = absurd is
          revoked index (ReadCall ep off len) is there = absurd is
          revoked index (WriteCall ep off len) is there = absurd is
          revoked index (SendCall ep len) is there = absurd is
          revoked index (Credit ep) is there = absurd is
          revoked index Exit is there = absurd is
          revoked index (Clear src) is there = absurd is

          by_call : (o : Option Call) → next_call T s a.0 ≡ o → IsCutBy T W e k
          by_call None none = let no' : ◌≡◌ {A = Option KeyName} None (Some r) = sym (no-call T e.event.kernel s a.0 none) ∙ at in absurd cc
          by_call (Some c) there =
              let step = ap (λ (x : Step). x.outcome.cut) (sym (call-step T e.event.kernel s a.0 None c there)) ∙ at in
              let is = call-revokes T e.event.kernel a.0 (call_counted a.0 s) (take (row s a.0).next_call (calls_of T a.0)) c r
              (S.calls a.0 (row s a.0).next_call c there) step in
              let same : r ≡ k = revoked (row s a.0).next_call c is
              (subst (λ (d : Detail). Contains (cut_off (history before).grants d r) k) (told c there)
              (subst (λ ks. Contains ks k) (ap (λ o. option_map_or (cut_off (history before).grants e.detail) o []) some) among)) in
              record { vpe = a.0; act = a.1; call = c; next = there; revokes = subst (Cuts (call_counted a.0 s) a.0 c) same is }

  -- what is cut off after the entry was so before it, or is cut off by it
  pub next-cut : (k : KeyName) → Contains (cut_from [] (before ++ e ∷ [])) k → Contains (cut_from [] before) k ⊎ IsCutBy T W e k
  next-cut k among =
      let hist = fold-push before no_history e in
      let all : Contains ((history before).cut ++ cut_at (history before).grants e) k =
      subst (λ (h : History). Contains h.cut k) hist (subst (λ ks. Contains ks k) (sym (history-cut (before ++ e ∷ []))) among) in
      elim (Contains-append_cases (history before).cut (cut_at (history before).grants e) k all) [
        | inl old ↦ inl (subst (λ ks. Contains ks k) (history-cut before) old)
        | inr now ↦ inr (by-act k now)
      ]
