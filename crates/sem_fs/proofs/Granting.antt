-- What is granted below a root was asked for: a call of the VPE of the key drew its number, and asks for a key of its kind.
use Rattle.std.proofs.Common.{◌≡◌, ℕ, ◌+◌, ◌++◌, true, false, List, [], ◌∷◌, Option, Some, None, slice_get, option_to_list, append_assoc, refl, sym, ap, ◌∙◌}
use Rattle.std.proofs.Common.{subst, inl, inr, arith}
use Rattle.std.specs.Prelude.{◌==◌}
use Rattle.std.specs.List.{Contains}
use Rattle.std.specs.Option.{option_map_or}
use Rattle.std.proofs.lemmas.Bool.{cond_both, eqb-true, true≢false}
use Rattle.std.proofs.lemmas.Option.{same_Some}
use Rattle.std.proofs.lemmas.List.Elements.{Contains-append_cases}
use Rattle.sem_key.specs.declared.key.Kind.{Kind}
use Rattle.sem_key.specs.declared.key.Kind.TheVariants.{Mem as MemKind, Sess as SessKind}
use Rattle.sem_key.specs.KeyName.{KeyName}
use Rattle.sem_key.specs.PlaceName.{PlaceName, keyed}
use Rattle.sem_key.specs.Capability.{Capability}
use Rattle.sem_key.proofs.Members.{Contains-nil, Contains-cons_cases}
use Rattle.sem_msg.specs.declared.call.Call.{Call}
use Rattle.sem_msg.specs.declared.call.Call.TheVariants.{Derive, Gate, Obtain, Delegate, OpenSession, AskOffer, Revoke, Bind, Read as ReadCall}
use Rattle.sem_msg.specs.declared.call.Call.TheVariants.{Write as WriteCall, Send as SendCall, Credit, Exit, Clear}
use Rattle.sem_msg.specs.declared.code.Code.TheVariants.{Ok as OkCode, NoService, BadKind, NoCap}
use Rattle.sem_msg.specs.declared.entry.Consent.{Consent}
use Rattle.sem_msg.specs.declared.entry.Consent.TheVariants.{Yes}
use Rattle.sem_msg.specs.declared.entry.Detail.TheVariants.{Called, Carried, Asked, Nothing}
use Rattle.sem_msg.specs.declared.entry.Entry.{Entry}
use Rattle.sem_msg.specs.declared.entry.Outcome.{Outcome}
use Rattle.sem_msg.specs.declared.event.Act.{Act}
use Rattle.sem_msg.specs.declared.event.Act.TheVariants.{Call as Calls, Fetch, Handle, Upcall, Resume, Flush, Kill}
use Rattle.sem_msg.specs.declared.message.Message.{Message}
use Rattle.sem_msg.specs.declared.message.Target.{Target}
use Rattle.sem_msg.specs.declared.message.Target.TheVariants.{Sel as SelTarget, Serv as ServTarget, Offer as OfferTarget}
use Rattle.sem_msg.specs.declared.setup.Service.{Service}
use Rattle.sem_msg.specs.declared.setup.VpeDecl.{VpeDecl}
use Rattle.sem_msg.specs.declared.state.Ask.{Ask}
use Rattle.sem_msg.specs.declared.state.Ask.TheVariants.{Obtain as ObtainAsk, Delegate as DelegateAsk}
use Rattle.sem_msg.specs.declared.state.Parked.{Parked}
use Rattle.sem_msg.specs.declared.state.Parked.TheVariants.{ObtainWait, ObtainReady, ObtainCancelled, DelegateWait, DelegateReady, RevokeWait, Ready}
use Rattle.sem_msg.specs.Setup.{Setup}
use Rattle.sem_msg.specs.Lookups.{decl, pe_of, kernel_of, calls_of, denies, service_named}
use Rattle.sem_msg.specs.Uses.{memory_tests}
use Rattle.sem_machine.specs.Sides.{Side, row, own, cap, parked, endpoint, outbox, is_alive, unparked, call_counted, ask_taken, with_endpoint}
use Rattle.sem_machine.specs.Sound.{kept}
use Rattle.sem_machine.specs.Steps.{Step, unshown, answer, cutting}
use Rattle.sem_machine.specs.Asks.{asker, is_unawaited, is_delegate_wait}
use Rattle.sem_machine.specs.Calls.{call_row, ask_made, offer_made, open_tests, offer_tests, delegate_tests, bind_tests, destination_tests}
use Rattle.sem_machine.specs.Revokes.{revoke_begun}
use Rattle.sem_machine.specs.Upcalls.{source, source_tests, given_kind, child_given, parent_tests, consented, ask_decided, upcall_row}
use Rattle.sem_machine.specs.Resumes.{delegate_granted, delegate_resumed, resumed, resume_row}
use Rattle.sem_machine.specs.Journals.{grants, root_keys}
use Rattle.sem_machine.specs.Machine.{World, side, next_call, input_of, local_step, detail_of}
use Rattle.sem_machine.specs.Schedules.{IsSchedule, world_after}
use Rattle.sem_machine.proofs.FirstCodes.{unless-keeps}
use Rattle.sem_machine.proofs.Folds.{option-keeps}
use Rattle.sem_safety.proofs.CarryingWorlds.{stepped}
use Rattle.sem_sound.proofs.Refusing.{awaited-waits}
use Rattle.sem_revoke.proofs.AddressedWorlds.{vpe-local}
use Rattle.sem_revoke.proofs.Asking.{asks-awaited}
use Rattle.sem_revoke.proofs.Revoking.{more-grants, shown}
use Rattle.sem_revoke.proofs.Serving.{tells}
use Rattle.sem_files.specs.Compiled.{SERVER}
use Rattle.sem_fs.specs.Service.{IsService, MayComeNext}
use Rattle.sem_fs.specs.Serving.{IsServedWorld, IsWorldBy}
use Rattle.sem_fs.specs.Openings.{IsGrantedTo, call_count_of}
use Rattle.sem_fs.specs.Holding.{home}
use Rattle.sem_fs.specs.Drawings.{IsDrawnBy}
use Rattle.sem_fs.proofs.Sparing.{lives, server-rests}
use Rattle.sem_fs.proofs.ServedSteps.{AsksFor, IsOffered, AskPasses, ActPasses, ask-among}
use Rattle.sem_fs.proofs.HoldingSteps.{runs, sound-here, order, made-so, locally}
use Rattle.sem_fs.proofs.Slots.{AsksAt}
use Rattle.sem_fs.proofs.Drawing.{drawn-more, one-call}
use Rattle.sem_fs.proofs.AskedCalls.{IsAsked, IsAsking}
use Rattle.sem_fs.proofs.AskedWorlds.{IsAskedFor}

-- a call asks for a key of that kind
abbrev pub Suits : Call → Kind → Type 0
Suits (OpenSession dst name) kind = kind ≡ SessKind
Suits (AskOffer dst session index) kind = kind ≡ MemKind
Suits c kind = ⊥

-- a key was granted to a call that drew its number, and asks for its kind
pub record HasOrigin (T : Setup) (J : List Entry) (k : KeyName) : Type 0 where
  pub index : ℕ
  pub drawn : IsDrawnBy T J k.vpe k.number index
  pub call : Call
  pub at_index : slice_get (calls_of T k.vpe) index ≡ Some call
  pub suits : Suits call k.kind
  pub place : k.pe ≡ pe_of T k.vpe
  pub granted : IsGrantedTo J k.vpe index k

-- what was granted below roots has an origin
abbrev pub HaveOrigins : Setup → List Entry → Type 0
HaveOrigins T J = (p k : KeyName) → Contains (root_keys T) p → Contains (grants J) (p, k) → HasOrigin T J k

more-granted : (J : List Entry) (e : Entry) (v n : ℕ) (k : KeyName) → IsGrantedTo J v n k → IsGrantedTo (J ++ e ∷ []) v n k
more-granted J e v n k x = record {
  before = x.before;
  later = x.later ++ e ∷ [];
  entry = x.entry;
  parent = x.parent;
  among = ap (λ K. K ++ e ∷ []) x.among ∙ append_assoc x.before (x.entry ∷ x.later) (e ∷ []);
  consents = x.consents;
  grants = x.grants;
  last_call = x.last_call;
}

more-origin : (T : Setup) (J : List Entry) (e : Entry) (k : KeyName) → HasOrigin T J k → HasOrigin T (J ++ e ∷ []) k
more-origin T J e k x =
    record {
      index = x.index;
      drawn = drawn-more T J k.vpe k.number e x.index x.drawn;
      call = x.call;
      at_index = x.at_index;
      suits = x.suits;
      place = x.place;
      granted =
          more-granted J e k.vpe x.index k x.granted;
    }

-- The kind of what a target asks for.
abbrev SuitsTarget : Target → Kind → Type 0
SuitsTarget (SelTarget vpe sel) kind = Unit {0}
SuitsTarget (ServTarget service) kind = kind ≡ SessKind
SuitsTarget (OfferTarget service index) kind = kind ≡ MemKind

suits-call : (c : Call) (target : Target) (kind : Kind) → AsksFor c target → SuitsTarget target kind → Suits c kind
suits-call (OpenSession dst name) (ServTarget service) kind asks suits = suits
suits-call (AskOffer dst session index) (OfferTarget service index') kind asks suits = suits
suits-call (OpenSession dst name) (SelTarget vpe sel) kind asks suits = absurd asks
suits-call (OpenSession dst name) (OfferTarget service index) kind asks suits = absurd asks
suits-call (AskOffer dst session index) (SelTarget vpe sel) kind asks suits = absurd asks
suits-call (AskOffer dst session index) (ServTarget service) kind asks suits = absurd asks
suits-call (Delegate src w dst) target kind asks suits = absurd asks
suits-call (Revoke src) target kind asks suits = absurd asks
suits-call (Bind ep src) target kind asks suits = absurd asks
suits-call (ReadCall ep off len) target kind asks suits = absurd asks
suits-call (WriteCall ep off len) target kind asks suits = absurd asks
suits-call (Derive src dst off len rights) target kind asks suits = absurd asks
suits-call (Gate src dst label credits) target kind asks suits = absurd asks
suits-call (Obtain dst w src) target kind asks suits = absurd asks
suits-call (SendCall ep len) target kind asks suits = absurd asks
suits-call (Credit ep) target kind asks suits = absurd asks
suits-call Exit target kind asks suits = absurd asks
suits-call (Clear src) target kind asks suits = absurd asks

given-suits : (target : Target) (p : Capability) → IsOffered target p.key → SuitsTarget target (given_kind target p)
given-suits (SelTarget vpe sel) p is = tt
given-suits (ServTarget service) p is = refl
given-suits (OfferTarget service index) p is = is

-- Calls grant nothing.
abbrev GrantsNone : Step → Type 0
GrantsNone x = ◌≡◌ {A = Option (KeyName × KeyName)} x.outcome.grant None

call-grants : (T : Setup) (i u : ℕ) (s : Side) (before : List Call) (c : Call) → MayComeNext T u before c → GrantsNone (call_row T i s u c)
unfolding call_row
call-grants T i u s before (OpenSession dst name) so = unless-keeps GrantsNone (open_tests T i s u dst name) _ _ (λ code. refl)
    (option-keeps GrantsNone (λ (y : Service). ask_made T i u dst (ServTarget y.key) s) (service_named T name) (answer NoService s) (λ y there. refl) refl)
call-grants T i u s before (AskOffer dst session index) so = unless-keeps GrantsNone (offer_tests T i s u dst session) _ _ (λ code. refl)
    (option-keeps GrantsNone (λ (q : KeyName). ask_made T i u dst (OfferTarget q index) s) _ (answer BadKind s) (λ q there. refl) refl)
call-grants T i u s before (Delegate src w dst) so = unless-keeps GrantsNone (delegate_tests T i s u src w) _ _ (λ code. refl)
    (option-keeps GrantsNone (λ (p : Capability). offer_made T i u w dst p s) (own s u src) (answer NoCap s) (λ p there. refl) refl)
call-grants T i u s before (Revoke src) so = option-keeps GrantsNone (λ (c : Capability). cutting c.key (unshown (revoke_begun T i u c.key c.mark s)))
    (own s u src)
    (answer NoCap s) (λ p there. refl) refl
call-grants T i u s before (Bind ep src) so = unless-keeps GrantsNone (bind_tests s u src) _ _ (λ code. refl)
    (option-keeps GrantsNone (λ (c : Capability). answer OkCode (with_endpoint u ep (Some (record { key = c.key; object = c.object; ring = [] })) s))
    (own s u src)
    (answer NoCap s) (λ p there. refl) refl)
call-grants T i u s before (ReadCall ep off len) so = unless-keeps GrantsNone (memory_tests 1 off len (endpoint s u ep)) _ _ (λ code. refl) refl
call-grants T i u s before (WriteCall ep off len) so = unless-keeps GrantsNone (memory_tests 2 off len (endpoint s u ep)) _ _ (λ code. refl) refl
call-grants T i u s before (Derive src dst off len rights) so = absurd so
call-grants T i u s before (Gate src dst label credits) so = absurd so
call-grants T i u s before (Obtain dst w src) so = absurd so
call-grants T i u s before (SendCall ep len) so = absurd so
call-grants T i u s before (Credit ep) so = absurd so
call-grants T i u s before Exit so = absurd so
call-grants T i u s before (Clear src) so = absurd so

in-option : (o : Option (KeyName × KeyName)) (g : KeyName × KeyName) → Contains (option_to_list o) g → o ≡ Some g
in-option None g among = absurd (Contains-nil g among)
in-option (Some h) g among = elim (Contains-cons_cases h [] g among) [ inl same ↦ ap Some same | inr none ↦ absurd (Contains-nil g none) ]

pub calls-decl : (T : Setup) (v n : ℕ) (c : Call) → slice_get (calls_of T v) n ≡ Some c → (d : VpeDecl) × (decl T v ≡ Some d)
calls-decl T v n c there = from (decl T v) refl
  where
    nothing : (cs : List Call) → cs ≡ [] → slice_get cs n ≡ Some c → ⊥
    nothing [] same none = absurd cc
    nothing (x ∷ cs) same some = absurd cc

    from : (o : Option VpeDecl) → decl T v ≡ o → (d : VpeDecl) × (decl T v ≡ Some d)
    from (Some d) some = (d, some)
    from None none = absurd (nothing (calls_of T v) (ap (λ o. option_map_or (λ (d : VpeDecl). d.calls) o []) none) there)

module _ (T : Setup) (S : IsService T) (J : List Entry) (e : Entry) (runs' : IsSchedule T (J ++ e ∷ [])) (served : IsServedWorld T (world_after T J))
    (passes : ActPasses T e.event.kernel (side (world_after T J) e.event.kernel) e.event.act) where
  abbrev J' : List Entry
  J' = J ++ e ∷ []

  abbrev W : World
  W = world_after T J

  abbrev i : ℕ
  i = e.event.kernel

  abbrev here : Side
  here = side W i

  runs-so : IsSchedule T J
  runs-so = runs T S J e runs' served passes

  -- the consent to an ask of an obtain
  record IsConsent (u : ℕ) (k : KeyName) (x : Step) : Type 0 where
    place : PlaceName
    target : Target
    kind : Kind
    head : slice_get (row here u).asks 0 ≡ Some (ObtainAsk place target)
    key : k ≡ keyed place kind
    suits : SuitsTarget target kind
    told : x.outcome.asked ≡ Some (place.vpe, Yes)

  abbrev Consents : ℕ → Step → Type 0
  Consents u x = (p k : KeyName) → ◌≡◌ {A = Option (KeyName × KeyName)} x.outcome.grant (Some (p, k)) → Contains (root_keys T) p → IsConsent u k x

  -- the server is parked nowhere
  server-free : (v : ℕ) (p : KeyName) → Contains (root_keys T) p → p.vpe ≡ v → kernel_of T v ≡ i → (q : Parked) → parked here v ≡ Some q → ⊥
  server-free v p root own' local q some =
      let server : v ≡ SERVER = sym own' ∙ S.roots p root in
      let none : parked here v ≡ None = ap (λ j. parked (side W j) v) (sym local) ∙ (ap (λ w. parked (home T W w) w) server ∙ server-rests T S J runs-so) in
      let no' : ◌≡◌ {A = Option Parked} None (Some q) = sym none ∙ some in
      absurd cc

  -- Upcalls of u.
  module _ (u : ℕ) where
    abbrev taken : Side
    taken = ask_taken u here

    delegate-parks : (parent : KeyName) (o : Option Parked) → is_delegate_wait parent o ≡ true → (q : Parked) × (o ≡ Some q)
    delegate-parks parent (Some q) is = (q, refl)
    delegate-parks parent None is = absurd cc

    -- the consent, as it is told
    abbrev Told : ℕ → Step → Type 0
    Told w x = (p k : KeyName) → ◌≡◌ {A = Option (KeyName × KeyName)} x.outcome.grant (Some (p, k)) → Contains (root_keys T) p →
        (place : PlaceName) × (target : Target)
        × (kind : Kind) × (slice_get (row here u).asks 0 ≡ Some (ObtainAsk place target)) × (k ≡ keyed place kind) × SuitsTarget target kind × (place.vpe ≡ w)

    second : (a b : KeyName × KeyName) → ◌≡◌ {A = Option (KeyName × KeyName)} (Some a) (Some b) → a ≡ b
    second a b same = same_Some a b same

    consent-told : (a : Ask) → slice_get (row here u).asks 0 ≡ Some a → is_unawaited T i taken a ≡ false → AskPasses T i taken u a
        → Told (asker a) (consented T i u a taken)
    consent-told (ObtainAsk place target) head awaited passed =
        unless-keeps (Told place.vpe) (source_tests target (source T taken u target)) _ _ (λ code p k some root. absurd cc)
        (option-keeps (Told place.vpe) (child_given T i place target taken) (source T taken u target) (unshown taken)
        (λ c there p k some root.
        let g : (c.key, keyed place (given_kind target c)) ≡ (p, k) = second (c.key, keyed place (given_kind target c)) (p, k) some in
        (place, target, given_kind target c, head, sym (ap (λ (x : KeyName × KeyName). x.1) g), given-suits target c (passed.1 c there).1, refl))
        (λ p k some root. absurd cc))
    consent-told (DelegateAsk parent object sel) head awaited passed =
        cond_both (kernel_of T parent.vpe == i) _ _ (Told parent.vpe)
        (λ local. unless-keeps (Told parent.vpe) (parent_tests (cap taken parent) ++ destination_tests taken u sel) _ _ (λ code p k some root. absurd cc)
        (λ p k some root.
        let near : kernel_of T parent.vpe ≡ i = eqb-true (kernel_of T parent.vpe) i local in
        let waits = delegate-parks parent (parked here parent.vpe) (awaited-waits T i taken (DelegateAsk parent object sel) awaited near) in
        let same : parent ≡ p = ap (λ (x : KeyName × KeyName). x.0) (first-of some) in
        absurd (server-free parent.vpe parent (subst (Contains (root_keys T)) (sym same) root) refl near waits.0 waits.1)))
        (λ far. unless-keeps (Told parent.vpe) (destination_tests taken u sel) _ _ (λ code p k some root. absurd cc) (λ p k some root. absurd cc))
      where
        first-of : {a b : KeyName × KeyName} → ◌≡◌ {A = Option (KeyName × KeyName)} (Some a) (Some b) → a ≡ b
        first-of {a} {b} same = same_Some a b same

    upcall-consents : ActPasses T i here (Upcall u) → Consents u (upcall_row T i here u)
    unfolding upcall_row
    upcall-consents pass = option-keeps (Consents u) (λ (a : Ask). ask_decided T i u a taken) (slice_get (row here u).asks 0) (unshown here)
        (λ a there. decided a there (pass a there).0 (pass a there).1) (λ p k some root. absurd cc)
      where
        decided : (a : Ask) → slice_get (row here u).asks 0 ≡ Some a → denies T u (asker a) ≡ false →
            (is_unawaited T i taken a ≡ false → AskPasses T i taken u a)
            → Consents u (ask_decided T i u a taken)
        decided a there allowed passed =
            cond_both (is_unawaited T i taken a) _ _ (Consents u) (λ _ p k some root. absurd cc)
            (λ waited. cond_both (denies T u (asker a)) _ _ (Consents u) (λ denied. absurd (true≢false (sym denied ∙ allowed)))
            (λ _ p k some root.
            let x = consent-told a there waited (passed waited) p k some root in
            record { place = x.0; target = x.1; kind = x.2; head = x.3; key = x.4; suits = x.5; told = ap (λ w. Some (w, Yes)) (sym x.6) }))

  -- A parked call of u that goes on.
  resume-grants : (u : ℕ) → kernel_of T u ≡ i → (p k : KeyName) → ◌≡◌ {A = Option (KeyName × KeyName)} (resume_row T here u).outcome.grant (Some (p, k))
      → Contains (root_keys T) p → ⊥
  unfolding resume_row
  resume-grants u local p k some root = by_call (parked here u) refl some
    where
      granted : (parent key : KeyName) (m : Option ℕ) → parked here u ≡ Some (DelegateReady parent key)
          → ◌≡◌ {A = Option (KeyName × KeyName)} (delegate_granted T parent key m (unparked u here)).outcome.grant (Some (p, k)) → ⊥
      granted parent key None at some =
          let same : parent ≡ p = ap (λ (x : KeyName × KeyName). x.0) (same_Some (parent, key) (p, k) some) in
          let mine = ((sound-here T S J e runs' served passes).calls u (DelegateReady parent key) at).1.0 in
          server-free u parent (subst (Contains (root_keys T)) (sym same) root) mine local (DelegateReady parent key) at
      granted parent key (Some j) at some = absurd cc

      answered : (parent key : KeyName) (o : Option Capability) → parked here u ≡ Some (DelegateReady parent key)
          → ◌≡◌ {A = Option (KeyName × KeyName)} (delegate_resumed T parent key o (unparked u here)).outcome.grant (Some (p, k)) → ⊥
      answered parent key None at some = absurd cc
      answered parent key (Some c) at some = granted parent key c.mark at some

      by_call : (o : Option Parked) → parked here u ≡ o → ◌≡◌ {A = Option (KeyName × KeyName)} (resumed T o (unparked u here)).outcome.grant (Some (p, k)) → ⊥
      by_call None at some = absurd cc
      by_call (Some (ObtainWait number sel)) at some = absurd cc
      by_call (Some (ObtainReady key parent object sel)) at some = absurd cc
      by_call (Some ObtainCancelled) at some = absurd cc
      by_call (Some (DelegateWait parent)) at some = absurd cc
      by_call (Some (DelegateReady parent key)) at some = answered parent key (cap (unparked u here) parent) at some
      by_call (Some (RevokeWait j)) at some = absurd cc
      by_call (Some (Ready code)) at some = absurd cc

  abbrev Granted : Act → Type 0
  Granted a = (p k : KeyName) → ◌≡◌ {A = Option (KeyName × KeyName)} (local_step T i here a (input_of W i a)).outcome.grant (Some (p, k)) →
      Contains (root_keys T) p
      → (u : ℕ) × (a ≡ Upcall u) × IsConsent u k (local_step T i here a (input_of W i a))

  -- what is granted below a root is consented to
  step-grants : (a : Act) → e.event.act ≡ a → Granted a
  unfolding local_step
  step-grants (Calls u) act p k some root =
      let none : GrantsNone (option_map_or (call_row T i (call_counted u here) u) (next_call T here u) (unshown here)) =
      option-keeps GrantsNone (call_row T i (call_counted u here) u) (next_call T here u) (unshown here)
      (λ c there. let o = order T S J e runs' served passes u c act there in call-grants T i u (call_counted u here) o.0 c o.1) refl in
      let no' : ◌≡◌ {A = Option (KeyName × KeyName)} None (Some (p, k)) = sym none ∙ some in
      absurd cc
  step-grants (Upcall u) act p k some root = (u, refl, upcall-consents u (subst (ActPasses T i here) act passes) p k some root)
  step-grants (Resume u) act p k some root =
      absurd (resume-grants u (vpe-local T i here e.event.act (locally T S J e runs' served passes) u (inr (inr (inl act)))) p k some root)
  step-grants (Fetch j) act p k some root = absurd cc
  step-grants Handle act p k some root = absurd cc
  step-grants (Flush j) act p k some root = absurd cc
  step-grants (Kill u) act p k some root = absurd cc

  module _ (asked : IsWorldBy T (IsAskedFor T J) W) (A : (v : ℕ) (d : VpeDecl) → decl T v ≡ Some d → (v ≡ SERVER → ⊥) → IsAsking T J v) where
    -- a key that is granted now
    new-origin : (p k : KeyName) → ◌≡◌ {A = Option (KeyName × KeyName)} e.grant (Some (p, k)) → Contains (root_keys T) p → HasOrigin T J' k
    new-origin p k some root =
        subst (HasOrigin T J') (sym con.key) (record {
          index = x.index;
          drawn = drawn-more T J v con.place.number e x.index x.drawn;
          call = x.call;
          at_index = x.at_index;
          suits = suits-call x.call con.target con.kind x.asks con.suits;
          place = named;
          granted = record {
            before = J;
            later = [];
            entry = e;
            parent = p;
            among = refl;
            consents = told;
            grants = some ∙ ap (λ q. Some (p, q)) con.key;
            last_call = last;
          };
        })
      where
        at-step : ◌≡◌ {A = Option (KeyName × KeyName)} (local_step T i here e.event.act (input_of W i e.event.act)).outcome.grant (Some (p, k))
        at-step = sym (shown T W e (made-so T S J e runs' served passes)) ∙ some

        g : (u : ℕ) × (e.event.act ≡ Upcall u) × IsConsent u k (local_step T i here e.event.act (input_of W i e.event.act))
        g = step-grants e.event.act refl p k at-step root

        con : IsConsent g.0 k (local_step T i here e.event.act (input_of W i e.event.act))
        con = g.2

        v : ℕ
        v = con.place.vpe

        among : Contains (row here g.0).asks (ObtainAsk con.place con.target)
        among = ask-among T g.0 (ObtainAsk con.place con.target) here con.head

        x : IsAskedFor T J con.place con.target
        x = ((asked.sides i).asks g.0 (ObtainAsk con.place con.target) among).1

        d : (d : VpeDecl) × (decl T con.place.vpe ≡ Some d)
        d = calls-decl T con.place.vpe x.index x.call x.at_index

        named : con.place.pe ≡ pe_of T con.place.vpe
        named =
            let is = (((sound-here T S J e runs' served passes).rows g.0).asks (ObtainAsk con.place con.target) among).0.1 in
            let at : (d.0.pe == con.place.pe) ≡ true = sym (ap (λ o. option_map_or (λ (y : VpeDecl). y.pe == con.place.pe) o false) d.1) ∙ is in
            sym (eqb-true d.0.pe con.place.pe at) ∙ sym (ap (λ o. option_map_or (λ (y : VpeDecl). y.pe) o 128) d.1)

        client : con.place.vpe ≡ SERVER → ⊥
        client same = let no' : ◌≡◌ {A = Option Call} None (Some x.call) = sym (ap (λ cs. slice_get cs x.index) (ap (calls_of T) same ∙ S.rests))
            ∙ x.at_index in
            absurd cc

        told : e.detail ≡ Asked con.place.vpe Yes
        told =
            (tells T W e (made-so T S J e runs' served passes)).detail
            ∙ (ap (λ a. detail_of T here a (input_of W i e.event.act) (stepped T W e.event).outcome) g.1
            ∙ ap (λ o. option_map_or (λ (a : ℕ × Consent). Asked a.0 a.1) o Nothing) con.told)

        awaited : (sel : ℕ) × (parked (home T W con.place.vpe) con.place.vpe ≡ Some (ObtainWait con.place.number sel))
        awaited = asks-awaited T S.setup J runs-so i g.0 con.place con.target among (lives T S J runs-so con.place.vpe d.0 d.1)

        last : call_count_of J con.place.vpe ≡ x.index + 1
        last =
            let a = A con.place.vpe d.0 d.1 client in
            let y = a.waits con.place.number awaited.0 (ap kept awaited.1) in
            a.counted ∙ (y.1 ∙ ap (λ m. m + 1) (one-call T J con.place.vpe con.place.number y.0.index x.index y.0.drawn x.drawn))

    -- what was granted now to the last call of a VPE
    module _ (p k : KeyName) (v : ℕ) (some : ◌≡◌ {A = Option (KeyName × KeyName)} e.grant (Some (p, k))) (consents : e.detail ≡ Asked v Yes) (d : VpeDecl)
        (at : decl T v ≡ Some d) (client : v ≡ SERVER → ⊥) where
      grant-here : ◌≡◌ {A = Option (KeyName × KeyName)} (local_step T i here e.event.act (input_of W i e.event.act)).outcome.grant (Some (p, k))
      grant-here = sym (shown T W e (made-so T S J e runs' served passes)) ∙ some

      detail-here : detail_of T here e.event.act (input_of W i e.event.act) (local_step T i here e.event.act (input_of W i e.event.act)).outcome ≡ Asked v Yes
      detail-here = sym (tells T W e (made-so T S J e runs' served passes)).detail ∙ consents

      -- only an upcall tells of who is asked
      asked-act : (a : Act) (o : Outcome) → detail_of T here a (input_of W i a) o ≡ Asked v Yes → (u : ℕ) × (a ≡ Upcall u) × (o.asked ≡ Some (v, Yes))
      asked-act (Upcall u) o told = (u, refl, by o.asked told)
        where
          by : (x : Option (ℕ × Consent)) → option_map_or (λ (y : ℕ × Consent). Asked y.0 y.1) x Nothing ≡ Asked v Yes → x ≡ Some (v, Yes)
          by None none = absurd cc
          by (Some y) same = pair y.0 y.1 same
            where
              pair : (a : ℕ) (b : Consent) → Asked a b ≡ Asked v Yes → ◌≡◌ {A = Option (ℕ × Consent)} (Some (a, b)) (Some (v, Yes))
              pair a b same = cc same
      asked-act (Calls u) o told = by (next_call T here u) told
        where
          by : (x : Option Call) → option_map_or (λ call. Called (row here u).next_call call) x Nothing ≡ Asked v Yes → (w : ℕ) × (Calls u ≡ Upcall w)
              × (o.asked ≡ Some (v, Yes))
          by None none = absurd cc
          by (Some c) same = absurd cc
      asked-act (Fetch j) o told = by (input_of W i (Fetch j)) told
        where
          by : (x : Option Message) → option_map_or (λ m. Carried j m) x Nothing ≡ Asked v Yes → (w : ℕ) × (Fetch j ≡ Upcall w) × (o.asked ≡ Some (v, Yes))
          by None none = absurd cc
          by (Some m) same = absurd cc
      asked-act Handle o told = by here.inbox told
        where
          by : (x : Option (ℕ × Message)) → option_map_or (λ (m : ℕ × Message). Carried m.0 m.1) x Nothing ≡ Asked v Yes → (w : ℕ) × (Handle ≡ Upcall w)
              × (o.asked ≡ Some (v, Yes))
          by None none = absurd cc
          by (Some m) same = absurd cc
      asked-act (Resume u) o told = absurd cc
      asked-act (Flush j) o told = by (slice_get (outbox here j) 0) told
        where
          by : (x : Option Message) → option_map_or (λ m. Carried j m) x Nothing ≡ Asked v Yes → (w : ℕ) × (Flush j ≡ Upcall w) × (o.asked ≡ Some (v, Yes))
          by None none = absurd cc
          by (Some m) same = absurd cc
      asked-act (Kill u) o told = absurd cc

      -- if that call asks, a root gave it
      module _ (c : Call) (n sel : ℕ) (last : (row (home T W v) v).next_call ≡ n + 1) (at_n : slice_get (calls_of T v) n ≡ Some c) (asks' : AsksAt c sel) where
        not-giving : (q : KeyName) → parked (home T W v) v ≡ Some (DelegateWait q) → ⊥
        not-giving q is =
            let x = (A v d at client).gives q is in
            let same : x.index ≡ n = one-less x.index n (row (home T W v) v).next_call x.last last in
            let call : x.call ≡ c = same_Some x.call c (sym x.at_index ∙ (ap (slice_get (calls_of T v)) same ∙ at_n)) in
            x.askless sel (subst (λ z. AsksAt z sel) (sym call) asks')
          where
            one-less : (a b n : ℕ) → n ≡ a + 1 → n ≡ b + 1 → a ≡ b
            one-less a b n one two = omega (arith, one, two)

        delegate-waits : (parent : KeyName) (o : Option Parked) → is_delegate_wait parent o ≡ true → (q : KeyName) × (o ≡ Some (DelegateWait q))
        delegate-waits parent (Some (DelegateWait q)) is = (q, refl)
        delegate-waits parent None is = absurd cc
        delegate-waits parent (Some (ObtainWait number q)) is = absurd cc
        delegate-waits parent (Some (ObtainReady key p' object q)) is = absurd cc
        delegate-waits parent (Some ObtainCancelled) is = absurd cc
        delegate-waits parent (Some (DelegateReady p' key)) is = absurd cc
        delegate-waits parent (Some (RevokeWait j)) is = absurd cc
        delegate-waits parent (Some (Ready code)) is = absurd cc

        abbrev Rooted : Step → Type 0
        Rooted x = (q r : KeyName) → ◌≡◌ {A = Option (KeyName × KeyName)} x.outcome.grant (Some (q, r)) → x.outcome.asked ≡ Some (v, Yes) →
            Contains (root_keys T) q

        abbrev Below : Step → Type 0
        Below x = (q r : KeyName) → ◌≡◌ {A = Option (KeyName × KeyName)} x.outcome.grant (Some (q, r)) → Contains (root_keys T) q

        consented-root : (u : ℕ) (a : Ask) → asker a ≡ v → is_unawaited T i (ask_taken u here) a ≡ false → AskPasses T i (ask_taken u here) u a
            → Below (consented T i u a (ask_taken u here))
        consented-root u (ObtainAsk place target) mine awaited passed =
            unless-keeps Below (source_tests target (source T (ask_taken u here) u target)) _ _ (λ code q r none. absurd cc)
            (option-keeps Below (child_given T i place target (ask_taken u here)) (source T (ask_taken u here) u target) (unshown (ask_taken u here))
            (λ x there q r same. subst (Contains (root_keys T))
            (ap (λ (y : KeyName × KeyName). y.0) (same_Some (x.key, keyed place (given_kind target x)) (q, r) same))
            (passed.1 x there).0)
            (λ q r none. absurd cc))
        consented-root u (DelegateAsk parent object dst) mine awaited passed =
            cond_both (kernel_of T parent.vpe == i) _ _ Below
            (λ local.
            let near : kernel_of T parent.vpe ≡ i = eqb-true (kernel_of T parent.vpe) i local in
            let waits = delegate-waits parent (parked here parent.vpe) (awaited-waits T i (ask_taken u here) (DelegateAsk parent object dst) awaited near) in
            absurd (not-giving waits.0 (ap (λ w. parked (home T W w) w) (sym mine) ∙ (ap (λ j. parked (side W j) parent.vpe) near ∙ waits.1))))
            (λ far. unless-keeps Below (destination_tests (ask_taken u here) u dst) _ _ (λ code q r none. absurd cc) (λ q r none. absurd cc))

        upcall-root : (u : ℕ) → ActPasses T i here (Upcall u) → Rooted (upcall_row T i here u)
        unfolding upcall_row
        upcall-root u pass = option-keeps Rooted (λ (a : Ask). ask_decided T i u a (ask_taken u here)) (slice_get (row here u).asks 0) (unshown here)
            (λ a there. decided a (pass a there).0 (pass a there).1) (λ q r none. absurd cc)
          where
            asker-so : {w : ℕ} → ◌≡◌ {A = Option (ℕ × Consent)} (Some (w, Yes)) (Some (v, Yes)) → w ≡ v
            asker-so {w} same = ap (λ (y : ℕ × Consent). y.0) (same_Some (w, Yes) (v, Yes) same)

            decided : (a : Ask) → denies T u (asker a) ≡ false → (is_unawaited T i (ask_taken u here) a ≡ false → AskPasses T i (ask_taken u here) u a)
                → Rooted (ask_decided T i u a (ask_taken u here))
            decided a allowed passed =
                cond_both (is_unawaited T i (ask_taken u here) a) _ _ Rooted (λ _ q r none. absurd cc)
                (λ waited. cond_both (denies T u (asker a)) _ _ Rooted (λ denied. absurd (true≢false (sym denied ∙ allowed)))
                (λ _ q r same told. consented-root u a (asker-so told) waited (passed waited) q r same))

        pub root-gave : Contains (root_keys T) p
        unfolding local_step
        root-gave =
            let x = asked-act e.event.act (local_step T i here e.event.act (input_of W i e.event.act)).outcome detail-here in
            upcall-root x.0 (subst (ActPasses T i here) x.1 passes) p k
            (ap (λ a. (local_step T i here a (input_of W i a)).outcome.grant) (sym x.1) ∙ grant-here)
            (ap (λ a. (local_step T i here a (input_of W i a)).outcome.asked) (sym x.1) ∙ x.2)

      -- it has the number that the call drew
      pub granted-now : Contains (root_keys T) p → (m : ℕ) × (k.vpe ≡ v) × IsDrawnBy T J' v k.number m × ((row (home T W v) v).next_call ≡ m + 1)
      granted-now root = (y.0.index, vpe, subst (λ n. IsDrawnBy T J' v n y.0.index) number (drawn-more T J v con.place.number e y.0.index y.0.drawn), y.1)
        where
          g : (u : ℕ) × (e.event.act ≡ Upcall u) × IsConsent u k (local_step T i here e.event.act (input_of W i e.event.act))
          g = step-grants e.event.act refl p k grant-here root

          con : IsConsent g.0 k (local_step T i here e.event.act (input_of W i e.event.act))
          con = g.2

          asked-so : (local_step T i here e.event.act (input_of W i e.event.act)).outcome.asked ≡ Some (v, Yes)
          asked-so = (asked-act e.event.act (local_step T i here e.event.act (input_of W i e.event.act)).outcome detail-here).2

          place-vpe : con.place.vpe ≡ v
          place-vpe = ap (λ (y : ℕ × Consent). y.0) (same_Some (con.place.vpe, Yes) (v, Yes) (sym con.told ∙ asked-so))

          vpe : k.vpe ≡ v
          vpe = ap (λ (q : KeyName). q.vpe) con.key ∙ place-vpe

          number : con.place.number ≡ k.number
          number = ap (λ (q : KeyName). q.number) (sym con.key)

          awaited : (sel : ℕ) × (parked (home T W con.place.vpe) con.place.vpe ≡ Some (ObtainWait con.place.number sel))
          awaited = asks-awaited T S.setup J runs-so i g.0 con.place con.target (ask-among T g.0 (ObtainAsk con.place con.target) here con.head)
              (subst (λ w. is_alive (home T W w) w ≡ true) (sym place-vpe) (lives T S J runs-so v d at))

          y : (x : IsAsked T J v con.place.number awaited.0) × ((row (home T W v) v).next_call ≡ x.index + 1)
          y = (A v d at client).waits con.place.number awaited.0 (ap (λ w. kept (parked (home T W w) w)) (sym place-vpe) ∙ ap kept awaited.1)

    pub origins-next : HaveOrigins T J → HaveOrigins T J'
    origins-next old p k root among =
        elim (Contains-append_cases (grants J) (option_to_list e.grant) (p, k) (subst (λ gs. Contains gs (p, k)) (more-grants J e e.grant refl) among)) [
          | inl before ↦ more-origin T J e k (old p k root before)
          | inr now ↦ new-origin p k (in-option e.grant (p, k) now) root
        ]

pub start-origins : (T : Setup) → HaveOrigins T []
start-origins T p k root among = absurd (Contains-nil (p, k) among)
