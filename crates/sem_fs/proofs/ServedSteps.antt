-- A step whose tests pass leaves no refusal, and replies with success.
use Rattle.std.proofs.Common.{◌≡◌, ℕ, ◌≤◌, Bool, true, false, List, [], ◌∷◌, ◌++◌, drop, Option, Some, None, slice_get, refl, sym, ap, ◌∙◌, subst, inl, inr}
use Rattle.std.proofs.Common.{get_or}
use Rattle.std.specs.Prelude.{◌==◌}
use Rattle.std.specs.List.{Contains}
use Rattle.std.specs.Option.{option_map, option_map_or, option_and_then}
use Rattle.std.proofs.lemmas.Bool.{cases_eq, cond_both, cond-false, true≢false}
use Rattle.std.proofs.lemmas.Option.{same_Some, slice_get_within, get_or_from_slice_get}
use Rattle.sem_key.specs.declared.key.Kind.TheVariants.{Mem as MemKind}
use Rattle.sem_key.specs.KeyName.{KeyName}
use Rattle.sem_key.specs.PlaceName.{PlaceName}
use Rattle.sem_key.specs.Capability.{Capability}
use Rattle.sem_key.specs.Lists.{put}
use Rattle.sem_key.proofs.Members.{Contains-tail}
use Rattle.sem_key.proofs.Puts.{get_or-put_same, get_or-put_other}
use Rattle.sem_msg.specs.declared.call.Call.{Call}
use Rattle.sem_msg.specs.declared.call.Call.TheVariants.{Derive, Gate, Obtain, Delegate, OpenSession, AskOffer, Revoke, Bind, Read as ReadCall}
use Rattle.sem_msg.specs.declared.call.Call.TheVariants.{Write as WriteCall, Send as SendCall, Credit, Exit, Clear}
use Rattle.sem_msg.specs.declared.code.Code.{Code}
use Rattle.sem_msg.specs.declared.code.Code.TheVariants.{Ok as OkCode, NoService, BadKind}
use Rattle.sem_msg.specs.declared.event.Act.{Act}
use Rattle.sem_msg.specs.declared.event.Act.TheVariants.{Call as Calls, Fetch, Handle, Upcall, Resume, Flush, Kill}
use Rattle.sem_msg.specs.declared.message.Message.{Message}
use Rattle.sem_msg.specs.declared.message.Target.{Target}
use Rattle.sem_msg.specs.declared.message.Target.TheVariants.{Serv as ServTarget, Offer as OfferTarget}
use Rattle.sem_msg.specs.declared.setup.Service.{Service}
use Rattle.sem_msg.specs.declared.state.Ask.{Ask}
use Rattle.sem_msg.specs.declared.state.Ask.TheVariants.{Obtain as ObtainAsk, Delegate as DelegateAsk}
use Rattle.sem_msg.specs.Setup.{Setup}
use Rattle.sem_msg.specs.Lookups.{kernel_of, service_named, denies}
use Rattle.sem_msg.specs.Uses.{memory_tests}
use Rattle.sem_machine.specs.Sides.{Side, row, own, cap, parked, endpoint, outbox, call_counted, ask_taken, with_endpoint, with_inbox, sent}
use Rattle.sem_machine.specs.Asks.{asker, is_unawaited, ask_refused}
use Rattle.sem_machine.specs.Steps.{Step, unshown, answer, cutting, unless}
use Rattle.sem_machine.specs.Calls.{call_row, next_place, open_tests, offer_tests, delegate_tests, bind_tests, destination_tests, session_service, with_held}
use Rattle.sem_machine.specs.Calls.{ask_made, offer_made}
use Rattle.sem_machine.specs.Upcalls.{source, source_tests, child_given, parent_tests, delegate_here, delegate_prepared, consented, ask_decided, upcall_row}
use Rattle.sem_machine.specs.Revokes.{revoke_begun}
use Rattle.sem_machine.specs.Handles.{is_stray, handled}
use Rattle.sem_machine.specs.Journals.{root_keys}
use Rattle.sem_machine.specs.Machine.{next_call, local_step}
use Rattle.sem_machine.proofs.FirstCodes.{Passed}
use Rattle.sem_machine.proofs.Folds.{option-keeps}
use Rattle.sem_files.specs.Compiled.{service_key}
use Rattle.sem_fs.specs.Service.{GIVEN}
use Rattle.sem_fs.specs.Serving.{MayBeAskedFor, IsAskBy, IsMessageBy, IsSideBy}
use Rattle.sem_fs.proofs.ServedRows.{Succeeds, IsGrantable, IsReceived, served-counted, served-taken, served-inbox, ask-served, offer-served, revoke-served}
use Rattle.sem_fs.proofs.ServedRows.{given-served, here-served, prepared-served, resume-served, handled-served}

-- where no test holds, the step is done
pub passed-done : (tests : List (Bool × Code)) (refuse : Code → Step) (done : Step) → Passed tests → unless tests refuse done ≡ done
unfolding unless
passed-done [] refuse done all = refl
passed-done (test ∷ tests) refuse done all = cond-false test.0 (refuse test.1) (unless tests refuse done) all.0 ∙ passed-done tests refuse done all.1

-- The tests of a call pass.
abbrev pub CallPasses : Setup → ℕ → Side → ℕ → Call → Type 0
CallPasses T i s v (OpenSession dst name) = Passed (open_tests T i s v dst name) × ((x : Service) × (service_named T name ≡ Some x) × (x.key ≡ service_key))
CallPasses T i s v (AskOffer dst session index) =
    Passed (offer_tests T i s v dst session) × MayBeAskedFor T (OfferTarget service_key index)
    × ((c : Capability) × (own s v session ≡ Some c) × (session_service c.object ≡ Some service_key))
CallPasses T i s v (Delegate src w dst) = Passed (delegate_tests T i s v src w) × (GIVEN ≤ dst) × ((c : Capability) × (own s v src ≡ Some c))
CallPasses T i s v (Revoke src) = (c : Capability) × (own s v src ≡ Some c)
CallPasses T i s v (Bind ep src) = Passed (bind_tests s v src) × ((c : Capability) × (own s v src ≡ Some c))
CallPasses T i s v (ReadCall ep off len) = Passed (memory_tests 1 off len (endpoint s v ep))
CallPasses T i s v (WriteCall ep off len) = Passed (memory_tests 2 off len (endpoint s v ep))
CallPasses T i s v (Derive src dst off len rights) = ⊥
CallPasses T i s v (Gate src dst label credits) = ⊥
CallPasses T i s v (Obtain dst w src) = ⊥
CallPasses T i s v (SendCall ep len) = ⊥
CallPasses T i s v (Credit ep) = ⊥
CallPasses T i s v Exit = ⊥
CallPasses T i s v (Clear src) = ⊥

-- what is offered is memory
abbrev pub IsOffered : Target → KeyName → Type 0
IsOffered (OfferTarget service index) k = k.kind ≡ MemKind
IsOffered target k = Unit {0}

-- The tests of an ask pass.
abbrev pub AskPasses : Setup → ℕ → Side → ℕ → Ask → Type 0
AskPasses T i s v (ObtainAsk place target) =
    Passed (source_tests target (source T s v target))
    × ((p : Capability) → source T s v target ≡ Some p → Contains (root_keys T) p.key × IsOffered target p.key)
AskPasses T i s v (DelegateAsk parent object sel) =
    ((kernel_of T parent.vpe == i) ≡ true → Passed (parent_tests (cap s parent) ++ destination_tests s v sel))
    × ((kernel_of T parent.vpe == i) ≡ false → Passed (destination_tests s v sel))

-- The tests of an act pass.
abbrev pub ActPasses : Setup → ℕ → Side → Act → Type 0
ActPasses T i s (Calls v) = (c : Call) → next_call T s v ≡ Some c → CallPasses T i (call_counted v s) v c
ActPasses T i s (Upcall v) = (a : Ask) → slice_get (row s v).asks 0 ≡ Some a → (denies T v (asker a) ≡ false)
    × (is_unawaited T i (ask_taken v s) a ≡ false → AskPasses T i (ask_taken v s) v a)
ActPasses T i s (Resume v) = IsGrantable T s (parked s v)
ActPasses T i s Handle = (from : ℕ) (m : Message) → s.inbox ≡ Some (from, m) → is_stray T i (with_inbox None s) m ≡ false → IsReceived T (with_inbox None s) m
ActPasses T i s (Fetch j) = Unit {0}
ActPasses T i s (Flush j) = Unit {0}
ActPasses T i s (Kill v) = ⊥

module _ (T : Setup) where
  pub ask-among : (u : ℕ) (a : Ask) (s : Side) → slice_get (row s u).asks 0 ≡ Some a → Contains (row s u).asks a
  ask-among u a s there = (0, slice_get_within (row s u).asks 0 a there, get_or_from_slice_get (row s u).asks 0 a a there)

-- a call asks for that target
abbrev pub AsksFor : Call → Target → Type 0
AsksFor (OpenSession dst name) (ServTarget service) = Unit {0}
AsksFor (AskOffer dst session index) (OfferTarget service index') = index ≡ index'
AsksFor c target = ⊥

module _ (T : Setup) (A : PlaceName → Target → Type 0) (serves : (place : PlaceName) (target : Target) → A place target → MayBeAskedFor T target) where
  abbrev P : Side → Type 0
  P s = IsSideBy T A s

  abbrev Good : Step → Type 0
  Good x = Succeeds T A serves x

  silent : (x : Side) → P x → Good (unshown x)
  silent x is = (is, λ code none. absurd cc)

  well : (s : Side) → P s → Good (answer OkCode s)
  well s is = (is, λ code same. sym (same_Some 0 code same))

  -- what a call asks for is asked for by the place that it draws
  abbrev pub Asks : Side → ℕ → Call → Type 0
  Asks s v c = (target : Target) → MayBeAskedFor T target → AsksFor c target → A (next_place T s v) target

  pub call-succeeds : (i v : ℕ) (s : Side) (c : Call) → P s → Asks s v c → CallPasses T i s v c → Good (call_row T i s v c)
  unfolding call_row
  call-succeeds i v s (OpenSession dst name) is asks (passed, (x, named, key)) =
      let done : Step = ask_made T i v dst (ServTarget x.key) s in
      let one = passed-done (open_tests T i s v dst name) (λ code. answer code s)
      (option_map_or (λ (y : Service). ask_made T i v dst (ServTarget y.key) s) (service_named T name) (answer NoService s)) passed in
      let two : option_map_or (λ (y : Service). ask_made T i v dst (ServTarget y.key) s) (service_named T name) (answer NoService s) ≡ done =
      ap (λ o. option_map_or (λ (y : Service). ask_made T i v dst (ServTarget y.key) s) o (answer NoService s)) named in
      subst Good (sym (one ∙ two)) (ask-served T A serves i v dst (ServTarget x.key) s is (asks (ServTarget x.key) key tt), λ code none. absurd cc)
  call-succeeds i v s (AskOffer dst session index) is asks (passed, so, (c, held, with_server)) =
      let f : KeyName → Step = λ k. ask_made T i v dst (OfferTarget k index) s in
      let done : Step = f service_key in
      let one = passed-done (offer_tests T i s v dst session) (λ code. answer code s)
      (option_map_or f (option_and_then (λ (y : Capability). session_service y.object) (own s v session)) (answer BadKind s)) passed in
      let two : option_map_or f (option_and_then (λ (y : Capability). session_service y.object) (own s v session)) (answer BadKind s) ≡ done =
      ap (λ o. option_map_or f (option_and_then (λ (y : Capability). session_service y.object) o) (answer BadKind s)) held
      ∙ ap (λ o. option_map_or f o (answer BadKind s)) with_server in
      subst Good (sym (one ∙ two))
      (ask-served T A serves i v dst (OfferTarget service_key index) s is (asks (OfferTarget service_key index) so refl), λ code none. absurd cc)
  call-succeeds i v s (Delegate src w dst) is asks (passed, far, (c, held)) =
      let f : Capability → Step = λ p. offer_made T i v w dst p s in
      let one = passed-done (delegate_tests T i s v src w) (λ code. answer code s) (with_held (own s v src) f s) passed in
      let two : with_held (own s v src) f s ≡ f c = ap (λ o. with_held o f s) held in
      subst Good (sym (one ∙ two)) (offer-served T A serves i v w dst c s is far, λ code none. absurd cc)
  call-succeeds i v s (Revoke src) is asks (c, held) =
      let f : Capability → Step = λ y. cutting y.key (unshown (revoke_begun T i v y.key y.mark s)) in
      let two : with_held (own s v src) f s ≡ f c = ap (λ o. with_held o f s) held in
      subst Good (sym two) (revoke-served T A serves i v c.key c.mark s is, λ code none. absurd cc)
  call-succeeds i v s (Bind ep src) is asks (passed, (c, held)) =
      let f : Capability → Step = λ y. answer OkCode (with_endpoint v ep (Some (record { key = y.key; object = y.object; ring = [] })) s) in
      let one = passed-done (bind_tests s v src) (λ code. answer code s) (with_held (own s v src) f s) passed in
      let two : with_held (own s v src) f s ≡ f c = ap (λ o. with_held o f s) held in
      subst Good (sym (one ∙ two))
      (record { asks = is.asks; calls = is.calls; pendings = is.pendings; outs = is.outs; inbox = is.inbox }, λ code same. sym (same_Some 0 code same))
  call-succeeds i v s (ReadCall ep off len) is asks passed = subst Good
      (sym (passed-done (memory_tests 1 off len (endpoint s v ep)) (λ code. answer code s) (answer OkCode s) passed)) (well s is)
  call-succeeds i v s (WriteCall ep off len) is asks passed = subst Good
      (sym (passed-done (memory_tests 2 off len (endpoint s v ep)) (λ code. answer code s) (answer OkCode s) passed)) (well s is)
  call-succeeds i v s (Derive src dst off len rights) is asks passed = absurd passed
  call-succeeds i v s (Gate src dst label credits) is asks passed = absurd passed
  call-succeeds i v s (Obtain dst w src) is asks passed = absurd passed
  call-succeeds i v s (SendCall ep len) is asks passed = absurd passed
  call-succeeds i v s (Credit ep) is asks passed = absurd passed
  call-succeeds i v s Exit is asks passed = absurd passed
  call-succeeds i v s (Clear src) is asks passed = absurd passed

  -- Upcalls.

  consent-succeeds : (i v : ℕ) (a : Ask) (s : Side) → P s → IsAskBy A v a → AskPasses T i s v a → Good (consented T i v a s)
  consent-succeeds i v (ObtainAsk place target) s is so (passed, from) =
      subst Good (sym (passed-done (source_tests target (source T s v target)) (λ code. unshown (ask_refused T i code (ObtainAsk place target) s))
      (option_map_or (child_given T i place target s) (source T s v target) (unshown s)) passed))
      (option-keeps Good (child_given T i place target s) (source T s v target) (unshown s)
      (λ p there. (given-served T A serves i place target s p is (from p there).0, λ code none. absurd cc)) (silent s is))
  consent-succeeds i v (DelegateAsk parent object sel) s is so (here, far) =
      cond_both (kernel_of T parent.vpe == i) _ _ Good
      (λ at. subst Good (sym
      (passed-done (parent_tests (cap s parent) ++ destination_tests s v sel) (λ code. unshown (ask_refused T i code (DelegateAsk parent object sel) s))
      (delegate_here T v parent object sel s) (here at))) (here-served T A serves v parent object sel s is, λ code none. absurd cc))
      (λ at. subst Good (sym
      (passed-done (destination_tests s v sel) (λ code. unshown (ask_refused T i code (DelegateAsk parent object sel) s))
      (delegate_prepared T v parent object sel s)
      (far at))) (prepared-served T A serves v parent object sel s is so, λ code none. absurd cc))

  decided-succeeds : (i v : ℕ) (a : Ask) (s : Side) → P s → IsAskBy A v a → denies T v (asker a) ≡ false → (is_unawaited T i s a ≡ false → AskPasses T i s v a)
      → Good (ask_decided T i v a s)
  decided-succeeds i v a s is so allowed passes =
      cond_both (is_unawaited T i s a) _ _ Good (λ _. (is, λ code none. absurd cc))
      (λ waited. cond_both (denies T v (asker a)) _ _ Good (λ denied. absurd (true≢false (sym denied ∙ allowed)))
      (λ _. let x = consent-succeeds i v a s is so (passes waited) in (x.0, x.1)))

  upcall-succeeds : (i v : ℕ) (s : Side) → P s → ActPasses T i s (Upcall v) → Good (upcall_row T i s v)
  unfolding upcall_row
  upcall-succeeds i v s is passes = option-keeps Good (λ (a : Ask). ask_decided T i v a (ask_taken v s)) (slice_get (row s v).asks 0) (unshown s)
      (λ a there. let p = passes a there in
      decided-succeeds i v a (ask_taken v s) (served-taken T A serves s is v) (is.asks v a (ask-among T v a s there)) p.0 p.1)
      (silent s is)

  -- Whole steps. A fetch takes in a message that refuses nothing.
  abbrev pub IsServedInput : Option Message → Type 0
  IsServedInput None = Unit {0}
  IsServedInput (Some m) = IsMessageBy T A m

  -- what the call of an act asks for
  abbrev pub ActAsks : Side → Act → Type 0
  ActAsks s (Calls v) = (c : Call) → next_call T s v ≡ Some c → Asks (call_counted v s) v c
  ActAsks s a = Unit {0}

  pub step-succeeds : (i : ℕ) (s : Side) (a : Act) (input : Option Message) → P s → IsServedInput input → ActAsks s a → ActPasses T i s a
      → Good (local_step T i s a input)
  unfolding local_step
  step-succeeds i s (Calls v) input is brings asks passes = option-keeps Good (call_row T i (call_counted v s) v) (next_call T s v) (unshown s)
      (λ c there. call-succeeds i v (call_counted v s) c (served-counted T A serves s is v) (asks c there) (passes c there)) (silent s is)
  step-succeeds i s (Upcall v) input is brings asks passes = upcall-succeeds i v s is passes
  step-succeeds i s (Resume v) input is brings asks passes = resume-served T A serves s v is passes
  step-succeeds i s Handle input is brings asks passes = from s.inbox refl
    where
      from : (o : Option (ℕ × Message)) → s.inbox ≡ o → Good (unshown (option_map_or (λ m. handled T i (with_inbox None s) m.0 m.1) o s))
      from None none = silent s is
      from (Some m) some = (
        handled-served T A serves i (with_inbox None s) m.0 m.1 (served-inbox T A serves s is None (λ f q none. absurd cc)) (is.inbox m.0 m.1 some)
            (passes m.0 m.1 some),
        λ code none. absurd cc,
      )
  step-succeeds i s (Fetch j) input is brings asks passes =
      (served-inbox T A serves s is (option_map {U = ℕ × Message} (λ m. (j, m)) input) (from input brings), λ code none. absurd cc)
    where
      from : (o : Option Message) → IsServedInput o → (f : ℕ) (m : Message) → option_map {U = ℕ × Message} (λ q. (j, q)) o ≡ Some (f, m) → IsMessageBy T A m
      from None brings f m none = absurd cc
      from (Some q) brings f m same = subst (IsMessageBy T A) (ap (λ (y : ℕ × Message). y.1) (same_Some (j, q) (f, m) same)) brings
  step-succeeds i s (Flush j) input is brings asks passes = (sent-served, λ code none. absurd cc)
    where
      later : (ms : List Message) (m : Message) → Contains (drop 1 ms) m → Contains ms m
      later [] m among = among
      later (x ∷ ms) m among = Contains-tail x ms m among

      sent-served : P (sent j s)
      sent-served = record {
        asks = is.asks;
        calls = is.calls;
        pendings = is.pendings;
        outs = λ k m among. elim (cases_eq k j) [
          | inl same ↦
              let at : get_or (put [] s.outs j (drop 1 (outbox s j))) k [] ≡ drop 1 (outbox s j) =
              ap (λ n. get_or (put [] s.outs j (drop 1 (outbox s j))) n []) same
              ∙ get_or-put_same [] s.outs j (drop 1 (outbox s j)) in
              is.outs j m (later (outbox s j) m (subst (λ ms. Contains ms m) at among))
          | inr other ↦ is.outs k m (subst (λ ms. Contains ms m) (get_or-put_other [] s.outs j k (drop 1 (outbox s j)) other) among)
        ];
        inbox = is.inbox;
      }
  step-succeeds i s (Kill v) input is brings asks passes = absurd passes
