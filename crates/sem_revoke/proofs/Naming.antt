-- What is granted is named, and what is granted within one kernel is never on its way.
use Rattle.std.proofs.Common.{◌≡◌, ◌≢◌, ℕ, ◌≤◌, ◌<◌, ◌++◌, true, Option, Some, None, slice_get, refl, ap, ◌∙◌, subst, arith}
use Rattle.std.specs.Prelude.{◌==◌}
use Rattle.std.specs.List.{Contains}
use Rattle.std.proofs.lemmas.Bool.{cond_both, eqb-false, eqb-true, and_parts}
use Rattle.std.proofs.lemmas.Option.{same_Some, slice_get_within, get_or_from_slice_get}
use Rattle.sem_key.specs.declared.object.Object.{Object}
use Rattle.sem_key.specs.declared.object.Object.TheVariants.{Send}
use Rattle.sem_key.specs.KeyName.{KeyName}
use Rattle.sem_key.specs.PlaceName.{PlaceName, keyed}
use Rattle.sem_key.specs.ObjectRanges.{object_kind}
use Rattle.sem_key.specs.Capability.{Capability}
use Rattle.sem_key.specs.CapList.{fresh}
use Rattle.sem_msg.specs.declared.call.Call.{Call}
use Rattle.sem_msg.specs.declared.call.Call.TheVariants.{Derive, Gate, Obtain, Delegate, OpenSession, AskOffer, Revoke, Bind, Read, Write, Send as SendCall}
use Rattle.sem_msg.specs.declared.call.Call.TheVariants.{Credit, Exit, Clear}
use Rattle.sem_msg.specs.declared.event.Act.{Act}
use Rattle.sem_msg.specs.declared.event.Act.TheVariants.{Call as Calls, Fetch, Handle, Upcall, Resume, Flush, Kill}
use Rattle.sem_msg.specs.declared.message.Message.{Message}
use Rattle.sem_msg.specs.declared.message.Message.TheVariants.{ObtainOk, Ack}
use Rattle.sem_msg.specs.declared.message.Target.{Target}
use Rattle.sem_msg.specs.declared.message.Target.TheVariants.{Serv as ServTarget, Offer as OfferTarget}
use Rattle.sem_msg.specs.declared.setup.Service.{Service}
use Rattle.sem_msg.specs.declared.state.Ask.{Ask}
use Rattle.sem_msg.specs.declared.state.Ask.TheVariants.{Obtain as ObtainAsk, Delegate as DelegateAsk}
use Rattle.sem_msg.specs.declared.state.Parked.{Parked}
use Rattle.sem_msg.specs.declared.state.Parked.TheVariants.{ObtainWait, ObtainReady, ObtainCancelled, DelegateWait, DelegateReady, RevokeWait, Ready}
use Rattle.sem_msg.specs.declared.state.Slot.TheVariants.{Held}
use Rattle.sem_msg.specs.Setup.{Setup, IsSetup}
use Rattle.sem_msg.specs.Lookups.{kernel_of, owner_of, place_owner, denies, service_named, is_declared_at}
use Rattle.sem_msg.specs.declared.code.Code.TheVariants.{NoCap, NoService, BadKind}
use Rattle.sem_machine.specs.Sides.{Side, row, cap, own, endpoint, parked, drawn, linked, installed, cap_added, call_counted, unparked, ask_taken, succeeding}
use Rattle.sem_machine.specs.Sides.{send}
use Rattle.sem_machine.specs.Steps.{Step, unshown, answer}
use Rattle.sem_machine.specs.Asks.{asker, is_unawaited}
use Rattle.sem_machine.specs.Calls.{own_tests, next_key, child_made, derive_tests, narrowed, gate_tests, ask_made, obtain_tests, open_tests, offer_tests}
use Rattle.sem_machine.specs.Calls.{delegate_tests, bind_tests, destination_tests, call_row}
use Rattle.sem_msg.specs.Uses.{memory_tests, send_tests, credit_tests}
use Rattle.sem_machine.specs.Upcalls.{source, source_tests, given, given_kind, given_here, child_given, parent_tests, delegate_here, consented, ask_decided}
use Rattle.sem_machine.specs.Upcalls.{upcall_row}
use Rattle.sem_machine.specs.Resumes.{delegate_granted, delegate_resumed, resumed, resume_row}
use Rattle.sem_machine.specs.Machine.{local_step, next_call, is_locally_enabled}
use Rattle.sem_machine.specs.Sound.{IsNamed, IsSoundCall, IsSoundAsk}
use Rattle.sem_machine.proofs.Folds.{option-keeps}
use Rattle.sem_machine.proofs.FirstCodes.{unless-keeps}
use Rattle.sem_safety.proofs.Lives.{at_side, lives, lives-added}
use Rattle.sem_machine.specs.Sound.{IsSound}
use Rattle.sem_sound.proofs.Named.{declared-kernel, own-declared}
use Rattle.sem_revoke.proofs.Viewing.{on_its_way}

module _ (T : Setup) (valid : IsSetup T) (i : ℕ) (few : i < T.kernels) (m : KeyName → ℕ) where
  -- what is on its way is bounded so
  abbrev Few : Side → Type 0
  Few t = (k : KeyName) → at_side k on_its_way t ≤ m k

  -- the child that a step grants is named, and if this kernel owns it, it is not sent
  abbrev pub Named : Step → Type 0
  Named x = (p k : KeyName) → ◌≡◌ {A = Option (KeyName × KeyName)} x.outcome.grant (Some (p, k)) → (is_declared_at T k.pe k.vpe ≡ true)
      × (owner_of T k ≡ i → at_side k on_its_way x.side ≤ m k)

  nothing : (t : Side) → Named (unshown t)
  nothing t = λ p k some. absurd cc

  one : (p0 k0 : KeyName) (t : Side) → (is_declared_at T k0.pe k0.vpe ≡ true) → (owner_of T k0 ≡ i → at_side k0 on_its_way t ≤ m k0) → (p k : KeyName) →
      ◌≡◌ {A = Option (KeyName × KeyName)} (Some (p0, k0)) (Some (p, k)) → (is_declared_at T k.pe k.vpe ≡ true)
      × (owner_of T k ≡ i → at_side k on_its_way t ≤ m k)
  one p0 k0 t declared less p k some =
      let pair : ◌≡◌ {A = KeyName × KeyName} (p0, k0) (p, k) = same_Some (p0, k0) (p, k) some in
      subst (λ z. (is_declared_at T z.pe z.vpe ≡ true) × (owner_of T z ≡ i → at_side z on_its_way t ≤ m z)) (ap (λ (g : KeyName × KeyName). g.1) pair)
      (declared, less)

  installed-few : (t : Side) (k : KeyName) (parent : Option KeyName) (sel : ℕ) (object : Object) → at_side k on_its_way t ≤ m k →
      at_side k on_its_way (installed k parent sel object t) ≤ m k
  installed-few t k parent sel object less =
      let L = lives k on_its_way (m k) in
      let c : Capability = fresh k parent sel object in
      let added = lives-added k on_its_way t c in
      L.keeps_slot (cap_added c t) (omega (arith, added, less)) k.vpe sel (Held k) refl

  own-kernel : (v : ℕ) → kernel_of T v ≡ i → kernel_of T v < T.kernels
  own-kernel v here = omega (arith, few, here)

  child-named : (v dst : ℕ) (object : Object) (parent : KeyName) (t : Side) → kernel_of T v ≡ i → Few t → Named (child_made T v dst object parent t)
  child-named v dst object parent t here bound =
      let k : KeyName = next_key T t v (object_kind object) in
      let L = lives k on_its_way (m k) in
      one parent k (installed k (Some parent) dst object (linked parent k (drawn v t))) (own-declared T valid v (own-kernel v here)).0
      (λ _. installed-few (linked parent k (drawn v t)) k (Some parent) dst object (L.keeps_linked (drawn v t) (L.keeps_drawn t (bound k) v) parent k tt))

  -- Calls.
  call-named : (t : Side) (v : ℕ) (c : Call) → kernel_of T v ≡ i → Few t → Named (call_row T i t v c)
  unfolding call_row
  call-named t v (Derive src dst off len rights) here bound = unless-keeps Named (derive_tests t v src dst off len rights) _ _ (λ code. nothing t)
      (option-keeps Named (λ (p : Capability). child_made T v dst (narrowed off len rights p.object) p.key t) (own t v src) (answer NoCap t)
      (λ p held. child-named v dst (narrowed off len rights p.object) p.key t here bound) (nothing t))
  call-named t v (Gate src dst label credits) here bound = unless-keeps Named (gate_tests t v src dst credits) _ _ (λ code. nothing t)
      (option-keeps Named (λ (p : Capability). child_made T v dst (Send p.key label credits) p.key t) (own t v src) (answer NoCap t)
      (λ p held. child-named v dst (Send p.key label credits) p.key t here bound) (nothing t))
  call-named t v (Obtain dst w src) here bound = unless-keeps Named (obtain_tests T i t v dst w) _ _ (λ code. nothing t) (λ p k some. absurd cc)
  call-named t v (Delegate src w dst) here bound = unless-keeps Named (delegate_tests T i t v src w) _ _ (λ code. nothing t)
      (option-keeps Named _ (own t v src) (answer NoCap t) (λ p held q k some. absurd cc) (nothing t))
  call-named t v (OpenSession dst name) here bound = unless-keeps Named (open_tests T i t v dst name) _ _ (λ code. nothing t)
      (option-keeps Named (λ (x : Service). ask_made T i v dst (ServTarget x.key) t) (service_named T name) (answer NoService t) (λ x there p k some. absurd cc)
      (nothing t))
  call-named t v (AskOffer dst session index) here bound = unless-keeps Named (offer_tests T i t v dst session) _ _ (λ code. nothing t)
      (option-keeps Named (λ (k : KeyName). ask_made T i v dst (OfferTarget k index) t) _ (answer BadKind t) (λ q there p k some. absurd cc) (nothing t))
  call-named t v (Revoke src) here bound = option-keeps Named _ (own t v src) (answer NoCap t) (λ p held q k some. absurd cc) (nothing t)
  call-named t v (Bind ep src) here bound =
      unless-keeps Named (bind_tests t v src) _ _ (λ code. nothing t) (option-keeps Named _ (own t v src) (answer NoCap t) (λ p held q k some. absurd cc)
      (nothing t))
  call-named t v (Read ep off len) here bound = unless-keeps Named (memory_tests 1 off len (endpoint t v ep)) _ _ (λ code. nothing t) (nothing t)
  call-named t v (Write ep off len) here bound = unless-keeps Named (memory_tests 2 off len (endpoint t v ep)) _ _ (λ code. nothing t) (nothing t)
  call-named t v (SendCall ep len) here bound = unless-keeps Named (send_tests (endpoint t v ep)) _ _ (λ code. nothing t) (λ p k some. absurd cc)
  call-named t v (Credit ep) here bound = unless-keeps Named (credit_tests (endpoint t v ep)) _ _ (λ code. nothing t) (λ p k some. absurd cc)
  call-named t v Exit here bound = λ p k some. absurd cc
  call-named t v (Clear src) here bound =
      unless-keeps Named (own_tests (own t v src)) _ _ (λ code. nothing t) (option-keeps Named _ (own t v src) (answer NoCap t) (λ p held q k some. absurd cc)
      (nothing t))

  -- Upcalls.
  given_here-few : (k p : KeyName) (object : Object) (state : Option Parked) (t : Side) → at_side k on_its_way t ≤ m k →
      at_side k on_its_way (given_here k p object state t) ≤ m k
  given_here-few k p object (Some (ObtainWait number sel)) t less =
      let L = lives k on_its_way (m k) in
      L.keeps_parked (installed k (Some p) sel object t) (installed-few t k (Some p) sel object less) k.vpe (Ready 0) tt
  given_here-few k p object None t less = less
  given_here-few k p object (Some (ObtainReady key parent object' sel)) t less = less
  given_here-few k p object (Some ObtainCancelled) t less = less
  given_here-few k p object (Some (DelegateWait parent)) t less = less
  given_here-few k p object (Some (DelegateReady parent key)) t less = less
  given_here-few k p object (Some (RevokeWait j)) t less = less
  given_here-few k p object (Some (Ready code)) t less = less

  given-named : (place : PlaceName) (target : Target) (t : Side) (p : Capability) → is_declared_at T place.pe place.vpe ≡ true → Few t →
      Named (child_given T i place target t p)
  given-named place target t p declared bound =
      let k : KeyName = keyed place (given_kind target p) in
      let object : Object = given target place.vpe p in
      let linking : Side = linked p.key k t in
      let L = lives k on_its_way (m k) in
      let less : at_side k on_its_way linking ≤ m k = L.keeps_linked t (bound k) p.key k tt in
      one p.key k (child_given T i place target t p).side declared
      (λ here. cond_both (kernel_of T place.vpe == i) (given_here k p.key object (parked linking place.vpe) linking)
      (send (place_owner T place) (ObtainOk p.key k object) linking) (λ u. at_side k on_its_way u ≤ m k)
      (λ _. given_here-few k p.key object (parked linking place.vpe) linking less)
      (λ away. absurd (eqb-false (kernel_of T place.vpe) i away (declared-kernel T place.pe place.vpe declared ∙ here))))

  here-named : (v : ℕ) (parent : KeyName) (object : Object) (sel : ℕ) (t : Side) → kernel_of T v ≡ i → Few t → Named (delegate_here T v parent object sel t)
  here-named v parent object sel t here bound =
      let k : KeyName = next_key T t v parent.kind in
      let L = lives k on_its_way (m k) in
      let linking : Side = linked parent k (drawn v t) in
      one parent k (succeeding parent.vpe (installed k (Some parent) sel object linking)) (own-declared T valid v (own-kernel v here)).0
      (λ _. L.keeps_parked (installed k (Some parent) sel object linking)
      (installed-few linking k (Some parent) sel object (L.keeps_linked (drawn v t) (L.keeps_drawn t (bound k) v) parent k tt)) parent.vpe (Ready 0) tt)

  consented-named : (v : ℕ) (a : Ask) (t : Side) → kernel_of T v ≡ i → IsSoundAsk T a → Few t → Named (consented T i v a t)
  consented-named v (ObtainAsk place target) t here sound bound =
      unless-keeps Named (source_tests target (source T t v target)) _ _ (λ code p k some. absurd cc)
      (option-keeps Named (child_given T i place target t) (source T t v target) (unshown t) (λ p held. given-named place target t p sound.0.1 bound) (nothing t))
  consented-named v (DelegateAsk parent object sel) t here sound bound =
      cond_both (kernel_of T parent.vpe == i) _ _ Named
      (λ _. unless-keeps Named (parent_tests (cap t parent) ++ destination_tests t v sel) _ _ (λ code p k some. absurd cc)
      (here-named v parent object sel t here bound))
      (λ _. unless-keeps Named (destination_tests t v sel) _ _ (λ code p k some. absurd cc) (λ p k some. absurd cc))

  upcall-named : (t : Side) (v : ℕ) → kernel_of T v ≡ i → ((a : Ask) → Contains (row t v).asks a → IsSoundAsk T a) → Few t → Named (upcall_row T i t v)
  unfolding upcall_row
  upcall-named t v here asks bound = option-keeps Named (λ (a : Ask). ask_decided T i v a (ask_taken v t)) (slice_get (row t v).asks 0) (unshown t)
      (λ a there. cond_both (is_unawaited T i (ask_taken v t) a) _ _ Named (λ _ p k some. absurd cc)
      (λ _. cond_both (denies T v (asker a)) _ _ Named (λ _ p k some. absurd cc)
      (λ _. consented-named v a (ask_taken v t) here (asks a (0, slice_get_within (row t v).asks 0 a there, get_or_from_slice_get (row t v).asks 0 a a there))
      (λ k. (lives k on_its_way (m k)).keeps_taken t (bound k) v))))
      (nothing t)

  -- Parked calls.
  resumed-named : (p : Option Parked) (v : ℕ) (t : Side) → ((q : Parked) → p ≡ Some q → IsSoundCall T i v q) → Named (resumed T p t)
  resumed-named (Some (Ready code)) v t sound = λ p k some. absurd cc
  resumed-named (Some (ObtainReady key parent object sel)) v t sound = λ p k some. absurd cc
  resumed-named (Some ObtainCancelled) v t sound = λ p k some. absurd cc
  resumed-named (Some (DelegateReady parent key)) v t sound = from (cap t parent)
    where
      is : (parent.vpe ≡ v) × (IsNamed T parent × (owner_of T parent ≡ i)) × (IsNamed T key × (owner_of T key ≢ i))
      is = sound (DelegateReady parent key) refl

      by_mark : (mark : Option ℕ) → Named (delegate_granted T parent key mark t)
      by_mark None = one parent key (send (owner_of T key) (Ack key true) (linked parent key t)) is.2.0.1 (λ here. absurd (is.2.1 here))
      by_mark (Some j) = λ p k some. absurd cc

      from : (o : Option Capability) → Named (delegate_resumed T parent key o t)
      from None = λ p k some. absurd cc
      from (Some c) = by_mark c.mark
  resumed-named None v t sound = nothing t
  resumed-named (Some (ObtainWait number sel)) v t sound = nothing t
  resumed-named (Some (DelegateWait parent)) v t sound = nothing t
  resumed-named (Some (RevokeWait j)) v t sound = nothing t

  pub step-named : (s : Side) (a : Act) (input : Option Message) → IsSound T i s → is_locally_enabled T i s a ≡ true → Few s → Named (local_step T i s a input)
  unfolding local_step is_locally_enabled resume_row
  step-named s (Calls v) input sound enabled bound = option-keeps Named (call_row T i (call_counted v s) v) (next_call T s v) (unshown s)
      (λ c there. call-named (call_counted v s) v c (eqb-true (kernel_of T v) i (and_parts (kernel_of T v == i) _ enabled).0)
      (λ k. (lives k on_its_way (m k)).keeps_counted s (bound k) v)) (nothing s)
  step-named s (Fetch from) input sound enabled bound = λ p k some. absurd cc
  step-named s Handle input sound enabled bound = λ p k some. absurd cc
  step-named s (Upcall v) input sound enabled bound = upcall-named s v (eqb-true (kernel_of T v) i (and_parts (kernel_of T v == i) _ enabled).0)
      (sound.rows v).asks bound
  step-named s (Resume v) input sound enabled bound = resumed-named (parked s v) v (unparked v s) (λ q is. (sound.calls v q is).1)
  step-named s (Flush to) input sound enabled bound = λ p k some. absurd cc
  step-named s (Kill v) input sound enabled bound = λ p k some. absurd cc
