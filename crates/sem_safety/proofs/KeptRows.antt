-- Calls and the ends of VPEs keep a layer.
use Rattle.sem_machine.proofs.FirstCodes.{unless-keeps, unless-passed, unmarked-own}
use Rattle.std.proofs.lemmas.Bool.{eqb-true}
use Rattle.sem_key.proofs.Members.{Contains-from_filter}
use Rattle.std.proofs.Common.{refl, ◌≡◌, ℕ, ◌<◌, ◌≤◌, ◌++◌, false, [], ◌∷◌, Option, Some, None, arith}
use Rattle.std.specs.Prelude.{◌==◌}
use Rattle.std.specs.Option.{option_map_or}
use Rattle.std.proofs.lemmas.Bool.{cond_both}
use Rattle.sem_key.specs.declared.object.Object.{Object}
use Rattle.sem_key.specs.declared.object.Object.TheVariants.{Send}
use Rattle.sem_key.specs.ObjectRanges.{object_kind}
use Rattle.sem_key.specs.KeyName.{KeyName}
use Rattle.sem_key.specs.PlaceName.{PlaceName}
use Rattle.sem_key.specs.Lists.{in_turn}
use Rattle.sem_key.specs.Capability.{Capability}
use Rattle.sem_msg.specs.declared.call.Call.{Call}
use Rattle.sem_msg.specs.declared.call.Call.TheVariants.{Derive, Gate, Obtain, Delegate, OpenSession, AskOffer, Revoke, Bind, Read, Write, Send as SendCall}
use Rattle.sem_msg.specs.declared.call.Call.TheVariants.{Credit, Exit, Clear}
use Rattle.sem_msg.specs.declared.message.Target.{Target}
use Rattle.sem_msg.specs.declared.message.Target.TheVariants.{Sel as SelTarget, Serv as ServTarget, Offer as OfferTarget}
use Rattle.sem_msg.specs.declared.message.Message.TheVariants.{ObtainReq, ObtainNo, DelegateReq, DelegateNo, Ack, Orphan}
use Rattle.sem_msg.specs.declared.setup.Service.{Service}
use Rattle.sem_msg.specs.declared.state.Ask.{Ask}
use Rattle.sem_msg.specs.declared.state.Ask.TheVariants.{Obtain as ObtainAsk, Delegate as DelegateAsk}
use Rattle.sem_msg.specs.declared.state.Parked.{Parked}
use Rattle.sem_msg.specs.declared.state.Parked.TheVariants.{ObtainWait, ObtainReady, ObtainCancelled, DelegateWait, DelegateReady, RevokeWait, Ready}
use Rattle.sem_msg.specs.declared.state.Slot.{Slot}
use Rattle.sem_msg.specs.declared.state.Slot.TheVariants.{Free, Held, Promised}
use Rattle.sem_msg.specs.Setup.{Setup}
use Rattle.sem_msg.specs.Lookups.{kernel_of, owner_of, place_owner, service_named}
use Rattle.sem_msg.specs.declared.code.Code.{Code}
use Rattle.sem_msg.specs.Codes.{code_number}
use Rattle.sem_msg.specs.declared.code.Code.TheVariants.{NoCap, NoService, BadKind, Dead}
use Rattle.sem_machine.specs.Sides.{Side, row, cap, cap_in, own, slot, endpoint, parked, drawn, promised, parked_as, unparked, asked, buried, linked, send}
use Rattle.sem_machine.specs.Steps.{Step, answer}
use Rattle.sem_machine.specs.Asks.{target_vpe, asker, is_unawaited, promise_freed, call_refused, refusal_sent, ask_refused}
use Rattle.sem_machine.specs.Revokes.{begin}
use Rattle.sem_msg.specs.Uses.{memory_tests, send_tests, credit_tests}
use Rattle.sem_machine.specs.Ends.{ask_ended, call_ended, revoked_if_left, ended}
use Rattle.sem_machine.specs.Calls.{own_tests, next_key, next_place, child_made, with_held, derive_tests, narrowed, gate_tests, ask_made, obtain_tests}
use Rattle.sem_machine.specs.Calls.{open_tests, offer_tests, delegate_tests, offer_made, bind_tests, call_row}
use Rattle.sem_safety.proofs.Layers.{InGrant}
use Rattle.sem_safety.specs.Onward.{IsOnward}
use Rattle.sem_safety.proofs.Onwards.{onward-same, onward, drawn-below}
use Rattle.sem_safety.proofs.Layers.{Facts, InCut, IsKept}
use Rattle.sem_machine.proofs.Folds.{in_turn-keeps, in_turn-keeps_each}
use Rattle.sem_machine.proofs.Folds.{option-keeps}
use Rattle.sem_safety.proofs.KeptRevokes.{installed-in, freed-in, ready-in, begin-in, begun-in, cleared-in}

-- what has the object of the grant has that one
abbrev pub Gives : Facts → Object → Type 0
Gives F object = (k : KeyName) → F.key k F.given → F.key k object

-- the object of what a call grants, and that the VPE may ask, or end
abbrev pub CallGives : Facts → Side → ℕ → Call → Type 0
CallGives F s v (Derive src dst off len rights) = (p : Capability) → own s v src ≡ Some p → Gives F (narrowed off len rights p.object)
CallGives F s v (Gate src dst label credits) = (p : Capability) → own s v src ≡ Some p → Gives F (Send p.key label credits)
CallGives F s v (Obtain dst w src) = F.calls v
CallGives F s v (OpenSession dst name) = F.calls v
CallGives F s v (AskOffer dst session index) = F.calls v
CallGives F s v Exit = F.ends v
CallGives F s v c = Unit {0}

module _ (F : Facts) (D : ℕ → Type 0) (P : Side → Type 0) (L : IsKept F P) where
  -- what is known of a step of the side s: the grant, the numbers that are drawn in it, and the key that it cuts have the facts
  abbrev pub Hand : Side → Step → Type 0
  Hand s x = InGrant F x.outcome.grant × ((v n : ℕ) → D v → (row s v).next_number ≤ n → n < (row x.side v).next_number → F.place v n) × InCut F x.outcome.cut

  -- the step keeps the fact
  abbrev pub Keeps : Side → Step → Type 0
  Keeps s x = Hand s x → P x.side

  -- what is kept from a later side on is kept
  pub keeps-later : (s t : Side) (x : Step) → IsOnward s t → Keeps t x → Keeps s x
  keeps-later s t x on keeps = λ hand. keeps (hand.0, λ v n may low below. hand.1 v n may (let first = on.numbers v in omega (arith, first, low)) below, hand.2)

  -- A refused ask.
  promise_freed-in : (p : Option Parked) (v : ℕ) (s : Side) → P s → P (promise_freed p v s)
  promise_freed-in None v s is = is
  promise_freed-in (Some (ObtainWait number sel)) v s is = freed-in F P L s is v sel
  promise_freed-in (Some (ObtainReady key parent object sel)) v s is = is
  promise_freed-in (Some ObtainCancelled) v s is = is
  promise_freed-in (Some (DelegateWait parent)) v s is = is
  promise_freed-in (Some (DelegateReady parent key)) v s is = is
  promise_freed-in (Some (RevokeWait j)) v s is = is
  promise_freed-in (Some (Ready code)) v s is = is

  pub call_refused-in : (number v : ℕ) (s : Side) → P s → P (call_refused number v s)
  call_refused-in number v s is = ready-in F P L (promise_freed (parked s v) v s) (promise_freed-in (parked s v) v s is) number v

  refusal_sent-in : (T : Setup) (code : Code) (a : Ask) (s : Side) → P s → P (refusal_sent T code a s)
  refusal_sent-in T code (ObtainAsk place target) s is = L.keeps_send s is (place_owner T place) (ObtainNo place (code_number code)) tt
  refusal_sent-in T code (DelegateAsk parent object sel) s is = L.keeps_send s is (owner_of T parent) (DelegateNo parent (code_number code)) tt

  pub ask_refused-in : (T : Setup) (i : ℕ) (code : Code) (a : Ask) (s : Side) → P s → P (ask_refused T i code a s)
  ask_refused-in T i code a s is = cond_both (kernel_of T (asker a) == i) (call_refused (code_number code) (asker a) s) (refusal_sent T code a s) P
      (λ _. call_refused-in (code_number code) (asker a) s is) (λ _. refusal_sent-in T code a s is)

  -- The end of a VPE.
  pub ask_ended-in : (T : Setup) (i : ℕ) (a : Ask) (s : Side) → P s → P (ask_ended T i a s)
  ask_ended-in T i a s is = cond_both (is_unawaited T i s a) s (ask_refused T i Dead a s) P (λ _. is) (λ _. ask_refused-in T i Dead a s is)

  pub call_ended-in : (T : Setup) (p : Option Parked) (v : ℕ) (s : Side) → P s → P (call_ended T p v s)
  call_ended-in T None v s is = is
  call_ended-in T (Some (ObtainWait number sel)) v s is = is
  call_ended-in T (Some (ObtainReady key parent object sel)) v s is = L.keeps_send s is (owner_of T parent) (Orphan parent key) tt
  call_ended-in T (Some ObtainCancelled) v s is = is
  call_ended-in T (Some (DelegateWait parent)) v s is = is
  call_ended-in T (Some (DelegateReady parent key)) v s is = L.keeps_send s is (owner_of T key) (Ack key false) tt
  call_ended-in T (Some (RevokeWait j)) v s is = L.keeps_left s is j v
  call_ended-in T (Some (Ready code)) v s is = is

  -- the capability, revoked if it is there and not marked
  abbrev revoked_if_there : Setup → ℕ → KeyName → Option Capability → Side → Side
  revoked_if_there T i k None s = s
  revoked_if_there T i k (Some c) s = option_map_or (λ m. s) c.mark (begin T i k None [] false s)

  pub revoked_if_there-in : (T : Setup) (i : ℕ) (k : KeyName) (o : Option Capability) (s : Side) → P s → F.doomed k → P (revoked_if_there T i k o s)
  revoked_if_there-in T i k None s is doomed = is
  revoked_if_there-in T i k (Some c) s is doomed = option-keeps P (λ (m : ℕ). s) c.mark (begin T i k None [] false s) (λ m marked. is)
      (begin-in F P L T i k None [] false s is doomed)

  pub ended-in : (T : Setup) (i v : ℕ) (s : Side) → P s → ((k : KeyName) → k.vpe ≡ v → F.doomed k) → F.ends v → P (ended T i v s)
  unfolding ended
  ended-in T i v s is dies ends =
      let told = in_turn-keeps P (ask_ended T i) (λ a t here. ask_ended-in T i a t here) (row s v).asks (buried v s) (L.keeps_buried s is v ends) in
      let left = call_ended-in T (parked (in_turn (ask_ended T i) (row s v).asks (buried v s)) v) v
      (unparked v (in_turn (ask_ended T i) (row s v).asks (buried v s))) (L.keeps_unparked (in_turn (ask_ended T i) (row s v).asks (buried v s)) told v) in
      in_turn-keeps_each P (revoked_if_left T i) _
      (λ k among t here. revoked_if_there-in T i k (cap t k) t here
      (dies k (eqb-true k.vpe v (Contains-from_filter (λ (x : KeyName). x.vpe == v) _ k among).1))) _ left

  -- Calls.
  child_made-keeps : (T : Setup) (v dst : ℕ) (object : Object) (parent : KeyName) (s : Side) → P s → Gives F object →
      Keeps s (child_made T v dst object parent s)
  child_made-keeps T v dst object parent s is gives = λ here.
      let k : KeyName = next_key T s v (object_kind object) in
      installed-in F P L (linked parent k (drawn v s)) (L.keeps_linked (drawn v s) (L.keeps_drawn s is v) parent k here.0.1) k (Some parent) dst object
      (gives k here.0.0)

  with_held-keeps : (o : Option Capability) (f : Capability → Step) (s : Side) → P s → ((c : Capability) → o ≡ Some c → Keeps s (f c)) →
      Keeps s (with_held o f s)
  with_held-keeps o f s is each = option-keeps (Keeps s) f o (answer NoCap s) each (λ _. is)

  ask_made-keeps : (T : Setup) (i v dst : ℕ) (target : Target) (s : Side) → F.calls v → D v → P s → Keeps s (ask_made T i v dst target s)
  ask_made-keeps T i v dst target s calls may is = λ hand.
      let place : PlaceName = next_place T s v in
      let w : ℕ = target_vpe target in
      let waiting : Side = parked_as v (ObtainWait place.number dst) (promised v dst (drawn v s)) in
      let kept : P waiting = L.keeps_parked (promised v dst (drawn v s)) (L.keeps_slot (drawn v s) (L.keeps_drawn s is v) v dst Promised tt) v
      (ObtainWait place.number dst) tt in
      let O = (onward (drawn v s)).kept in
      let on : IsOnward (drawn v s) waiting = O.keeps_parked (promised v dst (drawn v s)) (O.keeps_slot (drawn v s) (onward-same (drawn v s)) v dst Promised tt)
      v (ObtainWait place.number dst) tt in
      let after : IsOnward (drawn v s) (ask_made T i v dst target s).side = cond_both (kernel_of T w == i) (asked w (ObtainAsk place target) waiting)
      (send (kernel_of T w) (ObtainReq place target) waiting) (IsOnward (drawn v s)) (λ _. O.keeps_asked waiting on w (ObtainAsk place target) tt)
      (λ _. O.keeps_send waiting on (kernel_of T w) (ObtainReq place target) tt) in
      let number : F.asked v place.number =
      L.asks v place.number calls (hand.1 v place.number may (omega arith) (drawn-below v s (ask_made T i v dst target s).side after)) in
      cond_both (kernel_of T w == i) (asked w (ObtainAsk place target) waiting) (send (kernel_of T w) (ObtainReq place target) waiting) P
      (λ _. L.keeps_asked waiting kept w (ObtainAsk place target) number) (λ _. L.keeps_send waiting kept (kernel_of T w) (ObtainReq place target) number)

  offer_made-keeps : (T : Setup) (i v w dst : ℕ) (p : Capability) (s : Side) → P s → F.key p.key p.object → Keeps s (offer_made T i v w dst p s)
  offer_made-keeps T i v w dst p s is here = λ _.
      let waiting : Side = parked_as v (DelegateWait p.key) s in
      let kept : P waiting = L.keeps_parked s is v (DelegateWait p.key) tt in
      cond_both (kernel_of T w == i) (asked w (DelegateAsk p.key p.object dst) waiting) (send (kernel_of T w) (DelegateReq p.key p.object w dst) waiting) P
      (λ _. L.keeps_asked waiting kept w (DelegateAsk p.key p.object dst) (L.offers p.key p.object here))
      (λ _. L.keeps_send waiting kept (kernel_of T w) (DelegateReq p.key p.object w dst) (L.offers p.key p.object here))

  own-in : (s : Side) → ((k : KeyName) (c : Capability) → cap s k ≡ Some c → F.key c.key c.object) → (v sel : ℕ) (c : Capability) → own s v sel ≡ Some c →
      F.key c.key c.object
  own-in s caps v sel c held = from (slot s v sel) held
    where
      from : (x : Slot) → cap_in s x ≡ Some c → F.key c.key c.object
      from Free none = absurd cc
      from (Held k) some = caps k c some
      from Promised none = absurd cc

  pub call_row-keeps : (T : Setup) (i : ℕ) (s : Side) (v : ℕ) (c : Call) → D v → P s → (c ≡ Exit → (k : KeyName) → k.vpe ≡ v → F.doomed k) →
      ((k : KeyName) (p : Capability) → cap s k ≡ Some p → F.key p.key p.object) → CallGives F s v c → Keeps s (call_row T i s v c)
  unfolding call_row
  call_row-keeps T i s v (Derive src dst off len rights) may is dies caps gives =
      unless-keeps (Keeps s) (derive_tests s v src dst off len rights) _ _ (λ code _. is)
      (with_held-keeps (own s v src) _ s is (λ p held. child_made-keeps T v dst (narrowed off len rights p.object) p.key s is (gives p held)))
  call_row-keeps T i s v (Gate src dst label credits) may is dies caps gives = unless-keeps (Keeps s) (gate_tests s v src dst credits) _ _ (λ code _. is)
      (with_held-keeps (own s v src) _ s is (λ p held. child_made-keeps T v dst (Send p.key label credits) p.key s is (gives p held)))
  call_row-keeps T i s v (Obtain dst w src) may is dies caps gives =
      unless-keeps (Keeps s) (obtain_tests T i s v dst w) _ _ (λ code _. is) (ask_made-keeps T i v dst (SelTarget w src) s gives may is)
  call_row-keeps T i s v (Delegate src w dst) may is dies caps gives = unless-keeps (Keeps s) (delegate_tests T i s v src w) _ _ (λ code _. is)
      (with_held-keeps (own s v src) _ s is (λ p held. offer_made-keeps T i v w dst p s is (own-in s caps v src p held)))
  call_row-keeps T i s v (OpenSession dst name) may is dies caps gives =
      unless-keeps (Keeps s) (open_tests T i s v dst name) _ _ (λ code _. is) (option-keeps (Keeps s) (λ (x : Service). ask_made T i v dst (ServTarget x.key) s)
      (service_named T name) (answer NoService s) (λ x there. ask_made-keeps T i v dst (ServTarget x.key) s gives may is) (λ _. is))
  call_row-keeps T i s v (AskOffer dst session index) may is dies caps gives = unless-keeps (Keeps s) (offer_tests T i s v dst session) _ _ (λ code _. is)
      (option-keeps (Keeps s) (λ (k : KeyName). ask_made T i v dst (OfferTarget k index) s) _ (answer BadKind s)
      (λ k there. ask_made-keeps T i v dst (OfferTarget k index) s gives may is) (λ _. is))
  call_row-keeps T i s v (Revoke src) may is dies caps gives =
      with_held-keeps (own s v src) _ s is (λ c held hand. begun-in F P L T i v c.key c.mark s is hand.2)
  call_row-keeps T i s v (Bind ep src) may is dies caps gives =
      unless-passed (Keeps s) (bind_tests s v src) _ _ (λ code _. is)
      (λ passed. with_held-keeps (own s v src) _ s is (λ c held _. L.keeps_bound s is v ep src c held (unmarked-own (own s v src) c held passed.1.0)
      (own-in s caps v src c held)))
  call_row-keeps T i s v (Read ep off len) may is dies caps gives = unless-keeps (Keeps s) (memory_tests 1 off len (endpoint s v ep)) _ _ (λ code _. is)
      (λ _. is)
  call_row-keeps T i s v (Write ep off len) may is dies caps gives = unless-keeps (Keeps s) (memory_tests 2 off len (endpoint s v ep)) _ _ (λ code _. is)
      (λ _. is)
  call_row-keeps T i s v (SendCall ep len) may is dies caps gives = unless-keeps (Keeps s) (send_tests (endpoint s v ep)) _ _ (λ code _. is)
      (λ _. L.keeps_rung s is v ep (λ ring. ring ++ len ∷ []))
  call_row-keeps T i s v (Credit ep) may is dies caps gives = unless-keeps (Keeps s) (credit_tests (endpoint s v ep)) _ _ (λ code _. is)
      (λ _. L.keeps_rung s is v ep _)
  call_row-keeps T i s v (Clear src) may is dies caps gives =
      unless-keeps (Keeps s) (own_tests (own s v src)) _ _ (λ code _. is)
      (with_held-keeps (own s v src) _ s is (λ c held hand. cleared-in F P L T i v c.key s is hand.2))
  call_row-keeps T i s v Exit may is dies caps gives = λ _. ended-in T i v s is (dies refl) gives
