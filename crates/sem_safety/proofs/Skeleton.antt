-- The shape of the rows once for all: what is so of each leaf of a row is so of the row. A pass then has lemmas for the leaves alone.
use Rattle.std.proofs.Common.{◌≡◌, ℕ, ◌++◌, Bool, false, List, [], ◌∷◌, drop, Option, Some, None, refl}
use Rattle.std.specs.Prelude.{◌==◌}
use Rattle.std.proofs.lemmas.Bool.{cond_both}
use Rattle.sem_key.specs.declared.object.Object.{Object}
use Rattle.sem_key.specs.declared.object.Object.TheVariants.{Send}
use Rattle.sem_key.specs.KeyName.{KeyName}
use Rattle.sem_key.specs.PlaceName.{PlaceName}
use Rattle.sem_key.specs.Capability.{Capability}
use Rattle.sem_msg.specs.declared.call.Call.{Call}
use Rattle.sem_msg.specs.declared.call.Call.TheVariants.{Derive, Gate, Obtain, Delegate, OpenSession, AskOffer, Revoke, Bind, Read, Write, Send as SendCall}
use Rattle.sem_msg.specs.declared.call.Call.TheVariants.{Credit, Exit, Clear}
use Rattle.sem_msg.specs.declared.message.Message.{Message}
use Rattle.sem_msg.specs.declared.message.Message.TheVariants.{ObtainReq, ObtainOk, ObtainNo, DelegateReq, DelegatePrepared, DelegateNo, Ack, Orphan, RevokeReq}
use Rattle.sem_msg.specs.declared.message.Message.TheVariants.{RevokeDone, Unlink}
use Rattle.sem_msg.specs.declared.message.Target.{Target}
use Rattle.sem_msg.specs.declared.message.Target.TheVariants.{Sel as SelTarget, Serv as ServTarget, Offer as OfferTarget}
use Rattle.sem_msg.specs.declared.entry.Consent.TheVariants.{Yes, No, Dropped}
use Rattle.sem_msg.specs.declared.setup.Service.{Service}
use Rattle.sem_msg.specs.declared.state.Ask.{Ask}
use Rattle.sem_msg.specs.declared.state.Ask.TheVariants.{Obtain as ObtainAsk, Delegate as DelegateAsk}
use Rattle.sem_msg.specs.declared.state.Parked.TheVariants.{DelegateReady}
use Rattle.sem_msg.specs.declared.state.Pending.{Pending}
use Rattle.sem_msg.specs.Setup.{Setup}
use Rattle.sem_msg.specs.Lookups.{kernel_of, owner_of, service_named, denies}
use Rattle.sem_msg.specs.declared.code.Code.{Code}
use Rattle.sem_msg.specs.declared.code.Code.TheVariants.{Ok as OkCode, NoCap, NoService, BadKind, Dead, Refused}
use Rattle.sem_machine.specs.Sides.{Side, own, cap, endpoint, parked, pending, is_alive, parked_as, asked, unlinked, with_endpoint, send}
use Rattle.sem_machine.specs.Steps.{Step, unshown, answer, cutting, asking}
use Rattle.sem_machine.specs.Asks.{target_vpe, asker, is_unawaited, ask_refused, call_refused}
use Rattle.sem_msg.specs.Uses.{memory_tests, send_tests, credit_tests}
use Rattle.sem_machine.specs.Endpoints.{with_ring}
use Rattle.sem_machine.specs.Calls.{child_made, narrowed, with_held, own_tests, derive_tests, gate_tests, destination_tests, ask_made, obtain_tests, open_tests}
use Rattle.sem_machine.specs.Calls.{offer_tests, delegate_tests, offer_made, bind_tests, call_row}
use Rattle.sem_machine.specs.Upcalls.{source, source_tests, child_given, parent_tests, delegate_here, delegate_prepared, consented, ask_decided}
use Rattle.sem_machine.specs.Handles.{is_stray, obtain_ready, acknowledged, handle_row, handled}
use Rattle.sem_machine.specs.Revokes.{clear_begun, revoke_begun, revoke_requested, revoke_done}
use Rattle.sem_machine.specs.Ends.{ended}
use Rattle.sem_machine.proofs.Folds.{option-keeps}
use Rattle.sem_machine.proofs.FirstCodes.{unless-keeps, unless-passed, unmarked-own}

-- the leaves of the calls of VPE v of kernel i on a side
pub record CallLeaves (P : Step → Type 0) (T : Setup) (i v : ℕ) (s : Side) : Type 0 where
  pub answered : (code : Code) → P (answer code s)
  pub child : (src dst : ℕ) (object : Object) (p : Capability) → own s v src ≡ Some p → P (child_made T v dst object p.key s)
  pub ask : (dst : ℕ) (target : Target) → P (ask_made T i v dst target s)
  pub offer : (src w dst : ℕ) (p : Capability) → own s v src ≡ Some p → P (offer_made T i v w dst p s)
  pub revoke : (src : ℕ) (c : Capability) → own s v src ≡ Some c → P (cutting c.key (unshown (revoke_begun T i v c.key c.mark s)))
  pub clear : (src : ℕ) (c : Capability) → own s v src ≡ Some c → c.mark ≡ None → P (cutting c.key (unshown (clear_begun T i v c.key s)))
  pub bound : (ep src : ℕ) (c : Capability) → own s v src ≡ Some c →
      P (answer OkCode (with_endpoint v ep (Some (record { key = c.key; object = c.object; ring = [] })) s))
  pub rung : (ep : ℕ) (f : List ℕ → List ℕ) → P (answer OkCode (with_ring v ep f s))
  pub ends : P (answer OkCode (ended T i v s))

module _ (P : Step → Type 0) (T : Setup) (i v : ℕ) (s : Side) (L : CallLeaves P T i v s) where
  held-by : (o : Option Capability) (f : Capability → Step) → ((c : Capability) → o ≡ Some c → P (f c)) → P (with_held o f s)
  held-by o f each = option-keeps P f o (answer NoCap s) each (L.answered NoCap)

  pub call_row-by : (c : Call) → P (call_row T i s v c)
  unfolding call_row
  call_row-by (Derive src dst off len rights) =
      unless-keeps P (derive_tests s v src dst off len rights) _ _ L.answered
      (held-by (own s v src) _ (λ p held. L.child src dst (narrowed off len rights p.object) p held))
  call_row-by (Gate src dst label credits) =
      unless-keeps P (gate_tests s v src dst credits) _ _ L.answered (held-by (own s v src) _ (λ p held. L.child src dst (Send p.key label credits) p held))
  call_row-by (Obtain dst w src) = unless-keeps P (obtain_tests T i s v dst w) _ _ L.answered (L.ask dst (SelTarget w src))
  call_row-by (Delegate src w dst) = unless-keeps P (delegate_tests T i s v src w) _ _ L.answered (held-by (own s v src) _ (λ p held. L.offer src w dst p held))
  call_row-by (OpenSession dst name) =
      unless-keeps P (open_tests T i s v dst name) _ _ L.answered (option-keeps P (λ (x : Service). ask_made T i v dst (ServTarget x.key) s)
      (service_named T name) (answer NoService s) (λ x there. L.ask dst (ServTarget x.key)) (L.answered NoService))
  call_row-by (AskOffer dst session index) =
      unless-keeps P (offer_tests T i s v dst session) _ _ L.answered (option-keeps P (λ (k : KeyName). ask_made T i v dst (OfferTarget k index) s) _
      (answer BadKind s) (λ k there. L.ask dst (OfferTarget k index)) (L.answered BadKind))
  call_row-by (Revoke src) = held-by (own s v src) _ (λ c held. L.revoke src c held)
  call_row-by (Bind ep src) = unless-keeps P (bind_tests s v src) _ _ L.answered (held-by (own s v src) _ (λ c held. L.bound ep src c held))
  call_row-by (Read ep off len) = unless-keeps P (memory_tests 1 off len (endpoint s v ep)) _ _ L.answered (L.answered OkCode)
  call_row-by (Write ep off len) = unless-keeps P (memory_tests 2 off len (endpoint s v ep)) _ _ L.answered (L.answered OkCode)
  call_row-by (SendCall ep len) = unless-keeps P (send_tests (endpoint s v ep)) _ _ L.answered (L.rung ep (λ ring. ring ++ len ∷ []))
  call_row-by (Credit ep) = unless-keeps P (credit_tests (endpoint s v ep)) _ _ L.answered (L.rung ep (λ ring. drop 1 ring))
  call_row-by (Clear src) =
      unless-passed P (own_tests (own s v src)) _ _ L.answered
      (λ passed. held-by (own s v src) _ (λ c held. L.clear src c held (unmarked-own (own s v src) c held passed.1.0)))
  call_row-by Exit = L.ends

-- the leaves of an upcall that decides an ask
pub record ConsentLeaves (P : Step → Type 0) (T : Setup) (i v : ℕ) (a : Ask) (s : Side) : Type 0 where
  pub nothing : P (unshown s)
  pub refused : (code : Code) → P (unshown (ask_refused T i code a s))
  pub given : (place : PlaceName) (target : Target) (p : Capability) → a ≡ ObtainAsk place target → P (child_given T i place target s p)
  pub here : (parent : KeyName) (object : Object) (sel : ℕ) → a ≡ DelegateAsk parent object sel → P (delegate_here T v parent object sel s)
  pub prepared : (parent : KeyName) (object : Object) (sel : ℕ) → a ≡ DelegateAsk parent object sel → P (delegate_prepared T v parent object sel s)

pub consented-by : (P : Step → Type 0) (T : Setup) (i v : ℕ) (a : Ask) (s : Side) → ConsentLeaves P T i v a s → P (consented T i v a s)
consented-by P T i v (ObtainAsk place target) s L = unless-keeps P (source_tests target (source T s v target)) _ _ L.refused
    (option-keeps P (child_given T i place target s) (source T s v target) (unshown s) (λ p held. L.given place target p refl) L.nothing)
consented-by P T i v (DelegateAsk parent object sel) s L =
    cond_both (kernel_of T parent.vpe == i) _ _ P
    (λ _. unless-keeps P (parent_tests (cap s parent) ++ destination_tests s v sel) _ _ L.refused (L.here parent object sel refl))
    (λ _. unless-keeps P (destination_tests s v sel) _ _ L.refused (L.prepared parent object sel refl))

-- and what is so of a step is so of it when it tells who was asked
pub decided-by : (P : Step → Type 0) → ((a : ℕ) (x : Step) → P x → P (asking a Dropped x)) → ((a : ℕ) (x : Step) → P x → P (asking a No x)) →
    ((a : ℕ) (x : Step) → P x → P (asking a Yes x)) → (T : Setup) (i v : ℕ) (a : Ask) (s : Side) → ConsentLeaves P T i v a s → P (ask_decided T i v a s)
decided-by P dropped no' yes' T i v a s L =
    cond_both (is_unawaited T i s a) _ _ P (λ _. dropped (asker a) (unshown s) L.nothing)
    (λ _. cond_both (denies T v (asker a)) _ _ P (λ _. no' (asker a) (unshown (ask_refused T i Refused a s)) (L.refused Refused))
    (λ _. yes' (asker a) (consented T i v a s) (consented-by P T i v a s L)))

-- the leaves of handling a message from another kernel
pub record HandleLeaves (P : Side → Type 0) (T : Setup) (i : ℕ) (s : Side) (from : ℕ) (m : Message) : Type 0 where
  pub same : P s
  pub asked_obtain : (place : PlaceName) (target : Target) → m ≡ ObtainReq place target → P (asked (target_vpe target) (ObtainAsk place target) s)
  pub dead_obtain : (place : PlaceName) (target : Target) → m ≡ ObtainReq place target → P (ask_refused T i Dead (ObtainAsk place target) s)
  pub asked_delegate : (parent : KeyName) (object : Object) (vpe sel : ℕ) → m ≡ DelegateReq parent object vpe sel →
      P (asked vpe (DelegateAsk parent object sel) s)
  pub dead_delegate : (parent : KeyName) (object : Object) (vpe sel : ℕ) → m ≡ DelegateReq parent object vpe sel →
      P (ask_refused T i Dead (DelegateAsk parent object sel) s)
  pub given : (parent key : KeyName) (object : Object) → m ≡ ObtainOk parent key object → P (obtain_ready parent key object (parked s key.vpe) s)
  pub orphaned : (parent key : KeyName) (object : Object) → m ≡ ObtainOk parent key object → P (send (owner_of T parent) (Orphan parent key) s)
  pub no_obtain : (place : PlaceName) (code : ℕ) → m ≡ ObtainNo place code → P (call_refused code place.vpe s)
  pub prepared : (parent key : KeyName) → m ≡ DelegatePrepared parent key → P (parked_as parent.vpe (DelegateReady parent key) s)
  pub given_up : (parent key : KeyName) → m ≡ DelegatePrepared parent key → P (send (owner_of T key) (Ack key false) s)
  pub no_delegate : (parent : KeyName) (code : ℕ) → m ≡ DelegateNo parent code → P (call_refused code parent.vpe s)
  pub acked : (key : KeyName) (accepted : Bool) (p : Pending) → m ≡ Ack key accepted → pending s key ≡ Some p → P (acknowledged T key accepted s p)
  pub unlinks : (parent key : KeyName) → P (unlinked parent key s)
  pub requests : (key : KeyName) (j : ℕ) → m ≡ RevokeReq key j → P (revoke_requested T i from j key (cap s key) s)
  pub dones : (j : ℕ) → m ≡ RevokeDone j → P (revoke_done T i j s)

handle_row-by : (P : Side → Type 0) (T : Setup) (i : ℕ) (s : Side) (from : ℕ) (m : Message) → HandleLeaves P T i s from m → P (handle_row T i s from m)
unfolding handle_row
handle_row-by P T i s from (ObtainReq place target) L = cond_both (is_alive s (target_vpe target)) _ _ P (λ _. L.asked_obtain place target refl)
    (λ _. L.dead_obtain place target refl)
handle_row-by P T i s from (ObtainOk parent key object) L = cond_both (is_alive s key.vpe) _ _ P (λ _. L.given parent key object refl)
    (λ _. L.orphaned parent key object refl)
handle_row-by P T i s from (ObtainNo place code) L = cond_both (is_alive s place.vpe) _ _ P (λ _. L.no_obtain place code refl) (λ _. L.same)
handle_row-by P T i s from (DelegateReq parent object vpe sel) L = cond_both (is_alive s vpe) _ _ P (λ _. L.asked_delegate parent object vpe sel refl)
    (λ _. L.dead_delegate parent object vpe sel refl)
handle_row-by P T i s from (DelegatePrepared parent key) L = cond_both (is_alive s parent.vpe) _ _ P (λ _. L.prepared parent key refl)
    (λ _. L.given_up parent key refl)
handle_row-by P T i s from (DelegateNo parent code) L = cond_both (is_alive s parent.vpe) _ _ P (λ _. L.no_delegate parent code refl) (λ _. L.same)
handle_row-by P T i s from (Ack key accepted) L =
    option-keeps P (acknowledged T key accepted s) (pending s key) s (λ p there. L.acked key accepted p refl there) L.same
handle_row-by P T i s from (Orphan parent key) L = L.unlinks parent key
handle_row-by P T i s from (RevokeReq key j) L = L.requests key j refl
handle_row-by P T i s from (RevokeDone j) L = L.dones j refl
handle_row-by P T i s from (Unlink parent key) L = L.unlinks parent key

pub handled-by : (P : Side → Type 0) (T : Setup) (i : ℕ) (s : Side) (from : ℕ) (m : Message) → HandleLeaves P T i s from m → P (handled T i s from m)
handled-by P T i s from m L = cond_both (is_stray T i s m) s (handle_row T i s from m) P (λ _. L.same) (λ _. handle_row-by P T i s from m L)
