-- Upcalls, messages, parked calls that go on, and whole steps keep a layer.
use Rattle.sem_msg.specs.declared.call.Call.{Call}
use Rattle.sem_msg.specs.declared.call.Call.TheVariants.{Derive, Gate, Obtain, Delegate, OpenSession, AskOffer, Revoke, Bind, Read, Write, Send as SendCall}
use Rattle.sem_msg.specs.declared.call.Call.TheVariants.{Credit, Exit, Clear}
use Rattle.sem_key.specs.declared.object.Object.TheVariants.{Send}
use Rattle.std.proofs.Common.{◌∙◌, ap, ◌≡◌, ℕ, ◌++◌, Bool, true, false, Option, Some, None, slice_get, refl, arith}
use Rattle.std.specs.Prelude.{◌==◌}
use Rattle.std.specs.Option.{option_map, option_map_or}
use Rattle.std.proofs.lemmas.Bool.{cond_both}
use Rattle.sem_key.specs.declared.object.Object.{Object}
use Rattle.sem_key.specs.KeyName.{KeyName}
use Rattle.sem_key.specs.PlaceName.{PlaceName, keyed}
use Rattle.sem_key.specs.Capability.{Capability}
use Rattle.sem_msg.specs.declared.event.Act.{Act}
use Rattle.sem_msg.specs.declared.event.Act.TheVariants.{Call as Calls, Fetch, Handle, Upcall, Resume, Flush, Kill}
use Rattle.sem_msg.specs.declared.message.Target.{Target}
use Rattle.sem_msg.specs.declared.message.Message.{Message}
use Rattle.sem_msg.specs.declared.message.Message.TheVariants.{ObtainReq, ObtainOk, ObtainNo, DelegateReq, DelegatePrepared, DelegateNo, Ack, Orphan, RevokeReq}
use Rattle.sem_msg.specs.declared.message.Message.TheVariants.{RevokeDone, Unlink}
use Rattle.sem_msg.specs.declared.state.Ask.{Ask}
use Rattle.sem_msg.specs.declared.state.Ask.TheVariants.{Obtain as ObtainAsk, Delegate as DelegateAsk}
use Rattle.sem_msg.specs.declared.state.Parked.{Parked}
use Rattle.sem_msg.specs.declared.state.Parked.TheVariants.{ObtainWait, ObtainReady, ObtainCancelled, DelegateWait, DelegateReady, RevokeWait, Ready}
use Rattle.sem_msg.specs.declared.state.Pending.{Pending}
use Rattle.sem_msg.specs.declared.state.Slot.TheVariants.{Promised}
use Rattle.sem_msg.specs.Setup.{Setup}
use Rattle.sem_msg.specs.Lookups.{kernel_of, owner_of, place_owner, denies}
use Rattle.sem_msg.specs.Codes.{code_number}
use Rattle.sem_msg.specs.declared.code.Code.TheVariants.{Ok as OkCode, Dead, Refused}
use Rattle.sem_machine.specs.Sides.{Side, row, cap, parked, pending, is_alive, drawn, promised, parked_as, unparked, asked, ask_taken, call_counted, linked}
use Rattle.sem_machine.specs.Sides.{installed, pending_added, pending_removed, send, with_inbox}
use Rattle.sem_machine.specs.Steps.{unshown}
use Rattle.sem_machine.specs.Asks.{target_vpe, asker, is_unawaited, ask_refused, call_refused}
use Rattle.sem_machine.specs.Calls.{destination_tests, narrowed, next_key, call_row}
use Rattle.sem_machine.specs.Upcalls.{source, source_tests, given, given_kind, given_here, child_given, obtain_consent, parent_tests, delegate_here}
use Rattle.sem_machine.specs.Upcalls.{delegate_prepared, delegate_consent, consented, ask_decided, upcall_row}
use Rattle.sem_machine.specs.Handles.{is_stray, obtain_ready, acknowledged, handle_row, handled}
use Rattle.sem_machine.specs.Resumes.{delegate_granted, delegate_resumed, resumed, resume_row}
use Rattle.sem_machine.specs.Machine.{next_call, local_step}
use Rattle.sem_safety.specs.Onward.{IsOnward}
use Rattle.sem_safety.proofs.Onwards.{onward-same, onward, drawn-below}
use Rattle.sem_safety.proofs.Layers.{Facts, facts_of, Brings, BringsIn, BringsFrom, Awaits, AsksFor, IsKept, IsLayer}
use Rattle.sem_machine.proofs.Folds.{option-keeps}
use Rattle.sem_safety.proofs.KeptRevokes.{freed-in, installed-in, ready-in, requested-in, done-in}
use Rattle.sem_machine.proofs.FirstCodes.{unless-keeps}
use Rattle.sem_safety.proofs.KeptRows.{Gives, CallGives, Keeps, keeps-later, call_refused-in, ask_refused-in, ended-in, call_row-keeps}

-- of the VPE that may draw a number by an act
abbrev pub MayDraw : (ℕ → Type 0) → Act → Type 0
MayDraw D (Calls v) = D v
MayDraw D (Upcall v) = D v
MayDraw D (Fetch from) = Unit {0}
MayDraw D Handle = Unit {0}
MayDraw D (Resume v) = Unit {0}
MayDraw D (Flush to) = Unit {0}
MayDraw D (Kill v) = Unit {0}

-- of what an act takes out of the side: a message that was fetched, or a parked call
abbrev pub Takes : Facts → Side → Act → Type 0
Takes F s (Calls v) = Unit {0}
Takes F s (Upcall v) = (a : Ask) → slice_get (row s v).asks 0 ≡ Some a → AsksFor F a
Takes F s (Fetch from) = Unit {0}
Takes F s Handle = BringsFrom F s.inbox
Takes F s (Resume v) = Awaits F (parked s v)
Takes F s (Flush to) = Unit {0}
Takes F s (Kill v) = Unit {0}

-- of the keys of a VPE that ends by an act: one that calls `exit`, or is killed
abbrev pub Dies : Facts → Setup → Side → Act → Type 0
Dies F T s (Calls v) = next_call T s v ≡ Some Exit → (k : KeyName) → k.vpe ≡ v → F.doomed k
Dies F T s (Upcall v) = Unit {0}
Dies F T s (Fetch from) = Unit {0}
Dies F T s Handle = Unit {0}
Dies F T s (Resume v) = Unit {0}
Dies F T s (Flush to) = Unit {0}
Dies F T s (Kill v) = (k : KeyName) → k.vpe ≡ v → F.doomed k

-- the object of what an ask grants, and of what it hands to another kernel
abbrev pub AskGives : Facts → Setup → Side → ℕ → Ask → Type 0
AskGives F T s v (ObtainAsk place target) = (p : Capability) → source T s v target ≡ Some p → Gives F (given target place.vpe p)
AskGives F T s v (DelegateAsk parent object sel) = Gives F object × F.handed object

-- the object of what an act grants
abbrev pub ActGives : Facts → Setup → Side → Act → Type 0
ActGives F T s (Calls v) = (c : Call) → next_call T s v ≡ Some c → CallGives F (call_counted v s) v c
ActGives F T s (Upcall v) = (a : Ask) → slice_get (row s v).asks 0 ≡ Some a → AskGives F T (ask_taken v s) v a
ActGives F T s (Fetch from) = Unit {0}
ActGives F T s Handle = Unit {0}
ActGives F T s (Resume v) = (parent key : KeyName) → parked s v ≡ Some (DelegateReady parent key) → F.offered parent F.given
ActGives F T s (Flush to) = Unit {0}
ActGives F T s (Kill v) = F.ends v

-- facts that see no objects, and let all ask
pub record IsBlind (F : Facts) : Type 0 where
  pub calls : (v : ℕ) → F.calls v
  pub ends : (v : ℕ) → F.ends v
  pub gives : (o : Object) → Gives F o
  pub handed : (o : Object) → F.handed o
  pub offered : (k : KeyName) (o : Object) → F.offered k o

pub blind-call : (F : Facts) → IsBlind F → (s : Side) (v : ℕ) (c : Call) → CallGives F s v c
blind-call F blind s v (Derive src dst off len rights) = λ p held. blind.gives (narrowed off len rights p.object)
blind-call F blind s v (Gate src dst label credits) = λ p held. blind.gives (Send p.key label credits)
blind-call F blind s v (Obtain dst w src) = blind.calls v
blind-call F blind s v (Delegate src w dst) = tt
blind-call F blind s v (OpenSession dst name) = blind.calls v
blind-call F blind s v (AskOffer dst session index) = blind.calls v
blind-call F blind s v (Revoke src) = tt
blind-call F blind s v (Bind ep src) = tt
blind-call F blind s v (Read ep off len) = tt
blind-call F blind s v (Write ep off len) = tt
blind-call F blind s v (SendCall ep len) = tt
blind-call F blind s v (Credit ep) = tt
blind-call F blind s v Exit = blind.ends v
blind-call F blind s v (Clear src) = tt

blind-ask : (F : Facts) → IsBlind F → (T : Setup) (s : Side) (v : ℕ) (a : Ask) → AskGives F T s v a
blind-ask F blind T s v (ObtainAsk place target) = λ p held. blind.gives (given target place.vpe p)
blind-ask F blind T s v (DelegateAsk parent object sel) = (blind.gives object, blind.handed object)

pub blind-act : (F : Facts) → IsBlind F → (T : Setup) (s : Side) (a : Act) → ActGives F T s a
blind-act F blind T s (Calls v) = λ c there. blind-call F blind (call_counted v s) v c
blind-act F blind T s (Upcall v) = λ a there. blind-ask F blind T (ask_taken v s) v a
blind-act F blind T s (Fetch from) = tt
blind-act F blind T s Handle = tt
blind-act F blind T s (Resume v) = λ parent key there. blind.offered parent F.given
blind-act F blind T s (Flush to) = tt
blind-act F blind T s (Kill v) = blind.ends v

pub facts-blind : (Q : KeyName → Type 0) (R : ℕ → ℕ → Type 0) (link : KeyName → KeyName → Type 0) (doomed : KeyName → Type 0) →
    IsBlind (facts_of Q R link doomed)
facts-blind Q R link doomed = record { calls = λ v. tt; ends = λ v. tt; gives = λ o k is. is; handed = λ o. tt; offered = λ k o. tt }

module _ (F : Facts) (D : ℕ → Type 0) (P : Side → Type 0) (L : IsKept F P) where
  -- Upcalls.
  pub given_here-in : (k p : KeyName) (object : Object) (state : Option Parked) (s : Side) → P s → F.key k object → P (given_here k p object state s)
  given_here-in k p object (Some (ObtainWait number sel)) s is here =
      ready-in F P L (installed k (Some p) sel object s) (installed-in F P L s is k (Some p) sel object here) (code_number OkCode) k.vpe
  given_here-in k p object None s is here = is
  given_here-in k p object (Some (ObtainReady key parent object' sel)) s is here = is
  given_here-in k p object (Some ObtainCancelled) s is here = is
  given_here-in k p object (Some (DelegateWait parent)) s is here = is
  given_here-in k p object (Some (DelegateReady parent key)) s is here = is
  given_here-in k p object (Some (RevokeWait j)) s is here = is
  given_here-in k p object (Some (Ready code)) s is here = is

  child_given-keeps : (T : Setup) (i : ℕ) (place : PlaceName) (target : Target) (s : Side) (p : Capability) → P s → Gives F (given target place.vpe p) →
      Keeps F D P L s (child_given T i place target s p)
  child_given-keeps T i place target s p is gives = λ hand.
      let k : KeyName = keyed place (given_kind target p) in
      let object : Object = given target place.vpe p in
      let here = gives k hand.0.0 in
      let linking : Side = linked p.key k s in
      let kept : P linking = L.keeps_linked s is p.key k hand.0.1 in
      cond_both (kernel_of T place.vpe == i) (given_here k p.key object (parked linking place.vpe) linking)
      (send (place_owner T place) (ObtainOk p.key k object) linking) P (λ _. given_here-in k p.key object (parked linking place.vpe) linking kept here)
      (λ _. L.keeps_send linking kept (place_owner T place) (ObtainOk p.key k object) here)

  obtain_consent-keeps : (T : Setup) (i v : ℕ) (place : PlaceName) (target : Target) (s : Side) → P s → AskGives F T s v (ObtainAsk place target) →
      Keeps F D P L s (obtain_consent T i v place target s)
  obtain_consent-keeps T i v place target s is gives = unless-keeps (Keeps F D P L s) (source_tests target (source T s v target)) _ _
      (λ code _. ask_refused-in F D P L T i code (ObtainAsk place target) s is)
      (option-keeps (Keeps F D P L s) (child_given T i place target s) (source T s v target) (unshown s)
      (λ p held. child_given-keeps T i place target s p is (gives p held)) (λ _. is))

  delegate_here-keeps : (T : Setup) (v : ℕ) (parent : KeyName) (object : Object) (sel : ℕ) (s : Side) → P s → Gives F object →
      Keeps F D P L s (delegate_here T v parent object sel s)
  delegate_here-keeps T v parent object sel s is gives = λ hand.
      let k : KeyName = next_key T s v parent.kind in
      let here = gives k hand.0.0 in
      let linking : Side = linked parent k (drawn v s) in
      ready-in F P L (installed k (Some parent) sel object linking)
      (installed-in F P L linking (L.keeps_linked (drawn v s) (L.keeps_drawn s is v) parent k hand.0.1) k (Some parent) sel object here)
      (code_number OkCode) parent.vpe

  delegate_prepared-keeps : (T : Setup) (v : ℕ) (parent : KeyName) (object : Object) (sel : ℕ) (s : Side) → D v → P s → F.offered parent object →
      F.handed object → Keeps F D P L s (delegate_prepared T v parent object sel s)
  delegate_prepared-keeps T v parent object sel s may is offered handed = λ hand.
      let k : KeyName = next_key T s v parent.kind in
      let p : Pending = record { key = k; parent = parent; object = object; sel = sel } in
      let promising : Side = promised v sel (drawn v s) in
      let preparing : Side = pending_added p promising in
      let O = (onward (drawn v s)).kept in
      let after : IsOnward (drawn v s) (delegate_prepared T v parent object sel s).side =
      O.keeps_send preparing (O.keeps_pending_added promising (O.keeps_slot (drawn v s) (onward-same (drawn v s)) v sel Promised tt) p tt)
      (owner_of T parent) (DelegatePrepared parent k) tt in
      let number : F.place v k.number = hand.1 v k.number may (omega arith) (drawn-below v s (delegate_prepared T v parent object sel s).side after) in
      let ready = L.prepares parent k object sel offered number handed in
      L.keeps_send preparing (L.keeps_pending_added promising (L.keeps_slot (drawn v s) (L.keeps_drawn s is v) v sel Promised tt) p ready.0) (owner_of T parent)
      (DelegatePrepared parent k) ready.1

  delegate_consent-keeps : (T : Setup) (i v : ℕ) (parent : KeyName) (object : Object) (sel : ℕ) (s : Side) → D v → P s →
      AskGives F T s v (DelegateAsk parent object sel) → F.offered parent object → Keeps F D P L s (delegate_consent T i v parent object sel s)
  delegate_consent-keeps T i v parent object sel s may is gives offered =
      cond_both (kernel_of T parent.vpe == i) _ _ (Keeps F D P L s)
      (λ _. unless-keeps (Keeps F D P L s) (parent_tests (cap s parent) ++ destination_tests s v sel) _ _
      (λ code _. ask_refused-in F D P L T i code (DelegateAsk parent object sel) s is) (delegate_here-keeps T v parent object sel s is gives.0))
      (λ _. unless-keeps (Keeps F D P L s) (destination_tests s v sel) _ _ (λ code _. ask_refused-in F D P L T i code (DelegateAsk parent object sel) s is)
      (delegate_prepared-keeps T v parent object sel s may is offered gives.1))

  consented-keeps : (T : Setup) (i v : ℕ) (a : Ask) (s : Side) → D v → P s → AskGives F T s v a → AsksFor F a → Keeps F D P L s (consented T i v a s)
  consented-keeps T i v (ObtainAsk place target) s may is gives asks = obtain_consent-keeps T i v place target s is gives
  consented-keeps T i v (DelegateAsk parent object sel) s may is gives asks = delegate_consent-keeps T i v parent object sel s may is gives asks

  ask_decided-keeps : (T : Setup) (i v : ℕ) (a : Ask) (s : Side) → D v → P s → AskGives F T s v a → AsksFor F a → Keeps F D P L s (ask_decided T i v a s)
  ask_decided-keeps T i v a s may is gives asks =
      cond_both (is_unawaited T i s a) _ _ (Keeps F D P L s) (λ _ _. is)
      (λ _. cond_both (denies T v (asker a)) _ _ (Keeps F D P L s) (λ _ _. ask_refused-in F D P L T i Refused a s is)
      (λ _. consented-keeps T i v a s may is gives asks))

  pub upcall_row-keeps : (T : Setup) (i : ℕ) (s : Side) (v : ℕ) → D v → P s → ActGives F T s (Upcall v) → Takes F s (Upcall v) →
      Keeps F D P L s (upcall_row T i s v)
  unfolding upcall_row
  upcall_row-keeps T i s v may is gives asks = option-keeps (Keeps F D P L s) (λ (a : Ask). ask_decided T i v a (ask_taken v s)) (slice_get (row s v).asks 0)
      (unshown s) (λ a there. keeps-later F D P L s (ask_taken v s) (ask_decided T i v a (ask_taken v s)) ((onward s).kept.keeps_taken s (onward-same s) v)
      (ask_decided-keeps T i v a (ask_taken v s) may (L.keeps_taken s is v) (gives a there) (asks a there))) (λ _. is)

  -- Messages.
  obtain_ready-in : (parent key : KeyName) (object : Object) (state : Option Parked) (s : Side) → P s → F.key key object →
      P (obtain_ready parent key object state s)
  obtain_ready-in parent key object (Some (ObtainWait number sel)) s is here = L.keeps_parked s is key.vpe (ObtainReady key parent object sel) here
  obtain_ready-in parent key object None s is here = is
  obtain_ready-in parent key object (Some (ObtainReady key' parent' object' sel)) s is here = is
  obtain_ready-in parent key object (Some ObtainCancelled) s is here = is
  obtain_ready-in parent key object (Some (DelegateWait parent')) s is here = is
  obtain_ready-in parent key object (Some (DelegateReady parent' key')) s is here = is
  obtain_ready-in parent key object (Some (RevokeWait j)) s is here = is
  obtain_ready-in parent key object (Some (Ready code)) s is here = is

  acknowledged-in : (T : Setup) (key : KeyName) (accepted : Bool) (s : Side) (p : Pending) → P s → pending s key ≡ Some p → Brings F (Ack key accepted) →
      P (acknowledged T key accepted s p)
  acknowledged-in T key true s p is there here = cond_both (is_alive s key.vpe) (installed key (Some p.parent) p.sel p.object (pending_removed key s))
      (send (owner_of T p.parent) (Orphan p.parent key) (pending_removed key s)) P
      (λ _. installed-in F P L (pending_removed key s) (L.keeps_pending_removed s is key) key (Some p.parent) p.sel p.object
      (L.of_pending s is key p there here)) (λ _. L.keeps_send (pending_removed key s) (L.keeps_pending_removed s is key) (owner_of T p.parent)
      (Orphan p.parent key) tt)
  acknowledged-in T key false s p is there here = freed-in F P L (pending_removed key s) (L.keeps_pending_removed s is key) key.vpe p.sel

  handle_row-in : (T : Setup) (i : ℕ) (s : Side) (from : ℕ) (m : Message) → P s → Brings F m → P (handle_row T i s from m)
  unfolding handle_row
  handle_row-in T i s from (ObtainReq place target) is here = cond_both (is_alive s (target_vpe target)) (asked (target_vpe target) (ObtainAsk place target) s)
      (ask_refused T i Dead (ObtainAsk place target) s) P (λ _. L.keeps_asked s is (target_vpe target) (ObtainAsk place target) here)
      (λ _. ask_refused-in F D P L T i Dead (ObtainAsk place target) s is)
  handle_row-in T i s from (ObtainOk parent key object) is here = cond_both (is_alive s key.vpe) (obtain_ready parent key object (parked s key.vpe) s)
      (send (owner_of T parent) (Orphan parent key) s) P (λ _. obtain_ready-in parent key object (parked s key.vpe) s is here)
      (λ _. L.keeps_send s is (owner_of T parent) (Orphan parent key) tt)
  handle_row-in T i s from (ObtainNo place code) is here =
      cond_both (is_alive s place.vpe) (call_refused code place.vpe s) s P (λ _. call_refused-in F D P L code place.vpe s is) (λ _. is)
  handle_row-in T i s from (DelegateReq parent object vpe sel) is here = cond_both (is_alive s vpe) (asked vpe (DelegateAsk parent object sel) s)
      (ask_refused T i Dead (DelegateAsk parent object sel) s) P (λ _. L.keeps_asked s is vpe (DelegateAsk parent object sel) here)
      (λ _. ask_refused-in F D P L T i Dead (DelegateAsk parent object sel) s is)
  handle_row-in T i s from (DelegatePrepared parent key) is here = cond_both (is_alive s parent.vpe) (parked_as parent.vpe (DelegateReady parent key) s)
      (send (owner_of T key) (Ack key false) s) P (λ _. L.keeps_parked s is parent.vpe (DelegateReady parent key) here)
      (λ _. L.keeps_send s is (owner_of T key) (Ack key false) tt)
  handle_row-in T i s from (DelegateNo parent code) is here =
      cond_both (is_alive s parent.vpe) (call_refused code parent.vpe s) s P (λ _. call_refused-in F D P L code parent.vpe s is) (λ _. is)
  handle_row-in T i s from (Ack key accepted) is here =
      option-keeps P (acknowledged T key accepted s) (pending s key) s (λ p there. acknowledged-in T key accepted s p is there here) is
  handle_row-in T i s from (Orphan parent key) is here = L.keeps_unlinked s is parent key
  handle_row-in T i s from (RevokeReq key j) is here = requested-in F P L T i from j key (cap s key) s is here
  handle_row-in T i s from (RevokeDone j) is here = done-in F P L T i j s is
  handle_row-in T i s from (Unlink parent key) is here = L.keeps_unlinked s is parent key

  pub handled-in : (T : Setup) (i : ℕ) (s : Side) (from : ℕ) (m : Message) → P s → Brings F m → P (handled T i s from m)
  handled-in T i s from m is here = cond_both (is_stray T i s m) s (handle_row T i s from m) P (λ _. is) (λ _. handle_row-in T i s from m is here)

  -- Parked calls.
  granted-keeps : (T : Setup) (parent key : KeyName) (mark : Option ℕ) (s : Side) → P s → F.prepared parent key → F.offered parent F.given →
      Keeps F D P L s (delegate_granted T parent key mark s)
  granted-keeps T parent key None s is prepared offered = λ here. L.keeps_send (linked parent key s) (L.keeps_linked s is parent key here.0.1) (owner_of T key)
      (Ack key true) (L.acks parent key prepared offered here.0.0)
  granted-keeps T parent key (Some j) s is prepared offered = λ _. L.keeps_send s is (owner_of T key) (Ack key false) tt

  delegate_resumed-keeps : (T : Setup) (parent key : KeyName) (o : Option Capability) (s : Side) → P s → F.prepared parent key → F.offered parent F.given →
      Keeps F D P L s (delegate_resumed T parent key o s)
  delegate_resumed-keeps T parent key None s is prepared offered = λ _. L.keeps_send s is (owner_of T key) (Ack key false) tt
  delegate_resumed-keeps T parent key (Some c) s is prepared offered = granted-keeps T parent key c.mark s is prepared offered

  resumed-keeps : (T : Setup) (p : Option Parked) (s : Side) → P s → Awaits F p →
      ((parent key : KeyName) → p ≡ Some (DelegateReady parent key) → F.offered parent F.given) → Keeps F D P L s (resumed T p s)
  resumed-keeps T (Some (Ready number)) s is here gives = λ _. is
  resumed-keeps T (Some (ObtainReady key parent object sel)) s is here gives = λ _. installed-in F P L s is key (Some parent) sel object here
  resumed-keeps T (Some ObtainCancelled) s is here gives = λ _. is
  resumed-keeps T (Some (DelegateReady parent key)) s is here gives = delegate_resumed-keeps T parent key (cap s parent) s is here (gives parent key refl)
  resumed-keeps T None s is here gives = λ _. is
  resumed-keeps T (Some (ObtainWait number sel)) s is here gives = λ _. is
  resumed-keeps T (Some (DelegateWait parent)) s is here gives = λ _. is
  resumed-keeps T (Some (RevokeWait j)) s is here gives = λ _. is

  pub resume_row-keeps : (T : Setup) (s : Side) (v : ℕ) → P s → Awaits F (parked s v) → ActGives F T s (Resume v) → Keeps F D P L s (resume_row T s v)
  unfolding resume_row
  resume_row-keeps T s v is here gives = keeps-later F D P L s (unparked v s) (resumed T (parked s v) (unparked v s))
      ((onward s).kept.keeps_unparked s (onward-same s) v) (resumed-keeps T (parked s v) (unparked v s) (L.keeps_unparked s is v) here gives)

  -- A step of a side, which is handed the message that it fetches.
  fetched-in : (from : ℕ) (input : Option Message) (s : Side) → P s → BringsIn F input → P (with_inbox (option_map (λ m. (from, m)) input) s)
  fetched-in from None s is here = L.keeps_inbox s is None tt
  fetched-in from (Some m) s is here = L.keeps_inbox s is (Some (from, m)) here

  taken_out-in : (T : Setup) (i : ℕ) (s : Side) (inbox : Option (ℕ × Message)) → P s → BringsFrom F inbox →
      P (option_map_or (λ m. handled T i (with_inbox None s) m.0 m.1) inbox s)
  taken_out-in T i s None is here = is
  taken_out-in T i s (Some m) is here = handled-in T i (with_inbox None s) m.0 m.1 (L.keeps_inbox s is None tt) here

  pub local_step-kept : (T : Setup) (i : ℕ) (s : Side) (a : Act) (input : Option Message) → MayDraw D a → P s →
      ((k : KeyName) (p : Capability) → cap s k ≡ Some p → F.key p.key p.object) → Takes F s a → ActGives F T s a → Dies F T s a → BringsIn F input →
      Keeps F D P L s (local_step T i s a input)
  unfolding local_step
  local_step-kept T i s (Calls v) input may is caps takes gives dies here = option-keeps (Keeps F D P L s) (call_row T i (call_counted v s) v) (next_call T s v)
      (unshown s) (λ c there. keeps-later F D P L s (call_counted v s) (call_row T i (call_counted v s) v c) ((onward s).kept.keeps_counted s (onward-same s) v)
      (call_row-keeps F D P L T i (call_counted v s) v c may (L.keeps_counted s is v) (λ exit. dies (there ∙ ap Some exit)) caps (gives c there))) (λ _. is)
  local_step-kept T i s (Fetch from) input may is caps takes gives dies here = λ _. fetched-in from input s is here
  local_step-kept T i s Handle input may is caps takes gives dies here = λ _. taken_out-in T i s s.inbox is takes
  local_step-kept T i s (Upcall v) input may is caps takes gives dies here = upcall_row-keeps T i s v may is gives takes
  local_step-kept T i s (Resume v) input may is caps takes gives dies here = resume_row-keeps T s v is takes gives
  local_step-kept T i s (Flush to) input may is caps takes gives dies here = λ _. L.keeps_sent s is to
  local_step-kept T i s (Kill v) input may is caps takes gives dies here = λ _. ended-in F D P L T i v s is dies gives

module _ (F : Facts) (D : ℕ → Type 0) (P : Side → Type 0) (L : IsLayer F P) where
  takes : (s : Side) (a : Act) → P s → Takes F s a
  takes s (Calls v) is = tt
  takes s (Fetch from) is = tt
  takes s Handle is = L.of_inbox s is
  takes s (Upcall v) is = L.of_ask s is v
  takes s (Resume v) is = L.of_call s is v
  takes s (Flush to) is = tt
  takes s (Kill v) is = tt

  pub local_step-keeps : (T : Setup) (i : ℕ) (s : Side) (a : Act) (input : Option Message) → MayDraw D a → P s → ActGives F T s a → Dies F T s a →
      BringsIn F input → Keeps F D P L.kept s (local_step T i s a input)
  local_step-keeps T i s a input may is gives dies here = local_step-kept F D P L.kept T i s a input may is (L.of_cap s is) (takes s a is) gives dies here
