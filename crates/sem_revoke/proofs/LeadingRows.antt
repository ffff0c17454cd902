-- What each change of a side keeps, and what each revoke keeps, each event keeps.
use Rattle.std.proofs.Common.{◌≡◌, ℕ, Bool, true, false, List, Option, Some, None, slice_get, refl, ap, ◌∙◌}
use Rattle.std.specs.Prelude.{◌==◌}
use Rattle.std.specs.Option.{option_map_or}
use Rattle.std.proofs.lemmas.Bool.{cond_both}
use Rattle.sem_key.specs.declared.object.Object.{Object}
use Rattle.sem_key.specs.ObjectRanges.{object_kind}
use Rattle.sem_key.specs.KeyName.{KeyName}
use Rattle.sem_key.specs.PlaceName.{PlaceName, keyed}
use Rattle.sem_key.specs.Lists.{in_turn}
use Rattle.sem_key.specs.Capability.{Capability}
use Rattle.sem_msg.specs.declared.code.Code.{Code}
use Rattle.sem_msg.specs.declared.code.Code.TheVariants.{Dead}
use Rattle.sem_msg.specs.declared.call.Call.{Call}
use Rattle.sem_msg.specs.declared.event.Act.{Act}
use Rattle.sem_msg.specs.declared.event.Act.TheVariants.{Call as Calls, Fetch, Handle, Upcall, Resume, Flush, Kill}
use Rattle.sem_msg.specs.declared.message.Message.{Message}
use Rattle.sem_msg.specs.declared.message.Message.TheVariants.{ObtainReq, ObtainOk, ObtainNo, DelegateReq, DelegatePrepared, DelegateNo, Ack, Orphan, RevokeReq}
use Rattle.sem_msg.specs.declared.message.Message.TheVariants.{RevokeDone}
use Rattle.sem_msg.specs.Codes.{code_number}
use Rattle.sem_msg.specs.declared.state.Ask.{Ask}
use Rattle.sem_msg.specs.declared.state.Ask.TheVariants.{Obtain as ObtainAsk, Delegate as DelegateAsk}
use Rattle.sem_msg.specs.declared.state.Parked.{Parked}
use Rattle.sem_msg.specs.declared.state.Parked.TheVariants.{ObtainWait, ObtainReady, ObtainCancelled, DelegateWait, DelegateReady, RevokeWait, Ready}
use Rattle.sem_msg.specs.declared.state.Pending.{Pending}
use Rattle.sem_msg.specs.Setup.{Setup}
use Rattle.sem_msg.specs.Lookups.{kernel_of, owner_of, place_owner}
use Rattle.sem_machine.specs.Sides.{Side, row, cap, own, parked, is_alive, call_counted, drawn, promised, parked_as, unparked, asked, ask_taken, buried, linked}
use Rattle.sem_machine.specs.Sides.{installed, freed, send, with_inbox, pending_added, pending_removed}
use Rattle.sem_machine.specs.Steps.{Step, unshown}
use Rattle.sem_machine.specs.Asks.{target_vpe, asker, is_unawaited, promise_freed, call_refused, refusal_sent, ask_refused}
use Rattle.sem_machine.specs.Calls.{next_key, next_place, call_row}
use Rattle.sem_machine.specs.Upcalls.{given, given_kind, given_here, ask_decided, upcall_row}
use Rattle.sem_machine.specs.Handles.{obtain_ready, acknowledged, handled}
use Rattle.sem_machine.specs.Resumes.{delegate_granted, delegate_resumed, resumed, resume_row}
use Rattle.sem_machine.specs.Revokes.{revoke_begun, clear_begun, revoke_requested, revoke_done}
use Rattle.sem_machine.specs.Ends.{ask_ended, call_ended, revoked_if_left, keys_of_vpe, ended_but_held, ended}
use Rattle.sem_machine.specs.Machine.{local_step, next_call}
use Rattle.sem_machine.proofs.Folds.{in_turn-keeps, option-keeps}
use Rattle.sem_safety.proofs.Skeleton.{call_row-by, decided-by, handled-by}
use Rattle.sem_revoke.proofs.Leading.{IsKept}
use Rattle.sem_revoke.proofs.Moving.{Moves}
use Rattle.sem_revoke.proofs.Steady.{IsSteady, rest-steady, revoked-steady, cleared-steady, requested-steady, done-steady}

-- What the revokes of a kernel keep that begin at a side.
pub record Revokings (T : Setup) (i : ℕ) (P : Side → Type 0) (s : Side) : Type 0 where
  pub revokes : (v src : ℕ) (c : Capability) → own (call_counted v s) v src ≡ Some c → P (revoke_begun T i v c.key c.mark (call_counted v s))
  pub clears : (v src : ℕ) (c : Capability) → own (call_counted v s) v src ≡ Some c → c.mark ≡ None → P (clear_begun T i v c.key (call_counted v s))
  pub exits : (v : ℕ) → P (ended T i v (call_counted v s))
  pub kills : (v : ℕ) → P (ended T i v s)
  pub requests : (from : ℕ) (key : KeyName) (j : ℕ) → s.inbox ≡ Some (from, RevokeReq key j)
      → P (revoke_requested T i from j key (cap (with_inbox None s) key) (with_inbox None s))
  pub dones : (from j : ℕ) → s.inbox ≡ Some (from, RevokeDone j) → P (revoke_done T i j (with_inbox None s))

-- What reads capabilities and outboxes alone, and is kept when a message is sent.
module _ (T : Setup) (i : ℕ) (P : Side → Type 0) (other : (s t : Side) → t.caps ≡ s.caps → t.outs ≡ s.outs → P s →
    P t) (sends : (t : Side) (j : ℕ) (m : Message) → P t → P (send j m t)) where
  freed-led : (p : Option Parked) (v : ℕ) (t : Side) → P t → P (promise_freed p v t)
  freed-led None v t is = is
  freed-led (Some (ObtainWait number sel)) v t is = other t (freed v sel t) refl refl is
  freed-led (Some (ObtainReady key parent object sel)) v t is = is
  freed-led (Some ObtainCancelled) v t is = is
  freed-led (Some (DelegateWait parent)) v t is = is
  freed-led (Some (DelegateReady parent key)) v t is = is
  freed-led (Some (RevokeWait j)) v t is = is
  freed-led (Some (Ready number)) v t is = is

  call_refused-led : (number v : ℕ) (t : Side) → P t → P (call_refused number v t)
  call_refused-led number v t is = other (promise_freed (parked t v) v t) (call_refused number v t) refl refl (freed-led (parked t v) v t is)

  refused-led : (code : Code) (a : Ask) (t : Side) → P t → P (ask_refused T i code a t)
  refused-led code a t is = cond_both (kernel_of T (asker a) == i) _ _ P (λ _. call_refused-led (code_number code) (asker a) t is) (λ _. told a)
    where
      told : (b : Ask) → P (refusal_sent T code b t)
      told (ObtainAsk place target) = sends t (place_owner T place) (ObtainNo place (code_number code)) is
      told (DelegateAsk parent object sel) = sends t (owner_of T parent) (DelegateNo parent (code_number code)) is

  -- the end of a VPE ends with what it holds
  pub all-ended : (v : ℕ) (t : Side) → P (in_turn (revoked_if_left T i) (keys_of_vpe (ended_but_held T i v t) v) (ended_but_held T i v t)) → P (ended T i v t)
  unfolding ended
  all-ended v t is = is

  -- the end of a VPE, but for what it holds
  pub ended-led : (v : ℕ) (s : Side) → P s → P (ended_but_held T i v s)
  ended-led v s is =
      let asks : List Ask = (row s v).asks in
      let answered : Side = in_turn (ask_ended T i) asks (buried v s) in
      let told : P answered =
      in_turn-keeps P (ask_ended T i) (λ a t here. cond_both (is_unawaited T i t a) t (ask_refused T i Dead a t) P (λ _. here)
      (λ _. refused-led Dead a t here)) asks (buried v s) (other s (buried v s) refl refl is) in
      owes (parked answered v) (unparked v answered) (other answered (unparked v answered) refl refl told)
    where
      owes : (p : Option Parked) (t : Side) → P t → P (call_ended T p v t)
      owes None t here = here
      owes (Some (ObtainWait number sel)) t here = here
      owes (Some (ObtainReady key parent object sel)) t here = sends t (owner_of T parent) (Orphan parent key) here
      owes (Some ObtainCancelled) t here = here
      owes (Some (DelegateWait parent)) t here = here
      owes (Some (DelegateReady parent key)) t here = sends t (owner_of T key) (Ack key false) here
      owes (Some (RevokeWait j)) t here = other t (call_ended T (Some (RevokeWait j)) v t) refl refl here
      owes (Some (Ready code)) t here = here

  -- what is kept by each part of a revoke is kept by each revoke
  pub steady-revokings : IsSteady P → (s : Side) → P s → Revokings T i P s
  steady-revokings S s is = record {
    revokes = λ v src c held. revoked-steady P S T i v c.key c.mark (call_counted v s)
        (λ j. other s (parked_as v (RevokeWait j) (call_counted v s)) refl refl is);
    clears = λ v src c held unmarked. cleared-steady P S T i v c.key (call_counted v s) (other s _ refl refl is);
    exits = λ v. ends v (call_counted v s) (other s (call_counted v s) refl refl is);
    kills = λ v. ends v s is;
    requests = λ from key j full. requested-steady P S T i from j key (cap (with_inbox None s) key) (with_inbox None s)
        (λ u ready same here. other u (parked_as key.vpe ObtainCancelled u) refl refl here) (other s (with_inbox None s) refl refl is);
    dones = λ from j full. done-steady P S T i j (with_inbox None s) (other s (with_inbox None s) refl refl is);
  }
    where
      ends : (v : ℕ) (t : Side) → P t → P (ended T i v t)
      ends v t here = all-ended v t (in_turn-keeps P (revoked_if_left T i) (λ k u now. rest-steady P S T i k u now) (keys_of_vpe (ended_but_held T i v t) v)
          (ended_but_held T i v t) (ended-led v t here))

module _ (T : Setup) (i : ℕ) (G : KeyName → KeyName → Type 0) (P : Side → Type 0) (K : IsKept G P) where
  refused-kept : (code : Code) (a : Ask) (t : Side) → P t → P (ask_refused T i code a t)
  refused-kept = refused-led T i P K.other K.sends

  call_refused-kept : (number v : ℕ) (t : Side) → P t → P (call_refused number v t)
  call_refused-kept = call_refused-led T i P K.other K.sends

  -- Steps, whose grants may be made.
  abbrev pub Grants : Step → Type 0
  Grants x = (p k : KeyName) → ◌≡◌ {A = Option (KeyName × KeyName)} x.outcome.grant (Some (p, k)) → G p k

  abbrev Q : Step → Type 0
  Q x = Grants x → P x.side

  call-led : (w : ℕ) (c : Call) (s : Side) → Revokings T i P s → P (call_counted w s) → Q (call_row T i (call_counted w s) w c)
  call-led w c s' R is = call_row-by Q T i w s (record {
    answered = λ code told. is;
    child = λ src dst object p held told.
        let k : KeyName = next_key T s w (object_kind object) in
        K.installs (linked p.key k (drawn w s)) k (Some p.key) dst object
        (K.links (drawn w s) p.key k (told p.key k refl) (K.other s (drawn w s) refl refl is));
    ask = λ dst target told.
        let place : PlaceName = next_place T s w in
        let waiting : Side = parked_as w (ObtainWait place.number dst) (promised w dst (drawn w s)) in
        let waits : P waiting = K.other s waiting refl refl is in
        cond_both (kernel_of T (target_vpe target) == i) _ _ P
        (λ _. K.other waiting (asked (target_vpe target) (ObtainAsk place target) waiting) refl refl waits)
        (λ _. K.sends waiting (kernel_of T (target_vpe target)) (ObtainReq place target) waits);
    offer = λ src u dst p held told.
        let waiting : Side = parked_as w (DelegateWait p.key) s in
        let waits : P waiting = K.other s waiting refl refl is in
        cond_both (kernel_of T u == i) _ _ P (λ _. K.other waiting (asked u (DelegateAsk p.key p.object dst) waiting) refl refl waits)
        (λ _. K.sends waiting (kernel_of T u) (DelegateReq p.key p.object u dst) waits);
    revoke = λ src c held told. R.revokes w src c held;
    clear = λ src c held unmarked told. R.clears w src c held unmarked;
    bound = λ ep src c held told. K.other s _ refl refl is;
    rung = λ ep f told. K.other s _ refl refl is;
    ends = λ told. R.exits w;
  }) c
    where
      s : Side
      s = call_counted w s'

  given-led : (k p : KeyName) (object : Object) (state : Option Parked) (t : Side) → P t → P (given_here k p object state t)
  given-led k p object (Some (ObtainWait number sel)) t is =
      K.other (installed k (Some p) sel object t) (given_here k p object (Some (ObtainWait number sel)) t) refl refl (K.installs t k (Some p) sel object is)
  given-led k p object None t is = is
  given-led k p object (Some (ObtainReady key parent object' sel)) t is = is
  given-led k p object (Some ObtainCancelled) t is = is
  given-led k p object (Some (DelegateWait parent)) t is = is
  given-led k p object (Some (DelegateReady parent key)) t is = is
  given-led k p object (Some (RevokeWait j)) t is = is
  given-led k p object (Some (Ready code)) t is = is

  decided-led : (w : ℕ) (a : Ask) (s : Side) → P s → Q (ask_decided T i w a s)
  decided-led w a s is = decided-by Q (λ n y here. here) (λ n y here. here) (λ n y here. here) T i w a s (record {
    nothing = λ told. is;
    refused = λ code told. refused-kept code a s is;
    given = λ place target p of told.
        let k : KeyName = keyed place (given_kind target p) in
        let object : Object = given target place.vpe p in
        let linking : Side = linked p.key k s in
        let links : P linking = K.links s p.key k (told p.key k refl) is in
        cond_both (kernel_of T place.vpe == i) _ _ P (λ _. given-led k p.key object (parked linking place.vpe) linking links)
        (λ _. K.sends linking (place_owner T place) (ObtainOk p.key k object) links);
    here = λ parent object sel of told.
        let k : KeyName = next_key T s w parent.kind in
        let t : Side = installed k (Some parent) sel object (linked parent k (drawn w s)) in
        K.other t _ refl refl
        (K.installs (linked parent k (drawn w s)) k (Some parent) sel object
        (K.links (drawn w s) parent k (told parent k refl) (K.other s (drawn w s) refl refl is)));
    prepared = λ parent object sel of told.
        let k : KeyName = next_key T s w parent.kind in
        let preparing : Side = pending_added (record { key = k; parent = parent; object = object; sel = sel }) (promised w sel (drawn w s)) in
        K.sends preparing (owner_of T parent) (DelegatePrepared parent k) (K.other s preparing refl refl is);
  })

  upcall-led : (w : ℕ) (s : Side) → P s → Q (upcall_row T i s w)
  unfolding upcall_row
  upcall-led w s is = option-keeps Q (λ (a : Ask). ask_decided T i w a (ask_taken w s)) (slice_get (row s w).asks 0) (unshown s)
      (λ a there. decided-led w a (ask_taken w s) (K.other s (ask_taken w s) refl refl is)) (λ told. is)

  resume-led : (w : ℕ) (s : Side) → P s → Q (resume_row T s w)
  unfolding resume_row
  resume-led w s is = by (parked s w)
    where
      t : Side
      t = unparked w s

      gone : P (unparked w s)
      gone = K.other s (unparked w s) refl refl is

      granted : (parent key : KeyName) (m : Option ℕ) → Q (delegate_granted T parent key m (unparked w s))
      granted parent key None = λ told. K.sends (linked parent key (unparked w s)) (owner_of T key) (Ack key true)
          (K.links (unparked w s) parent key (told parent key refl) gone)
      granted parent key (Some j) = λ told. K.sends (unparked w s) (owner_of T key) (Ack key false) gone

      answered : (parent key : KeyName) (o : Option Capability) → Q (delegate_resumed T parent key o (unparked w s))
      answered parent key None = λ told. K.sends (unparked w s) (owner_of T key) (Ack key false) gone
      answered parent key (Some c) = granted parent key c.mark

      by : (p : Option Parked) → Q (resumed T p (unparked w s))
      by None = λ told. gone
      by (Some (ObtainWait number sel)) = λ told. gone
      by (Some (ObtainReady key parent object sel)) = λ told. K.installs (unparked w s) key (Some parent) sel object gone
      by (Some ObtainCancelled) = λ told. gone
      by (Some (DelegateWait parent)) = λ told. gone
      by (Some (DelegateReady parent key)) = answered parent key (cap (unparked w s) parent)
      by (Some (RevokeWait j)) = λ told. gone
      by (Some (Ready code)) = λ told. gone

  handled-led : (from : ℕ) (m : Message) (s : Side) → ((key : KeyName) (j : ℕ) → m ≡ RevokeReq key j → P (revoke_requested T i from j key (cap s key) s))
      → ((j : ℕ) → m ≡ RevokeDone j → P (revoke_done T i j s)) → P s → P (handled T i s from m)
  handled-led from m s requests dones is = handled-by P T i s from m (record {
    same = is;
    asked_obtain = λ place target of. K.other s (asked (target_vpe target) (ObtainAsk place target) s) refl refl is;
    dead_obtain = λ place target of. refused-kept Dead (ObtainAsk place target) s is;
    asked_delegate = λ parent object vpe sel of. K.other s (asked vpe (DelegateAsk parent object sel) s) refl refl is;
    dead_delegate = λ parent object vpe sel of. refused-kept Dead (DelegateAsk parent object sel) s is;
    given = λ parent key object of. ready parent key object (parked s key.vpe);
    orphaned = λ parent key object of. K.sends s (owner_of T parent) (Orphan parent key) is;
    no_obtain = λ place code of. call_refused-kept code place.vpe s is;
    prepared = λ parent key of. K.other s (parked_as parent.vpe (DelegateReady parent key) s) refl refl is;
    given_up = λ parent key of. K.sends s (owner_of T key) (Ack key false) is;
    no_delegate = λ parent code of. call_refused-kept code parent.vpe s is;
    acked = λ key accepted p of there. acked key accepted p;
    unlinks = λ parent key. K.unlinks s parent key is;
    requests = requests;
    dones = dones;
  })
    where
      ready : (parent key : KeyName) (object : Object) (p : Option Parked) → P (obtain_ready parent key object p s)
      ready parent key object (Some (ObtainWait number sel)) = K.other s (parked_as key.vpe (ObtainReady key parent object sel) s) refl refl is
      ready parent key object None = is
      ready parent key object (Some (ObtainReady key' parent' object' sel)) = is
      ready parent key object (Some ObtainCancelled) = is
      ready parent key object (Some (DelegateWait parent')) = is
      ready parent key object (Some (DelegateReady parent' key')) = is
      ready parent key object (Some (RevokeWait j)) = is
      ready parent key object (Some (Ready code)) = is

      removed : (key : KeyName) → P (pending_removed key s)
      removed key = K.other s (pending_removed key s) refl refl is

      acked : (key : KeyName) (accepted : Bool) (p : Pending) → P (acknowledged T key accepted s p)
      acked key true p = cond_both (is_alive s key.vpe) _ _ P (λ _. K.installs (pending_removed key s) key (Some p.parent) p.sel p.object (removed key))
          (λ _. K.sends (pending_removed key s) (owner_of T p.parent) (Orphan p.parent key) (removed key))
      acked key false p = K.other (pending_removed key s) (freed key.vpe p.sel (pending_removed key s)) refl refl (removed key)

  pub step-led : (s : Side) (a : Act) (input : Option Message) → (Moves a → ⊥) → P s → Revokings T i P s → Grants (local_step T i s a input)
      → P (local_step T i s a input).side
  unfolding local_step
  step-led s (Calls w) input still is R told = option-keeps Q (call_row T i (call_counted w s) w) (next_call T s w) (unshown s)
      (λ c there. call-led w c s R (K.other s (call_counted w s) refl refl is)) (λ told'. is) told
  step-led s (Upcall w) input still is R told = upcall-led w s is told
  step-led s (Resume w) input still is R told = resume-led w s is told
  step-led s (Kill w) input still is R told = R.kills w
  step-led s (Fetch j) input still is R told = absurd (still tt)
  step-led s (Flush j) input still is R told = absurd (still tt)
  step-led s Handle input still is R told = handling s.inbox refl
    where
      handling : (o : Option (ℕ × Message)) → s.inbox ≡ o → P (option_map_or (λ m. handled T i (with_inbox None s) m.0 m.1) o s)
      handling None none = is
      handling (Some (from, m)) full = handled-led from m (with_inbox None s) (λ key j of. R.requests from key j (full ∙ ap (λ z. Some (from, z)) of))
          (λ j of. R.dones from j (full ∙ ap (λ z. Some (from, z)) of)) (K.other s (with_inbox None s) refl refl is)
