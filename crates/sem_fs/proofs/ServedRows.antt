-- Rows that are not refused leave no refusal, and reply with success.
use Rattle.std.proofs.Common.{◌≡◌, ℕ, ◌+◌, ◌≤◌, Bool, true, false, not, List, [], ◌∷◌, ◌++◌, drop, length, get_or, nat_lt, Option, Some, None, refl, sym, ap}
use Rattle.std.proofs.Common.{◌∙◌, subst, inl, inr}
use Rattle.std.specs.Prelude.{◌==◌, if◌then◌else◌}
use Rattle.std.specs.List.{Contains}
use Rattle.std.proofs.lemmas.Bool.{cases_eq, cond_both, true≢false}
use Rattle.std.proofs.lemmas.Option.{same_Some}
use Rattle.std.proofs.lemmas.List.Elements.{Contains-append_cases}
use Rattle.sem_key.specs.declared.object.Object.{Object}
use Rattle.sem_key.specs.KeyName.{KeyName, key_eq}
use Rattle.sem_key.specs.PlaceName.{PlaceName, keyed}
use Rattle.sem_key.specs.Lists.{put}
use Rattle.sem_key.specs.Capability.{Capability}
use Rattle.sem_key.specs.CapList.{fresh}
use Rattle.sem_key.proofs.Members.{Contains-nil, Contains-cons_cases, Contains-tail, Contains-from_filter}
use Rattle.sem_key.proofs.Puts.{get_or-put_same, get_or-put_other}
use Rattle.sem_msg.specs.declared.message.Message.{Message}
use Rattle.sem_msg.specs.declared.message.Message.TheVariants.{ObtainReq, ObtainOk, ObtainNo, DelegateReq, DelegatePrepared, DelegateNo, Ack, Orphan, RevokeReq}
use Rattle.sem_msg.specs.declared.message.Message.TheVariants.{RevokeDone, Unlink}
use Rattle.sem_msg.specs.declared.message.Target.{Target}
use Rattle.sem_msg.specs.declared.message.Target.TheVariants.{Sel as SelTarget, Serv as ServTarget, Offer as OfferTarget}
use Rattle.sem_msg.specs.declared.state.Ask.{Ask}
use Rattle.sem_msg.specs.declared.state.Ask.TheVariants.{Obtain as ObtainAsk, Delegate as DelegateAsk}
use Rattle.sem_msg.specs.declared.state.Parked.{Parked}
use Rattle.sem_msg.specs.declared.state.Parked.TheVariants.{ObtainWait, ObtainReady, ObtainCancelled, DelegateWait, DelegateReady, RevokeWait, Ready}
use Rattle.sem_msg.specs.declared.state.Pending.{Pending}
use Rattle.sem_msg.specs.declared.state.Slot.{Slot}
use Rattle.sem_msg.specs.declared.state.Slot.TheVariants.{Free, Held, Promised}
use Rattle.sem_msg.specs.declared.limits.TheConstants.{ASKS}
use Rattle.sem_msg.specs.Rows.{VpeRow, no_vpe}
use Rattle.sem_msg.specs.Setup.{Setup}
use Rattle.sem_msg.specs.Lookups.{kernel_of, owner_of, place_owner}
use Rattle.sem_machine.specs.Sides.{Side, row, cap, parked, pending, outbox, is_alive, call_counted, drawn, promised, with_slot, parked_as, unparked, asked}
use Rattle.sem_machine.specs.Sides.{ask_taken, linked, unlinked, cap_added, installed, pending_added, pending_removed, send}
use Rattle.sem_machine.specs.Asks.{target_vpe}
use Rattle.sem_machine.specs.Steps.{Step}
use Rattle.sem_machine.specs.Calls.{next_place, next_key, ask_made, offer_made}
use Rattle.sem_machine.specs.Upcalls.{given, given_kind, given_here, child_given, delegate_here, delegate_prepared}
use Rattle.sem_machine.specs.Handles.{is_stray, obtain_ready, acknowledged, handle_row, handled}
use Rattle.sem_machine.specs.Resumes.{delegate_granted, delegate_resumed, resumed, resume_row}
use Rattle.sem_machine.specs.Revokes.{revoke_begun}
use Rattle.sem_machine.proofs.Folds.{option-keeps}
use Rattle.sem_msg.specs.ParkedStates.{is_ready_with}
use Rattle.sem_machine.specs.Journals.{root_keys}
use Rattle.sem_revoke.proofs.Growing.{is_plain}
use Rattle.sem_revoke.proofs.Steady.{IsSteady, revoked-steady, requested-steady, done-steady}
use Rattle.sem_revoke.proofs.Waits.{parked-here, parked-other}
use Rattle.sem_files.specs.Compiled.{SERVER}
use Rattle.sem_fs.specs.Service.{GIVEN}
use Rattle.sem_fs.specs.Serving.{MayBeAskedFor, IsAskBy, IsMessageBy, IsServedCall, IsSideBy}

module _ (T : Setup) where
  -- what is served is asked of the server
  served-target : (target : Target) → MayBeAskedFor T target → target_vpe target ≡ SERVER
  served-target (SelTarget vpe sel) is = absurd is
  served-target (ServTarget service) is = ap (λ (k : KeyName). k.vpe) is
  served-target (OfferTarget service index) is = ap (λ (k : KeyName). k.vpe) is.0

  -- a delegate finds its parent held and unmarked
  abbrev pub IsGrantable : Side → Option Parked → Type 0
  IsGrantable s (Some (DelegateReady parent key)) = (c : Capability) × (cap s parent ≡ Some c) × (c.mark ≡ None)
  IsGrantable s p = Unit {0}

  zero-code : (code : ℕ) → ◌≡◌ {A = Option ℕ} (Some 0) (Some code) → code ≡ 0
  zero-code code same = sym (same_Some 0 code same)

  -- who is asked is alive, and what is asked to be revoked is not about to be installed
  abbrev pub IsReceived : Side → Message → Type 0
  IsReceived s (ObtainReq place target) = is_alive s (target_vpe target) ≡ true
  IsReceived s (DelegateReq parent object vpe sel) = is_alive s vpe ≡ true
  IsReceived s (RevokeReq key job) = is_ready_with key (parked s key.vpe) ≡ false
  IsReceived s m = Unit {0}

-- Which place asks for which target is a relation, and all that is asked for is served.
module _ (T : Setup) (A : PlaceName → Target → Type 0) (serves : (place : PlaceName) (target : Target) → A place target → MayBeAskedFor T target) where
  abbrev P : Side → Type 0
  P s = IsSideBy T A s

  -- Small changes.

  -- what asks, calls, delegations and messages do not see
  pub served-caps : (s : Side) (cs : List Capability) → P s → P (record s { caps = cs })
  served-caps s cs is = record { asks = is.asks; calls = is.calls; pendings = is.pendings; outs = is.outs; inbox = is.inbox }

  pub served-row : (s : Side) → P s → (v : ℕ) (r : VpeRow) → ((a : Ask) → Contains r.asks a → IsAskBy A v a) → P (record s { vpes = put no_vpe s.vpes v r })
  served-row s is v r new = record {
    asks = λ u a among. elim (cases_eq u v) [
      | inl same ↦
          let at : get_or (put no_vpe s.vpes v r) u no_vpe ≡ r = ap (λ n. get_or (put no_vpe s.vpes v r) n no_vpe) same ∙ get_or-put_same no_vpe s.vpes v r in
          subst (λ n. IsAskBy A n a) (sym same) (new a (subst (λ (x : VpeRow). Contains x.asks a) at among))
      | inr other ↦ is.asks u a (subst (λ (x : VpeRow). Contains x.asks a) (get_or-put_other no_vpe s.vpes v u r other) among)
    ];
    calls = is.calls;
    pendings = is.pendings;
    outs = is.outs;
    inbox = is.inbox;
  }

  pub served-slot : (s : Side) → P s → (v sel : ℕ) (state : Slot) → P (with_slot v sel state s)
  served-slot s is v sel state = served-row s is v (record (row s v) { slots = put Free (row s v).slots sel state }) (is.asks v)

  pub served-drawn : (s : Side) → P s → (v : ℕ) → P (drawn v s)
  served-drawn s is v = served-row s is v (record (row s v) { next_number = (row s v).next_number + 1 }) (is.asks v)

  pub served-counted : (s : Side) → P s → (v : ℕ) → P (call_counted v s)
  served-counted s is v = served-row s is v (record (row s v) { next_call = (row s v).next_call + 1 }) (is.asks v)

  pub served-asked : (s : Side) → P s → (v : ℕ) (a : Ask) → IsAskBy A v a → P (asked v a s)
  served-asked s is v a so = served-row s is v (record (row s v) {
    asks = if nat_lt (length (row s v).asks) ASKS then (row s v).asks ++ a ∷ []
        else (row s v).asks;
  })
      (λ b. cond_both (nat_lt (length (row s v).asks) ASKS) ((row s v).asks ++ a ∷ []) (row s v).asks (λ xs. Contains xs b → IsAskBy A v b)
      (λ _ among. elim (Contains-append_cases (row s v).asks (a ∷ []) b among) [
        | inl before ↦ is.asks v b before
        | inr now ↦ elim (Contains-cons_cases a [] b now) [ inl same ↦ subst (IsAskBy A v) same so | inr none ↦ absurd (Contains-nil b none) ]
      ])
      (λ _ among. is.asks v b among))

  pub served-taken : (s : Side) → P s → (v : ℕ) → P (ask_taken v s)
  served-taken s is v = served-row s is v (record (row s v) { asks = drop 1 (row s v).asks }) (λ a among. is.asks v a (behind (row s v).asks a among))
    where
      behind : (xs : List Ask) (a : Ask) → Contains (drop 1 xs) a → Contains xs a
      behind [] a among = among
      behind (x ∷ xs) a among = Contains-tail x xs a among

  pub served-park : (s : Side) → P s → (v : ℕ) (p : Option Parked) → IsServedCall T p → P (record s { parks = put None s.parks v p })
  served-park s is v p so = record {
    asks = is.asks;
    calls = λ u. elim (cases_eq u v) [
      | inl same ↦ subst (IsServedCall T) (sym (ap (parked (record s { parks = put None s.parks v p })) same ∙ parked-here s v p)) so
      | inr other ↦ subst (IsServedCall T) (sym (parked-other s v p u other)) (is.calls u)
    ];
    pendings = is.pendings;
    outs = is.outs;
    inbox = is.inbox;
  }

  pub served-send : (s : Side) → P s → (j : ℕ) (m : Message) → IsMessageBy T A m → P (send j m s)
  served-send s is j m so = record {
    asks = is.asks;
    calls = is.calls;
    pendings = is.pendings;
    outs = λ k q among. elim (cases_eq k j) [
      | inl same ↦
          let at : get_or (put [] s.outs j (outbox s j ++ m ∷ [])) k [] ≡ outbox s j ++ m ∷ [] =
          ap (λ n. get_or (put [] s.outs j (outbox s j ++ m ∷ [])) n []) same
          ∙ get_or-put_same [] s.outs j (outbox s j ++ m ∷ []) in
          elim (Contains-append_cases (outbox s j) (m ∷ []) q (subst (λ ms. Contains ms q) at among)) [
            | inl before ↦ is.outs j q before
            | inr now ↦ elim (Contains-cons_cases m [] q now) [ inl same' ↦ subst (IsMessageBy T A) same' so | inr none ↦ absurd (Contains-nil q none) ]
          ]
      | inr other ↦ is.outs k q (subst (λ ms. Contains ms q) (get_or-put_other [] s.outs j k (outbox s j ++ m ∷ []) other) among)
    ];
    inbox = is.inbox;
  }

  pub served-installed : (s : Side) → P s → (k : KeyName) (parent : Option KeyName) (sel : ℕ) (object : Object) → P (installed k parent sel object s)
  served-installed s is k parent sel object =
      served-slot (cap_added (fresh k parent sel object) s) (served-caps s (cap_added (fresh k parent sel object) s).caps is)
      k.vpe sel (Held k)

  pub served-pending : (s : Side) → P s → (p : Pending) → GIVEN ≤ p.sel → P (pending_added p s)
  served-pending s is p so = record {
    asks = is.asks;
    calls = is.calls;
    pendings = λ q among. elim (Contains-append_cases s.pendings (p ∷ []) q among) [
      | inl before ↦ is.pendings q before
      | inr now ↦ elim (Contains-cons_cases p [] q now) [ inl same ↦ subst (λ (x : Pending). GIVEN ≤ x.sel) same so | inr none ↦ absurd (Contains-nil q none) ]
    ];
    outs = is.outs;
    inbox = is.inbox;
  }

  pub served-settled : (s : Side) → P s → (k : KeyName) → P (pending_removed k s)
  served-settled s is k =
      record {
        asks = is.asks;
        calls = is.calls;
        pendings = λ q among. is.pendings q
            (Contains-from_filter (λ (x : Pending). not (key_eq x.key k)) s.pendings q among).0;
        outs = is.outs;
        inbox = is.inbox;
      }

  pub served-inbox : (s : Side) → P s → (message : Option (ℕ × Message)) → ((from : ℕ) (m : Message) → message ≡ Some (from, m) → IsMessageBy T A m)
      → P (record s { inbox = message })
  served-inbox s is message so = record { asks = is.asks; calls = is.calls; pendings = is.pendings; outs = is.outs; inbox = so }

  -- the messages of revokes
  plain-so : (m : Message) → is_plain m ≡ false → IsMessageBy T A m
  plain-so (ObtainReq place target) other = absurd cc
  plain-so (ObtainOk parent key object) other = absurd cc
  plain-so (ObtainNo place code) other = absurd cc
  plain-so (DelegateReq parent object vpe sel) other = absurd cc
  plain-so (DelegatePrepared parent key) other = absurd cc
  plain-so (DelegateNo parent code) other = absurd cc
  plain-so (Ack key accepted) other = absurd cc
  plain-so (Orphan parent key) other = tt
  plain-so (RevokeReq key job) other = tt
  plain-so (RevokeDone job) other = tt
  plain-so (Unlink parent key) other = tt

  -- no part of a revoke changes it
  pub served-steady : IsSteady P
  served-steady = record {
    caps = λ s cs thin is. served-caps s cs is;
    restores = λ s t x was among keeps is. served-caps t _ is;
    bound = λ s es is. record { asks = is.asks; calls = is.calls; pendings = is.pendings; outs = is.outs; inbox = is.inbox };
    jobs = λ s js less is. record { asks = is.asks; calls = is.calls; pendings = is.pendings; outs = is.outs; inbox = is.inbox };
    opens = λ s root up ws is. record { asks = is.asks; calls = is.calls; pendings = is.pendings; outs = is.outs; inbox = is.inbox };
    frees = λ s v sel is. served-slot s is v sel Free;
    wakes = λ s v is. served-park s is v (Some (Ready 0)) refl;
    sends = λ s j m loud is. served-send s is j m (plain-so m loud);
  }

  -- Calls.

  pub ask-served : (i v dst : ℕ) (target : Target) (s : Side) → P s → A (next_place T s v) target → P (ask_made T i v dst target s).side
  ask-served i v dst target s is so =
      let place : PlaceName = next_place T s v in
      let w : ℕ = target_vpe target in
      let promising : Side = promised v dst (drawn v s) in
      let waiting : Side = parked_as v (ObtainWait place.number dst) promising in
      let waits : P waiting = served-park promising (served-slot (drawn v s) (served-drawn s is v) v dst Promised) v (Some (ObtainWait place.number dst)) tt in
      cond_both (kernel_of T w == i) _ _ P (λ _. served-asked waiting waits w (ObtainAsk place target) (served-target T target (serves place target so), so))
      (λ _. served-send waiting waits (kernel_of T w) (ObtainReq place target) so)

  pub offer-served : (i v w dst : ℕ) (p : Capability) (s : Side) → P s → GIVEN ≤ dst → P (offer_made T i v w dst p s).side
  offer-served i v w dst p s is so =
      let waiting : Side = parked_as v (DelegateWait p.key) s in
      let waits : P waiting = served-park s is v (Some (DelegateWait p.key)) tt in
      cond_both (kernel_of T w == i) _ _ P (λ _. served-asked waiting waits w (DelegateAsk p.key p.object dst) so)
      (λ _. served-send waiting waits (kernel_of T w) (DelegateReq p.key p.object w dst) so)

  pub revoke-served : (i v : ℕ) (k : KeyName) (m : Option ℕ) (s : Side) → P s → P (revoke_begun T i v k m s)
  revoke-served i v k m s is = revoked-steady P served-steady T i v k m s (λ j. served-park s is v (Some (RevokeWait j)) tt)

  -- Consents.

  given_here-served : (k p : KeyName) (object : Object) (state : Option Parked) (s : Side) → P s → P (given_here k p object state s)
  given_here-served k p object (Some (ObtainWait number sel)) s is =
      served-park (installed k (Some p) sel object s) (served-installed s is k (Some p) sel object) k.vpe
      (Some (Ready 0)) refl
  given_here-served k p object None s is = is
  given_here-served k p object (Some (ObtainReady key parent object' sel)) s is = is
  given_here-served k p object (Some ObtainCancelled) s is = is
  given_here-served k p object (Some (DelegateWait parent)) s is = is
  given_here-served k p object (Some (DelegateReady parent key)) s is = is
  given_here-served k p object (Some (RevokeWait j)) s is = is
  given_here-served k p object (Some (Ready code)) s is = is

  pub given-served : (i : ℕ) (place : PlaceName) (target : Target) (s : Side) (p : Capability) → P s → Contains (root_keys T) p.key
      → P (child_given T i place target s p).side
  given-served i place target s p is so =
      let k : KeyName = keyed place (given_kind target p) in
      let linking : Side = linked p.key k s in
      let one : P linking = served-caps s linking.caps is in
      cond_both (kernel_of T place.vpe == i) _ _ P (λ _. given_here-served k p.key (given target place.vpe p) (parked linking place.vpe) linking one)
      (λ _. served-send linking one (place_owner T place) (ObtainOk p.key k (given target place.vpe p)) so)

  pub here-served : (v : ℕ) (parent : KeyName) (object : Object) (sel : ℕ) (s : Side) → P s → P (delegate_here T v parent object sel s).side
  here-served v parent object sel s is =
      let k : KeyName = next_key T s v parent.kind in
      let linking : Side = linked parent k (drawn v s) in
      let one : P linking = served-caps (drawn v s) linking.caps (served-drawn s is v) in
      served-park (installed k (Some parent) sel object linking) (served-installed linking one k (Some parent) sel object) parent.vpe (Some (Ready 0)) refl

  pub prepared-served : (v : ℕ) (parent : KeyName) (object : Object) (sel : ℕ) (s : Side) → P s → GIVEN ≤ sel →
      P (delegate_prepared T v parent object sel s).side
  prepared-served v parent object sel s is so =
      let k : KeyName = next_key T s v parent.kind in
      let promising : Side = promised v sel (drawn v s) in
      let p : Pending = record { key = k; parent = parent; object = object; sel = sel } in
      served-send (pending_added p promising) (served-pending promising (served-slot (drawn v s) (served-drawn s is v) v sel Promised) p so) (owner_of T parent)
      (DelegatePrepared parent k) tt

  -- Parked calls that go on.

  -- the step leaves no refusal, and replies with success if it replies
  abbrev pub Succeeds : Step → Type 0
  Succeeds x = P x.side × ((code : ℕ) → x.outcome.reply ≡ Some code → code ≡ 0)

  resumed-served : (p : Option Parked) (s : Side) → P s → IsServedCall T p → IsGrantable T s p → Succeeds (resumed T p s)
  resumed-served None s is so may = (is, λ code none. absurd cc)
  resumed-served (Some (ObtainWait number sel)) s is so may = (is, λ code none. absurd cc)
  resumed-served (Some (ObtainReady key parent object sel)) s is so may = (served-installed s is key (Some parent) sel object, zero-code T)
  resumed-served (Some ObtainCancelled) s is so may = absurd so
  resumed-served (Some (DelegateWait parent)) s is so may = (is, λ code none. absurd cc)
  resumed-served (Some (DelegateReady parent key)) s is so (c, held, unmarked) =
      let done : Step = delegate_granted T parent key None s in
      let same : delegate_resumed T parent key (cap s parent) s ≡ done = ap (λ o. delegate_resumed T parent key o s) held
      ∙ ap (λ m. delegate_granted T parent key m s) unmarked in
      subst Succeeds (sym same) (
        served-send (linked parent key s) (served-caps s (linked parent key s).caps is) (owner_of T key) (Ack key true) tt,
        zero-code T,
      )
  resumed-served (Some (RevokeWait j)) s is so may = (is, λ code none. absurd cc)
  resumed-served (Some (Ready number)) s is so may = (is, λ code same. sym (same_Some number code same) ∙ so)

  pub resume-served : (s : Side) (v : ℕ) → P s → IsGrantable T s (parked s v) → Succeeds (resume_row T s v)
  unfolding resume_row
  resume-served s v is may = resumed-served (parked s v) (unparked v s) (served-park s is v None tt) (is.calls v) (still (parked s v) may)
    where
      still : (p : Option Parked) → IsGrantable T s p → IsGrantable T (unparked v s) p
      still None may = tt
      still (Some (ObtainWait number sel)) may = tt
      still (Some (ObtainReady key parent object sel)) may = tt
      still (Some ObtainCancelled) may = tt
      still (Some (DelegateWait parent)) may = tt
      still (Some (DelegateReady parent key)) may = may
      still (Some (RevokeWait j)) may = tt
      still (Some (Ready code)) may = tt

  -- Messages.

  obtain_ready-served : (parent key : KeyName) (object : Object) (state : Option Parked) (s : Side) → P s → Contains (root_keys T) parent
      → P (obtain_ready parent key object state s)
  obtain_ready-served parent key object (Some (ObtainWait number sel)) s is so = served-park s is key.vpe (Some (ObtainReady key parent object sel)) so
  obtain_ready-served parent key object None s is so = is
  obtain_ready-served parent key object (Some (ObtainReady key' parent' object' sel)) s is so = is
  obtain_ready-served parent key object (Some ObtainCancelled) s is so = is
  obtain_ready-served parent key object (Some (DelegateWait parent')) s is so = is
  obtain_ready-served parent key object (Some (DelegateReady parent' key')) s is so = is
  obtain_ready-served parent key object (Some (RevokeWait j)) s is so = is
  obtain_ready-served parent key object (Some (Ready code)) s is so = is

  acknowledged-served : (key : KeyName) (accepted : Bool) (s : Side) (p : Pending) → P s → P (acknowledged T key accepted s p)
  acknowledged-served key true s p is = cond_both (is_alive s key.vpe) _ _ P
      (λ _. served-installed (pending_removed key s) (served-settled s is key) key (Some p.parent) p.sel p.object)
      (λ _. served-send (pending_removed key s) (served-settled s is key) (owner_of T p.parent) (Orphan p.parent key) tt)
  acknowledged-served key false s p is = served-slot (pending_removed key s) (served-settled s is key) key.vpe p.sel Free

  handle_row-served : (i : ℕ) (s : Side) (from : ℕ) (m : Message) → P s → IsMessageBy T A m → IsReceived T s m → P (handle_row T i s from m)
  unfolding handle_row
  handle_row-served i s from (ObtainReq place target) is so may = cond_both (is_alive s (target_vpe target)) _ _ P
      (λ _. served-asked s is (target_vpe target) (ObtainAsk place target) (served-target T target (serves place target so), so))
      (λ dead. absurd (true≢false (sym may ∙ dead)))
  handle_row-served i s from (ObtainOk parent key object) is so may = cond_both (is_alive s key.vpe) _ _ P
      (λ _. obtain_ready-served parent key object (parked s key.vpe) s is so) (λ _. served-send s is (owner_of T parent) (Orphan parent key) tt)
  handle_row-served i s from (ObtainNo place code) is so may = absurd so
  handle_row-served i s from (DelegateReq parent object vpe sel) is so may =
      cond_both (is_alive s vpe) _ _ P (λ _. served-asked s is vpe (DelegateAsk parent object sel) so) (λ dead. absurd (true≢false (sym may ∙ dead)))
  handle_row-served i s from (DelegatePrepared parent key) is so may =
      cond_both (is_alive s parent.vpe) _ _ P (λ _. served-park s is parent.vpe (Some (DelegateReady parent key)) tt)
      (λ _. served-send s is (owner_of T key) (Ack key false) tt)
  handle_row-served i s from (DelegateNo parent code) is so may = absurd so
  handle_row-served i s from (Ack key accepted) is so may = option-keeps P (acknowledged T key accepted s) (pending s key) s
      (λ p there. acknowledged-served key accepted s p is) is
  handle_row-served i s from (Orphan parent key) is so may = served-caps s (unlinked parent key s).caps is
  handle_row-served i s from (RevokeReq key j) is so may = requested-steady P served-steady T i from j key (cap s key) s
      (λ u ready same here. absurd (true≢false (sym ready ∙ may))) is
  handle_row-served i s from (RevokeDone j) is so may = done-steady P served-steady T i j s is
  handle_row-served i s from (Unlink parent key) is so may = served-caps s (unlinked parent key s).caps is

  pub handled-served : (i : ℕ) (s : Side) (from : ℕ) (m : Message) → P s → IsMessageBy T A m → (is_stray T i s m ≡ false → IsReceived T s m) →
      P (handled T i s from m)
  handled-served i s from m is so may =
      cond_both (is_stray T i s m) s (handle_row T i s from m) P (λ _. is) (λ right. handle_row-served i s from m is so (may right))
