-- What a side carries speaks of keys, places and VPEs of which a text of the version can speak, and each named change of a side keeps that.
use Rattle.std.proofs.Common.{◌≡◌, ℕ, Bool, not, List, [], ◌∷◌, ◌++◌, drop, length, slice_get, Option, Some, None, subst}
use Rattle.std.specs.Prelude.{nat_lt}
use Rattle.std.specs.List.{All, filter, list_any}
use Rattle.std.proofs.lemmas.Bool.{cond_both}
use Rattle.std.proofs.lemmas.List.Elements.{All-contains, All-append, All-cons, All-head, All-nil, All-filter}
use Rattle.std.proofs.lemmas.Option.{same_Some}
use Rattle.sem_key.specs.declared.object.Object.{Object}
use Rattle.sem_key.specs.declared.object.Object.TheVariants.{Mem, Recv, Send, Serv, Sess}
use Rattle.sem_key.specs.KeyName.{KeyName, key_eq, key_lt}
use Rattle.sem_key.specs.Lists.{change, put}
use Rattle.sem_key.specs.KeyList.{with_key, without_key}
use Rattle.sem_key.specs.Capability.{Capability}
use Rattle.sem_key.specs.CapList.{is_marked_by, restored}
use Rattle.sem_key.proofs.Members.{found}
use Rattle.sem_msg.specs.declared.limits.TheConstants.{ASKS}
use Rattle.sem_msg.specs.declared.message.Target.{Target}
use Rattle.sem_msg.specs.declared.message.Target.TheVariants.{Sel as SelTarget, Serv as ServTarget, Offer as OfferTarget}
use Rattle.sem_msg.specs.declared.message.Message.{Message}
use Rattle.sem_msg.specs.declared.message.Message.TheVariants.{ObtainReq, ObtainOk, ObtainNo, DelegateReq, DelegatePrepared, DelegateNo, Ack, Orphan, RevokeReq}
use Rattle.sem_msg.specs.declared.message.Message.TheVariants.{RevokeDone, Unlink}
use Rattle.sem_msg.specs.declared.state.Ask.{Ask}
use Rattle.sem_msg.specs.declared.state.Ask.TheVariants.{Obtain as ObtainAsk, Delegate as DelegateAsk}
use Rattle.sem_msg.specs.declared.state.Parked.{Parked}
use Rattle.sem_msg.specs.declared.state.Parked.TheVariants.{ObtainWait, ObtainReady, ObtainCancelled, DelegateWait, DelegateReady, RevokeWait, Ready}
use Rattle.sem_msg.specs.declared.state.Pending.{Pending}
use Rattle.sem_msg.specs.declared.state.Slot.{Slot}
use Rattle.sem_msg.specs.declared.state.Slot.TheVariants.{Free, Held, Promised}
use Rattle.sem_msg.specs.Rows.{VpeRow, no_vpe}
use Rattle.sem_trace.specs.Ranges.{IsNode, IsKeyInText, IsPlaceInText}
use Rattle.sem_journal.specs.EntryRanges.{IsCode}
use Rattle.sem_machine.specs.Sides.{Side, row, cap, cap_in, own, slot, parked, pending, outbox, with_slot, parked_as, unparked, asked, ask_taken, buried}
use Rattle.sem_machine.specs.Sides.{call_counted, drawn, cap_added, linked, unlinked, mark_all, caps_removed, pending_added, pending_removed, send, sent}
use Rattle.sem_machine.specs.Sides.{with_inbox}
use Rattle.sem_safety.proofs.Carrying.{All-put, All-read, All-drop_one, All-change}

module _ (version : ℕ) where
  -- Of which keys, places and VPEs a thing speaks.

  -- an object
  abbrev pub NearObject : Object → Type 0
  NearObject (Mem base len rights) = Unit {0}
  NearObject (Recv slots) = Unit {0}
  NearObject (Send gate label credits) = IsKeyInText version gate
  NearObject (Serv name) = Unit {0}
  NearObject (Sess service ident) = IsKeyInText version service × IsNode version ident

  -- a target
  abbrev pub NearTarget : Target → Type 0
  NearTarget (SelTarget vpe sel) = IsNode version vpe
  NearTarget (ServTarget service) = IsKeyInText version service
  NearTarget (OfferTarget service index) = IsKeyInText version service

  -- a message; its code is one of a text
  abbrev pub NearMessage : Message → Type 0
  NearMessage (ObtainReq place target) = IsPlaceInText version place × NearTarget target
  NearMessage (ObtainOk parent key object) = IsKeyInText version parent × IsKeyInText version key × NearObject object
  NearMessage (ObtainNo place code) = IsPlaceInText version place × IsCode code
  NearMessage (DelegateReq parent object vpe sel) = IsKeyInText version parent × NearObject object × IsNode version vpe
  NearMessage (DelegatePrepared parent key) = IsKeyInText version parent × IsKeyInText version key
  NearMessage (DelegateNo parent code) = IsKeyInText version parent × IsCode code
  NearMessage (Ack key accepted) = IsKeyInText version key
  NearMessage (Orphan parent key) = IsKeyInText version parent × IsKeyInText version key
  NearMessage (RevokeReq key job) = IsKeyInText version key
  NearMessage (RevokeDone job) = Unit {0}
  NearMessage (Unlink parent key) = IsKeyInText version parent × IsKeyInText version key

  -- what is in an inbox
  abbrev pub NearInbox : Option (ℕ × Message) → Type 0
  NearInbox None = Unit {0}
  NearInbox (Some m) = NearMessage m.1

  -- a parked call
  abbrev pub NearCall : Option Parked → Type 0
  NearCall None = Unit {0}
  NearCall (Some (ObtainWait number sel)) = Unit {0}
  NearCall (Some (ObtainReady key parent object sel)) = IsKeyInText version key × IsKeyInText version parent × NearObject object
  NearCall (Some ObtainCancelled) = Unit {0}
  NearCall (Some (DelegateWait parent)) = Unit {0}
  NearCall (Some (DelegateReady parent key)) = IsKeyInText version parent × IsKeyInText version key
  NearCall (Some (RevokeWait job)) = Unit {0}
  NearCall (Some (Ready code)) = IsCode code

  -- an ask
  abbrev pub NearAsk : Ask → Type 0
  NearAsk (ObtainAsk place target) = IsPlaceInText version place × NearTarget target
  NearAsk (DelegateAsk parent object sel) = IsKeyInText version parent × NearObject object

  -- a pending delegation
  abbrev pub NearPending : Pending → Type 0
  NearPending p = IsKeyInText version p.key × IsKeyInText version p.parent × NearObject p.object

  -- the parent of a capability, if it has one
  abbrev pub NearParent : Option KeyName → Type 0
  NearParent None = Unit {0}
  NearParent (Some p) = IsKeyInText version p

  pub record NearCap (c : Capability) : Type 0 where
    pub key : IsKeyInText version c.key
    pub parent : NearParent c.parent
    pub children : All (IsKeyInText version) c.children
    pub object : NearObject c.object

  -- what is kept of a VPE
  abbrev pub NearRow : VpeRow → Type 0
  NearRow r = All NearAsk r.asks

  -- all messages of a list
  abbrev pub NearMessages : List Message → Type 0
  NearMessages ms = All NearMessage ms

  -- the stores of a side that hold keys, and its messages
  pub record NearStores (cs : List Capability) (rs : List VpeRow) (ps : List (Option Parked)) (ds : List Pending) (fetched : Option (ℕ × Message))
      (os : List (List Message)) : Type 0 where
    pub caps : All NearCap cs
    pub rows : All NearRow rs
    pub parks : All NearCall ps
    pub pendings : All NearPending ds
    pub inbox : NearInbox fetched
    pub outs : All NearMessages os

  -- all of a side
  abbrev pub NearSide : Side → Type 0
  NearSide s = NearStores s.caps s.vpes s.parks s.pendings s.inbox s.outs

  -- Nothing.

  -- a VPE of which nothing is kept
  pub no_row-near : NearRow no_vpe
  no_row-near = All-nil NearAsk

  module _ (s : Side) (is : NearSide s) where
    -- Reading.

    -- the row of a VPE
    pub row-near : (v : ℕ) → NearRow (row s v)
    row-near v = All-read NearRow no_vpe s.vpes v no_row-near is.rows

    -- the parked call of a VPE
    pub parked-near : (v : ℕ) → NearCall (parked s v)
    parked-near v = All-read NearCall None s.parks v tt is.parks

    -- a held capability
    pub cap-near : (k : KeyName) (c : Capability) → cap s k ≡ Some c → NearCap c
    cap-near k c there = All-contains NearCap s.caps c is.caps (found (λ x. key_eq x.key k) s.caps c there).0

    -- the capability at a selector
    pub own-near : (v sel : ℕ) (c : Capability) → own s v sel ≡ Some c → NearCap c
    own-near v sel c held = from (slot s v sel) held
      where
        from : (x : Slot) → cap_in s x ≡ Some c → NearCap c
        from Free none = absurd cc
        from (Held k) some = cap-near k c some
        from Promised none = absurd cc

    -- a pending delegation
    pub pending-near : (k : KeyName) (p : Pending) → pending s k ≡ Some p → NearPending p
    pending-near k p there = All-contains NearPending s.pendings p is.pendings (found (λ (x : Pending). key_eq x.key k) s.pendings p there).0

    -- the oldest ask of a VPE
    pub first_ask-near : (v : ℕ) (a : Ask) → slice_get (row s v).asks 0 ≡ Some a → NearAsk a
    first_ask-near v a there = from (row s v).asks (row-near v) there
      where
        from : (asks : List Ask) → All NearAsk asks → slice_get asks 0 ≡ Some a → NearAsk a
        from [] all none = absurd cc
        from (x ∷ xs) all some = subst NearAsk (same_Some x a some) (All-head NearAsk x xs all)

    -- what waits to be sent
    pub outbox-near : (j : ℕ) → NearMessages (outbox s j)
    outbox-near j = All-read NearMessages [] s.outs j (All-nil NearMessage) is.outs

    -- Changes of what is kept of VPEs.

    -- another row
    pub put_row-near : (v : ℕ) (r : VpeRow) → NearRow r → NearSide (record s { vpes = put no_vpe s.vpes v r })
    put_row-near v r here = record {
      caps = is.caps;
      rows = All-put NearRow no_vpe s.vpes v r no_row-near here is.rows;
      parks = is.parks;
      pendings = is.pendings;
      inbox = is.inbox;
      outs = is.outs;
    }

    -- one more call
    pub counted-near : (v : ℕ) → NearSide (call_counted v s)
    counted-near v = put_row-near v _ (row-near v)

    -- one more number
    pub drawn-near : (v : ℕ) → NearSide (drawn v s)
    drawn-near v = put_row-near v _ (row-near v)

    -- another state of a selector
    pub with_slot-near : (v sel : ℕ) (state : Slot) → NearSide (with_slot v sel state s)
    with_slot-near v sel state = put_row-near v _ (row-near v)

    -- one more ask
    pub asked-near : (v : ℕ) (a : Ask) → NearAsk a → NearSide (asked v a s)
    asked-near v a here = put_row-near v _ (cond_both (nat_lt (length (row s v).asks) ASKS) ((row s v).asks ++ a ∷ []) (row s v).asks (All NearAsk)
        (λ _. All-append NearAsk (row s v).asks (a ∷ []) (row-near v) (All-cons NearAsk a [] here (All-nil NearAsk))) (λ _. row-near v))

    -- one ask less
    pub taken-near : (v : ℕ) → NearSide (ask_taken v s)
    taken-near v = put_row-near v _ (All-drop_one NearAsk (row s v).asks (row-near v))

    -- a VPE that is dead
    pub buried-near : (v : ℕ) → NearSide (buried v s)
    buried-near v = put_row-near v _ (All-nil NearAsk)

    -- another parked call, or none
    put_park-near : (v : ℕ) (p : Option Parked) → NearCall p → NearSide (record s { parks = put None s.parks v p })
    put_park-near v p here = record {
      caps = is.caps;
      rows = is.rows;
      parks = All-put NearCall None s.parks v p tt here is.parks;
      pendings = is.pendings;
      inbox = is.inbox;
      outs = is.outs;
    }

    -- a parked call
    pub parked_as-near : (v : ℕ) (p : Parked) → NearCall (Some p) → NearSide (parked_as v p s)
    parked_as-near v p here = put_park-near v (Some p) here

    -- no parked call
    pub unparked-near : (v : ℕ) → NearSide (unparked v s)
    unparked-near v = put_park-near v None tt

    -- Changes of capabilities.

    -- one more capability
    pub cap_added-near : (c : Capability) → NearCap c → NearSide (cap_added c s)
    cap_added-near c here = record {
      caps = All-append NearCap (filter (λ x. key_lt x.key c.key) s.caps) (c ∷ filter (λ x. not (key_lt x.key c.key)) s.caps)
          (All-filter (λ x. key_lt x.key c.key) NearCap s.caps is.caps)
          (All-cons NearCap c (filter (λ x. not (key_lt x.key c.key)) s.caps) here (All-filter (λ x. not (key_lt x.key c.key)) NearCap s.caps is.caps));
      rows = is.rows;
      parks = is.parks;
      pendings = is.pendings;
      inbox = is.inbox;
      outs = is.outs;
    }

    -- capabilities that changed
    caps_changed-near : (test : Capability → Bool) (f : Capability → Capability) → ((c : Capability) → NearCap c → NearCap (f c)) → NearSide
        (record s { caps = change test f s.caps })
    caps_changed-near test f keeps = record {
      caps = All-change NearCap test f s.caps
          (λ c _ here. keeps c here) is.caps;
      rows = is.rows;
      parks = is.parks;
      pendings = is.pendings;
      inbox = is.inbox;
      outs = is.outs;
    }

    -- one more child
    pub linked-near : (p k : KeyName) → IsKeyInText version k → NearSide (linked p k s)
    linked-near p k here = caps_changed-near (λ c. key_eq c.key p) (λ c. record c { children = with_key c.children k }) (λ c before. record {
      key = before.key;
      parent = before.parent;
      children = All-append (IsKeyInText version) (filter (λ q. key_lt q k) c.children) (k ∷ filter (λ q. key_lt k q) c.children)
          (All-filter (λ q. key_lt q k) (IsKeyInText version) c.children before.children)
          (All-cons (IsKeyInText version) k (filter (λ q. key_lt k q) c.children) here
          (All-filter (λ q. key_lt k q) (IsKeyInText version) c.children before.children));
      object = before.object;
    })

    -- one child less
    pub unlinked-near : (p k : KeyName) → NearSide (unlinked p k s)
    unlinked-near p k = caps_changed-near (λ c. key_eq c.key p) (λ c. record c { children = without_key c.children k }) (λ c before. record {
      key = before.key;
      parent = before.parent;
      children = All-filter (λ q. not (key_eq q k)) (IsKeyInText version) c.children before.children;
      object = before.object;
    })

    -- capabilities that are marked
    pub marked-near : (ks : List KeyName) (j : ℕ) → NearSide (mark_all ks j s)
    marked-near ks j = caps_changed-near (λ c. list_any (key_eq c.key) ks) (λ c. record c { mark = Some j })
        (λ c before. record { key = before.key; parent = before.parent; children = before.children; object = before.object })

    -- a capability that lost its mark and children
    pub restored-near : (k : KeyName) → NearSide (record s { caps = restored s.caps k })
    restored-near k = caps_changed-near (λ c. key_eq c.key k) (λ c. record c { children = []; mark = None })
        (λ c before. record { key = before.key; parent = before.parent; children = All-nil (IsKeyInText version); object = before.object })

    -- the marked capabilities are gone
    pub removed-near : (j : ℕ) → NearSide (caps_removed j s)
    removed-near j = record {
      caps = All-filter (λ c. not
          (is_marked_by j c)) NearCap s.caps is.caps;
      rows = is.rows;
      parks = is.parks;
      pendings = is.pendings;
      inbox = is.inbox;
      outs = is.outs;
    }

    -- Changes of pending delegations and messages.

    -- one more pending delegation
    pub pending_added-near : (p : Pending) → NearPending p → NearSide (pending_added p s)
    pending_added-near p here = record {
      caps = is.caps;
      rows = is.rows;
      parks = is.parks;
      pendings = All-append NearPending s.pendings (p ∷ []) is.pendings
          (All-cons NearPending p [] here (All-nil NearPending));
      inbox = is.inbox;
      outs = is.outs;
    }

    -- one less
    pub pending_removed-near : (k : KeyName) → NearSide (pending_removed k s)
    pending_removed-near k = record {
      caps = is.caps;
      rows = is.rows;
      parks = is.parks;
      pendings = All-filter
          (λ (p : Pending). not (key_eq p.key k)) NearPending s.pendings is.pendings;
      inbox = is.inbox;
      outs = is.outs;
    }

    -- one more message to be sent
    pub send-near : (j : ℕ) (m : Message) → NearMessage m → NearSide (send j m s)
    send-near j m here = record {
      caps = is.caps;
      rows = is.rows;
      parks = is.parks;
      pendings = is.pendings;
      inbox = is.inbox;
      outs = All-put NearMessages [] s.outs j
          (outbox s j ++ m ∷ []) (All-nil NearMessage) (All-append NearMessage (outbox s j) (m ∷ []) (outbox-near j)
          (All-cons NearMessage m [] here (All-nil NearMessage))) is.outs;
    }

    -- one less
    pub sent-near : (j : ℕ) → NearSide (sent j s)
    sent-near j = record {
      caps = is.caps;
      rows = is.rows;
      parks = is.parks;
      pendings = is.pendings;
      inbox = is.inbox;
      outs = All-put NearMessages [] s.outs j
          (drop 1 (outbox s j)) (All-nil NearMessage) (All-drop_one NearMessage (outbox s j) (outbox-near j)) is.outs;
    }

    -- another message in the inbox, or none
    pub with_inbox-near : (message : Option (ℕ × Message)) → NearInbox message → NearSide (with_inbox message s)
    with_inbox-near message here = record { caps = is.caps; rows = is.rows; parks = is.parks; pendings = is.pendings; inbox = here; outs = is.outs }
