-- Each change of a side keeps a fact about the keys and places that it carries, where what is new has it.
use Rattle.sem_key.specs.Region.{has_key}
use Rattle.sem_key.proofs.KeyTests.{key_eq-true}
use Rattle.std.proofs.Common.{true, ◌≡◌, ℕ, zero, suc, Bool, not, if◌then◌else◌, List, [], ◌∷◌, ◌++◌, drop, get_or, length, slice_get, Option, Some, None, sym}
use Rattle.std.proofs.Common.{subst}
use Rattle.std.specs.List.{All, filter, list_any}
use Rattle.std.specs.Option.{option_map}
use Rattle.std.specs.Prelude.{nat_lt}
use Rattle.std.proofs.lemmas.Option.{same_Some}
use Rattle.sem_machine.specs.Machine.{World}
use Rattle.std.proofs.lemmas.Bool.{cond_both}
use Rattle.std.proofs.lemmas.List.Elements.{All-contains, All-append, All-cons, All-head, All-tail, All-nil, All-filter, All-map, All-weaker}
use Rattle.sem_key.specs.declared.object.Object.{Object}
use Rattle.sem_key.specs.KeyName.{KeyName, key_eq, key_lt}
use Rattle.sem_key.specs.Lists.{change, put}
use Rattle.sem_key.specs.KeyList.{with_key, without_key}
use Rattle.sem_key.specs.Capability.{Capability}
use Rattle.sem_key.specs.CapList.{is_marked_by, restored}
use Rattle.sem_msg.specs.declared.limits.TheConstants.{ASKS}
use Rattle.sem_msg.specs.declared.message.Message.{Message}
use Rattle.sem_msg.specs.declared.state.Ask.{Ask}
use Rattle.sem_msg.specs.declared.state.Parked.{Parked}
use Rattle.sem_msg.specs.declared.state.Pending.{Pending}
use Rattle.sem_msg.specs.declared.state.Slot.{Slot}
use Rattle.sem_msg.specs.Rows.{Endpoint, VpeRow, no_vpe}
use Rattle.sem_msg.specs.EndpointRows.{unbound_from, all_unbound_from}
use Rattle.sem_machine.specs.Sides.{linked, unlinked, mark_all, parked, Side, no_side, row, endpoint, outbox, with_slot, parked_as, unparked, with_endpoint}
use Rattle.sem_machine.specs.Sides.{unbind_all, cap_added, caps_removed, send, sent, with_inbox}
use Rattle.sem_key.proofs.Members.{found}
use Rattle.sem_safety.specs.Observations.{endpoints}
use Rattle.sem_safety.proofs.Layers.{Facts, facts_of, InEndpoint, Brings, BringsFrom, Awaits, AsksFor, IsLayer}

-- Lists.

module _ {X : Type 0} (P : X → Type 0) where
  pub All-put : (d : X) (xs : List X) (i : ℕ) (x : X) → P d → P x → All P xs → All P (put d xs i x)
  unfolding put
  All-put d [] zero x other here all = All-cons P x [] here all
  All-put d [] (suc i) x other here all = All-cons P d (put d [] i x) other (All-put d [] i x other here all)
  All-put d (y ∷ ys) zero x other here all = All-cons P x ys here (All-tail P y ys all)
  All-put d (y ∷ ys) (suc i) x other here all = All-cons P y (put d ys i x) (All-head P y ys all) (All-put d ys i x other here (All-tail P y ys all))

  pub All-read : (d : X) (xs : List X) (i : ℕ) → P d → All P xs → P (get_or xs i d)
  All-read d [] i other all = other
  All-read d (y ∷ ys) zero other all = All-head P y ys all
  All-read d (y ∷ ys) (suc i) other all = All-read d ys i other (All-tail P y ys all)

  pub All-drop_one : (xs : List X) → All P xs → All P (drop 1 xs)
  All-drop_one [] all = all
  All-drop_one (x ∷ xs) all = All-tail P x xs all

  pub All-change : (test : X → Bool) (f : X → X) (xs : List X) → ((x : X) → test x ≡ true → P x → P (f x)) → All P xs → All P (change test f xs)
  All-change test f xs keeps all =
      All-map P (λ x. if test x then f x
      else x) xs (All-weaker P (λ x. P (if test x then f x else x)) (λ x here. cond_both (test x) (f x) x P (λ pass. keeps x pass here) (λ _. here)) xs all)

-- What a side carries.

-- a capability: its key, the children that it leads to, and its mark
pub record InCap (F : Facts) (c : Capability) : Type 0 where
  pub key : F.key c.key c.object
  pub links : All (F.link c.key) c.children
  pub mark : (j : ℕ) → c.mark ≡ Some j → F.doomed c.key

-- the facts of what a row carries; a side and a world likewise
abbrev pub InRow : Facts → VpeRow → Type 0
InRow F r = All (AsksFor F) r.asks

abbrev pub InEndpoints : Facts → List (Option Endpoint) → Type 0
InEndpoints F es = All (InEndpoint F) es

abbrev pub BringsAll : Facts → List Message → Type 0
BringsAll F ms = All (Brings F) ms

pub record InSide (F : Facts) (s : Side) : Type 0 where
  pub caps : All (InCap F) s.caps
  pub rows : All (InRow F) s.vpes
  pub parks : All (Awaits F) s.parks
  pub endpoints : All (InEndpoints F) s.endpoints
  pub inbox : BringsFrom F s.inbox
  pub outs : All (BringsAll F) s.outs
  pub pendings : All F.pends s.pendings

pub record InWorld (F : Facts) (W : World) : Type 0 where
  pub sides : All (InSide F) W.sides
  pub links : All (λ row. All (BringsAll F) row) W.links

-- Facts that go together: children may be marked with their parent, what is drawn may be asked for, what is in use may be offered;
-- a delegation is prepared of what was offered, and when its grant is acknowledged, the key has the object that is pending.
pub record AreFitting (F : Facts) : Type 0 where
  pub spreads : (p k : KeyName) → F.link p k → F.doomed p → F.doomed k
  pub asks : (v n : ℕ) → F.calls v → F.place v n → F.asked v n
  pub offers : (k : KeyName) (o : Object) → F.key k o → F.offered k o
  pub prepares : (parent k : KeyName) (object : Object) (sel : ℕ) → F.offered parent object → F.place k.vpe k.number → F.handed object →
      F.pends (record { key = k; parent = parent; object = object; sel = sel }) × F.prepared parent k
  pub acks : (parent k : KeyName) → F.prepared parent k → F.offered parent F.given → F.key k F.given → F.acked k
  pub settles : (p : Pending) → F.pends p → F.acked p.key → F.key p.key p.object

-- those that see no objects do
pub plain-fitting : (Q : KeyName → Type 0) (R : ℕ → ℕ → Type 0) (link : KeyName → KeyName → Type 0) (doomed : KeyName → Type 0) →
    ((p k : KeyName) → link p k → doomed p → doomed k) → AreFitting (facts_of Q R link doomed)
plain-fitting Q R link doomed spread = record {
  spreads = spread;
  asks = λ v n calls is. is;
  offers = λ k o is. tt;
  prepares = λ parent k object sel offered place handed. (tt, place);
  acks = λ parent k prepared offered is. is;
  settles = λ p pends acked. acked;
}

module _ (F : Facts) where
  -- nothing
  pub no_vpe-in : InRow F no_vpe
  no_vpe-in = All-nil (AsksFor F)

  pub no_side-in : InSide F no_side
  no_side-in = record {
    caps = All-nil (InCap F);
    rows = All-nil (InRow F);
    parks = All-nil (Awaits F);
    endpoints = All-nil (InEndpoints F);
    inbox = tt;
    outs = All-nil (BringsAll F);
    pendings = All-nil F.pends;
  }

  module _ (s : Side) (is : InSide F s) where
    pub row-in : (v : ℕ) → InRow F (row s v)
    row-in v = All-read (InRow F) no_vpe s.vpes v no_vpe-in is.rows

    pub parked-in : (v : ℕ) → Awaits F (parked s v)
    parked-in v = All-read (Awaits F) None s.parks v tt is.parks

    endpoints-in : (v : ℕ) → InEndpoints F (endpoints s v)
    endpoints-in v = All-read (InEndpoints F) [] s.endpoints v (All-nil (InEndpoint F)) is.endpoints

    pub endpoint-in : (v ep : ℕ) → InEndpoint F (endpoint s v ep)
    endpoint-in v ep = All-read (InEndpoint F) None (endpoints s v) ep tt (endpoints-in v)

    -- another row
    pub put_row-in : (v : ℕ) (r : VpeRow) → InRow F r → InSide F (record s { vpes = put no_vpe s.vpes v r })
    put_row-in v r here = record {
      caps = is.caps;
      rows = All-put (InRow F) no_vpe s.vpes v r no_vpe-in here is.rows;
      parks = is.parks;
      endpoints = is.endpoints;
      inbox = is.inbox;
      outs = is.outs;
      pendings = is.pendings;
    }

    -- another parked call, or none, and other endpoints of a VPE
    put_park-in : (v : ℕ) (p : Option Parked) → Awaits F p → InSide F (record s { parks = put None s.parks v p })
    put_park-in v p here = record {
      caps = is.caps;
      rows = is.rows;
      parks = All-put (Awaits F) None s.parks v p tt here is.parks;
      endpoints = is.endpoints;
      inbox = is.inbox;
      outs = is.outs;
      pendings = is.pendings;
    }

    pub put_endpoints-in : (v : ℕ) (es : List (Option Endpoint)) → InEndpoints F es → InSide F (record s { endpoints = put [] s.endpoints v es })
    put_endpoints-in v es here = record {
      caps = is.caps;
      rows = is.rows;
      parks = is.parks;
      endpoints = All-put (InEndpoints F) [] s.endpoints v es (All-nil (InEndpoint F)) here is.endpoints;
      inbox = is.inbox;
      outs = is.outs;
      pendings = is.pendings;
    }

    pub with_slot-in : (v sel : ℕ) (state : Slot) → InSide F (with_slot v sel state s)
    with_slot-in v sel state = put_row-in v _ (row-in v)

    pub parked_as-in : (v : ℕ) (p : Parked) → Awaits F (Some p) → InSide F (parked_as v p s)
    parked_as-in v p here = put_park-in v (Some p) here

    pub unparked-in : (v : ℕ) → InSide F (unparked v s)
    unparked-in v = put_park-in v None tt

    pub with_endpoint-in : (v ep : ℕ) (e : Option Endpoint) → InEndpoint F e → InSide F (with_endpoint v ep e s)
    with_endpoint-in v ep e here =
        put_endpoints-in v (put None (endpoints s v) ep e) (All-put (InEndpoint F) None (endpoints s v) ep e tt here (endpoints-in v))

    unbound-in : (ks : List KeyName) (e : Option Endpoint) → InEndpoint F e → InEndpoint F (unbound_from ks e)
    unbound-in ks None here = tt
    unbound-in ks (Some e) here = cond_both (list_any (key_eq e.key) ks) None (Some e) (InEndpoint F) (λ _. tt) (λ _. here)

    pub unbind_all-in : (ks : List KeyName) → InSide F (unbind_all ks s)
    unbind_all-in ks = record {
      caps = is.caps;
      rows = is.rows;
      parks = is.parks;
      endpoints = All-map (InEndpoints F) (all_unbound_from ks) s.endpoints (All-weaker (InEndpoints F) (λ es. InEndpoints F (all_unbound_from ks es))
          (λ es here. All-map (InEndpoint F) (unbound_from ks) es (All-weaker (InEndpoint F) (λ e. InEndpoint F (unbound_from ks e)) (unbound-in ks) es here))
          s.endpoints is.endpoints);
      inbox = is.inbox;
      outs = is.outs;
      pendings = is.pendings;
    }

    -- capabilities
    pub cap_added-in : (c : Capability) → F.key c.key c.object → c.children ≡ [] → c.mark ≡ None → InSide F (cap_added c s)
    cap_added-in c here childless unmarked =
        let new : InCap F c = record {
          key = here;
          links = subst (All (F.link c.key)) (sym childless) (All-nil (F.link c.key));
          mark = λ j marked. absurd (no-mark c.mark j unmarked marked);
        } in
        record {
          caps = All-append (InCap F) (filter (λ x. key_lt x.key c.key) s.caps) (c ∷ filter (λ x. not (key_lt x.key c.key)) s.caps)
              (All-filter (λ x. key_lt x.key c.key) (InCap F) s.caps is.caps) (All-cons (InCap F) c (filter (λ x. not (key_lt x.key c.key)) s.caps) new
              (All-filter (λ x. not (key_lt x.key c.key)) (InCap F) s.caps is.caps));
          rows = is.rows;
          parks = is.parks;
          endpoints = is.endpoints;
          inbox = is.inbox;
          outs = is.outs;
          pendings = is.pendings;
        }
      where
        no-mark : (o : Option ℕ) (j : ℕ) → o ≡ None → o ≡ Some j → ⊥
        no-mark o j none some = absurd cc

    caps_changed-in : (test : Capability → Bool) (f : Capability → Capability) → ((c : Capability) → test c ≡ true → InCap F c → InCap F (f c)) →
        InSide F (record s { caps = change test f s.caps })
    caps_changed-in test f keeps = record {
      caps = All-change (InCap F) test f s.caps keeps is.caps;
      rows = is.rows;
      parks = is.parks;
      endpoints = is.endpoints;
      inbox = is.inbox;
      outs = is.outs;
      pendings = is.pendings;
    }

    pub linked-in : (p k : KeyName) → F.link p k → InSide F (linked p k s)
    linked-in p k here = caps_changed-in (λ c. key_eq c.key p) (λ c. record c { children = with_key c.children k }) (λ c same before. record {
      key = before.key;
      links = All-append (F.link c.key) (filter (λ q. key_lt q k) c.children) (k ∷ filter (λ q. key_lt k q) c.children)
          (All-filter (λ q. key_lt q k) (F.link c.key) c.children before.links)
          (All-cons (F.link c.key) k (filter (λ q. key_lt k q) c.children) (subst (λ q. F.link q k) (sym (key_eq-true c.key p same)) here)
          (All-filter (λ q. key_lt k q) (F.link c.key) c.children before.links));
      mark = before.mark;
    })

    pub unlinked-in : (p k : KeyName) → InSide F (unlinked p k s)
    unlinked-in p k = caps_changed-in (λ c. key_eq c.key p) (λ c. record c { children = without_key c.children k }) (λ c same before. record {
      key = before.key;
      links = All-filter (λ q. not (key_eq q k)) (F.link c.key) c.children before.links;
      mark = before.mark;
    })

    pub marked-in : (ks : List KeyName) (j : ℕ) → ((k : KeyName) → has_key ks k ≡ true → F.doomed k) → InSide F (mark_all ks j s)
    marked-in ks j doomed = caps_changed-in (λ c. list_any (key_eq c.key) ks) (λ c. record c { mark = Some j }) (λ c among before. record {
      key = before.key;
      links = before.links;
      mark = λ m marked. doomed c.key among;
    })

    pub restored-in : (k : KeyName) → InSide F (record s { caps = restored s.caps k })
    restored-in k = caps_changed-in (λ c. key_eq c.key k) (λ c. record c { children = []; mark = None }) (λ c same before. record {
      key = before.key;
      links = All-nil (F.link c.key);
      mark = λ j marked. absurd cc;
    })

    pub caps_removed-in : (j : ℕ) → InSide F (caps_removed j s)
    caps_removed-in j = record {
      caps = All-filter (λ c. not (is_marked_by j c)) (InCap F) s.caps is.caps;
      rows = is.rows;
      parks = is.parks;
      endpoints = is.endpoints;
      inbox = is.inbox;
      outs = is.outs;
      pendings = is.pendings;
    }

    -- messages
    pub send-in : (j : ℕ) (m : Message) → Brings F m → InSide F (send j m s)
    send-in j m here = record {
      caps = is.caps;
      rows = is.rows;
      parks = is.parks;
      endpoints = is.endpoints;
      inbox = is.inbox;
      outs = All-put (BringsAll F) [] s.outs j (outbox s j ++ m ∷ []) (All-nil (Brings F))
          (All-append (Brings F) (outbox s j) (m ∷ []) (All-read (BringsAll F) [] s.outs j (All-nil (Brings F)) is.outs)
          (All-cons (Brings F) m [] here (All-nil (Brings F)))) is.outs;
      pendings = is.pendings;
    }

    pub sent-in : (j : ℕ) → InSide F (sent j s)
    sent-in j = record {
      caps = is.caps;
      rows = is.rows;
      parks = is.parks;
      endpoints = is.endpoints;
      inbox = is.inbox;
      outs = All-put (BringsAll F) [] s.outs j (drop 1 (outbox s j)) (All-nil (Brings F))
          (All-drop_one (Brings F) (outbox s j) (All-read (BringsAll F) [] s.outs j (All-nil (Brings F)) is.outs)) is.outs;
      pendings = is.pendings;
    }

    pub with_inbox-in : (message : Option (ℕ × Message)) → BringsFrom F message → InSide F (with_inbox message s)
    with_inbox-in message here = record {
      caps = is.caps;
      rows = is.rows;
      parks = is.parks;
      endpoints = is.endpoints;
      inbox = here;
      outs = is.outs;
      pendings = is.pendings;
    }

  -- a ring of an endpoint changed
  ring-in : (e : Option Endpoint) → InEndpoint F e → (f : List ℕ → List ℕ) → InEndpoint F (option_map {T = Endpoint} (λ x. record x { ring = f x.ring }) e)
  ring-in None here f = tt
  ring-in (Some e) here f = here

  first_ask : (asks : List Ask) → All (AsksFor F) asks → (a : Ask) → slice_get asks 0 ≡ Some a → AsksFor F a
  first_ask [] all a none = absurd cc
  first_ask (x ∷ xs) all a some = subst (AsksFor F) (same_Some x a some) (All-head (AsksFor F) x xs all)

  -- what a side carries is a layer, where the facts go together
  pub carried : AreFitting F → IsLayer F (InSide F)
  carried fitting = record {
    kept = record {
      keeps_counted = λ s is v. put_row-in s is v _ (row-in s is v);
      keeps_drawn = λ s is v. put_row-in s is v _ (row-in s is v);
      keeps_slot = λ s is v sel state of_vpe. with_slot-in s is v sel state;
      keeps_parked = λ s is v p here. parked_as-in s is v p here;
      keeps_unparked = λ s is v. unparked-in s is v;
      keeps_asked = λ s is v a here. put_row-in s is v _ (cond_both (nat_lt (length (row s v).asks) ASKS) ((row s v).asks ++ a ∷ []) (row s v).asks
          (All (AsksFor F)) (λ _. All-append (AsksFor F) (row s v).asks (a ∷ []) (row-in s is v) (All-cons (AsksFor F) a [] here (All-nil (AsksFor F))))
          (λ _. (row-in s is v)));
      keeps_taken = λ s is v. put_row-in s is v _ (All-drop_one (AsksFor F) (row s v).asks (row-in s is v));
      keeps_buried = λ s is v ends. put_row-in s is v _ (All-nil (AsksFor F));
      keeps_bound = λ s is v ep src c held unmarked here. with_endpoint-in s is v ep (Some (record { key = c.key; object = c.object; ring = [] })) here;
      keeps_rung = λ s is v ep f. with_endpoint-in s is v ep (option_map {T = Endpoint} (λ x. record x { ring = f x.ring }) (endpoint s v ep))
          (ring-in (endpoint s v ep) (endpoint-in s is v ep) f);
      keeps_added = λ s is c here childless unmarked. cap_added-in s is c here childless unmarked;
      keeps_linked = λ s is p k here. linked-in s is p k here;
      keeps_unlinked = λ s is p k. unlinked-in s is p k;
      keeps_marked = λ s is ks j doomed. unbind_all-in (mark_all ks j s) (marked-in s is ks j doomed) ks;
      keeps_restored = λ s is k. restored-in s is k;
      keeps_removed = λ s is j. caps_removed-in s is j;
      keeps_pending_added = λ s is p here. record {
        caps = is.caps;
        rows = is.rows;
        parks = is.parks;
        endpoints = is.endpoints;
        inbox = is.inbox;
        outs = is.outs;
        pendings = All-append F.pends s.pendings (p ∷ []) is.pendings (All-cons F.pends p [] here (All-nil F.pends));
      };
      keeps_pending_removed = λ s is k. record {
        caps = is.caps;
        rows = is.rows;
        parks = is.parks;
        endpoints = is.endpoints;
        inbox = is.inbox;
        outs = is.outs;
        pendings = All-filter (λ (p : Pending). not (key_eq p.key k)) F.pends s.pendings is.pendings;
      };
      keeps_opened = λ s is root up waiters keep. record {
        caps = is.caps;
        rows = is.rows;
        parks = is.parks;
        endpoints = is.endpoints;
        inbox = is.inbox;
        outs = is.outs;
        pendings = is.pendings;
      };
      keeps_changed = λ s is j f same. record {
        caps = is.caps;
        rows = is.rows;
        parks = is.parks;
        endpoints = is.endpoints;
        inbox = is.inbox;
        outs = is.outs;
        pendings = is.pendings;
      };
      keeps_left = λ s is j v. record {
        caps = is.caps;
        rows = is.rows;
        parks = is.parks;
        endpoints = is.endpoints;
        inbox = is.inbox;
        outs = is.outs;
        pendings = is.pendings;
      };
      keeps_closed = λ s is j. record {
        caps = is.caps;
        rows = is.rows;
        parks = is.parks;
        endpoints = is.endpoints;
        inbox = is.inbox;
        outs = is.outs;
        pendings = is.pendings;
      };
      keeps_send = λ s is j m here. send-in s is j m here;
      keeps_sent = λ s is j. sent-in s is j;
      keeps_inbox = λ s is message here. with_inbox-in s is message here;
      of_link = λ s is c among k child. All-contains (F.link c.key) c.children k (All-contains (InCap F) s.caps c is.caps among).links child;
      spreads = fitting.spreads;
      asks = fitting.asks;
      offers = fitting.offers;
      prepares = fitting.prepares;
      acks = fitting.acks;
      of_pending = λ s is k p there acked.
          let at = found (λ (x : Pending). key_eq x.key k) s.pendings p there in
          let same : p.key ≡ k = key_eq-true p.key k at.1 in
          subst (λ q. F.key q p.object) same (fitting.settles p (All-contains F.pends s.pendings p is.pendings at.0) (subst F.acked (sym same) acked));
    };
    of_cap = λ s is k c held. (All-contains (InCap F) s.caps c is.caps (found (λ x. key_eq x.key k) s.caps c held).0).key;
    of_call = λ s is v. parked-in s is v;
    of_inbox = λ s is. is.inbox;
    of_ask = λ s is v a there. first_ask (row s v).asks (row-in s is v) a there;
  }
