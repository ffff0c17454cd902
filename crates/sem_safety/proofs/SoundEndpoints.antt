-- What an endpoint is bound to is held by its kernel, unmarked, a key of its VPE, and has the object that the endpoint keeps.
use Rattle.std.proofs.Common.{◌≡◌, ℕ, Bool, false, not, if◌then◌else◌, List, [], ◌∷◌, map, get_or, Option, Some, None, refl, sym, ◌∙◌, ap, subst, inl, inr}
use Rattle.std.specs.Prelude.{◌==◌}
use Rattle.std.specs.List.{Contains, filter, list_any}
use Rattle.std.specs.Option.{option_map, option_map_or}
use Rattle.std.proofs.lemmas.Bool.{cases_Bool, cases_eq, cond-true, cond-false, not_from_false}
use Rattle.std.proofs.lemmas.List.Elements.{Contains-append_left, Contains-append_right}
use Rattle.std.proofs.lemmas.Option.{same_Some}
use Rattle.sem_key.specs.declared.object.Object.{Object}
use Rattle.sem_key.specs.KeyName.{KeyName, key_eq, key_lt}
use Rattle.sem_key.specs.KeyList.{with_key, without_key}
use Rattle.sem_key.specs.Capability.{Capability}
use Rattle.sem_key.specs.Lists.{change, put}
use Rattle.sem_key.specs.CapList.{with_cap, is_marked_by}
use Rattle.sem_msg.specs.declared.state.Slot.{Slot}
use Rattle.sem_msg.specs.declared.state.Slot.TheVariants.{Free, Held, Promised}
use Rattle.sem_msg.specs.Rows.{Endpoint, VpeRow, no_vpe}
use Rattle.sem_msg.specs.EndpointRows.{unbound_from, all_unbound_from}
use Rattle.sem_machine.specs.Sides.{Side, row, slot, own, cap_in, endpoint, with_slot, with_endpoint, mark_all, unbind_all}
use Rattle.sem_key.specs.Region.{has_key}
use Rattle.sem_key.proofs.Puts.{get_or-put_same, get_or-put_other}
use Rattle.sem_key.proofs.KeyTests.{key_eq-true}
use Rattle.sem_key.proofs.Members.{found, Contains-tail, Contains-filter, Contains-map}
use Rattle.sem_safety.specs.Observations.{endpoints}
use Rattle.sem_safety.proofs.Updates.{reads-map}
use Rattle.sem_safety.proofs.Layers.{facts, IsOwnSlot, IsKept}
use Rattle.sem_safety.proofs.Onwards.{Any, AnyPlace}

-- the capabilities have one, unmarked, of that key and object
pub record HasUnmarked (caps : List Capability) (key : KeyName) (object : Object) : Type 0 where
  pub capability : Capability
  pub among : Contains caps capability
  pub same_key : capability.key ≡ key
  pub unmarked : capability.mark ≡ None
  pub same_object : capability.object ≡ object

pub record IsSoundSide (s : Side) : Type 0 where
  -- a selector of a VPE holds a key of it
  pub own_slots : (v sel : ℕ) (k : KeyName) → slot s v sel ≡ Held k → k.vpe ≡ v
  pub own_keys : (v ep : ℕ) (e : Endpoint) → endpoint s v ep ≡ Some e → e.key.vpe ≡ v
  pub bound : (v ep : ℕ) (e : Endpoint) → endpoint s v ep ≡ Some e → HasUnmarked s.caps e.key e.object

-- Capabilities.

-- what stays in the list stays there with its key, mark and object
kept-caps : (cs ds : List Capability) → ((c : Capability) → Contains cs c → c.mark ≡ None → (d : Capability) × Contains ds d × (d.key ≡ c.key) × (d.mark ≡ None)
    × (d.object ≡ c.object)) → (key : KeyName) (object : Object) → HasUnmarked cs key object → HasUnmarked ds key object
kept-caps cs ds keeps key object has =
    let d = keeps has.capability has.among has.unmarked in
    record { capability = d.0; among = d.1; same_key = d.2 ∙ has.same_key; unmarked = d.3; same_object = d.4 ∙ has.same_object }

added-keeps : (cs : List Capability) (c x : Capability) → Contains cs x → Contains (with_cap cs c) x
added-keeps cs c x among = elim (cases_Bool (key_lt x.key c.key)) [
  | inl low ↦ Contains-append_left (filter (λ y. key_lt y.key c.key) cs) (c ∷ filter (λ y. not (key_lt y.key c.key)) cs) x
      (Contains-filter (λ y. key_lt y.key c.key) cs x among low)
  | inr high ↦ Contains-append_right (filter (λ y. key_lt y.key c.key) cs) (c ∷ filter (λ y. not (key_lt y.key c.key)) cs) x
      (Contains-tail c (filter (λ y. not (key_lt y.key c.key)) cs) x
      (Contains-filter (λ y. not (key_lt y.key c.key)) cs x among (not_from_false (key_lt x.key c.key) high)))
]

-- a change that leaves key and object, and marks nothing
changed-keeps : (cs : List Capability) (test : Capability → Bool) (f : Capability → Capability) →
    ((c : Capability) → ((f c).key ≡ c.key) × (c.mark ≡ None → (f c).mark ≡ None) × ((f c).object ≡ c.object)) → (x : Capability) → Contains cs x →
    x.mark ≡ None → (d : Capability) × Contains (change test f cs) d × (d.key ≡ x.key) × (d.mark ≡ None) × (d.object ≡ x.object)
changed-keeps cs test f same x among unmarked =
    let there : Contains (change test f cs) (if test x then f x else x) = Contains-map (λ (y : Capability). if test y then f y else y) cs x among in
    elim (cases_Bool (test x)) [
      | inl yes' ↦ let is : (if test x then f x else x) ≡ f x = cond-true (test x) (f x) x yes' in
          (f x, subst (Contains (change test f cs)) is there, (same x).0, (same x).1 unmarked, (same x).2)
      | inr no' ↦ let is : (if test x then f x else x) ≡ x = cond-false (test x) (f x) x no' in
          (x, subst (Contains (change test f cs)) is there, refl, unmarked, refl)
    ]

-- what no job has marked is not removed
removed-keeps : (cs : List Capability) (j : ℕ) (x : Capability) → Contains cs x → x.mark ≡ None → Contains (filter (λ c. not (is_marked_by j c)) cs) x
removed-keeps cs j x among unmarked = Contains-filter (λ c. not (is_marked_by j c)) cs x among (ap (λ m. not (option_map_or (λ n. n == j) m false)) unmarked)

-- Rows.

module _ (s : Side) (is : IsSoundSide s) where
  -- other capabilities, in which what is bound is there still
  with_caps : (cs : List Capability) → ((key : KeyName) (object : Object) → HasUnmarked s.caps key object → HasUnmarked cs key object) →
      IsSoundSide (record s { caps = cs })
  with_caps cs keeps = record { own_slots = is.own_slots; own_keys = is.own_keys; bound = λ v ep e at. keeps e.key e.object (is.bound v ep e at) }

  -- another row, whose slots are sound
  pub with_sound_row : (v : ℕ) (r : VpeRow) → ((sel : ℕ) (k : KeyName) → get_or r.slots sel Free ≡ Held k → k.vpe ≡ v) →
      IsSoundSide (record s { vpes = put no_vpe s.vpes v r })
  with_sound_row v r slots = record {
    own_slots = λ w sel k at. elim (cases_eq w v) [
      | inl same ↦ slots sel k (sym (ap (λ (x : VpeRow). get_or x.slots sel Free) (ap (λ n. get_or (put no_vpe s.vpes v r) n no_vpe) same
          ∙ get_or-put_same no_vpe s.vpes v r)) ∙ at) ∙ sym same
      | inr other ↦ is.own_slots w sel k (sym (ap (λ (x : VpeRow). get_or x.slots sel Free) (get_or-put_other no_vpe s.vpes v w r other)) ∙ at)
    ];
    own_keys = is.own_keys;
    bound = is.bound;
  }

  -- other endpoints of a VPE, which are sound
  pub with_sound_endpoints : (v : ℕ) (es : List (Option Endpoint)) →
      ((ep : ℕ) (e : Endpoint) → get_or es ep None ≡ Some e → (e.key.vpe ≡ v) × HasUnmarked s.caps e.key e.object) →
      IsSoundSide (record s { endpoints = put [] s.endpoints v es })
  with_sound_endpoints v es sound = record {
    own_slots = is.own_slots;
    own_keys = λ w ep e at. (at-endpoint w ep e at).0;
    bound = λ w ep e at. (at-endpoint w ep e at).1;
  }
    where
      at-endpoint : (w ep : ℕ) (e : Endpoint) → endpoint (record s { endpoints = put [] s.endpoints v es }) w ep ≡ Some e →
          (e.key.vpe ≡ w) × HasUnmarked s.caps e.key e.object
      at-endpoint w ep e at = elim (cases_eq w v) [
        | inl same ↦ let here =
            sound ep e (sym (ap (λ xs. get_or xs ep None) (ap (λ n. get_or (put [] s.endpoints v es) n []) same ∙ get_or-put_same [] s.endpoints v es)) ∙ at) in
            (here.0 ∙ sym same, here.1)
        | inr other ↦ let before : endpoint s w ep ≡ Some e = sym (ap (λ xs. get_or xs ep None) (get_or-put_other [] s.endpoints v w es other)) ∙ at in
            (is.own_keys w ep e before, is.bound w ep e before)
      ]

  -- another row with the same slots
  with_same_row : (v : ℕ) (r : VpeRow) → r.slots ≡ (row s v).slots → IsSoundSide (record s { vpes = put no_vpe s.vpes v r })
  with_same_row v r slots = with_sound_row v r (λ sel k at. is.own_slots v sel k (ap (λ xs. get_or xs sel Free) (sym slots) ∙ at))

  with_sound_slot : (v sel : ℕ) (state : Slot) → IsOwnSlot v state → IsSoundSide (with_slot v sel state s)
  with_sound_slot v sel state of_vpe = with_sound_row v (record (row s v) { slots = put Free (row s v).slots sel state }) slots
    where
      own-state : (x : Slot) (k : KeyName) → IsOwnSlot v x → x ≡ Held k → k.vpe ≡ v
      own-state x k here same = subst (IsOwnSlot v) same here

      slots : (n : ℕ) (k : KeyName) → get_or (put Free (row s v).slots sel state) n Free ≡ Held k → k.vpe ≡ v
      slots n k at = elim (cases_eq n sel) [
        | inl same ↦ own-state state k of_vpe (sym (ap (λ i. get_or (put Free (row s v).slots sel state) i Free) same
            ∙ get_or-put_same Free (row s v).slots sel state) ∙ at)
        | inr other ↦ is.own_slots v n k (sym (get_or-put_other Free (row s v).slots sel n state other) ∙ at)
      ]

  -- an endpoint is bound anew
  with_sound_endpoint : (v ep : ℕ) (o : Option Endpoint) → ((e : Endpoint) → o ≡ Some e → (e.key.vpe ≡ v) × HasUnmarked s.caps e.key e.object) →
      IsSoundSide (with_endpoint v ep o s)
  with_sound_endpoint v ep o sound = with_sound_endpoints v (put None (endpoints s v) ep o) read
    where
      read : (n : ℕ) (e : Endpoint) → get_or (put None (endpoints s v) ep o) n None ≡ Some e → (e.key.vpe ≡ v) × HasUnmarked s.caps e.key e.object
      read n e at = elim (cases_eq n ep) [
        | inl same ↦ sound e (sym (ap (λ i. get_or (put None (endpoints s v) ep o) i None) same ∙ get_or-put_same None (endpoints s v) ep o) ∙ at)
        | inr other ↦ let before : endpoint s v n ≡ Some e = sym (get_or-put_other None (endpoints s v) ep n o other) ∙ at in
            (is.own_keys v n e before, is.bound v n e before)
      ]

  -- a capability of the VPE, to bind an endpoint to
  bound_to-own : (v ep src : ℕ) (c : Capability) → own s v src ≡ Some c → c.mark ≡ None →
      IsSoundSide (with_endpoint v ep (Some (record { key = c.key; object = c.object; ring = [] })) s)
  bound_to-own v ep src c held unmarked = with_sound_endpoint v ep (Some (record { key = c.key; object = c.object; ring = [] })) (λ e same.
      let b : Endpoint = record { key = c.key; object = c.object; ring = [] } in
      let here : b ≡ e = same_Some b e same in
      let there = from (slot s v src) refl held in (
        ap (λ (x : Endpoint). x.key.vpe) (sym here)
            ∙ there.0,
        record {
          capability = c;
          among = there.1;
          same_key = ap (λ (x : Endpoint). x.key) here;
          unmarked = unmarked;
          same_object = ap (λ (x : Endpoint). x.object) here;
        },
      ))
    where
      from : (x : Slot) → slot s v src ≡ x → cap_in s x ≡ Some c → (c.key.vpe ≡ v) × Contains s.caps c
      from Free at none = absurd cc
      from Promised at none = absurd cc
      from (Held k) at some =
          let there = found (λ y. key_eq y.key k) s.caps c some in
          (ap (λ (q : KeyName). q.vpe) (key_eq-true c.key k there.1) ∙ is.own_slots v src k at, there.0)

  -- a ring changed
  rung-sound : (v ep : ℕ) (f : List ℕ → List ℕ) (o : Option Endpoint) → endpoint s v ep ≡ o →
      IsSoundSide (with_endpoint v ep (option_map {T = Endpoint} (λ x. record x { ring = f x.ring }) o) s)
  rung-sound v ep f None at = with_sound_endpoint v ep None (λ e none. absurd cc)
  rung-sound v ep f (Some b) at = with_sound_endpoint v ep (Some (record b { ring = f b.ring })) (λ e same.
      let here : (record b { ring = f b.ring }) ≡ e = same_Some (record b { ring = f b.ring }) e same in
      subst (λ (x : Endpoint). (x.key.vpe ≡ v) × HasUnmarked s.caps x.key x.object) here (is.own_keys v ep b at, is.bound v ep b at))

-- What a job marks, it unbinds.
module _ (ks : List KeyName) (j : ℕ) (s : Side) (is : IsSoundSide s) where
  still-bound : (o : Option Endpoint) (e : Endpoint) → unbound_from ks o ≡ Some e → (o ≡ Some e) × (has_key ks e.key ≡ false)
  still-bound None e none = absurd cc
  still-bound (Some b) e some = elim (cases_Bool (list_any (key_eq b.key) ks)) [
    | inl gone ↦ absurd (clash (sym (cond-true (list_any (key_eq b.key) ks) None (Some b) gone) ∙ some))
    | inr stays ↦ let same : Some b ≡ Some e = sym (cond-false (list_any (key_eq b.key) ks) None (Some b) stays) ∙ some in
        (same, subst (λ (x : Endpoint). has_key ks x.key ≡ false) (same_Some b e same) stays)
  ]
    where
      clash : None ≡ Some e → ⊥
      clash none = cc

  before-freed : (v ep : ℕ) (e : Endpoint) → endpoint (unbind_all ks (mark_all ks j s)) v ep ≡ Some e → (endpoint s v ep ≡ Some e) × (has_key ks e.key ≡ false)
  before-freed v ep e at =
      let here : get_or (map {A = Option Endpoint} (unbound_from ks) (endpoints s v)) ep None ≡ Some e =
      sym (ap (λ xs. get_or xs ep None) (reads-map [] (all_unbound_from ks) s.endpoints v refl)) ∙ at in
      still-bound (endpoint s v ep) e (sym (reads-map None (unbound_from ks) (endpoints s v) ep refl) ∙ here)

  pub marked-sound : IsSoundSide (unbind_all ks (mark_all ks j s))
  marked-sound = record {
    own_slots = is.own_slots;
    own_keys = λ v ep e at. is.own_keys v ep e (before-freed v ep e at).0;
    bound = λ v ep e at.
        let was = before-freed v ep e at in
        let has = is.bound v ep e was.0 in
        let c : Capability = has.capability in
        let spared : list_any (key_eq c.key) ks ≡ false = ap (λ q. list_any (key_eq q) ks) has.same_key ∙ was.1 in
        let same : (if list_any (key_eq c.key) ks then record c { mark = Some j } else c) ≡ c =
        cond-false (list_any (key_eq c.key) ks) (record c { mark = Some j }) c spared in
        record {
          capability = c;
          among = subst (Contains (mark_all ks j s).caps) same (Contains-map (λ (x : Capability). if list_any (key_eq x.key) ks then record x { mark = Some j }
              else x) s.caps c has.among);
          same_key = has.same_key;
          unmarked = has.unmarked;
          same_object = has.same_object;
        };
  }

-- Each change of a side keeps its endpoints sound.
pub sound : IsKept (facts Any AnyPlace) IsSoundSide
sound = record {
  keeps_counted = λ s is v. with_same_row s is v _ refl;
  keeps_drawn = λ s is v. with_same_row s is v _ refl;
  keeps_slot = λ s is v sel state of_vpe. with_sound_slot s is v sel state of_vpe;
  keeps_parked = λ s is v p here. record { own_slots = is.own_slots; own_keys = is.own_keys; bound = is.bound };
  keeps_unparked = λ s is v. record { own_slots = is.own_slots; own_keys = is.own_keys; bound = is.bound };
  keeps_asked = λ s is v a here. with_same_row s is v _ refl;
  keeps_taken = λ s is v. with_same_row s is v _ refl;
  keeps_buried = λ s is v ends. with_same_row s is v _ refl;
  keeps_bound = λ s is v ep src c held unmarked here. bound_to-own s is v ep src c held unmarked;
  keeps_rung = λ s is v ep f. rung-sound s is v ep f (endpoint s v ep) refl;
  keeps_added = λ s is c here childless unmarked. with_caps s is (with_cap s.caps c)
      (kept-caps s.caps (with_cap s.caps c) (λ x among free. (x, added-keeps s.caps c x among, refl, free, refl)));
  keeps_linked = λ s is p k here. with_caps s is _
      (kept-caps s.caps _ (changed-keeps s.caps (λ c. key_eq c.key p) (λ c. record c { children = with_key c.children k })
      (λ c. (refl, λ unmarked. unmarked, refl))));
  keeps_unlinked = λ s is p k. with_caps s is _
      (kept-caps s.caps _ (changed-keeps s.caps (λ c. key_eq c.key p) (λ c. record c { children = without_key c.children k })
      (λ c. (refl, λ unmarked. unmarked, refl))));
  keeps_marked = λ s is ks j here. marked-sound ks j s is;
  keeps_restored = λ s is k. with_caps s is _
      (kept-caps s.caps _ (changed-keeps s.caps (λ c. key_eq c.key k) (λ c. record c { children = []; mark = None }) (λ c. (refl, λ unmarked. refl, refl))));
  keeps_removed = λ s is j. with_caps s is (filter (λ c. not (is_marked_by j c)) s.caps)
      (kept-caps s.caps (filter (λ c. not (is_marked_by j c)) s.caps) (λ x among free. (x, removed-keeps s.caps j x among free, refl, free, refl)));
  keeps_pending_added = λ s is p pends. record { own_slots = is.own_slots; own_keys = is.own_keys; bound = is.bound };
  keeps_pending_removed = λ s is k. record { own_slots = is.own_slots; own_keys = is.own_keys; bound = is.bound };
  keeps_opened = λ s is root up waiters keep. record { own_slots = is.own_slots; own_keys = is.own_keys; bound = is.bound };
  keeps_changed = λ s is j f same. record { own_slots = is.own_slots; own_keys = is.own_keys; bound = is.bound };
  keeps_left = λ s is j v. record { own_slots = is.own_slots; own_keys = is.own_keys; bound = is.bound };
  keeps_closed = λ s is j. record { own_slots = is.own_slots; own_keys = is.own_keys; bound = is.bound };
  keeps_send = λ s is j m here. record { own_slots = is.own_slots; own_keys = is.own_keys; bound = is.bound };
  keeps_sent = λ s is j. record { own_slots = is.own_slots; own_keys = is.own_keys; bound = is.bound };
  keeps_inbox = λ s is message here. record { own_slots = is.own_slots; own_keys = is.own_keys; bound = is.bound };
  of_link = λ s is c among k child. tt;
  spreads = λ p k here doomed. tt;
  asks = λ v n calls is. is;
  offers = λ k o is. tt;
  prepares = λ parent k object sel offered place handed. (tt, place);
  acks = λ parent k prepared offered is. is;
  of_pending = λ s is k p there acked. acked;
}
