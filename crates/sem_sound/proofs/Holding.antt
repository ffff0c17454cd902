-- Changes of capabilities, pending delegations and messages keep a side sound.
use Rattle.sem_key.specs.declared.limits.TheConstants.{VPES}
use Rattle.std.proofs.Common.{◌≡◌, ℕ, ◌+◌, ◌<◌, ◌≤◌, ◌⊎◌, true, not, ◌&&◌, List, [], ◌∷◌, ◌++◌, length, map, drop, get_or, Option, Some, None, is_none, refl}
use Rattle.std.proofs.Common.{sym, ap, subst, ◌∙◌, inl, inr, arith, eq-eqb}
use Rattle.std.specs.Prelude.{◌==◌, nat_lt, if◌then◌else◌}
use Rattle.std.specs.List.{All, Contains, filter, sum_by}
use Rattle.std.proofs.lemmas.Bool.{cases_eq, cases_Bool, cond_both, and_from, not_from_false, false_from_ne_true}
use Rattle.std.proofs.lemmas.List.Elements.{Contains-get_or, Contains-append_left, Contains-append_right, Contains-append_cases, Contains-push_cases}
use Rattle.std.proofs.lemmas.List.Kept.{AllPairs-filter}
use Rattle.std.proofs.lemmas.List.Sums.{sum_by-cons, sum_by_push}
use Rattle.sem_key.specs.declared.object.Object.{Object}
use Rattle.sem_key.specs.KeyName.{KeyName, IsValidKey, packed, key_eq, key_lt}
use Rattle.sem_key.specs.KeyList.{with_key, without_key}
use Rattle.sem_key.specs.Lists.{put}
use Rattle.sem_key.specs.Capability.{Capability}
use Rattle.sem_key.specs.CapList.{fresh, with_cap}
use Rattle.sem_msg.specs.declared.message.Message.{Message}
use Rattle.sem_msg.specs.declared.state.Slot.{Slot}
use Rattle.sem_msg.specs.declared.state.Slot.TheVariants.{Free, Held, Promised}
use Rattle.sem_msg.specs.declared.state.Pending.{Pending}
use Rattle.sem_msg.specs.Rows.{VpeRow, no_vpe}
use Rattle.sem_msg.specs.Setup.{Setup, IsSetup}
use Rattle.sem_msg.specs.Lookups.{kernel_of}
use Rattle.sem_machine.specs.Sound.{IsNamed, IsSoundPending, bit, kept, keeps_number, keeps_selector, in_hand, is_promised, promise_users, IsSoundCap}
use Rattle.sem_machine.specs.Sound.{IsSoundRow, IsSoundMessage, IsSoundBut}
use Rattle.sem_machine.specs.Sides.{Side, row, cap, slot, parked, outbox, pending, linked, unlinked, installed, pending_added, pending_removed, send, sent}
use Rattle.sem_machine.specs.Sides.{with_inbox}
use Rattle.sem_key.proofs.KeyTests.{key_eq-true}
use Rattle.sem_key.proofs.Finds.{with_cap-rises}
use Rattle.sem_key.proofs.Puts.{get_or-put_same, get_or-put_other}
use Rattle.sem_key.proofs.Members.{found, find_none, Contains-head, Contains-tail, Contains-cons_cases, Contains-filter, Contains-from_filter, Contains-map}
use Rattle.sem_key.proofs.Members.{Contains-from_map}
use Rattle.sem_key.proofs.KeySets.{with_key-from}
use Rattle.sem_machine.proofs.Weighing.{weigh-put, weigh-map, weigh-parts, weigh-filter, weigh-among}
use Rattle.sem_machine.proofs.Lengths.{apart-shorter}
use Rattle.sem_sound.proofs.Named.{declared-kernel}
use Rattle.sem_sound.proofs.Counts.{bit-most, in_hand-here, length-put, added-sum, one-alone, only-one}
use Rattle.sem_sound.proofs.Rising.{with_key-rises, mapped-rises}
use Rattle.sem_sound.proofs.Changing.{local-place, by_row, hand-promised, in_hand-apart}

-- Lists of capabilities with one more.

pub with_cap-has : (cs : List Capability) (c : Capability) → Contains (with_cap cs c) c
with_cap-has cs c = Contains-append_right (filter (λ y. key_lt y.key c.key) cs) (c ∷ filter (λ y. not (key_lt y.key c.key)) cs) c
    (Contains-head c (filter (λ y. not (key_lt y.key c.key)) cs))

pub with_cap-keeps : (cs : List Capability) (c x : Capability) → Contains cs x → Contains (with_cap cs c) x
with_cap-keeps cs c x among = elim (cases_Bool (key_lt x.key c.key)) [
  | inl low ↦ Contains-append_left (filter (λ y. key_lt y.key c.key) cs) (c ∷ filter (λ y. not (key_lt y.key c.key)) cs) x
      (Contains-filter (λ y. key_lt y.key c.key) cs x among low)
  | inr high ↦ Contains-append_right (filter (λ y. key_lt y.key c.key) cs) (c ∷ filter (λ y. not (key_lt y.key c.key)) cs) x
      (Contains-tail c (filter (λ y. not (key_lt y.key c.key)) cs) x
      (Contains-filter (λ y. not (key_lt y.key c.key)) cs x among (not_from_false (key_lt x.key c.key) high)))
]

pub with_cap-from : (cs : List Capability) (c x : Capability) → Contains (with_cap cs c) x → (c ≡ x) ⊎ Contains cs x
with_cap-from cs c x among = elim (Contains-append_cases (filter (λ y. key_lt y.key c.key) cs) (c ∷ filter (λ y. not (key_lt y.key c.key)) cs) x among) [
  | inl before ↦ inr (Contains-from_filter (λ y. key_lt y.key c.key) cs x before).0
  | inr rest ↦ elim (Contains-cons_cases c (filter (λ y. not (key_lt y.key c.key)) cs) x rest) [
    | inl same ↦ inl same
    | inr later ↦ inr (Contains-from_filter (λ y. not (key_lt y.key c.key)) cs x later).0
  ]
]

module _ (T : Setup) (valid : IsSetup T) (i : ℕ) (few : i < T.kernels) where
  -- what is kept of a VPE is of this kernel, if its key is local
  pub own-local : (c : Capability) → IsSoundCap T i c → kernel_of T c.key.vpe ≡ i
  own-local c sound = declared-kernel T c.key.pe c.key.vpe sound.own.0.1 ∙ sound.own.1

  -- Each key is held once.
  module _ (n p : Option (ℕ × ℕ)) (g d : Option ℕ) (s : Side) (is : IsSoundBut T i n p g d 0 s) where
    pub one-cap : (a b : Capability) → Contains s.caps a → Contains s.caps b → a.key ≡ b.key → a ≡ b
    one-cap a b in_a in_b same =
        let u : Capability → ℕ = λ c. bit ((c.key.vpe == a.key.vpe) && (c.key.number == a.key.number)) in
        let used = is.numbers a.key.vpe a.key.number in
        let most = bit-most (nat_lt a.key.number (row s a.key.vpe).next_number) in
        let here : u a ≡ 1 =
        ap bit (and_from (a.key.vpe == a.key.vpe) (a.key.number == a.key.number) (eq-eqb a.key.vpe a.key.vpe refl) (eq-eqb a.key.number a.key.number refl))
        in
        one-alone u s.caps (omega (arith, used, most)) a b in_a in_b here (ap (λ (k : KeyName). bit ((k.vpe == a.key.vpe) && (k.number == a.key.number)))
        (sym same) ∙ here)

    pub cap-among : (k : KeyName) (c : Capability) → cap s k ≡ Some c → Contains s.caps c × (c.key ≡ k)
    cap-among k c held = let at = found (λ (x : Capability). key_eq x.key k) s.caps c held in (at.0, key_eq-true c.key k at.1)

  -- Capabilities that are changed, each with its key, mark and selector.
  module _ (n p : Option (ℕ × ℕ)) (g d : Option ℕ) (s : Side) (is : IsSoundBut T i n p g d 0 s) where
    pub caps-mapped : (f : Capability → Capability) → ((c : Capability) → ((f c).key ≡ c.key) × ((f c).mark ≡ c.mark) × ((f c).selector ≡ c.selector)) →
        ((c : Capability) → Contains s.caps c → IsSoundCap T i (f c)) → IsSoundBut T i n p g d 0 (record s { caps = map f s.caps })
    caps-mapped f same sound = record {
      caps = λ c among. let o = Contains-from_map f s.caps c among in subst (IsSoundCap T i) o.2 (sound o.0 o.1);
      caps_rise = mapped-rises f (λ c. (same c).0) s.caps is.caps_rise;
      rows = is.rows;
      calls = is.calls;
      pendings = is.pendings;
      ups = is.ups;
      waiters_rise = is.waiters_rise;
      ids_drawn = is.ids_drawn;
      jobs_rise = is.jobs_rise;
      outs = is.outs;
      inbox = is.inbox;
      places = is.places;
      endpoints = is.endpoints;
      endpoint_places = is.endpoint_places;
      park_places = is.park_places;
      boxes = is.boxes;
      numbers = λ v m.
          let all = weigh-map (λ (c : Capability). bit ((c.key.vpe == v) && (c.key.number == m))) f
          (λ c. ap (λ (k : KeyName). bit ((k.vpe == v) && (k.number == m))) (same c).0) s.caps in
          let before = is.numbers v m in
          omega (arith, all, before);
      promises = is.promises;
      no_other_promise = is.no_other_promise;
      at_selector = λ c among.
          let o = Contains-from_map f s.caps c among in
          subst (λ (x : Capability). slot s x.key.vpe x.selector ≡ Held x.key) o.2 (stands o.0 (f o.0) (same o.0).0 (same o.0).2 (is.at_selector o.0 o.1));
      held = λ v sel k at.
          let before = is.held v sel k at in
          (before.0, (f before.1.0, Contains-map f s.caps before.1.0 before.1.1, (same before.1.0).0 ∙ before.1.2, (same before.1.0).2 ∙ before.1.3));
      marker = λ c j among marked.
          let o = Contains-from_map f s.caps c among in
          is.marker o.0 j o.1 (sym (same o.0).1 ∙ (ap (λ (x : Capability). x.mark) o.2 ∙ marked));
      roots = λ x among still.
          let c = is.roots x among still in
          (f c.0, Contains-map f s.caps c.0 c.1, (same c.0).0 ∙ c.2, (same c.0).1 ∙ c.3);
      waiters = is.waiters;
      counted = is.counted;
      ids =
          let all = weigh-map (λ (c : Capability). bit (is_none c.mark)) f (λ c. ap (λ (o : Option ℕ). bit (is_none o)) (same c).1) s.caps in
          let before = is.ids in
          omega (arith, all, before);
    }
      where
        stands : (a b : Capability) → b.key ≡ a.key → b.selector ≡ a.selector → slot s a.key.vpe a.selector ≡ Held a.key →
            slot s b.key.vpe b.selector ≡ Held b.key
        stands a b key sel at = ap (λ (k : KeyName). slot s k.vpe b.selector) key
            ∙ (ap (λ q. slot s a.key.vpe q) sel ∙ (at ∙ ap (λ (k : KeyName). Held k) (sym key)))

    abbrev if_key : KeyName → (Capability → Capability) → Capability → Capability
    if_key k f c = if key_eq c.key k then f c else c

    pub linked-sound : (parent child : KeyName) → IsNamed T child → IsSoundBut T i n p g d 0 (linked parent child s)
    linked-sound parent child named =
        let f : Capability → Capability = λ c. record c { children = with_key c.children child } in
        caps-mapped (if_key parent f)
        (λ c. cond_both (key_eq c.key parent) (f c) c (λ (x : Capability). (x.key ≡ c.key) × (x.mark ≡ c.mark)
        × (x.selector ≡ c.selector)) (λ _. (refl, refl, refl)) (λ _. (refl, refl, refl)))
        (λ c among. cond_both (key_eq c.key parent) (f c) c (IsSoundCap T i) (λ _. more c (is.caps c among)) (λ _. is.caps c among))
      where
        more : (c : Capability) → IsSoundCap T i c → IsSoundCap T i (record c { children = with_key c.children child })
        more c sound = record {
          own = sound.own;
          kind = sound.kind;
          object = sound.object;
          selector = sound.selector;
          parent = sound.parent;
          children = λ k in_more. elim (with_key-from c.children child k in_more) [
            | inl same ↦ subst (IsNamed T) same named
            | inr before ↦ sound.children k before
          ];
          children_rise = with_key-rises c.children child sound.children_rise;
        }

    pub unlinked-sound : (parent child : KeyName) → IsSoundBut T i n p g d 0 (unlinked parent child s)
    unlinked-sound parent child =
        let f : Capability → Capability = λ c. record c { children = without_key c.children child } in
        caps-mapped (if_key parent f)
        (λ c. cond_both (key_eq c.key parent) (f c) c (λ (x : Capability). (x.key ≡ c.key) × (x.mark ≡ c.mark)
        × (x.selector ≡ c.selector)) (λ _. (refl, refl, refl)) (λ _. (refl, refl, refl)))
        (λ c among. cond_both (key_eq c.key parent) (f c) c (IsSoundCap T i) (λ _. less c (is.caps c among)) (λ _. is.caps c among))
      where
        less : (c : Capability) → IsSoundCap T i c → IsSoundCap T i (record c { children = without_key c.children child })
        less c sound = record {
          own = sound.own;
          kind = sound.kind;
          object = sound.object;
          selector = sound.selector;
          parent = sound.parent;
          children = λ k in_less. sound.children k (Contains-from_filter (λ (q : KeyName). not (key_eq q child)) c.children k in_less).0;
          children_rise = AllPairs-filter (λ a b. packed a < packed b) (λ (q : KeyName). not (key_eq q child)) c.children sound.children_rise;
        }

    -- Messages.

    pub send-sound : (j : ℕ) (m : Message) → IsSoundMessage T i j m → IsSoundBut T i n p g d 0 (send j m s)
    send-sound j m sound = record {
      caps = is.caps;
      caps_rise = is.caps_rise;
      rows = is.rows;
      calls = is.calls;
      pendings = is.pendings;
      ups = is.ups;
      waiters_rise = is.waiters_rise;
      ids_drawn = is.ids_drawn;
      jobs_rise = is.jobs_rise;
      outs = λ k x among. elim (cases_eq k j) [
        | inl same ↦ elim (Contains-push_cases (outbox s j) m x
            (subst (λ ms. Contains ms x) (ap (λ q. get_or (put [] s.outs j (outbox s j ++ m ∷ [])) q []) same
            ∙ get_or-put_same [] s.outs j (outbox s j ++ m ∷ [])) among)) [
              | inl before ↦ is.outs k x (subst (λ q. Contains (outbox s q) x) (sym same) before)
              | inr new ↦ subst (λ q. IsSoundMessage T i q x) (sym same) (subst (IsSoundMessage T i j) new sound)
            ]
        | inr other ↦ is.outs k x (subst (λ ms. Contains ms x) (get_or-put_other [] s.outs j k (outbox s j ++ m ∷ []) other) among)
      ];
      inbox = is.inbox;
      places = is.places;
      endpoints = is.endpoints;
      endpoint_places = is.endpoint_places;
      park_places = is.park_places;
      boxes = length-put [] s.outs T.kernels j (outbox s j ++ m ∷ []) is.boxes sound.1;
      numbers = is.numbers;
      promises = is.promises;
      no_other_promise = is.no_other_promise;
      at_selector = is.at_selector;
      held = is.held;
      marker = is.marker;
      roots = is.roots;
      waiters = is.waiters;
      counted = is.counted;
      ids = is.ids;
    }

    pub sent-sound : (j : ℕ) → j < T.kernels → IsSoundBut T i n p g d 0 (sent j s)
    sent-sound j below = record {
      caps = is.caps;
      caps_rise = is.caps_rise;
      rows = is.rows;
      calls = is.calls;
      pendings = is.pendings;
      ups = is.ups;
      waiters_rise = is.waiters_rise;
      ids_drawn = is.ids_drawn;
      jobs_rise = is.jobs_rise;
      outs = λ k x among. elim (cases_eq k j) [
        | inl same ↦ is.outs k x
            (subst (λ q. Contains (outbox s q) x) (sym same)
            (later (outbox s j) x (subst (λ ms. Contains ms x) (ap (λ q. get_or (put [] s.outs j (drop 1 (outbox s j))) q []) same
            ∙ get_or-put_same [] s.outs j (drop 1 (outbox s j))) among)))
        | inr other ↦ is.outs k x (subst (λ ms. Contains ms x) (get_or-put_other [] s.outs j k (drop 1 (outbox s j)) other) among)
      ];
      inbox = is.inbox;
      places = is.places;
      endpoints = is.endpoints;
      endpoint_places = is.endpoint_places;
      park_places = is.park_places;
      boxes = length-put [] s.outs T.kernels j (drop 1 (outbox s j)) is.boxes below;
      numbers = is.numbers;
      promises = is.promises;
      no_other_promise = is.no_other_promise;
      at_selector = is.at_selector;
      held = is.held;
      marker = is.marker;
      roots = is.roots;
      waiters = is.waiters;
      counted = is.counted;
      ids = is.ids;
    }
      where
        later : (xs : List Message) (x : Message) → Contains (drop 1 xs) x → Contains xs x
        later [] x among = among
        later (y ∷ ys) x among = Contains-tail y ys x among

    pub inbox-sound : (o : Option (ℕ × Message)) → ((from : ℕ) (m : Message) → o ≡ Some (from, m) → IsSoundMessage T i from m) →
        IsSoundBut T i n p g d 0 (with_inbox o s)
    inbox-sound o sound = record {
      caps = is.caps;
      caps_rise = is.caps_rise;
      rows = is.rows;
      calls = is.calls;
      pendings = is.pendings;
      ups = is.ups;
      waiters_rise = is.waiters_rise;
      ids_drawn = is.ids_drawn;
      jobs_rise = is.jobs_rise;
      outs = is.outs;
      inbox = sound;
      places = is.places;
      endpoints = is.endpoints;
      endpoint_places = is.endpoint_places;
      park_places = is.park_places;
      boxes = is.boxes;
      numbers = is.numbers;
      promises = is.promises;
      no_other_promise = is.no_other_promise;
      at_selector = is.at_selector;
      held = is.held;
      marker = is.marker;
      roots = is.roots;
      waiters = is.waiters;
      counted = is.counted;
      ids = is.ids;
    }

  -- A capability is installed: its number is in hand, and its selector free or in hand.
  module _ (p : Option (ℕ × ℕ)) (g d : Option ℕ) (s : Side) (k : KeyName) (parent : Option KeyName) (sel : ℕ) (object : Object) where
    abbrev pub Opens : Type 0
    Opens = ((p ≡ None) × (slot s k.vpe sel ≡ Free)) ⊎ (p ≡ Some (k.vpe, sel))

    module _ (is : IsSoundBut T i (Some (k.vpe, k.number)) p g d 0 s) (opens : Opens) (sound : IsSoundCap T i (fresh k parent sel object)) where
      abbrev new_cap : Capability
      new_cap = fresh k parent sel object

      abbrev new_row : VpeRow
      new_row = record (row s k.vpe) { slots = put Free (row s k.vpe).slots sel (Held k) }

      local : kernel_of T k.vpe ≡ i
      local = own-local (fresh k parent sel object) sound

      users-none : promise_users s k.vpe sel ≡ 0
      users-none = from opens (is.promises k.vpe sel)
        where
          from : Opens → promise_users s k.vpe sel + in_hand p k.vpe sel ≤ is_promised (slot s k.vpe sel) → promise_users s k.vpe sel ≡ 0
          from (inl (none, free)) most = let zero' : is_promised (slot s k.vpe sel) ≡ 0 = ap is_promised free in omega (arith, most, zero')
          from (inr hand) most =
              let one : in_hand p k.vpe sel ≡ 1 = ap (λ h. in_hand h k.vpe sel) hand ∙ in_hand-here k.vpe sel in
              let few' = promised-most (slot s k.vpe sel) in
              omega (arith, most, one, few')
            where
              promised-most : (x : Slot) → is_promised x ≤ 1
              promised-most Free = omega arith
              promised-most (Held q) = omega arith
              promised-most Promised = omega arith

      not-held : (q : KeyName) → slot s k.vpe sel ≡ Held q → ⊥
      not-held q at = from opens
        where
          from : Opens → ⊥
          from (inl (none, free)) = clash (sym free ∙ at)
            where
              clash : Free ≡ Held q → ⊥
              clash no' = cc
          from (inr hand) =
              clash (sym (hand-promised T valid i few (Some (k.vpe, sel)) g d s k.vpe local (Some (k.vpe, k.number)) sel
              (subst (λ h. IsSoundBut T i (Some (k.vpe, k.number)) h g d 0 s) hand is)) ∙ at)
            where
              clash : Promised ≡ Held q → ⊥
              clash no' = cc

      hand-else : (w q : ℕ) → (w ≡ k.vpe → ⊥) ⊎ (q ≡ sel → ⊥) → in_hand p w q ≡ 0
      hand-else w q apart = from opens
        where
          from : Opens → in_hand p w q ≡ 0
          from (inl (none, free)) = ap (λ h. in_hand h w q) none
          from (inr hand) = ap (λ h. in_hand h w q) hand ∙ in_hand-apart T valid i few k.vpe sel w q apart

      new-slot : get_or new_row.slots sel Free ≡ Held k
      new-slot = get_or-put_same Free (row s k.vpe).slots sel (Held k)

      old-slot : (q : ℕ) → (q ≡ sel → ⊥) → get_or new_row.slots q Free ≡ slot s k.vpe q
      old-slot q other = get_or-put_other Free (row s k.vpe).slots sel q (Held k) other

      abbrev qs : ℕ → ℕ → ℕ
      qs w q = sum_by (λ (x : Pending). bit ((x.key.vpe == w) && (x.sel == q))) s.pendings

      abbrev ps : ℕ → ℕ → ℕ
      ps w m = sum_by (λ (x : Pending). bit ((x.key.vpe == w) && (x.key.number == m))) s.pendings

      abbrev cs : ℕ → ℕ → ℕ
      cs w m = sum_by (λ (c : Capability). bit ((c.key.vpe == w) && (c.key.number == m))) (with_cap s.caps new_cap)

      -- nothing is held under the key
      pub installed-absent : cap s k ≡ None
      installed-absent = find_none (λ (c : Capability). key_eq c.key k) s.caps (λ c among. false_from_ne_true (key_eq c.key k) (λ test.
          let u : Capability → ℕ = λ x. bit ((x.key.vpe == k.vpe) && (x.key.number == k.number)) in
          let key : c.key ≡ k = key_eq-true c.key k test in
          let here : u c ≡ 1 = ap (λ (q : KeyName). bit ((q.vpe == k.vpe) && (q.number == k.number))) key
          ∙ ap bit (and_from (k.vpe == k.vpe) (k.number == k.number) (eq-eqb k.vpe k.vpe refl) (eq-eqb k.number k.number refl)) in
          let some = weigh-among u s.caps c among in
          let used = is.numbers k.vpe k.number in
          let hand = in_hand-here k.vpe k.number in
          let most = bit-most (nat_lt k.number (row s k.vpe).next_number) in
          omega (arith, here, some, used, hand, most)))

      pub installed-sound : IsSoundBut T i None None g d 0 (installed k parent sel object s)
      installed-sound = record {
        caps = λ c among. elim (with_cap-from s.caps new_cap c among) [ inl same ↦ subst (IsSoundCap T i) same sound | inr before ↦ is.caps c before ];
        caps_rise = with_cap-rises s.caps new_cap is.caps_rise (λ m q within. all-valid m q within) sound.own.0.0 installed-absent;
        calls = is.calls;
        rows = by_row T valid i few s k.vpe new_row (λ w x. IsSoundRow T i w x) (let r = is.rows k.vpe in
            record { others = λ remote. absurd (remote local); next_number = r.next_number; next_call = r.next_call; asks = r.asks; few_asks = r.few_asks })
            (λ w other. is.rows w);
        pendings = is.pendings;
        ups = is.ups;
        waiters_rise = is.waiters_rise;
        ids_drawn = is.ids_drawn;
        jobs_rise = is.jobs_rise;
        outs = is.outs;
        inbox = is.inbox;
        endpoints = is.endpoints;
        endpoint_places = is.endpoint_places;
        park_places = is.park_places;
        boxes = is.boxes;
        places = length-put no_vpe s.vpes VPES k.vpe new_row is.places (local-place T valid i few k.vpe local);
        numbers = by_row T valid i few s k.vpe new_row (λ w x. (m : ℕ) →
            keeps_number m (kept (parked s w)) + (ps w m + cs w m) + 0 ≤ bit (nat_lt m x.next_number))
            (λ m. at-number k.vpe m) (λ w other m. at-number w m);
        promises = by_row T valid i few s k.vpe new_row (λ w x. (q : ℕ) →
            keeps_selector q (kept (parked s w)) + qs w q + 0 ≤ is_promised (get_or x.slots q Free))
            (λ q. elim (cases_eq q sel) [
              | inl same ↦ subst (λ y. keeps_selector y (kept (parked s k.vpe)) + qs k.vpe y + 0 ≤ is_promised (get_or new_row.slots y Free)) (sym same)
                  (let none = users-none in omega (arith, none))
              | inr other ↦ let before = is.promises k.vpe q in let hand = hand-else k.vpe q (inr other) in let stays = ap is_promised (old-slot q other) in
                  omega (arith, before, hand, stays)
            ])
            (λ w other q. let before = is.promises w q in let hand = hand-else w q (inl other) in omega (arith, before, hand));
        no_other_promise = by_row T valid i few s k.vpe new_row (λ w x. (q : ℕ) → x.alive ≡ true →
            is_promised (get_or x.slots q Free) ≤ keeps_selector q (kept (parked s w)) + qs w q + 0)
            (λ q lives. elim (cases_eq q sel) [
              | inl same ↦ let now : is_promised (get_or new_row.slots q Free) ≡ 0 = ap (λ y. is_promised (get_or new_row.slots y Free)) same
                  ∙ ap is_promised new-slot in omega (arith, now)
              | inr other ↦ let before = is.no_other_promise k.vpe q lives in let hand = hand-else k.vpe q (inr other) in
                  let stays = ap is_promised (old-slot q other) in omega (arith, before, hand, stays)
            ])
            (λ w other q lives. let before = is.no_other_promise w q lives in let hand = hand-else w q (inl other) in omega (arith, before, hand));
        at_selector = λ c among. elim (with_cap-from s.caps new_cap c among) [
          | inl same ↦ subst (λ (x : Capability). slot (installed k parent sel object s) x.key.vpe x.selector ≡ Held x.key) same
              (ap (λ (x : VpeRow). get_or x.slots sel Free) (get_or-put_same no_vpe s.vpes k.vpe new_row) ∙ new-slot)
          | inr before ↦ by_row T valid i few s k.vpe new_row (λ w x. c.key.vpe ≡ w → get_or x.slots c.selector Free ≡ Held c.key)
              (λ here.
              let at : slot s k.vpe c.selector ≡ Held c.key = subst (λ w. slot s w c.selector ≡ Held c.key) here (is.at_selector c before) in
              elim (cases_eq c.selector sel) [
                | inl same ↦ absurd (not-held c.key (subst (λ q. slot s k.vpe q ≡ Held c.key) same at))
                | inr other ↦ old-slot c.selector other ∙ at
              ])
              (λ w other here. subst (λ w. slot s w c.selector ≡ Held c.key) here (is.at_selector c before))
              c.key.vpe refl
        ];
        held = λ w q k' at. by_row T valid i few s k.vpe new_row (λ w x. get_or x.slots q Free ≡ Held k' →
            (k'.vpe ≡ w) × ((c : Capability) × Contains (with_cap s.caps new_cap) c × (c.key ≡ k') × (c.selector ≡ q)))
            (λ at. elim (cases_eq q sel) [
              | inl same ↦ let key : k ≡ k' = held-same k k' (sym new-slot ∙ (ap (λ y. get_or new_row.slots y Free) (sym same) ∙ at)) in
                  (ap (λ (x : KeyName). x.vpe) (sym key), (new_cap, with_cap-has s.caps new_cap, key, sym same))
              | inr other ↦ let before = is.held k.vpe q k' (sym (old-slot q other) ∙ at) in
                  (before.0, (before.1.0, with_cap-keeps s.caps new_cap before.1.0 before.1.1, before.1.2, before.1.3))
            ])
            (λ w other at. let before = is.held w q k' at in
            (before.0, (before.1.0, with_cap-keeps s.caps new_cap before.1.0 before.1.1, before.1.2, before.1.3)))
            w at;
        marker = λ c j among marked. elim (with_cap-from s.caps new_cap c among)
            [ inl same ↦ absurd (none-marked (ap (λ (x : Capability). x.mark) same ∙ marked)) | inr before ↦ is.marker c j before marked ];
        roots = λ x among still. let c = is.roots x among still in (c.0, with_cap-keeps s.caps new_cap c.0 c.1, c.2, c.3);
        waiters = is.waiters;
        counted = is.counted;
        ids =
            let paid = weigh-put (λ (x : VpeRow). x.next_number + x.next_call) no_vpe refl s.vpes k.vpe new_row in
            let caps = added-sum (λ (c : Capability). bit (is_none c.mark)) s.caps new_cap in
            let before = is.ids in
            omega (arith, paid, caps, before);
      }
        where
          all-valid : All IsValidKey (map (λ (c : Capability). c.key) s.caps)
          all-valid m q within =
              let o = Contains-from_map (λ (c : Capability). c.key) s.caps (get_or (map (λ (c : Capability). c.key) s.caps) m q)
              (Contains-get_or (map (λ (c : Capability). c.key) s.caps) m q within) in
              subst IsValidKey o.2 (is.caps o.0 o.1).own.0.0

          at-number : (w m : ℕ) → keeps_number m (kept (parked s w)) + (ps w m + cs w m) + 0 ≤ bit (nat_lt m (row s w).next_number)
          at-number w m =
              let before = is.numbers w m in
              let more = added-sum (λ (c : Capability). bit ((c.key.vpe == w) && (c.key.number == m))) s.caps new_cap in
              omega (arith, before, more)

          held-same : (a b : KeyName) → Held a ≡ Held b → a ≡ b
          held-same a b same = cc

          none-marked : {j : ℕ} → None ≡ Some j → ⊥
          none-marked no' = cc

  -- Pending delegations.

  pub pending_added-sound : (g d : Option ℕ) (s : Side) (q : Pending) → IsSoundBut T i (Some (q.key.vpe, q.key.number)) (Some (q.key.vpe, q.sel)) g d 0 s →
      IsSoundPending T i q → IsSoundBut T i None None g d 0 (pending_added q s)
  pending_added-sound g d s q is sound = record {
    caps = is.caps;
    caps_rise = is.caps_rise;
    rows = is.rows;
    calls = is.calls;
    pendings = λ x among. elim (Contains-push_cases s.pendings q x among) [
      | inl before ↦ is.pendings x before
      | inr same ↦ subst (IsSoundPending T i) same sound
    ];
    ups = is.ups;
    waiters_rise = is.waiters_rise;
    ids_drawn = is.ids_drawn;
    jobs_rise = is.jobs_rise;
    outs = is.outs;
    inbox = is.inbox;
    places = is.places;
    endpoints = is.endpoints;
    endpoint_places = is.endpoint_places;
    park_places = is.park_places;
    boxes = is.boxes;
    numbers = λ v m. let push = sum_by_push (λ (x : Pending). bit ((x.key.vpe == v) && (x.key.number == m))) s.pendings q in let before = is.numbers v m in
        omega (arith, push, before);
    promises = λ v sel. let push = sum_by_push (λ (x : Pending). bit ((x.key.vpe == v) && (x.sel == sel))) s.pendings q in let before = is.promises v sel in
        omega (arith, push, before);
    no_other_promise = λ v sel lives. let push = sum_by_push (λ (x : Pending). bit ((x.key.vpe == v) && (x.sel == sel))) s.pendings q in
        let before = is.no_other_promise v sel lives in omega (arith, push, before);
    at_selector = is.at_selector;
    held = is.held;
    marker = is.marker;
    roots = is.roots;
    waiters = is.waiters;
    counted = is.counted;
    ids = let long = longer s.pendings q in let before = is.ids in omega (arith, long, before);
  }
    where
      longer : (xs : List Pending) (x : Pending) → length (xs ++ x ∷ []) ≡ length xs + 1
      longer [] x = refl
      longer (y ∷ ys) x = let rest = longer ys x in omega (arith, rest)

  pub pending_removed-sound : (g d : Option ℕ) (s : Side) (k : KeyName) (q : Pending) → IsSoundBut T i None None g d 0 s → pending s k ≡ Some q →
      IsSoundBut T i (Some (k.vpe, k.number)) (Some (k.vpe, q.sel)) g d 0 (pending_removed k s)
  pending_removed-sound g d s k q is there = record {
    caps = is.caps;
    caps_rise = is.caps_rise;
    rows = is.rows;
    calls = is.calls;
    pendings = λ x among. is.pendings x (Contains-from_filter (λ (y : Pending). not (key_eq y.key k)) s.pendings x among).0;
    ups = is.ups;
    waiters_rise = is.waiters_rise;
    ids_drawn = is.ids_drawn;
    jobs_rise = is.jobs_rise;
    outs = is.outs;
    inbox = is.inbox;
    places = is.places;
    endpoints = is.endpoints;
    endpoint_places = is.endpoint_places;
    park_places = is.park_places;
    boxes = is.boxes;
    numbers = λ v m.
        let parts = less (λ (x : Pending). bit ((x.key.vpe == v) && (x.key.number == m))) in
        let key = ap (λ (x : KeyName). bit ((x.vpe == v) && (x.number == m))) same-key in
        let before = is.numbers v m in
        omega (arith, parts, key, before);
    promises = λ v sel.
        let parts = less (λ (x : Pending). bit ((x.key.vpe == v) && (x.sel == sel))) in
        let key = ap (λ (x : KeyName). bit ((x.vpe == v) && (q.sel == sel))) same-key in
        let before = is.promises v sel in
        omega (arith, parts, key, before);
    no_other_promise = λ v sel lives.
        let parts = less (λ (x : Pending). bit ((x.key.vpe == v) && (x.sel == sel))) in
        let key = ap (λ (x : KeyName). bit ((x.vpe == v) && (q.sel == sel))) same-key in
        let before = is.no_other_promise v sel lives in
        omega (arith, parts, key, before);
    at_selector = is.at_selector;
    held = is.held;
    marker = is.marker;
    roots = is.roots;
    waiters = is.waiters;
    counted = is.counted;
    ids =
        let one : length (filter (λ (x : Pending). key_eq x.key k) s.pendings) ≡ 1 = ap length alone in
        let both = apart-shorter (λ (x : Pending). key_eq x.key k) (λ (x : Pending). not (key_eq x.key k)) (λ x pass. ap not pass) s.pendings in
        let before = is.ids in
        omega (arith, one, both, before);
  }
    where
      at : Contains s.pendings q × (key_eq q.key k ≡ true)
      at = found (λ (x : Pending). key_eq x.key k) s.pendings q there

      same-key : q.key ≡ k
      same-key = key_eq-true q.key k at.1

      counts : (x : Pending) → Contains (filter (λ (y : Pending). key_eq y.key k) s.pendings) x → bit ((x.key.vpe == k.vpe) && (x.key.number == k.number)) ≡ 1
      counts x among =
          let key : x.key ≡ k = key_eq-true x.key k (Contains-from_filter (λ (y : Pending). key_eq y.key k) s.pendings x among).1 in
          ap bit (and_from (x.key.vpe == k.vpe) (x.key.number == k.number) (eq-eqb x.key.vpe k.vpe (ap (λ (y : KeyName). y.vpe) key))
          (eq-eqb x.key.number k.number (ap (λ (y : KeyName). y.number) key)))

      alone : filter (λ (x : Pending). key_eq x.key k) s.pendings ≡ q ∷ []
      alone =
          let u : Pending → ℕ = λ x. bit ((x.key.vpe == k.vpe) && (x.key.number == k.number)) in
          let some = weigh-filter u (λ (x : Pending). key_eq x.key k) s.pendings in
          let used = is.numbers k.vpe k.number in
          let most = bit-most (nat_lt k.number (row s k.vpe).next_number) in
          only-one u (filter (λ (x : Pending). key_eq x.key k) s.pendings) (omega (arith, some, used, most)) counts q
          (Contains-filter (λ (x : Pending). key_eq x.key k) s.pendings q at.0 at.1)

      less : (w : Pending → ℕ) → sum_by w (filter (λ (x : Pending). not (key_eq x.key k)) s.pendings) + w q ≡ sum_by w s.pendings
      less w =
          let parts = weigh-parts w (λ (x : Pending). key_eq x.key k) s.pendings in
          let one : sum_by w (filter (λ (x : Pending). key_eq x.key k) s.pendings) ≡ w q + 0 = ap (sum_by w) alone ∙ sum_by-cons w q [] in
          omega (arith, parts, one)
