-- The start is sound.
use Rattle.std.proofs.Common.{◌≡◌, ◌≢◌, ℕ, zero, suc, ◌+◌, ◌<◌, ◌≤◌, ◌&&◌, true, false, List, [], ◌∷◌, length, replicate, get_or, Option, Some, None, refl, sym}
use Rattle.std.proofs.Common.{ap, subst, ◌∙◌, inl, inr, arith}
use Rattle.std.specs.Prelude.{◌==◌, nat_lt}
use Rattle.std.specs.List.{All, AllPairs, Contains, filter, sum_by}
use Rattle.std.specs.Option.{option_map_or}
use Rattle.std.proofs.lemmas.Bool.{cases_eq, eqb-true}
use Rattle.std.proofs.lemmas.List.{length-replicate}
use Rattle.std.proofs.lemmas.List.Elements.{All-contains, All-head, All-tail}
use Rattle.std.proofs.lemmas.List.Kept.{AllPairs-filter}
use Rattle.sem_key.specs.declared.object.Object.{Object}
use Rattle.sem_key.specs.declared.object.Object.TheVariants.{Mem, Recv, Send, Serv, Sess}
use Rattle.sem_key.specs.KeyName.{KeyName}
use Rattle.sem_key.specs.ObjectRanges.{IsValidObject}
use Rattle.sem_key.specs.Lists.{put, in_turn}
use Rattle.sem_key.specs.Capability.{Capability}
use Rattle.sem_key.specs.CapList.{fresh}
use Rattle.sem_msg.specs.declared.state.Parked.{Parked}
use Rattle.sem_msg.specs.declared.setup.Root.{Root}
use Rattle.sem_msg.specs.declared.setup.VpeDecl.{VpeDecl}
use Rattle.sem_msg.specs.declared.message.Message.{Message}
use Rattle.sem_msg.specs.declared.state.Slot.TheVariants.{Free, Held}
use Rattle.sem_msg.specs.declared.state.Pending.{Pending}
use Rattle.sem_msg.specs.Rows.{VpeRow, no_vpe, Endpoint}
use Rattle.sem_msg.specs.Setup.{Setup, IsSetup, IsVpeDecl, IsRoot, IsRootObject, root_key}
use Rattle.sem_msg.specs.Lookups.{pe_owner, kernel_of}
use Rattle.sem_machine.specs.Sound.{IsLocalName, IsSoundObject, bit, kept, keeps_number, keeps_selector, one_if, is_promised, IsSoundRow, IsSound}
use Rattle.sem_machine.specs.Sides.{Side, row, slot, drawn, cap_added, installed, parked}
use Rattle.sem_machine.specs.Machine.{start_side, empty_side, root_added, vpe_added, vpe_fresh}
use Rattle.sem_msg.specs.VpeRows.{new_vpe, root_held}
use Rattle.sem_msg.specs.EndpointRows.{no_endpoint_bound}
use Rattle.sem_key.specs.declared.limits.TheConstants.{VPES, NUMBERS}
use Rattle.sem_msg.specs.declared.limits.TheConstants.{SELECTORS, ENDPOINTS}
use Rattle.sem_key.proofs.Puts.{get_or-put_same, get_or-put_other}
use Rattle.sem_key.proofs.Members.{Contains-nil, Contains-head, Contains-tail, Contains-from_filter}
use Rattle.sem_machine.proofs.FirstNumbers.{find-decl, root-next}
use Rattle.sem_machine.proofs.Folds.{in_turn-keeps}
use Rattle.sem_machine.proofs.Weighing.{weigh-put, weigh-replicate}
use Rattle.sem_sound.proofs.Counts.{length-put}
use Rattle.sem_sound.proofs.Changing.{local-place, by_row, drawn-sound}
use Rattle.sem_sound.proofs.Holding.{installed-sound}
use Rattle.sem_sound.proofs.Revoking.{row-twice}
use Rattle.sem_msg.proofs.Declared.{most_vpes-le}
use Rattle.sem_sound.proofs.Objects.{few-roots, decl-at}
use Rattle.sem_sound.proofs.Calling.{drawn-slot}

pub get_or-replicate : {X : Type 0} (n : ℕ) (x : X) (k : ℕ) → get_or (replicate n x) k x ≡ x
get_or-replicate zero x k = refl
get_or-replicate (suc n) x zero = refl
get_or-replicate (suc n) x (suc k) = get_or-replicate n x k

no-row : (T : Setup) (i v : ℕ) → IsSoundRow T i v no_vpe
no-row T i v = record {
  others = λ _. refl;
  next_number = omega arith;
  next_call = omega arith;
  asks = λ a none. absurd (Contains-nil a none);
  few_asks = omega arith;
}

root-object : (T : Setup) (o : Object) → IsRootObject o → IsValidObject o → IsSoundObject T o
root-object T (Mem base len rights) root ranges = (ranges, tt)
root-object T (Recv slots) root ranges = (ranges, tt)
root-object T (Send gate label credits) root ranges = absurd root
root-object T (Serv name) root ranges = (ranges, tt)
root-object T (Sess service ident) root ranges = absurd root

module _ (T : Setup) (valid : IsSetup T) (i : ℕ) (few : i < T.kernels) where
  empty-row : (v : ℕ) → row (empty_side T) v ≡ no_vpe
  empty-row v = get_or-replicate VPES no_vpe v

  empty-call : (v : ℕ) → parked (empty_side T) v ≡ None
  empty-call v = get_or-replicate VPES None v

  empty-sound : IsSound T i (empty_side T)
  empty-sound = record {
    caps = λ c none. absurd (Contains-nil c none);
    caps_rise = λ a b e lt within. absurd (omega (arith, lt, within));
    rows = λ v. subst (IsSoundRow T i v) (sym (empty-row v)) (no-row T i v);
    calls = λ v p at. absurd (no-call p (sym (empty-call v) ∙ at));
    pendings = λ p none. absurd (Contains-nil p none);
    ups = λ x none. absurd (Contains-nil x none);
    waiters_rise = λ x none. absurd (Contains-nil x none);
    ids_drawn = λ x none. absurd (Contains-nil x none);
    jobs_rise = λ a b d lt within. absurd (omega (arith, lt, within));
    outs = λ j m among. absurd (Contains-nil m (subst (λ ms. Contains ms m) (get_or-replicate T.kernels [] j) among));
    inbox = λ from m none. absurd cc;
    places = length-replicate VPES no_vpe;
    endpoints = λ v ep e at. absurd (unbound e (sym (ap (λ es. get_or es ep None) (get_or-replicate VPES [] v)) ∙ at));
    endpoint_places = length-replicate {A = List (Option Endpoint)} VPES [];
    park_places = length-replicate {A = Option Parked} VPES None;
    boxes = length-replicate {A = List Message} T.kernels [];
    numbers = λ v n. let call = ap (λ o. keeps_number n (kept o)) (empty-call v) in omega (arith, call);
    promises = λ v sel. let call = ap (λ o. keeps_selector sel (kept o)) (empty-call v) in omega (arith, call);
    no_other_promise = λ v sel lives. absurd (clash (sym (ap (λ (r : VpeRow). r.alive) (empty-row v)) ∙ lives));
    at_selector = λ c none. absurd (Contains-nil c none);
    held = λ v sel k at. absurd (unheld k (sym (ap (λ (r : VpeRow). get_or r.slots sel Free) (empty-row v)) ∙ at));
    marker = λ c j none. absurd (Contains-nil c none);
    roots = λ x none. absurd (Contains-nil x none);
    waiters = λ x v none. absurd (Contains-nil x none);
    counted = λ x none. absurd (Contains-nil x none);
    ids = let none = weigh-replicate (λ (o : Option Parked). one_if (kept o)) VPES None refl in omega (arith, none);
  }
    where
      clash : false ≡ true → ⊥
      clash none = cc

      unheld : (k : KeyName) → Free ≡ Held k → ⊥
      unheld k none = cc

      no-call : (p : Parked) → None ≡ Some p → ⊥
      no-call p none = cc

      unbound : (e : Endpoint) → None ≡ Some e → ⊥
      unbound e none = cc

  -- A VPE comes to be.
  module _ (s : Side) (is : IsSound T i s) (v : ℕ) (local : kernel_of T v ≡ i) (absent : row s v ≡ no_vpe) where
    no-slot : (sel : ℕ) → slot s v sel ≡ Free
    no-slot sel = ap (λ (r : VpeRow). get_or r.slots sel Free) absent

    new-slot : (sel : ℕ) → get_or new_vpe.slots sel Free ≡ Free
    new-slot sel = get_or-replicate SELECTORS Free sel

    abbrev ps : ℕ → ℕ → ℕ
    ps w m = sum_by (λ (q : Pending). bit ((q.key.vpe == w) && (q.key.number == m))) s.pendings

    abbrev cs : ℕ → ℕ → ℕ
    cs w m = sum_by (λ (c : Capability). bit ((c.key.vpe == w) && (c.key.number == m))) s.caps

    abbrev qs : ℕ → ℕ → ℕ
    qs w sel = sum_by (λ (q : Pending). bit ((q.key.vpe == w) && (q.sel == sel))) s.pendings

    born-sound : IsSound T i (record s { vpes = put no_vpe s.vpes v new_vpe; endpoints = put [] s.endpoints v no_endpoint_bound })
    born-sound = record {
      caps = is.caps;
      caps_rise = is.caps_rise;
      calls = is.calls;
      rows = by_row T valid i few s v new_vpe (λ w x. IsSoundRow T i w x) (record {
        others = λ remote. absurd (remote local);
        next_number = omega arith;
        next_call = omega arith;
        asks = λ a none. absurd (Contains-nil a none);
        few_asks = omega arith;
      }) (λ w other. is.rows w);
      pendings = is.pendings;
      ups = is.ups;
      waiters_rise = is.waiters_rise;
      ids_drawn = is.ids_drawn;
      jobs_rise = is.jobs_rise;
      outs = is.outs;
      inbox = is.inbox;
      places = length-put no_vpe s.vpes VPES v new_vpe is.places (local-place T valid i few v local);
      endpoint_places = length-put [] s.endpoints VPES v no_endpoint_bound is.endpoint_places (local-place T valid i few v local);
      park_places = is.park_places;
      boxes = is.boxes;
      endpoints = λ w ep e at. elim (cases_eq w v) [
        | inl same ↦ absurd (unbound e (sym (get_or-replicate ENDPOINTS None ep)
            ∙ (sym (ap (λ es. get_or es ep None) (ap (λ u. get_or (put [] s.endpoints v no_endpoint_bound) u []) same
            ∙ get_or-put_same [] s.endpoints v no_endpoint_bound)) ∙ at)))
        | inr other ↦ is.endpoints w ep e (sym (ap (λ es. get_or es ep None) (get_or-put_other [] s.endpoints v w no_endpoint_bound other)) ∙ at)
      ];
      numbers = by_row T valid i few s v new_vpe (λ w x. (m : ℕ) → keeps_number m (kept (parked s w)) + (ps w m + cs w m) + 0 ≤ bit (nat_lt m x.next_number))
          (λ m. let before = is.numbers v m in let next = ap (λ (r : VpeRow). bit (nat_lt m r.next_number)) absent in omega (arith, before, next))
          (λ w other m. is.numbers w m);
      promises = by_row T valid i few s v new_vpe (λ w x. (sel : ℕ) →
          keeps_selector sel (kept (parked s w)) + qs w sel + 0 ≤ is_promised (get_or x.slots sel Free))
          (λ sel. let before = is.promises v sel in let was = ap is_promised (no-slot sel) in omega (arith, before, was))
          (λ w other sel. is.promises w sel);
      no_other_promise = by_row T valid i few s v new_vpe (λ w x. (sel : ℕ) → x.alive ≡ true →
          is_promised (get_or x.slots sel Free) ≤ keeps_selector sel (kept (parked s w)) + qs w sel + 0)
          (λ sel lives. let now : is_promised (get_or new_vpe.slots sel Free) ≡ 0 = ap is_promised (new-slot sel) in omega (arith, now))
          (λ w other sel lives. is.no_other_promise w sel lives);
      at_selector = λ c among. by_row T valid i few s v new_vpe (λ w x. c.key.vpe ≡ w → get_or x.slots c.selector Free ≡ Held c.key)
          (λ here. absurd (unheld c.key (sym (no-slot c.selector) ∙ subst (λ w. slot s w c.selector ≡ Held c.key) here (is.at_selector c among))))
          (λ w other here. subst (λ w. slot s w c.selector ≡ Held c.key) here (is.at_selector c among))
          c.key.vpe refl;
      held = λ w sel k at. by_row T valid i few s v new_vpe (λ w x. get_or x.slots sel Free ≡ Held k →
          (k.vpe ≡ w) × ((c : Capability) × Contains s.caps c × (c.key ≡ k) × (c.selector ≡ sel)))
          (λ at. absurd (unheld k (sym (new-slot sel) ∙ at)))
          (λ w other at. is.held w sel k at)
          w at;
      marker = is.marker;
      roots = is.roots;
      waiters = is.waiters;
      counted = is.counted;
      ids =
          let paid = weigh-put (λ (x : VpeRow). x.next_number + x.next_call) no_vpe refl s.vpes v new_vpe in
          let next = ap (λ (r : VpeRow). r.next_number) absent in
          let made = ap (λ (r : VpeRow). r.next_call) absent in
          let before = is.ids in
          omega (arith, paid, next, made, before);
    }
      where
        unheld : (k : KeyName) → Free ≡ Held k → ⊥
        unheld k none = cc

        unbound : (e : Endpoint) → None ≡ Some e → ⊥
        unbound e none = cc

  -- Roots.
  module _ (d : VpeDecl) (among : Contains T.vpes d) (owned : pe_owner T d.pe ≡ i) where
    declared : IsVpeDecl T d
    declared = All-contains (IsVpeDecl T) T.vpes d valid.vpes among

    local-decl : kernel_of T d.vpe ≡ i
    local-decl = ap (λ (o : Option VpeDecl). option_map_or (λ x. pe_owner T x.pe) o T.kernels) (find-decl T.vpes d valid.vpes_rise among) ∙ owned

    root-sound : (r : Root) → IsRoot r → (s : Side) → IsSound T i s → slot s d.vpe r.sel ≡ Free → (row s d.vpe).next_number < NUMBERS →
        IsSound T i (root_added d r s)
    root-sound r root s is free below =
        let v : ℕ = d.vpe in
        let n : ℕ = (row s v).next_number in
        let k : KeyName = root_key d n r in
        let pe_small = declared.pe in
        let vpe_small = declared.vpe in
        let most = most_vpes-le T.version in
        let key : IsLocalName T i k = (
          ((omega (arith, pe_small, most), omega (arith, vpe_small, most), omega (arith, below)), decl-at T valid d among),
          owned,
        ) in
        let draws = drawn-sound T valid i few None None None s v local-decl is below in
        let object = root-object T r.object root.kind root.ranges in
        let holds = installed-sound T valid i few None None None (drawn v s) k None r.sel r.object draws (inl (refl, drawn-slot s v r.sel ∙ free))
        (record {
          own = key;
          kind = refl;
          object = object;
          selector = root.selector;
          parent = λ p none. absurd cc;
          children = λ q none. absurd (Contains-nil q none);
          children_rise = λ a b d lt within. absurd (omega (arith, lt, within));
        }) in
        let u : Side = cap_added (fresh k None r.sel r.object) s in
        let swap : root_added d r s ≡ installed k None r.sel r.object (drawn v s) =
        sym (row-twice v (λ x. record x { slots = put Free x.slots r.sel (Held k) }) (λ x. record x { next_number = x.next_number + 1 }) u) in
        subst (IsSound T i) (sym swap) holds

    root-slot : (r : Root) (s : Side) (sel : ℕ) → (sel ≡ r.sel → ⊥) → slot (root_added d r s) d.vpe sel ≡ slot s d.vpe sel
    root-slot r s sel other =
        let v : ℕ = d.vpe in
        let k : KeyName = root_key d (row s v).next_number r in
        ap (λ (x : VpeRow). get_or x.slots sel Free) (get_or-put_same no_vpe s.vpes v (root_held d r (row s v)))
        ∙ get_or-put_other Free (row s v).slots r.sel sel (Held k) other

    roots-sound : (rs : List Root) (s : Side) → AllPairs (λ (a b : Root). a.sel ≢ b.sel) rs → All IsRoot rs → IsSound T i s →
        ((r : Root) → Contains rs r → slot s d.vpe r.sel ≡ Free) → (row s d.vpe).next_number + length rs ≤ SELECTORS → IsSound T i (in_turn (root_added d) rs s)
    unfolding in_turn
    roots-sound [] s differ roots is free short = is
    roots-sound (r ∷ rs) s differ roots is free short =
        let next = root-next d r s in
        roots-sound rs (root_added d r s) (λ a b e lt within. differ (suc a) (suc b) e (omega arith) (omega arith)) (All-tail IsRoot r rs roots)
        (root-sound r (All-head IsRoot r rs roots) s is (free r (Contains-head r rs)) (omega (arith, short)))
        (λ q in_rs. root-slot r s q.sel (λ same. first q in_rs (sym same)) ∙ free q (Contains-tail r rs q in_rs))
        (omega (arith, next, short))
      where
        first : (q : Root) → Contains rs q → r.sel ≢ q.sel
        first q (k, within, at) = subst (λ (x : Root). r.sel ≢ x.sel) at (differ zero (suc k) q (omega arith) (omega arith))

    vpe-sound : (s : Side) → IsSound T i s → row s d.vpe ≡ no_vpe → IsSound T i (vpe_added d s)
    vpe-sound s is absent =
        let t : Side = vpe_fresh d s in
        let fresh' : row t d.vpe ≡ new_vpe = get_or-put_same no_vpe s.vpes d.vpe new_vpe in
        let next : (row t d.vpe).next_number ≡ 0 = ap (λ (r : VpeRow). r.next_number) fresh' in
        let short = few-roots d.roots declared.roots declared.selectors_differ in
        roots-sound d.roots t declared.selectors_differ declared.roots (born-sound s is d.vpe local-decl absent)
        (λ r in_roots. ap (λ (x : VpeRow). get_or x.slots r.sel Free) fresh' ∙ get_or-replicate SELECTORS Free r.sel) (omega (arith, next, short))

  -- VPEs, one after the other.

  -- nothing changes of another VPE
  row-other : (d : VpeDecl) (s : Side) (w : ℕ) → (w ≡ d.vpe → ⊥) → row (vpe_added d s) w ≡ row s w
  row-other d s w other =
      in_turn-keeps (λ t. row t w ≡ row s w) (root_added d) (λ r t here. get_or-put_other no_vpe t.vpes d.vpe w (root_held d r (row t d.vpe)) other
      ∙ here) d.roots (vpe_fresh d s) (get_or-put_other no_vpe s.vpes d.vpe w new_vpe other)

  vpes-sound : (ds : List VpeDecl) (s : Side) → AllPairs (λ (a b : VpeDecl). a.vpe < b.vpe) ds →
      ((d : VpeDecl) → Contains ds d → Contains T.vpes d × (pe_owner T d.pe ≡ i)) → IsSound T i s → ((d : VpeDecl) → Contains ds d → row s d.vpe ≡ no_vpe) →
      IsSound T i (in_turn vpe_added ds s)
  unfolding in_turn
  vpes-sound [] s rise own is absent = is
  vpes-sound (d ∷ ds) s rise own is absent =
      let mine = own d (Contains-head d ds) in
      vpes-sound ds (vpe_added d s) (λ a b e lt within. rise (suc a) (suc b) e (omega arith) (omega arith)) (λ x in_ds. own x (Contains-tail d ds x in_ds))
      (vpe-sound d mine.0 mine.1 s is (absent d (Contains-head d ds)))
      (λ x in_ds. row-other d s x.vpe (λ same. let below = first x in_ds in omega (arith, below, same)) ∙ absent x (Contains-tail d ds x in_ds))
    where
      first : (x : VpeDecl) → Contains ds x → d.vpe < x.vpe
      first x (k, within, at) = subst (λ (y : VpeDecl). d.vpe < y.vpe) at (rise zero (suc k) x (omega arith) (omega arith))

  pub start-sound : IsSound T i (start_side T i)
  unfolding start_side
  start-sound =
      vpes-sound (filter (λ (d : VpeDecl). pe_owner T d.pe == i) T.vpes) (empty_side T)
      (AllPairs-filter (λ (a b : VpeDecl). a.vpe < b.vpe) (λ (d : VpeDecl). pe_owner T d.pe == i) T.vpes valid.vpes_rise)
      (λ d in_ds. let was = Contains-from_filter (λ (x : VpeDecl). pe_owner T x.pe == i) T.vpes d in_ds in (was.0, eqb-true (pe_owner T d.pe) i was.1))
      empty-sound (λ d in_ds. empty-row d.vpe)
