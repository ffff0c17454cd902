-- A job that begins, and revokes, keep a side sound.
use Rattle.sem_msg.specs.declared.setup.VpeDecl.{VpeDecl}
use Rattle.sem_msg.specs.declared.limits.TheConstants.{CALLS}
use Rattle.std.proofs.Common.{◌≡◌, ℕ, zero, suc, ◌+◌, ◌*◌, ◌<◌, ◌≤◌, ◌&&◌, Bool, true, false, List, [], ◌∷◌, ◌++◌, length, map, get_or, Option, Some, None}
use Rattle.std.proofs.Common.{is_none, refl, sym, ap, subst, ◌∙◌, inl, inr, arith}
use Rattle.std.specs.Prelude.{◌==◌, if◌then◌else◌}
use Rattle.std.specs.List.{AllPairs, Contains, filter, list_any, sum_by}
use Rattle.std.specs.Option.{option_map_or}
use Rattle.std.proofs.lemmas.Bool.{cases_Bool, cond_both, cond-true, cond-false, and_parts, and_from, or_left, or_right}
use Rattle.std.proofs.lemmas.Option.{same_Some}
use Rattle.std.proofs.lemmas.List.{length-map}
use Rattle.std.proofs.lemmas.List.Elements.{Contains-get_or, Contains-push, Contains-push_cases, Contains-append_left}
use Rattle.std.proofs.lemmas.List.Sums.{sum_by-cons, sum_by_push}
use Rattle.sem_key.specs.KeyName.{KeyName, key_eq}
use Rattle.sem_key.specs.Capability.{Capability}
use Rattle.sem_key.specs.CapList.{with_mark}
use Rattle.sem_msg.specs.declared.message.Message.TheVariants.{RevokeReq}
use Rattle.sem_msg.specs.declared.state.Slot.TheVariants.{Held}
use Rattle.sem_msg.specs.declared.state.Parked.TheVariants.{RevokeWait}
use Rattle.sem_msg.specs.declared.state.Up.{Up}
use Rattle.sem_msg.specs.declared.state.Up.TheVariants.{Local}
use Rattle.sem_msg.specs.Rows.{Endpoint, JobRow, VpeRow, no_vpe}
use Rattle.sem_msg.specs.EndpointRows.{unbound_from, all_unbound_from}
use Rattle.sem_msg.specs.Message.{IsJobId}
use Rattle.sem_msg.specs.Setup.{Setup, IsSetup}
use Rattle.sem_msg.specs.Lookups.{owner_of, is_local, decl, calls_of}
use Rattle.sem_machine.specs.Sound.{IsNamed, IsSoundUp, bit, ids_paid, IsOpen, IsMarkedRoot, IsSoundCap, IsSoundBut, IsSound, ids_owed, one_if}
use Rattle.sem_machine.specs.Sides.{Side, slot, cap, parked, mark_all, unbind_all, job_opened, send, endpoint}
use Rattle.sem_key.specs.Region.{has_key, next_reached, grow, region, children_of}
use Rattle.sem_machine.specs.Revokes.{count_raised, with_up, other_marker, adopted, request_or_adopt, begin, opened}
use Rattle.sem_key.proofs.KeyTests.{key_eq-same, has_key-from_Contains, Contains-from_has_key}
use Rattle.sem_key.proofs.Members.{found, Contains-cons_cases, Contains-filter, Contains-from_filter, Contains-map, Contains-from_map}
use Rattle.sem_machine.proofs.Doomed.{region-doomed, children-doomed}
use Rattle.sem_machine.proofs.Folds.{in_turn-keeps_each}
use Rattle.sem_machine.proofs.Weighing.{weigh-map, weigh-among}
use Rattle.std.proofs.lemmas.List.Quantifiers.{all_pairs_push}
use Rattle.sem_sound.proofs.Rising.{mapped-rises}
use Rattle.sem_sound.proofs.Named.{named-owner}
use Rattle.sem_sound.proofs.Holding.{one-cap, cap-among, send-sound}
use Rattle.sem_sound.proofs.Jobbing.{raised-sound, up-sound}
use Rattle.sem_sound.proofs.Parking.{NoMore, opened-parks}
use Rattle.sem_sound.proofs.Counting.{opened-fit}
use Rattle.sem_sound.proofs.Finishing.{settled-sound}
use Rattle.sem_msg.specs.declared.state.Parked.{Parked}

-- Ids fit.

ids-most : (rows : List VpeRow) → ((v : ℕ) → (get_or rows v no_vpe).next_number + (get_or rows v no_vpe).next_call ≤ 24096) →
    sum_by (λ (r : VpeRow). r.next_number + r.next_call) rows ≤ 24096 * length rows
ids-most [] most = omega arith
ids-most (r ∷ rows) most =
    let all = sum_by-cons (λ (x : VpeRow). x.next_number + x.next_call) r rows in
    let here : r.next_number + r.next_call ≤ 24096 = most zero in
    let rest = ids-most rows (λ v. most (suc v)) in
    omega (arith, all, here, rest)

-- a VPE has no more calls than there are in all
pub few-calls : (T : Setup) → IsSetup T → (v : ℕ) → length (calls_of T v) ≤ CALLS
few-calls T valid v = from (decl T v) refl
  where
    from : (o : Option VpeDecl) → decl T v ≡ o → length (option_map_or (λ d. d.calls) o []) ≤ CALLS
    from None none = omega arith
    from (Some d) some =
        let among = (found (λ (x : VpeDecl). x.vpe == v) T.vpes d some).0 in
        let part = weigh-among (λ (x : VpeDecl). length x.calls) T.vpes d among in
        let few = valid.few_calls in
        omega (arith, part, few)

-- the next id is small
pub next-job : (T : Setup) → IsSetup T → (i : ℕ) (n p : Option (ℕ × ℕ)) (g d : Option ℕ) (s : Side) → IsSoundBut T i n p g d 0 s → s.next_job ≤ 3084288
next-job T valid i n p g d s is =
    let most = ids-most s.vpes (λ v. let number = (is.rows v).next_number in let call = (is.rows v).next_call in let few = few-calls T valid v in
    omega (arith, number, call, few)) in
    let owed = is.ids in
    let long = is.places in
    let few : 24096 * length s.vpes ≡ 3084288 = ap (λ q. 24096 * q) long in
    omega (arith, most, owed, few)

-- the region

grow-keeps : (n : ℕ) (caps : List Capability) (ks : List KeyName) (k : KeyName) → has_key ks k ≡ true → has_key (grow n caps ks) k ≡ true
unfolding grow
grow-keeps zero caps ks k has = has
grow-keeps (suc n) caps ks k has = from (next_reached caps ks) (λ q. grow-keeps n caps (q ∷ ks) k (or_right (key_eq k q) (has_key ks k) has))
  where
    from : (o : Option Capability) → ((q : KeyName) → has_key (grow n caps (q ∷ ks)) k ≡ true) →
        has_key (option_map_or (λ c. grow n caps (c.key ∷ ks)) o ks) k ≡ true
    from None rest = has
    from (Some c) rest = rest c.key

root-reached : (caps : List Capability) (c : Capability) → Contains caps c → c.mark ≡ None → has_key (region caps c.key) c.key ≡ true
root-reached caps c among unmarked =
    let reached : List KeyName = grow (length caps) caps (c.key ∷ []) in
    let t : Capability → Bool = λ x. is_none x.mark && has_key reached x.key in
    let has : has_key reached c.key ≡ true = grow-keeps (length caps) caps (c.key ∷ []) c.key (or_left (key_eq c.key c.key) false (key_eq-same c.key)) in
    let there : Contains (filter t caps) c = Contains-filter t caps c among (and_from (is_none c.mark) (has_key reached c.key) (ap is_none unmarked) has) in
    has_key-from_Contains (region caps c.key) c.key (Contains-map (λ (x : Capability). x.key) (filter t caps) c there)

-- what has a key of a region is there without a mark
region-unmarked : (caps : List Capability) (root k : KeyName) → has_key (region caps root) k ≡ true → (c : Capability) × Contains caps c × (c.key ≡ k)
    × (c.mark ≡ None)
region-unmarked caps root k has =
    let reached : List KeyName = grow (length caps) caps (root ∷ []) in
    let t : Capability → Bool = λ x. is_none x.mark && has_key reached x.key in
    let o = Contains-from_map (λ (c : Capability). c.key) (filter t caps) k (Contains-from_has_key (region caps root) k has) in
    let kept' = Contains-from_filter t caps o.0 o.1 in
    (o.0, kept'.0, o.2, none o.0.mark (and_parts (is_none o.0.mark) (has_key reached o.0.key) kept'.1).0)
  where
    none : (m : Option ℕ) → is_none m ≡ true → m ≡ None
    none None h = refl
    none (Some j) h = absurd cc

-- Marks.

module _ (ks : List KeyName) (j : ℕ) where
  abbrev marks : Capability → Capability
  marks c = if has_key ks c.key then with_mark j c else c

  marks-same : (c : Capability) → ((marks c).key ≡ c.key) × ((marks c).selector ≡ c.selector) × ((marks c).parent ≡ c.parent)
  marks-same c = cond_both (has_key ks c.key) (with_mark j c) c (λ (x : Capability). (x.key ≡ c.key) × (x.selector ≡ c.selector)
      × (x.parent ≡ c.parent)) (λ _. (refl, refl, refl)) (λ _. (refl, refl, refl))

  marks-less : (c : Capability) → bit (is_none (marks c).mark) ≤ bit (is_none c.mark)
  marks-less c = cond_both (has_key ks c.key) (with_mark j c) c (λ (x : Capability). bit (is_none x.mark) ≤ bit (is_none c.mark)) (λ _. omega arith)
      (λ _. omega arith)

  -- one unmarked capability fewer at least
  marks-fewer-all : (cs : List Capability) →
      sum_by (λ (c : Capability). bit (is_none c.mark)) (map marks cs) ≤ sum_by (λ (c : Capability). bit (is_none c.mark)) cs
  marks-fewer-all [] = omega arith
  marks-fewer-all (c ∷ cs) =
      let new = sum_by-cons (λ (x : Capability). bit (is_none x.mark)) (marks c) (map marks cs) in
      let old = sum_by-cons (λ (x : Capability). bit (is_none x.mark)) c cs in
      let here = marks-less c in
      let rest = marks-fewer-all cs in
      omega (arith, new, old, here, rest)

  marks-fewer : (cs : List Capability) (c : Capability) → Contains cs c → c.mark ≡ None → has_key ks c.key ≡ true →
      sum_by (λ (x : Capability). bit (is_none x.mark)) (map marks cs) + 1 ≤ sum_by (λ (x : Capability). bit (is_none x.mark)) cs
  marks-fewer [] c among unmarked has = absurd (let no' = among.1 in omega (arith, no'))
  marks-fewer (x ∷ xs) c among unmarked has =
      let new = sum_by-cons (λ (y : Capability). bit (is_none y.mark)) (marks x) (map marks xs) in
      let old = sum_by-cons (λ (y : Capability). bit (is_none y.mark)) x xs in
      elim (Contains-cons_cases x xs c among) [
        | inl same ↦
            let gone : bit (is_none (marks x).mark) ≡ 0 = ap (λ (y : Capability). bit (is_none (marks y).mark)) same
            ∙ ap (λ (y : Capability). bit (is_none y.mark)) (cond-true (has_key ks c.key) (with_mark j c) c has) in
            let was : bit (is_none x.mark) ≡ 1 = ap (λ (y : Capability). bit (is_none y.mark)) same ∙ ap (λ m. bit (is_none m)) unmarked in
            let rest = marks-fewer-all xs in
            omega (arith, new, old, gone, was, rest)
        | inr later ↦
            let here = marks-less x in
            let rest = marks-fewer xs c later unmarked has in
            omega (arith, new, old, here, rest)
      ]

read-map : {X : Type 0} (d : X) (f : X → X) (xs : List X) (k : ℕ) → f d ≡ d → get_or (map f xs) k d ≡ f (get_or xs k d)
read-map d f [] k same = sym same
read-map d f (x ∷ xs) zero same = refl
read-map d f (x ∷ xs) (suc k) same = read-map d f xs k same

-- an endpoint that is still bound was bound
module _ (s : Side) (ks : List KeyName) where
  still-bound : (o : Option Endpoint) (e : Endpoint) → unbound_from ks o ≡ Some e → o ≡ Some e
  still-bound None e none = absurd cc
  still-bound (Some x) e at = cond_both (list_any (key_eq x.key) ks) None (Some x) (λ o. o ≡ Some e → Some x ≡ Some e) (λ _ none. absurd cc) (λ _ same. same) at

  before-freed : (j v ep : ℕ) (e : Endpoint) → endpoint (unbind_all ks s) v ep ≡ Some e → endpoint s v ep ≡ Some e
  before-freed j v ep e at =
      let here : get_or (map {A = Option Endpoint} (unbound_from ks) (get_or s.endpoints v [])) ep None ≡ Some e =
      sym (ap (λ xs. get_or xs ep None) (read-map [] (all_unbound_from ks) s.endpoints v refl)) ∙ at in
      still-bound (endpoint s v ep) e (sym (read-map None (unbound_from ks) (get_or s.endpoints v []) ep refl) ∙ here)

module _ (T : Setup) (valid : IsSetup T) (i : ℕ) (few : i < T.kernels) where
  -- A job is opened, and its region is marked.
  module _ (s : Side) (is : IsSound T i s) (root : KeyName) (up : Option Up) (ws : List ℕ) (keep : Bool) (r : Capability) (held' : cap s root ≡ Some r)
      (unmarked : r.mark ≡ None) (sound_up : IsSoundUp T i up) (rise : AllPairs (λ v w. v < w) ws) (wait : (w : ℕ) → Contains ws w →
      parked s w ≡ Some (RevokeWait s.next_job)) (slack : ids_owed s + bit keep ≤ ids_paid s) where
    abbrev j : ℕ
    j = s.next_job

    abbrev ks : List KeyName
    ks = region s.caps root

    abbrev x0 : JobRow
    x0 = record { id = s.next_job; root = root; up = up; waiters = ws; count = 0; keep = keep }

    abbrev f : Capability → Capability
    f = marks ks j

    abbrev pub marked_side : Side
    marked_side = unbind_all ks (mark_all ks j (job_opened root up ws keep s))

    r-among : Contains s.caps r × (r.key ≡ root)
    r-among = cap-among T valid i few None None None None s is root r held'

    has-root : has_key ks r.key ≡ true
    has-root = subst (λ k. has_key (region s.caps k) r.key ≡ true) r-among.1 (root-reached s.caps r r-among.0 unmarked)

    marked-sound : IsSoundBut T i None None None (Some j) 0 marked_side
    marked-sound = record {
      caps = λ c among. let o = Contains-from_map f s.caps c among in
          subst (IsSoundCap T i) o.2 (cond_both (has_key ks o.0.key) (with_mark j o.0) o.0 (IsSoundCap T i) (λ _. let b = is.caps o.0 o.1 in
          record {
            own = b.own;
            kind = b.kind;
            object = b.object;
            selector = b.selector;
            parent = b.parent;
            children = b.children;
            children_rise = b.children_rise;
          }) (λ _. is.caps o.0 o.1));
      caps_rise = mapped-rises f (λ c. (marks-same ks j c).0) s.caps is.caps_rise;
      rows = is.rows;
      calls = is.calls;
      pendings = is.pendings;
      ups = λ x among. elim (Contains-push_cases s.jobs x0 x among) [
        | inl before ↦ is.ups x before
        | inr same ↦ subst (λ (y : JobRow). IsSoundUp T i y.up) same sound_up
      ];
      waiters_rise = λ x among. elim (Contains-push_cases s.jobs x0 x among) [
        | inl before ↦ is.waiters_rise x before
        | inr same ↦ subst (λ (y : JobRow). AllPairs (λ v w. v < w) y.waiters) same rise
      ];
      ids_drawn = λ x among. elim (Contains-push_cases s.jobs x0 x among) [
        | inl before ↦ (let below = is.ids_drawn x before in omega (arith, below))
        | inr same ↦ (let id : s.next_job ≡ x.id = ap (λ (y : JobRow). y.id) same in omega (arith, id))
      ];
      jobs_rise = all_pairs_push (λ (a b : JobRow). a.id < b.id) s.jobs x0 is.jobs_rise
          (λ k e within. is.ids_drawn (get_or s.jobs k e) (Contains-get_or s.jobs k e within));
      outs = is.outs;
      inbox = is.inbox;
      places = is.places;
      park_places = is.park_places;
      boxes = is.boxes;
      endpoints = λ v ep e at. is.endpoints v ep e (before-freed s ks j v ep e at);
      endpoint_places = length-map s.endpoints (all_unbound_from ks) ∙ is.endpoint_places;
      numbers = λ v m.
          let all = weigh-map (λ (c : Capability). bit ((c.key.vpe == v) && (c.key.number == m))) f
          (λ c. ap (λ (k : KeyName). bit ((k.vpe == v) && (k.number == m))) (marks-same ks j c).0) s.caps in
          let before = is.numbers v m in
          omega (arith, all, before);
      promises = λ v sel.
          let before = is.promises v sel in
          omega (arith, before);
      no_other_promise = λ v sel lives.
          let before = is.no_other_promise v sel lives in
          omega (arith, before);
      at_selector = λ c among.
          let o = Contains-from_map f s.caps c among in
          slot-is c.key.vpe c.selector
          ∙ subst (λ (x : Capability). slot s x.key.vpe x.selector ≡ Held x.key) o.2
          (cond_both (has_key ks o.0.key) (with_mark j o.0) o.0 (λ (x : Capability). slot s x.key.vpe x.selector ≡ Held x.key) (λ _. is.at_selector o.0 o.1)
          (λ _. is.at_selector o.0 o.1));
      held = λ v sel k at.
          let was = is.held v sel k (sym (slot-is v sel) ∙ at) in
          (was.0, (f was.1.0, Contains-map f s.caps was.1.0 was.1.1, (marks-same ks j was.1.0).0 ∙ was.1.2, (marks-same ks j was.1.0).1 ∙ was.1.3));
      marker = λ c m among marked. let o = Contains-from_map f s.caps c among in
          (opened m o.0 o.1 (ap (λ (x : Capability). x.mark) o.2 ∙ marked), λ none. absurd cc);
      roots = λ x among still. elim (Contains-push_cases s.jobs x0 x among) [
        | inl before ↦ let c = is.roots x before (λ none. absurd cc) in
            (f c.0, Contains-map f s.caps c.0 c.1, (marks-same ks j c.0).0 ∙ c.2, ap (λ (y : Capability). y.mark) (spared c.0 c.1 x.id c.3) ∙ c.3)
        | inr same ↦ subst (λ (y : JobRow). IsMarkedRoot (map f s.caps) y.root y.id) same (
          f r,
          Contains-map f s.caps r r-among.0,
          (marks-same ks j r).0
              ∙ r-among.1,
          ap (λ (y : Capability). y.mark) (cond-true (has_key ks r.key) (with_mark j r) r has-root),
        )
      ];
      waiters = λ x v among still in_waiters. parked-is v ∙ (elim (Contains-push_cases s.jobs x0 x among) [
        | inl before ↦ is.waiters x v before (λ none. absurd cc) in_waiters
        | inr same ↦ subst (λ (y : JobRow). Contains y.waiters v → parked s v ≡ Some (RevokeWait y.id)) same (wait v) in_waiters
      ]);
      counted = λ x among still. elim (Contains-push_cases s.jobs x0 x among) [
        | inl before ↦ elim (is.counted x before (λ none. absurd cc)) [ inl more ↦ inl more | inr none ↦ absurd cc ]
        | inr same ↦ inr (ap (λ (y : JobRow). Some y.id) same)
      ];
      ids =
          let fewer = marks-fewer ks j s.caps r r-among.0 unmarked has-root in
          let more = sum_by_push (λ (x : JobRow). bit x.keep) s.jobs x0 in
          omega (arith, fewer, more, slack);
    }
      where
        slot-is : (v sel : ℕ) → slot marked_side v sel ≡ slot s v sel
        slot-is v sel = refl

        parked-is : (v : ℕ) → parked marked_side v ≡ parked s v
        parked-is v = refl

        -- what another job has marked is not in the region
        spared : (c : Capability) → Contains s.caps c → (m : ℕ) → c.mark ≡ Some m → f c ≡ c
        spared c among m marked = elim (cases_Bool (has_key ks c.key)) [
          | inl has ↦
              let d = region-unmarked s.caps root c.key has in
              let same = one-cap T valid i few None None None None s is d.0 c d.1 among d.2 in
              let none : None ≡ Some m = sym d.3 ∙ (ap (λ (x : Capability). x.mark) same ∙ marked) in
              absurd cc
          | inr other ↦ cond-false (has_key ks c.key) (with_mark j c) c other
        ]

        opened : (m : ℕ) (c : Capability) → Contains s.caps c → (f c).mark ≡ Some m → IsOpen (s.jobs ++ x0 ∷ []) m
        opened m c among marked = elim (cases_Bool (has_key ks c.key)) [
          | inl has ↦ (
            x0,
            Contains-push s.jobs x0,
            same_Some j m (sym (ap (λ (y : Capability). y.mark) (cond-true (has_key ks c.key) (with_mark j c) c has))
                ∙ marked),
          )
          | inr other ↦ let was = is.marker c m among (sym (ap (λ (y : Capability). y.mark) (cond-false (has_key ks c.key) (with_mark j c) c other))
              ∙ marked) in (was.0.0, Contains-append_left s.jobs (x0 ∷ []) was.0.0 was.0.1, was.0.2)
        ]

    -- Children are asked for, or waited for.
    requested-sound : (k : KeyName) → IsNamed T k → (t : Side) → IsSoundBut T i None None None (Some j) 0 t →
        IsSoundBut T i None None None (Some j) 0 (request_or_adopt T i j k t)
    requested-sound k named t here =
        cond_both (is_local T i k) (adopted j (other_marker j (cap t k)) t) (count_raised j (send (owner_of T k) (RevokeReq k j) t))
        (IsSoundBut T i None None None (Some j) 0)
        (λ _. adopts (other_marker j (cap t k)))
        (λ remote. let to = named-owner T valid i k named.1 remote in
        raised-sound T i None None None (Some j) (send (owner_of T k) (RevokeReq k j) t)
        (send-sound T valid i few None None None (Some j) t here (owner_of T k) (RevokeReq k j) ((named.0, id-fits), to.0, to.1)) j)
      where
        id-fits : IsJobId j
        id-fits = let small = next-job T valid i None None None None s is in omega (arith, small)

        adopts : (o : Option ℕ) → IsSoundBut T i None None None (Some j) 0 (adopted j o t)
        adopts None = here
        adopts (Some m) = raised-sound T i None None None (Some j) (with_up (Local j) m t) (up-sound T i None None None (Some j) t here (Local j) m id-fits) j

    pub opened-sound : IsSoundBut T i None None None (Some j) 0 (opened T i root up ws keep s)
    unfolding opened
    opened-sound =
        let links : (c : Capability) → Contains s.caps c → (k : KeyName) → Contains c.children k →
        IsNamed T k = λ c among k child. (is.caps c among).children k child in
        let root-named : IsNamed T root = subst (IsNamed T) r-among.1 (is.caps r r-among.0).own.0 in
        let region-named = region-doomed (λ q k. IsNamed T k) (IsNamed T) (λ q k g m. g) s.caps links root root-named in
        let named = children-doomed (λ q k. IsNamed T k) (IsNamed T) (λ q k g m. g) s.caps links ks region-named in
        in_turn-keeps_each (IsSoundBut T i None None None (Some j) 0) (request_or_adopt T i j) (children_of s.caps ks)
        (λ k among t here. requested-sound k (named k among) t here) marked_side marked-sound

    pub begin-sound : IsSound T i (begin T i root up ws keep s) × NoMore s (begin T i root up ws keep s)
    begin-sound =
        let o : Side = opened T i root up ws keep s in
        let ends = settled-sound T valid i few j o opened-sound in
        let same = opened-parks T i root up ws keep s in (
          ends.0,
          (
            (λ w. let now = ends.1.0 w in let before = ap (λ (ps : List (Option Parked)). one_if (get_or ps w None)) same in omega (arith, now, before)),
            (λ fit. ends.1.1 (opened-fit T valid i few s is root up ws keep r held' fit)),
          ),
        )
