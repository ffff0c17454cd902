-- What a job has marked is swept: removed, and its selectors are free.
use Rattle.sem_msg.specs.declared.state.Up.{Up}
use Rattle.sem_machine.proofs.Weighing.{change-once}
use Rattle.sem_key.proofs.KeyTests.{key_eq-true}
use Rattle.sem_key.specs.declared.limits.TheConstants.{VPES}
use Rattle.std.proofs.Common.{◌≡◌, ◌≢◌, ℕ, ◌+◌, ◌<◌, ◌≤◌, ◌⊎◌, Bool, true, false, not, ◌&&◌, List, [], ◌∷◌, length, get_or, Option, Some, None, is_none, refl}
use Rattle.std.proofs.Common.{sym, ap, subst, ◌∙◌, inl, inr, arith, map}
use Rattle.std.specs.Prelude.{◌==◌, nat_lt, if◌then◌else◌}
use Rattle.std.specs.List.{Contains, sum_by, AllPairs}
use Rattle.std.specs.Option.{option_map_or}
use Rattle.std.proofs.lemmas.Bool.{cases_eq, eq-eqb, eqb-true, not-true, not_from_false, false_from_ne_true, cond_both, cond-false}
use Rattle.std.proofs.lemmas.Option.{same_Some}
use Rattle.sem_key.specs.KeyName.{KeyName, key_eq, packed}
use Rattle.sem_key.specs.Lists.{put, in_turn}
use Rattle.sem_key.specs.Capability.{Capability}
use Rattle.sem_key.specs.CapList.{is_marked_by, marked_by, not_marked_by, restored}
use Rattle.sem_msg.specs.declared.state.Slot.{Slot}
use Rattle.sem_msg.specs.declared.state.Slot.TheVariants.{Free, Held}
use Rattle.sem_msg.specs.Rows.{VpeRow, no_vpe}
use Rattle.sem_msg.specs.VpeRows
use Rattle.sem_msg.specs.Setup.{Setup, IsSetup}
use Rattle.sem_msg.specs.Lookups.{kernel_of}
use Rattle.sem_machine.specs.Sides.{Side, row, slot}
use Rattle.sem_machine.specs.Revokes.{swept, all_freed}
use Rattle.sem_key.proofs.Puts.{get_or-put_same, get_or-put_other}
use Rattle.sem_key.proofs.Members.{Contains-nil, Contains-head, Contains-tail, Contains-cons_cases, Contains-filter, Contains-from_filter, AllPairs-from_map}
use Rattle.sem_key.proofs.Members.{Contains-map, Contains-from_map}
use Rattle.sem_machine.proofs.Weighing.{weigh-put, weigh-filter, weigh-map}
use Rattle.sem_machine.specs.Sound.{bit, one_if, is_promised, IsSoundCap, IsSoundRow, IsSoundBut, IsMarkedRoot, ids_owed, ids_paid}
use Rattle.sem_sound.proofs.Counts.{length-put}
use Rattle.sem_sound.proofs.Rising.{filtered-rises, mapped-rises}
use Rattle.sem_sound.proofs.Changing.{local-place}
use Rattle.sem_sound.proofs.Holding.{own-local, one-cap}

-- the rows once the selectors of these capabilities are free
unfoldable freed_rows : List Capability → List VpeRow → List VpeRow
freed_rows [] rows = rows
freed_rows (c ∷ cs) rows = freed_rows cs (VpeRows.freed c.key.vpe c.selector rows)

freed-rows : (cs : List Capability) (rows : List VpeRow) → all_freed cs rows ≡ freed_rows cs rows
unfolding in_turn freed_rows
freed-rows [] rows = refl
freed-rows (c ∷ cs) rows = freed-rows cs (VpeRows.freed c.key.vpe c.selector rows)

-- a capability of the list stands at that selector
abbrev HasCapAt : List Capability → ℕ → ℕ → Type 0
HasCapAt cs v sel = (c : Capability) × Contains cs c × (c.key.vpe ≡ v) × (c.selector ≡ sel)

-- what is kept of a VPE then: what was, but that those selectors are free
record Freed (cs : List Capability) (v : ℕ) (r r' : VpeRow) : Type 0 where
  same : r' ≡ record r { slots = r'.slots }
  slots : (sel : ℕ) → (HasCapAt cs v sel × (get_or r'.slots sel Free ≡ Free)) ⊎ ((HasCapAt cs v sel → ⊥) × (get_or r'.slots sel Free ≡ get_or r.slots sel Free))
  untouched : ((c : Capability) → Contains cs c → c.key.vpe ≡ v → ⊥) → r' ≡ r

freed-row : (cs : List Capability) (rows : List VpeRow) (v : ℕ) → Freed cs v (get_or rows v no_vpe) (get_or (freed_rows cs rows) v no_vpe)
unfolding freed_rows
freed-row [] rows v = record {
  same = refl;
  slots = λ sel. inr ((λ stands. Contains-nil stands.0 stands.1), refl);
  untouched = λ none. refl;
}
freed-row (c ∷ cs) rows v = from (freed-row cs next v)
  where
    next : List VpeRow
    next = VpeRows.freed c.key.vpe c.selector rows

    first : VpeRow
    first = record (get_or rows c.key.vpe no_vpe) { slots = put Free (get_or rows c.key.vpe no_vpe).slots c.selector Free }

    at-same : c.key.vpe ≡ v → get_or next v no_vpe ≡ record (get_or rows v no_vpe) { slots = put Free (get_or rows v no_vpe).slots c.selector Free }
    at-same here = subst (λ w. get_or next w no_vpe ≡ record (get_or rows w no_vpe) { slots = put Free (get_or rows w no_vpe).slots c.selector Free }) here
        (get_or-put_same no_vpe rows c.key.vpe first)

    at-other : (c.key.vpe ≡ v → ⊥) → get_or next v no_vpe ≡ get_or rows v no_vpe
    at-other other = get_or-put_other no_vpe rows c.key.vpe v first (λ same. other (sym same))

    from : Freed cs v (get_or next v no_vpe) (get_or (freed_rows cs next) v no_vpe) →
        Freed (c ∷ cs) v (get_or rows v no_vpe) (get_or (freed_rows cs next) v no_vpe)
    from rest = record {
      same = elim (cases_eq c.key.vpe v) [
        | inl here ↦ rest.same ∙ ap (λ (x : VpeRow). record x { slots = (get_or (freed_rows cs next) v no_vpe).slots }) (at-same here)
        | inr other ↦ rest.same ∙ ap (λ (x : VpeRow). record x { slots = (get_or (freed_rows cs next) v no_vpe).slots }) (at-other other)
      ];
      slots = λ sel. elim (rest.slots sel) [
        | inl stands ↦ inl ((stands.0.0, Contains-tail c cs stands.0.0 stands.0.1, stands.0.2, stands.0.3), stands.1)
        | inr none ↦ elim (cases_eq c.key.vpe v) [
          | inl here ↦ elim (cases_eq c.selector sel) [
            | inl same ↦ inl (
              (c, Contains-head c cs, here, same),
              none.1
                  ∙ (ap (λ (x : VpeRow). get_or x.slots sel Free) (at-same here)
                  ∙ subst (λ q. get_or (put Free (get_or rows v no_vpe).slots c.selector Free) q Free ≡ Free) same
                  (get_or-put_same Free (get_or rows v no_vpe).slots c.selector Free)),
            )
            | inr differs ↦ inr (
              (λ stands. elim (Contains-cons_cases c cs stands.0 stands.1) [
                | inl first' ↦ differs (ap (λ (x : Capability). x.selector) first' ∙ stands.3)
                | inr later ↦ none.0 (stands.0, later, stands.2, stands.3)
              ]),
              none.1
                  ∙ (ap (λ (x : VpeRow). get_or x.slots sel Free) (at-same here)
                  ∙ get_or-put_other Free (get_or rows v no_vpe).slots c.selector sel Free (λ e. differs (sym e))),
            )
          ]
          | inr other ↦ inr (
            (λ stands. elim (Contains-cons_cases c cs stands.0 stands.1) [
              | inl first' ↦ other (ap (λ (x : Capability). x.key.vpe) first' ∙ stands.2)
              | inr later ↦ none.0 (stands.0, later, stands.2, stands.3)
            ]),
            none.1 ∙ ap (λ (x : VpeRow). get_or x.slots sel Free) (at-other other),
          )
        ]
      ];
      untouched = λ none. rest.untouched (λ d among. none d (Contains-tail c cs d among)) ∙ at-other (none c (Contains-head c cs));
    }

freed-sum : (w : VpeRow → ℕ) → w no_vpe ≡ 0 → ((r : VpeRow) (xs : List Slot) → w (record r { slots = xs }) ≡ w r) →
    (cs : List Capability) (rows : List VpeRow) → sum_by w (freed_rows cs rows) ≡ sum_by w rows
unfolding freed_rows
freed-sum w none same [] rows = refl
freed-sum w none same (c ∷ cs) rows =
    let r : VpeRow = get_or rows c.key.vpe no_vpe in
    let rest = freed-sum w none same cs (VpeRows.freed c.key.vpe c.selector rows) in
    let here = weigh-put w no_vpe none rows c.key.vpe (record r { slots = put Free r.slots c.selector Free }) in
    let equal = same r (put Free r.slots c.selector Free) in
    omega (arith, rest, here, equal)

freed-length : (cs : List Capability) (rows : List VpeRow) → length rows ≡ VPES → ((c : Capability) → Contains cs c → c.key.vpe < VPES) →
    length (freed_rows cs rows) ≡ VPES
unfolding freed_rows
freed-length [] rows long below = long
freed-length (c ∷ cs) rows long below =
    freed-length cs (VpeRows.freed c.key.vpe c.selector rows)
    (length-put no_vpe rows VPES c.key.vpe (record (get_or rows c.key.vpe no_vpe) { slots = put Free (get_or rows c.key.vpe no_vpe).slots c.selector Free })
    long (below c (Contains-head c cs))) (λ d among. below d (Contains-tail c cs d among))

-- a mark is that of the job exactly if the job has marked it
marked-is : (j : ℕ) (m : Option ℕ) → option_map_or (λ q. q == j) m false ≡ true → m ≡ Some j
marked-is j None none = absurd cc
marked-is j (Some q) same = ap Some (eqb-true q j same)

is-marked : (j : ℕ) (m : Option ℕ) → m ≡ Some j → option_map_or (λ q. q == j) m false ≡ true
is-marked j m at = ap (λ o. option_map_or (λ q. q == j) o false) at ∙ eq-eqb j j refl

-- What is swept, where the capabilities were changed before: each with its key and selector, with no mark but one that it had, and as it was where another job
-- has marked it.
module _ (T : Setup) (valid : IsSetup T) (i : ℕ) (few : i < T.kernels) (s : Side) (j : ℕ) (is : IsSoundBut T i None None None (Some j) 0 s) (f : Capability →
    Capability)
    (same : (c : Capability) → ((f c).key ≡ c.key) × ((f c).selector ≡ c.selector)) (sound : (c : Capability) → Contains s.caps c → IsSoundCap T i (f c))
    (marks : (c : Capability) (m : ℕ) → (f c).mark ≡ Some m → c.mark ≡ Some m) (others : (c : Capability) → Contains s.caps c → (m : ℕ) → c.mark ≡ Some m →
    (m ≡ j → ⊥) → f c ≡ c)
    (pays : sum_by (λ (c : Capability). bit (is_none c.mark)) (map f s.caps) + (ids_owed s + one_if {X = ℕ} None)
    ≤ sum_by (λ (c : Capability). bit (is_none c.mark)) s.caps + ids_paid s) where
  abbrev u : Side
  u = record s { caps = map f s.caps }

  abbrev ms : List Capability
  ms = marked_by j u.caps

  abbrev after : Side
  after = record u { vpes = freed_rows ms s.vpes; caps = not_marked_by j u.caps }

  after-row : (v : ℕ) → Freed ms v (row s v) (row after v)
  after-row v = freed-row ms s.vpes v

  ms-from : (c : Capability) → Contains ms c → (o : Capability) × Contains s.caps o × (f o ≡ c) × (c.mark ≡ Some j)
  ms-from c among =
      let k = Contains-from_filter (is_marked_by j) u.caps c among in
      let o = Contains-from_map f s.caps c k.0 in
      (o.0, o.1, o.2, marked-is j c.mark k.1)

  left-from : (c : Capability) → Contains (not_marked_by j u.caps) c → (o : Capability) × Contains s.caps o × (f o ≡ c) × (c.mark ≢ Some j)
  left-from c among =
      let k = Contains-from_filter (λ (x : Capability). not (is_marked_by j x)) u.caps c among in
      let o = Contains-from_map f s.caps c k.0 in
      (o.0, o.1, o.2, λ marked. clash (not-true (is_marked_by j c) k.1) (is-marked j c.mark marked))
    where
      clash : {b : Bool} → b ≡ false → b ≡ true → ⊥
      clash no' yes' = cc

  left-has : (c : Capability) → Contains u.caps c → c.mark ≢ Some j → Contains (not_marked_by j u.caps) c
  left-has c among other = Contains-filter (λ (x : Capability). not (is_marked_by j x)) u.caps c among
      (not_from_false (is_marked_by j c) (false_from_ne_true (is_marked_by j c) (λ pass. other (marked-is j c.mark pass))))

  -- a changed capability has the key of the one that it was, is sound, and stands where that stood
  key-of : (o c : Capability) → f o ≡ c → c.key ≡ o.key
  key-of o c equal = ap (λ (x : Capability). x.key) (sym equal) ∙ (same o).0

  sound-of : (o c : Capability) → Contains s.caps o → f o ≡ c → IsSoundCap T i c
  sound-of o c among equal = subst (IsSoundCap T i) equal (sound o among)

  stands : (o c : Capability) → Contains s.caps o → f o ≡ c → slot s c.key.vpe c.selector ≡ Held c.key
  stands o c among equal =
      let key = key-of o c equal in
      let sel : c.selector ≡ o.selector = ap (λ (x : Capability). x.selector) (sym equal) ∙ (same o).1 in
      ap (λ (k : KeyName). slot s k.vpe c.selector) key ∙ (ap (λ q. slot s o.key.vpe q) sel ∙ (is.at_selector o among ∙ ap (λ (k : KeyName). Held k) (sym key)))

  ms-local : (c : Capability) → Contains ms c → kernel_of T c.key.vpe ≡ i
  ms-local c among = let o = ms-from c among in own-local T valid i few c (sound-of o.0 c o.1 o.2)

  row-next : (v : ℕ) → (row after v).next_number ≡ (row s v).next_number
  row-next v = ap (λ (r : VpeRow). r.next_number) (after-row v).same

  -- where one that is marked stands, nothing is promised
  stands-held : (v sel : ℕ) → HasCapAt ms v sel → (c : Capability) × Contains ms c × (slot s v sel ≡ Held c.key)
  stands-held v sel (c, among, vpe, at) =
      let o = ms-from c among in
      (c, among, ap (λ w. slot s w sel) (sym vpe) ∙ (ap (λ q. slot s c.key.vpe q) (sym at) ∙ stands o.0 c o.1 o.2))

  promised-same : (v sel : ℕ) → is_promised (slot after v sel) ≡ is_promised (slot s v sel)
  promised-same v sel = elim ((after-row v).slots sel) [
    | inl there ↦ let held = stands-held v sel there.0 in ap is_promised there.1 ∙ ap is_promised (sym held.2)
    | inr none ↦ ap is_promised none.1
  ]

  after-sound : IsSoundBut T i None None (Some j) None 0 after
  after-sound = record {
    caps = λ c among. let o = left-from c among in sound-of o.0 c o.1 o.2;
    caps_rise = filtered-rises (λ (x : Capability). not (is_marked_by j x)) u.caps (mapped-rises f (λ c. (same c).0) s.caps is.caps_rise);
    rows = λ v. row-sound v;
    calls = is.calls;
    endpoints = is.endpoints;
    endpoint_places = is.endpoint_places;
    park_places = is.park_places;
    boxes = is.boxes;
    pendings = is.pendings;
    ups = is.ups;
    waiters_rise = is.waiters_rise;
    ids_drawn = is.ids_drawn;
    jobs_rise = is.jobs_rise;
    outs = is.outs;
    inbox = is.inbox;
    places = freed-length ms s.vpes is.places (λ c among. local-place T valid i few c.key.vpe (ms-local c among));
    numbers = λ v m.
        let before = is.numbers v m in
        let all = weigh-map (λ (c : Capability). bit ((c.key.vpe == v) && (c.key.number == m))) f
        (λ c. ap (λ (k : KeyName). bit ((k.vpe == v) && (k.number == m))) (same c).0) s.caps in
        let fewer = weigh-filter (λ (c : Capability). bit ((c.key.vpe == v) && (c.key.number == m))) (λ (x : Capability). not (is_marked_by j x)) u.caps in
        let next = ap (λ n. bit (nat_lt m n)) (row-next v) in
        omega (arith, before, all, fewer, next);
    promises = λ v sel. let before = is.promises v sel in let equal = promised-same v sel in omega (arith, before, equal);
    no_other_promise = λ v sel lives.
        let before = is.no_other_promise v sel (sym (ap (λ (r : VpeRow). r.alive) (after-row v).same) ∙ lives) in
        let equal = promised-same v sel in
        omega (arith, before, equal);
    at_selector = λ c among.
        let was = left-from c among in
        let at = stands was.0 c was.1 was.2 in
        elim ((after-row c.key.vpe).slots c.selector) [
          | inl there ↦
              let other = stands-held c.key.vpe c.selector there.0 in
              let o = ms-from other.0 other.1 in
              let key : other.0.key ≡ c.key = held-same other.0.key c.key (sym other.2 ∙ at) in
              let one = one-cap T valid i few None None None (Some j) s is o.0 was.0 o.1 was.1 (sym (key-of o.0 other.0 o.2) ∙ (key ∙ key-of was.0 c was.2)) in
              let equal : other.0 ≡ c = sym o.2 ∙ (ap f one ∙ was.2) in
              absurd (was.3 (ap (λ (x : Capability). x.mark) (sym equal) ∙ o.3))
          | inr none ↦ none.1 ∙ at
        ];
    held = λ v sel k at. elim ((after-row v).slots sel) [
      | inl there ↦ absurd (clash k (sym there.1 ∙ at))
      | inr none ↦
          let was = is.held v sel k (sym none.1 ∙ at) in
          let o : Capability = was.1.0 in
          let among : Contains u.caps (f o) = Contains-map f s.caps o was.1.1 in
          let key : (f o).key ≡ k = (same o).0 ∙ was.1.2 in
          let at_sel : (f o).selector ≡ sel = (same o).1 ∙ was.1.3 in (
            was.0,
            (
              f o,
              left-has (f o) among (λ marked. none.0 (
                f o,
                Contains-filter (is_marked_by j) u.caps (f o) among (is-marked j (f o).mark marked),
                ap (λ (x : KeyName). x.vpe) key ∙ was.0,
                at_sel,
              )),
              key,
              at_sel,
            ),
          )
    ];
    marker = λ c m among marked. let was = left-from c among in
        ((is.marker was.0 m was.1 (marks was.0 m (ap (λ (x : Capability). x.mark) was.2 ∙ marked))).0, λ equal. was.3 (marked ∙ sym equal));
    roots = λ x among still.
        let c = is.roots x among (λ none. absurd cc) in
        let stays : f c.0 ≡ c.0 = others c.0 c.1 x.id c.3 (λ equal. still (ap Some (sym equal))) in
        (c.0, left-has c.0 (subst (Contains u.caps) stays (Contains-map f s.caps c.0 c.1)) (λ equal. still (sym equal ∙ c.3)), c.2, c.3);
    waiters = λ x v among still in_waiters. is.waiters x v among (λ none. absurd cc) in_waiters;
    counted = λ x among still. elim (is.counted x among (λ none. absurd cc)) [ inl more ↦ inl more | inr equal ↦ absurd (still equal) ];
    ids =
        let paid = freed-sum (λ (r : VpeRow). r.next_number + r.next_call) refl (λ r xs. refl) ms s.vpes in
        let fewer = weigh-filter (λ (c : Capability). bit (is_none c.mark)) (λ (x : Capability). not (is_marked_by j x)) u.caps in
        omega (arith, pays, paid, fewer);
  }
    where
      clash : (k : KeyName) → Free ≡ Held k → ⊥
      clash k none = cc

      held-same : (a b : KeyName) → Held a ≡ Held b → a ≡ b
      held-same a b equal = cc

      row-sound : (v : ℕ) → IsSoundRow T i v (row after v)
      row-sound v =
          let r = is.rows v in
          let g = after-row v in
          record {
            others = λ remote. g.untouched (λ c among vpe. remote (ap (kernel_of T) (sym vpe) ∙ ms-local c among)) ∙ r.others remote;
            next_number = let equal = row-next v in let most = r.next_number in omega (arith, equal, most);
            next_call = let equal = ap (λ (x : VpeRow). x.next_call) g.same in let most = r.next_call in omega (arith, equal, most);
            asks = λ a among. r.asks a (subst (λ xs. Contains xs a) (ap (λ (x : VpeRow). x.asks) g.same) among);
            few_asks = let equal = ap (λ (x : VpeRow). length x.asks) g.same in let most = r.few_asks in omega (arith, equal, most);
          }

  pub swept_mapped-sound : IsSoundBut T i None None (Some j) None 0 (record u { vpes = all_freed ms s.vpes; caps = not_marked_by j u.caps })
  swept_mapped-sound = subst (λ rows. IsSoundBut T i None None (Some j) None 0 (record u { vpes = rows; caps = not_marked_by j u.caps }))
      (sym (freed-rows ms s.vpes)) after-sound

map-same : (cs : List Capability) → map (λ c. c) cs ≡ cs
map-same [] = refl
map-same (c ∷ cs) = ap (λ ds. c ∷ ds) (map-same cs)

-- The sweep of a job: its root is spared first, if it keeps it.
module _ (T : Setup) (valid : IsSetup T) (i : ℕ) (few : i < T.kernels) (s : Side) (id : ℕ) (is : IsSoundBut T i None None None (Some id) 0 s) (root : KeyName)
    (marked : IsMarkedRoot s.caps root id) where
  abbrev sweep : List Capability → Side
  sweep cs = record s { vpes = all_freed (marked_by id cs) s.vpes; caps = not_marked_by id cs }

  abbrev Swept : List Capability → Type 0
  Swept cs = IsSoundBut T i None None (Some id) None 0 (sweep cs)

  plain-swept : Swept s.caps
  plain-swept = subst Swept (map-same s.caps) (swept_mapped-sound T valid i few s id is (λ c. c) (λ c. (refl, refl)) (λ c among. is.caps c among) (λ c m at. at)
      (λ c among m at other. refl) (let all = ap (λ cs. sum_by (λ (c : Capability). bit (is_none c.mark)) cs) (map-same s.caps) in let before = is.ids in
      omega (arith, all, before)))

  abbrev spare : Capability → Capability
  spare c = if key_eq c.key root then record c { children = []; mark = None } else c

  spared-swept : ids_owed s + 1 ≤ ids_paid s → Swept (restored s.caps root)
  spared-swept slack = swept_mapped-sound T valid i few s id is spare
      (λ c. cond_both (key_eq c.key root) (record c { children = []; mark = None }) c (λ (x : Capability). (x.key ≡ c.key)
      × (x.selector ≡ c.selector)) (λ _. (refl, refl)) (λ _. (refl, refl)))
      (λ c among. cond_both (key_eq c.key root) (record c { children = []; mark = None }) c (IsSoundCap T i) (λ _. bare c (is.caps c among))
      (λ _. is.caps c among))
      (λ c m. cond_both (key_eq c.key root) (record c { children = []; mark = None }) c (λ (x : Capability). x.mark ≡ Some m →
      c.mark ≡ Some m) (λ _ none. absurd cc) (λ _ at. at))
      (λ c among m at other. cond-false (key_eq c.key root) (record c { children = []; mark = None }) c (false_from_ne_true (key_eq c.key root) (λ test.
      let one = one-cap T valid i few None None None (Some id) s is c marked.0 among marked.1 (key_eq-true c.key root test ∙ sym marked.2) in
      let equal : Some m ≡ Some id = sym at ∙ (ap (λ (x : Capability). x.mark) one ∙ marked.3) in
      other (same_Some m id equal))))
      (let more = change-once (λ (c : Capability). bit (is_none c.mark)) (λ c. key_eq c.key root) (λ c. record c { children = []; mark = None }) 1 s.caps apart
      (λ c test. omega arith) in omega (arith, more, slack))
    where
      bare : (c : Capability) → IsSoundCap T i c → IsSoundCap T i (record c { children = []; mark = None })
      bare c b = record {
        own = b.own;
        kind = b.kind;
        object = b.object;
        selector = b.selector;
        parent = b.parent;
        children = λ k none. absurd (Contains-nil k none);
        children_rise = λ m n e lt within. absurd (omega (arith, lt, within));
      }

      apart : AllPairs (λ (a b : Capability). key_eq a.key root ≡ true → key_eq b.key root ≡ false) s.caps
      apart m n e lt within at =
          let below = AllPairs-from_map (λ a b. packed a < packed b) (λ (c : Capability). c.key) s.caps is.caps_rise m n e lt within in
          false_from_ne_true (key_eq (get_or s.caps n e).key root) (λ there.
          let equal = ap packed (key_eq-true (get_or s.caps m e).key root at ∙ sym (key_eq-true (get_or s.caps n e).key root there)) in
          omega (arith, below, equal))

  pub swept-sound : (up : Option Up) (waiters : List ℕ) (count : ℕ) (keep : Bool) → ids_owed s + bit keep ≤ ids_paid s →
      IsSoundBut T i None None (Some id) None 0 (swept (record { id = id; root = root; up = up; waiters = waiters; count = count; keep = keep }) s)
  swept-sound up waiters count true slack = spared-swept slack
  swept-sound up waiters count false slack = plain-swept
