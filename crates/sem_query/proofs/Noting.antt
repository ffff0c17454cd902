-- The lives of all keys, in which one entry more is noted.
use Rattle.std.proofs.Common.{◌≡◌, ℕ, ◌+◌, Bool, true, false, List, [], ◌∷◌, ◌++◌, length, map, Option, Some, None, refl, sym, ap, ◌∙◌, subst, inl, inr, arith}
use Rattle.std.specs.Prelude.{nat_lt, not, ◌||◌, unwrap_or, if◌then◌else◌}
use Rattle.std.specs.List.{Contains}
use Rattle.std.specs.Option.{option_map, option_map_or}
use Rattle.std.proofs.lemmas.Bool.{cases_Bool, cond-true, cond-false, lt-ltb, true≢false}
use Rattle.sem_key.specs.KeyName.{KeyName, key_eq}
use Rattle.sem_key.specs.Capability.{Capability}
use Rattle.sem_key.specs.Lists.{change, in_turn}
use Rattle.sem_key.specs.Region.{has_key}
use Rattle.sem_key.proofs.KeyTests.{key_eq-true, key_eq-from, Contains-from_has_key, has_key-from_Contains}
use Rattle.sem_key.proofs.Members.{Contains-nil, Contains-tail, Contains-cons_cases}
use Rattle.sem_msg.specs.declared.entry.Entry.{Entry}
use Rattle.sem_msg.specs.Setup.{Setup, IsSetup}
use Rattle.sem_msg.specs.Lookups.{owner_of}
use Rattle.sem_machine.specs.Sides.{cap}
use Rattle.sem_machine.specs.Machine.{World, side, start}
use Rattle.sem_machine.specs.Schedules.{IsSchedule, world_after}
use Rattle.sem_safety.proofs.GoingOn.{run-append}
use Rattle.sem_query.specs.declared.holder.Holder.{Holder}
use Rattle.sem_query.specs.declared.holder.Holder.TheVariants.{Marked, Unmarked, Way, No}
use Rattle.sem_query.specs.Whereabouts.{held_as, unheld, is_coming, whereabouts, Passes}
use Rattle.sem_query.specs.Whereabouts.Passes.{born_on_its_way, born_held, stays_nowhere, stays_on_its_way, stays_unmarked, stays_marked}
use Rattle.sem_query.specs.Changes.{grants_key, MayChange, seen_at_home}
use Rattle.sem_query.specs.Lives.{KeyLife, noted, life_granted, life, told_holder}
use Rattle.sem_query.specs.Building.{begun_life, life_so_far, noted_now, noted_of, seen_granted, grant_noted, followed, AreMoved}
use Rattle.sem_query.proofs.AtHome.{at-home}
use Rattle.sem_query.proofs.Passing.{at, with-e, is-after, passes}
use Rattle.sem_query.proofs.Reading.{Stands, stands-told, stands-next}
use Rattle.sem_query.proofs.Stepping.{stands-same}
use Rattle.sem_query.proofs.Telling.{StandsIf, tells, life_next, life-push}
use Rattle.sem_query.proofs.Telling.StandsIf.{has_no_life, has_life}

-- One life.

stays : (a : Holder) → Passes false a a
stays (Marked sel) = stays_marked sel
stays (Unmarked sel) = stays_unmarked sel
stays Way = stays_on_its_way
stays No = stays_nowhere

-- a life up to an entry is one up to the next, where the key stays
stands-later : (n : ℕ) (a : Holder) (l : KeyLife) → Stands n a l → Stands (n + 1) a l
stands-later n a l is = subst (Stands (n + 1) a) (stands-same n n a l is) (stands-next n a a l is (stays a))

-- what is noted is what the entry does
note-is : (n : ℕ) (a b : Holder) (l : KeyLife) → Stands n a l → noted_now n b l ≡ noted n a b l
note-is n a b l is = ap (λ x. noted n x b l) (stands-told (n + 1) a l (stands-later n a l is))

-- noted again it stays
note-again : (n : ℕ) (b : Holder) (l : KeyLife) → Stands (n + 1) b l → noted_now n b l ≡ l
note-again n b l is = ap (λ x. noted n x b l) (stands-told (n + 1) b l is) ∙ stands-same (n + 1) n b l is

unborn-told : (n : ℕ) (k : KeyName) → told_holder (n + 1) (begun_life k None) ≡ No
unborn-told n k = cond-true (false || nat_lt 0 (n + 1)) No _ (lt-ltb 0 (n + 1) (omega arith))

-- of a key that is nowhere and was never granted nothing is noted
unborn-stays : (n : ℕ) (k : KeyName) → noted_now n No (begun_life k None) ≡ begun_life k None
unborn-stays n k = ap (λ x. noted n x No (begun_life k None)) (unborn-told n k)

granted-told : (n : ℕ) (k : KeyName) → told_holder (n + 1) (life_granted k n) ≡ Way
granted-told n k = by (nat_lt n (n + 1)) (lt-ltb n (n + 1) (omega arith))
  where
    by : (b : Bool) → b ≡ true → (if not b || false then No else Way) ≡ Way
    by true is = refl
    by false is = absurd cc

-- a key that is just granted is on its way, or held
granted-note : (n : ℕ) (k : KeyName) (b : Holder) → Passes true No b → noted_now n b (life_granted k n) ≡ noted n No b (life_granted k n)
granted-note n k _ born_on_its_way = ap (λ x. noted n x Way (life_granted k n)) (granted-told n k)
granted-note n k _ (born_held sel) = ap (λ x. noted n x (Unmarked sel) (life_granted k n)) (granted-told n k)

-- Lives of keys.

abbrev Keyed : (KeyName → KeyLife) → Type 0
Keyed f = (q : KeyName) → (f q).key ≡ q

change-map : (k : KeyName) (g : KeyLife → KeyLife) (f : KeyName → KeyLife) → Keyed f → (ks : List KeyName) →
    change (λ (l : KeyLife). key_eq l.key k) g (map f ks) ≡ map (λ q. if key_eq q k then g (f q) else f q) ks
change-map k g f keyed [] = refl
change-map k g f keyed (q ∷ qs) =
    ap (λ x. (if key_eq x k then g (f q) else f q) ∷ change (λ (l : KeyLife). key_eq l.key k) g (map f qs)) (keyed q)
    ∙ ap (λ xs. (if key_eq q k then g (f q) else f q) ∷ xs) (change-map k g f keyed qs)

keyed-change : (k : KeyName) (g : KeyLife → KeyLife) → ((l : KeyLife) → (g l).key ≡ l.key) → (f : KeyName → KeyLife) → Keyed f →
    Keyed (λ q. if key_eq q k then g (f q) else f q)
keyed-change k g same f keyed q = elim (cases_Bool (key_eq q k)) [
  | inl is ↦ ap (λ (l : KeyLife). l.key) (cond-true (key_eq q k) (g (f q)) (f q) is) ∙ (same (f q) ∙ keyed q)
  | inr is ↦ ap (λ (l : KeyLife). l.key) (cond-false (key_eq q k) (g (f q)) (f q) is) ∙ keyed q
]

map-same : (f g : KeyName → KeyLife) → ((q : KeyName) → f q ≡ g q) → (ks : List KeyName) → map f ks ≡ map g ks
map-same f g same [] = refl
map-same f g same (q ∷ qs) = ap (λ x. x ∷ map f qs) (same q) ∙ ap (λ xs. g q ∷ xs) (map-same f g same qs)

-- Keys that are noted in turn, each where it is seen.
module _ (n : ℕ) (see : KeyName → Holder) where
  abbrev N : KeyName → KeyLife → KeyLife
  N q l = noted_now n (see q) l

  abbrev noted_at : KeyName → (KeyName → KeyLife) → KeyName → KeyLife
  noted_at c f q = if key_eq q c then N c (f q) else f q

  each : List KeyName → (KeyName → KeyLife) → KeyName → KeyLife
  each [] f = f
  each (c ∷ cs) f = each cs (noted_at c f)

  all-map : (cs : List KeyName) (f : KeyName → KeyLife) → Keyed f → (ks : List KeyName) → in_turn (λ k. noted_of k n (see k)) cs (map f ks) ≡ map (each cs f) ks
  unfolding in_turn each
  all-map [] f keyed ks = refl
  all-map (c ∷ cs) f keyed ks =
      ap (in_turn (λ k. noted_of k n (see k)) cs) (change-map c (noted_now n (see c)) f keyed ks)
      ∙ all-map cs (noted_at c f) (keyed-change c (noted_now n (see c)) (λ l. refl) f keyed) ks

  each-keyed : (cs : List KeyName) (f : KeyName → KeyLife) → Keyed f → Keyed (each cs f)
  unfolding each
  each-keyed [] f keyed = keyed
  each-keyed (c ∷ cs) f keyed = each-keyed cs (noted_at c f) (keyed-change c (noted_now n (see c)) (λ l. refl) f keyed)

  here : (c q : KeyName) (f : KeyName → KeyLife) → key_eq q c ≡ true → noted_at c f q ≡ N q (f q)
  here c q f is = cond-true (key_eq q c) (N c (f q)) (f q) is ∙ ap (λ z. N z (f q)) (sym (key_eq-true q c is))

  away : (c q : KeyName) (f : KeyName → KeyLife) → key_eq q c ≡ false → noted_at c f q ≡ f q
  away c q f is = cond-false (key_eq q c) (N c (f q)) (f q) is

  -- a key that is not among them stays
  each-none : (cs : List KeyName) (f : KeyName → KeyLife) (q : KeyName) → (Contains cs q → ⊥) → each cs f q ≡ f q
  unfolding each
  each-none [] f q none = refl
  each-none (c ∷ cs) f q none =
      each-none cs (noted_at c f) q (λ rest. none (Contains-tail c cs q rest))
      ∙ elim (cases_Bool (key_eq q c)) [
        | inl is ↦ absurd (none (first (key_eq-true q c is)))
        | inr is ↦ away c q f is
      ]
    where
      first : q ≡ c → Contains (c ∷ cs) q
      first same = subst (Contains (c ∷ cs)) (sym same) (head c cs)
        where
          head : (x : KeyName) (xs : List KeyName) → Contains (x ∷ xs) x
          head x xs = (0, omega arith, refl)

  -- one that is noted stays so
  each-done : (cs : List KeyName) (f : KeyName → KeyLife) (q : KeyName) (y : KeyLife) → N q (N q y) ≡ N q y → f q ≡ N q y → each cs f q ≡ N q y
  unfolding each
  each-done [] f q y again is = is
  each-done (c ∷ cs) f q y again is = each-done cs (noted_at c f) q y again (elim (cases_Bool (key_eq q c)) [
    | inl same ↦ here c q f same ∙ (ap (N q) is ∙ again)
    | inr other ↦ away c q f other ∙ is
  ])

  -- one that is among them is noted
  each-some : (cs : List KeyName) (f : KeyName → KeyLife) (q : KeyName) → N q (N q (f q)) ≡ N q (f q) → Contains cs q → each cs f q ≡ N q (f q)
  unfolding each
  each-some [] f q again among = absurd (Contains-nil q among)
  each-some (c ∷ cs) f q again among = elim (cases_Bool (key_eq q c)) [
    | inl same ↦ each-done cs (noted_at c f) q (f q) again (here c q f same)
    | inr other ↦
        let same = away c q f other in
        let rest : Contains cs q = elim (Contains-cons_cases c cs q among) [
          | inl is ↦ absurd (true≢false (sym (key_eq-from q c (sym is)) ∙ other))
          | inr rest ↦ rest
        ] in
        each-some cs (noted_at c f) q (ap (λ l. N q (N q l)) same ∙ (again ∙ ap (N q) (sym same))) rest ∙ ap (N q) same
  ]

module _ (T : Setup) (valid : IsSetup T) (J : List Entry) (runs : IsSchedule T J) (before later : List Entry) (e : Entry) (parts : J ≡ before
    ++ e ∷ later) where
  abbrev W : World
  W = world_after T before

  abbrev V : World
  V = world_after T (before ++ e ∷ [])

  abbrev n : ℕ
  n = length before

  abbrev see : KeyName → Holder
  see q = seen_at_home q (side V (owner_of T q))

  abbrev L0 : KeyName → KeyLife
  L0 q = life_so_far T before q

  abbrev L1 : KeyName → KeyLife
  L1 q = life_so_far T (before ++ e ∷ []) q

  module _ (q : KeyName) where
    was-runs : IsSchedule T before
    was-runs = (at T valid J runs before later e parts q).0

    now-runs : IsSchedule T (before ++ e ∷ [])
    now-runs = with-e T valid J runs before later e parts q

    abbrev a : Holder
    a = whereabouts T W q

    abbrev b : Holder
    b = whereabouts T V q

    passing : Passes (grants_key q e) a b
    passing = passes T valid J runs before later e parts q

    stood : StandsIf n a (life T before q)
    stood = (tells T valid q before was-runs).now

    -- the next life, by whether the entry grants the key
    life-is : (g : Bool) → grants_key q e ≡ g → life T (before ++ e ∷ []) q ≡ option_map (noted n a b) (if g then Some (life_granted q n) else life T before q)
    life-is g is =
        life-push T q before e
        ∙ (ap (λ (U : World). life_next T q n W U e (life T before q)) (sym (run-append T before (e ∷ []) (start T)))
        ∙ ap (λ c. option_map (noted n a b) (if c then Some (life_granted q n) else life T before q)) is)

    L-is : (o : Option KeyLife) → life T before q ≡ o → L0 q ≡ unwrap_or o (begun_life q None)
    L-is o is = ap (λ (x : Option KeyLife). unwrap_or x (begun_life q None)) is

    -- a key that the entry does not grant
    module _ (not_granted : grants_key q e ≡ false) where
      goes : Passes false a b
      goes = subst (λ g. Passes g a b) not_granted passing

      next : life T (before ++ e ∷ []) q ≡ option_map (noted n a b) (life T before q)
      next = life-is false not_granted

      -- noted once more
      note-if : (a b : Holder) (o : Option KeyLife) → StandsIf n a o → Passes false a b →
          noted_now n b (unwrap_or o (begun_life q None)) ≡ unwrap_or (option_map (noted n a b) o) (begun_life q None)
      note-if _ _ _ has_no_life stays_nowhere = unborn-stays n q
      note-if _ b _ (has_life a l is) passing' = note-is n a b l is

      again-if : (a b : Holder) (o : Option KeyLife) → StandsIf n a o → Passes false a b →
          noted_now n b (unwrap_or (option_map (noted n a b) o) (begun_life q None)) ≡ unwrap_or (option_map (noted n a b) o) (begun_life q None)
      again-if _ _ _ has_no_life stays_nowhere = unborn-stays n q
      again-if _ b _ (has_life a l is) passing' = note-again n b (noted n a b l) (stands-next n a b l is passing')

      same-if : (a : Holder) (o : Option KeyLife) → StandsIf n a o →
          unwrap_or (option_map (noted n a a) o) (begun_life q None) ≡ unwrap_or o (begun_life q None)
      same-if _ _ has_no_life = refl
      same-if _ _ (has_life a l is) = stands-same n n a l is

      L1-is : L1 q ≡ unwrap_or (option_map (noted n a b) (life T before q)) (begun_life q None)
      L1-is = ap (λ (o : Option KeyLife). unwrap_or o (begun_life q None)) next

      noted-once : noted_now n b (L0 q) ≡ L1 q
      noted-once = note-if a b (life T before q) stood goes ∙ sym L1-is

      noted-twice : noted_now n b (L1 q) ≡ L1 q
      noted-twice = ap (noted_now n b) L1-is ∙ (again-if a b (life T before q) stood goes ∙ sym L1-is)

      stays-so : a ≡ b → L0 q ≡ L1 q
      stays-so same = sym (L1-is ∙ (ap (λ x. unwrap_or (option_map (noted n a x) (life T before q)) (begun_life q None)) (sym same)
          ∙ same-if a (life T before q) stood))

      -- by whether it is among the keys that may move
      module _ (ks : List KeyName) (are : AreMoved T W e ks) where
        abbrev Is : Type 0
        Is = each n see ks L0 q ≡ L1 q

        seen : MayChange T W e q → see q ≡ b
        seen may = sym (at-home T valid J runs before later e parts q not_granted may)

        by-among : Contains ks q → Is
        by-among among =
            let is = seen (are.may q among) in
            let once : N n see q (L0 q) ≡ L1 q = ap (λ h. noted_now n h (L0 q)) is ∙ noted-once in
            let twice : N n see q (N n see q (L0 q)) ≡ N n see q (L0 q) = ap (N n see q) once
            ∙ (ap (λ h. noted_now n h (L1 q)) is ∙ (noted-twice ∙ sym once)) in
            each-some n see ks L0 q twice among ∙ once

        by-absent : (Contains ks q → ⊥) → a ≡ b → Is
        by-absent absent same = each-none n see ks L0 q absent ∙ stays-so same

    -- one that it grants
    module _ (granted : grants_key q e ≡ true) where
      born : Passes true a b
      born = subst (λ g. Passes g a b) granted passing

      from-nowhere : (a b : Holder) → Passes true a b → Passes true No b × (a ≡ No)
      from-nowhere _ _ born_on_its_way = (born_on_its_way, refl)
      from-nowhere _ _ (born_held sel) = (born_held sel, refl)

      -- it is held, or on its way
      abbrev at_owner : Option Capability
      at_owner = cap (side V (owner_of T q)) q

      sees : (o : Option Capability) (c : Bool) → Passes true No (option_map_or held_as o (unheld c)) →
          option_map_or held_as o Way ≡ option_map_or held_as o (unheld c)
      sees (Some x) c is = refl
      sees None true is = refl
      sees None false is = absurd (no is)
        where
          no : Passes true No No → ⊥
          no h = elim h [ ]

      seen-granted-is : seen_granted q (side V (owner_of T q)) ≡ b
      seen-granted-is = sees at_owner (is_coming q V) (from-nowhere a b born).0

      granted-once : noted_now n (seen_granted q (side V (owner_of T q))) (life_granted q n) ≡ L1 q
      granted-once =
          ap (λ h. noted_now n h (life_granted q n)) seen-granted-is
          ∙ (granted-note n q b (from-nowhere a b born).0
          ∙ (ap (λ x. noted n x b (life_granted q n)) (sym (from-nowhere a b born).1)
          ∙ sym (ap (λ (o : Option KeyLife). unwrap_or o (begun_life q None)) (life-is true granted))))

  -- all keys, where these are the ones that may move
  module _ (ks : List KeyName) (are : AreMoved T W e ks) where
    abbrev F : KeyName → KeyLife
    F = each n see ks L0

    L0-keyed : Keyed L0
    L0-keyed q = by (life T before q) refl
      where
        by : (o : Option KeyLife) → life T before q ≡ o → (unwrap_or o (begun_life q None)).key ≡ q
        by None none = refl
        by (Some l) some = (tells T valid q before (was-runs q)).of_key l some

    F-keyed : Keyed F
    F-keyed = each-keyed n see ks L0 L0-keyed

    noted-all : (q : KeyName) → grants_key q e ≡ false → F q ≡ L1 q
    noted-all q not_granted = elim (cases_Bool (has_key ks q)) [
      | inl among ↦ by-among q not_granted ks are (Contains-from_has_key ks q among)
      | inr absent ↦
          let no : Contains ks q → ⊥ = λ among. true≢false (sym (has_key-from_Contains ks q among) ∙ absent) in
          by-absent q not_granted ks are no (are.others q not_granted no
          ∙ ap (λ (U : World). whereabouts T U q) (sym (is-after T valid J runs before later e parts q)))
    ]

    with-grant : (o : Option (KeyName × KeyName)) → e.grant ≡ o → (qs : List KeyName) → grant_noted T V n o (map F qs) ≡ map L1 qs
    with-grant None none qs = map-same F L1 (λ q. noted-all q (ap (λ x. option_map_or (λ (h : KeyName × KeyName). key_eq h.1 q) x false) none)) qs
    with-grant (Some g) some qs =
        let k : KeyName = g.1 in
        let h : Holder = seen_granted k (side V (owner_of T k)) in
        let begin : KeyLife → KeyLife = λ l. life_granted l.key n in
        let G : KeyName → KeyLife = λ q. if key_eq q k then begin (F q) else F q in
        let G-keyed : Keyed G = keyed-change k begin (λ l. refl) F F-keyed in
        let grants : (q : KeyName) → grants_key q e ≡ key_eq k q = λ q. ap (λ x. option_map_or (λ (y : KeyName × KeyName). key_eq y.1 q) x false) some in
        ap (noted_of k n h) (change-map k begin F F-keyed qs)
        ∙ (change-map k (noted_now n h) G G-keyed qs
        ∙ map-same (λ q. if key_eq q k then noted_now n h (G q) else G q) L1 (λ q. elim (cases_Bool (key_eq q k)) [
          | inl is ↦
              let same : q ≡ k = key_eq-true q k is in
              let fresh : G q ≡ life_granted q n = cond-true (key_eq q k) (begin (F q)) (F q) is ∙ ap (λ x. life_granted x n) (F-keyed q) in
              cond-true (key_eq q k) (noted_now n h (G q)) (G q) is
              ∙ (ap (noted_now n h) fresh
              ∙ (ap (λ x. noted_now n (seen_granted x (side V (owner_of T x))) (life_granted q n)) (sym same)
              ∙ granted-once q (grants q ∙ key_eq-from k q (sym same))))
          | inr other ↦
              cond-false (key_eq q k) (noted_now n h (G q)) (G q) other
              ∙ (cond-false (key_eq q k) (begin (F q)) (F q) other
              ∙ noted-all q (grants q ∙ elim (cases_Bool (key_eq k q)) [
                | inl is ↦ absurd (true≢false (sym (key_eq-from q k (sym (key_eq-true k q is))) ∙ other))
                | inr is ↦ is
              ]))
        ]) qs)

    pub followed-is : (qs : List KeyName) → followed T V n e ks (map L0 qs) ≡ map L1 qs
    followed-is qs = ap (grant_noted T V n e.grant) (all-map n see ks L0 L0-keyed qs) ∙ with-grant e.grant refl qs
