-- The calls that commands are compiled to are in order.
use Rattle.std.proofs.Common.{◌≡◌, ◌≢◌, ℕ, zero, suc, ◌+◌, ◌-◌, ◌*◌, ◌<◌, ◌≤◌, ◌++◌, Bool, true, false, List, [], ◌∷◌, map, take, slice_get, find, nat_lt, Some}
use Rattle.std.proofs.Common.{refl, sym, ap, ◌∙◌, subst, inl, inr, arith, append_assoc, append-nil, eq-eqb}
use Rattle.std.specs.Prelude.{◌==◌, ◌&&◌, if◌then◌else◌, fold}
use Rattle.std.specs.List.{All, AllPairs, Contains, flat_map}
use Rattle.std.specs.Option.{option_map}
use Rattle.std.proofs.lemmas.Bool.{cases_Bool, cond-true, cond-false, cond_both, eqb-true, ne_eqb, true≢false, ltb-true, ltb-false}
use Rattle.std.proofs.lemmas.List.Elements.{All-nil, All-cons, All-append}
use Rattle.std.proofs.lemmas.List.Sums.{fold-append}
use Rattle.sem_key.proofs.Members.{Contains-nil, Contains-head, Contains-tail, Contains-cons_cases, Contains-map, list_any-at}
use Rattle.sem_msg.specs.declared.call.Call.{Call}
use Rattle.sem_msg.specs.declared.call.Call.TheVariants.{Delegate, AskOffer, Revoke, Bind}
use Rattle.sem_msg.specs.declared.setup.Offer.{Offer}
use Rattle.sem_msg.specs.declared.setup.VpeDecl.{VpeDecl}
use Rattle.sem_msg.specs.Calls.{IsValidCall}
use Rattle.sem_msg.specs.Setup.{Setup}
use Rattle.sem_msg.specs.Lookups.{is_declared, offered}
use Rattle.sem_files.specs.Files.{Files, EXTENT, is_file, is_client, extents_of}
use Rattle.sem_files.specs.Compiled.{SERVER, SESSION, ACCESS, extent_number, extent_root, opened_at, given_at, part_begin, part_end, part_accessed, greater}
use Rattle.sem_files.specs.Compiled.{less, rising_clients, extents, root_of_extent, offer_of_extent, service_key, server, client, compiled, AreFiles}
use Rattle.sem_fs.specs.Service.{GIVEN, holds, holds_after, IsExtent, MayComeNext}
use Rattle.sem_fs.proofs.Rising.{Less, pairs-head, pairs-tail, declared-client, extent-in, extent-near}
use Rattle.sem_fs.proofs.CompiledSetups.{vpes-are, server-declared}

-- Calls one behind the other.

-- a call may be made behind others, and its numbers are what they may be
abbrev pub Goes : Setup → ℕ → List Call → Call → Type 0
Goes T v made c = MayComeNext T v made c × IsValidCall 64 c

pub AllGo : Setup → ℕ → List Call → List Call → Type 0
AllGo T v made [] = Unit {0}
AllGo T v made (c ∷ cs) = Goes T v made c × AllGo T v (made ++ c ∷ []) cs

module _ (T : Setup) (v : ℕ) where
  pub go-nil : (made : List Call) → AllGo T v made []
  unfolding AllGo
  go-nil made = tt

  pub go-cons : (made : List Call) (c : Call) (cs : List Call) → Goes T v made c → AllGo T v (made ++ c ∷ []) cs → AllGo T v made (c ∷ cs)
  unfolding AllGo
  go-cons made c cs one rest = (one, rest)

  pub go-append : (made xs ys : List Call) → AllGo T v made xs → AllGo T v (made ++ xs) ys → AllGo T v made (xs ++ ys)
  unfolding AllGo
  go-append made [] ys one two = subst (λ zs. AllGo T v zs ys) (append-nil made) two
  go-append made (c ∷ xs) ys one two = (one.0, go-append (made ++ c ∷ []) xs ys one.1 (subst (λ zs. AllGo T v zs ys) (sym (append_assoc made (c ∷ []) xs)) two))

  pub each-goes : (made cs : List Call) → AllGo T v made cs → (n : ℕ) (c : Call) → slice_get cs n ≡ Some c → MayComeNext T v (made ++ take n cs) c
  unfolding AllGo
  each-goes made [] all n c none = absurd cc
  each-goes made (x ∷ cs) all zero c some = subst (λ zs. MayComeNext T v zs c) (sym (append-nil made)) (subst (MayComeNext T v made) (cc some) all.0.0)
  each-goes made (x ∷ cs) all (suc n) c some = subst (λ zs. MayComeNext T v zs c) (append_assoc made (x ∷ []) (take n cs))
      (each-goes (made ++ x ∷ []) cs all.1 n c some)

  pub all-valid : (made cs : List Call) → AllGo T v made cs → All (IsValidCall 64) cs
  unfolding AllGo
  all-valid made [] all = All-nil (IsValidCall 64)
  all-valid made (c ∷ cs) all = All-cons (IsValidCall 64) c cs all.0.1 (all-valid (made ++ c ∷ []) cs all.1)

-- What is held behind calls.

pub holds-append : (made cs : List Call) (sel : ℕ) → holds (made ++ cs) sel ≡ fold (holds_after sel) (holds made sel) cs
holds-append made cs sel = fold-append (holds_after sel) false made cs

pub holds-push : (made : List Call) (c : Call) (sel : ℕ) → holds (made ++ c ∷ []) sel ≡ holds_after sel (holds made sel) c
holds-push made c sel = holds-append made (c ∷ []) sel

-- Calls that change nothing that is held.
abbrev pub IsQuiet : Call → Type 0
IsQuiet c = (sel : ℕ) (b : Bool) → holds_after sel b c ≡ b

pub holds-quiet : (cs made : List Call) → All IsQuiet cs → (sel : ℕ) → holds (made ++ cs) sel ≡ holds made sel
holds-quiet cs made quiet sel = holds-append made cs sel ∙ along cs quiet (holds made sel)
  where
    along : (cs : List Call) → All IsQuiet cs → (b : Bool) → fold (holds_after sel) b cs ≡ b
    along [] quiet b = refl
    along (c ∷ cs) quiet b = ap (λ x. fold (holds_after sel) x cs) (quiet 0 c (omega arith) sel b)
        ∙ along cs (λ i d within. quiet (suc i) d (omega (arith, within))) b

-- Asks and revokes for some numbers of a handle.
module _ (h : ℕ) where
  abbrev pub asks : ℕ → List ℕ → List Call
  asks f xs = map (λ i. AskOffer (opened_at h i) SESSION (extent_number f i)) xs

  abbrev pub revokes : List ℕ → List Call
  revokes xs = map (λ i. Revoke (opened_at h i)) xs

  same-place : (i j : ℕ) → opened_at h i ≡ opened_at h j → i ≡ j
  same-place i j same = omega (arith, same)

  pub asks-apart : (f : ℕ) (xs : List ℕ) (sel : ℕ) (b : Bool) → ((i : ℕ) → Contains xs i → opened_at h i ≡ sel → ⊥) → fold (holds_after sel) b (asks f xs) ≡ b
  asks-apart f [] sel b apart = refl
  asks-apart f (x ∷ xs) sel b apart =
      ap (λ y. fold (holds_after sel) y (asks f xs))
      (cond-false (opened_at h x == sel) true b (ne_eqb (opened_at h x) sel (λ same. apart x (Contains-head x xs) same)))
      ∙ asks-apart f xs sel b (λ i among. apart i (Contains-tail x xs i among))

  asks-keep : (f : ℕ) (xs : List ℕ) (sel : ℕ) → fold (holds_after sel) true (asks f xs) ≡ true
  asks-keep f [] sel = refl
  asks-keep f (x ∷ xs) sel = ap (λ y. fold (holds_after sel) y (asks f xs)) (both (opened_at h x == sel)) ∙ asks-keep f xs sel
    where
      both : (b : Bool) → (if b then true else true) ≡ true
      both true = refl
      both false = refl

  pub asks-hold : (f : ℕ) (xs : List ℕ) (i : ℕ) (b : Bool) → Contains xs i → fold (holds_after (opened_at h i)) b (asks f xs) ≡ true
  asks-hold f [] i b among = absurd (Contains-nil i among)
  asks-hold f (x ∷ xs) i b among = elim (Contains-cons_cases x xs i among) [
    | inl same ↦ ap (λ y. fold (holds_after (opened_at h i)) y (asks f xs))
        (cond-true (opened_at h x == opened_at h i) true b (eq-eqb (opened_at h x) (opened_at h i) (ap (opened_at h) same))) ∙ asks-keep f xs (opened_at h i)
    | inr rest ↦ asks-hold f xs i (if opened_at h x == opened_at h i then true else b) rest
  ]

  pub revokes-apart : (xs : List ℕ) (sel : ℕ) (b : Bool) → ((i : ℕ) → Contains xs i → opened_at h i ≡ sel → ⊥) → fold (holds_after sel) b (revokes xs) ≡ b
  revokes-apart [] sel b apart = refl
  revokes-apart (x ∷ xs) sel b apart =
      ap (λ y. fold (holds_after sel) y (revokes xs))
      (cond-false (opened_at h x == sel) false b (ne_eqb (opened_at h x) sel (λ same. apart x (Contains-head x xs) same)))
      ∙ revokes-apart xs sel b (λ i among. apart i (Contains-tail x xs i among))

  revokes-keep : (xs : List ℕ) (sel : ℕ) → fold (holds_after sel) false (revokes xs) ≡ false
  revokes-keep [] sel = refl
  revokes-keep (x ∷ xs) sel = ap (λ y. fold (holds_after sel) y (revokes xs)) (both (opened_at h x == sel)) ∙ revokes-keep xs sel
    where
      both : (b : Bool) → (if b then false else false) ≡ false
      both true = refl
      both false = refl

  pub revokes-free : (xs : List ℕ) (i : ℕ) (b : Bool) → Contains xs i → fold (holds_after (opened_at h i)) b (revokes xs) ≡ false
  revokes-free [] i b among = absurd (Contains-nil i among)
  revokes-free (x ∷ xs) i b among = elim (Contains-cons_cases x xs i among) [
    | inl same ↦ ap (λ y. fold (holds_after (opened_at h i)) y (revokes xs))
        (cond-true (opened_at h x == opened_at h i) false b (eq-eqb (opened_at h x) (opened_at h i) (ap (opened_at h) same))) ∙ revokes-keep xs (opened_at h i)
    | inr rest ↦ revokes-free xs i (if opened_at h x == opened_at h i then false else b) rest
  ]

-- What the server offers.
module _ (F : Files) (AF : AreFiles F) where
  abbrev T : Setup
  T = compiled F

  find-offer : (xs : List ℕ) (x : ℕ) → Contains xs x → find (λ (o : Offer). (o.name == 0) && (o.index == x)) (map offer_of_extent xs) ≡ Some (offer_of_extent x)
  find-offer [] x among = absurd (Contains-nil x among)
  find-offer (y ∷ xs) x among = elim (cases_Bool (y == x)) [
    | inl same ↦ cond-true (y == x) (Some (offer_of_extent y)) (find (λ (o : Offer). (o.name == 0) && (o.index == x)) (map offer_of_extent xs)) same
        ∙ ap (λ z. Some (offer_of_extent z)) (eqb-true y x same)
    | inr other ↦ elim (Contains-cons_cases y xs x among) [
      | inl same ↦ absurd (true≢false (sym (eq-eqb y x same) ∙ other))
      | inr rest ↦ cond-false (y == x) (Some (offer_of_extent y)) (find (λ (o : Offer). (o.name == 0) && (o.index == x)) (map offer_of_extent xs)) other
          ∙ find-offer xs x rest
    ]
  ]

  pub offers-extent : (x : ℕ) → Contains (extents F) x → offered (compiled F) service_key x ≡ Some (extent_root x)
  unfolding compiled
  offers-extent x among = ap (option_map (λ (o : Offer). o.sel)) (find-offer (extents F) x among)

  pub is-extent : (x : ℕ) → Contains (extents F) x → IsExtent (compiled F) (extent_root x)
  is-extent x among = record {
    server = server F;
    declared = server-declared F;
    base = EXTENT * x;
    root = Contains-tail _ (map root_of_extent (extents F)) (root_of_extent x) (Contains-map root_of_extent (extents F) x among);
    near = (let near = extent-near F AF x among in omega (arith, near));
  }

  client-known : (w : ℕ) → is_client F w ≡ true → is_declared (compiled F) w ≡ true
  client-known w is =
      let near = declared-client F AF w is in
      list_any-at (λ (d : VpeDecl). d.vpe == w) (compiled F).vpes (client F w)
      (subst (λ ds. Contains ds (client F w)) (sym (vpes-are F))
      (Contains-tail (server F) (map (client F) (rising_clients F)) (client F w) (Contains-map (client F) (rising_clients F) w near.2))) (eq-eqb w w refl)

  -- The calls of one command, by the numbers of extents.
  module _ (v h : ℕ) (low : h ≤ 15) where
    near-place : (i : ℕ) → i < 4 → (SESSION < opened_at h i) × (opened_at h i < GIVEN) × (opened_at h i < 256)
    near-place i few = (omega arith, omega (arith, low, few), omega (arith, low, few))

    -- a file is opened
    pub asks-go : (f : ℕ) → is_file F f ≡ true → f ≤ 15 → (xs : List ℕ) → AllPairs Less xs → (made : List Call) → holds made SESSION ≡ true
        → ((i : ℕ) → Contains xs i → (i < 4) × (i < extents_of F f) × (holds made (opened_at h i) ≡ false)) → AllGo (compiled F) v made (asks h f xs)
    asks-go f is near [] rise made session free = go-nil T v made
    asks-go f is near (x ∷ xs) rise made session free =
        let here = free x (Contains-head x xs) in
        let c : Call = AskOffer (opened_at h x) SESSION (extent_number f x) in
        let among = extent-in F AF f x is here.1 in
        let place = near-place x here.0 in
        go-cons T v made c (asks h f xs) (
          (
            refl,
            session,
            place.0,
            place.1,
            here.2,
            (
              extent_root (extent_number f x),
              offers-extent (extent_number f x) among,
              is-extent (extent_number f x) among,
            ),
          ),
          (place.2, omega arith, index-so f x near here.0),
        )
        (asks-go f is near xs (pairs-tail Less x xs rise) (made ++ c ∷ [])
        (holds-push made c SESSION
        ∙ (cond-false (opened_at h x == SESSION) true (holds made SESSION) (ne_eqb (opened_at h x) SESSION (λ same. absurd (apart-session x same))) ∙ session))
        (λ i there.
        let was = free i (Contains-tail x xs i there) in (
          was.0,
          was.1,
          holds-push made c (opened_at h i)
              ∙ (cond-false (opened_at h x == opened_at h i) true (holds made (opened_at h i))
              (ne_eqb (opened_at h x) (opened_at h i) (λ same. absurd (later x i (pairs-head Less x xs rise i there) (same-place h x i same)))) ∙ was.2),
        )))
      where
        index-so : (f x : ℕ) → f ≤ 15 → x < 4 → 4 * f + x ≤ 255
        index-so f x near few = omega (arith, near, few)

        apart-session : (x : ℕ) → opened_at h x ≡ SESSION → ⊥
        apart-session x same = omega (arith, same)

        later : (x i : ℕ) → x < i → x ≡ i → ⊥
        later x i less' same = omega (arith, less', same)

    -- a file is closed
    pub revokes-go : (xs : List ℕ) → AllPairs Less xs → (made : List Call) → ((i : ℕ) → Contains xs i → (i < 4) × (holds made (opened_at h i) ≡ true))
        → AllGo (compiled F) v made (revokes h xs)
    revokes-go [] rise made there = go-nil T v made
    revokes-go (x ∷ xs) rise made there =
        let here = there x (Contains-head x xs) in
        let c : Call = Revoke (opened_at h x) in
        let place = near-place x here.0 in
        go-cons T v made c (revokes h xs) ((place.0, place.1, here.1), place.2)
        (revokes-go xs (pairs-tail Less x xs rise) (made ++ c ∷ []) (λ i among.
        let was = there i (Contains-tail x xs i among) in (
          was.0,
          holds-push made c (opened_at h i)
              ∙ (cond-false (opened_at h x == opened_at h i) false (holds made (opened_at h i))
              (ne_eqb (opened_at h x) (opened_at h i) (λ same. absurd (later x i (pairs-head Less x xs rise i among) (same-place h x i same)))) ∙ was.1),
        )))
      where
        later : (x i : ℕ) → x < i → x ≡ i → ⊥
        later x i less' same = omega (arith, less', same)

    -- a file is shared
    pub shares-go : (to g : ℕ) → is_client F to ≡ true → (to ≢ v) → g ≤ 15 → (xs : List ℕ) (made : List Call)
        → ((i : ℕ) → Contains xs i → (i < 4) × (holds made (opened_at h i) ≡ true))
        → AllGo (compiled F) v made (map (λ i. Delegate (opened_at h i) to (given_at g i)) xs)
    shares-go to g known other near [] made there = go-nil T v made
    shares-go to g known other near (x ∷ xs) made there =
        let here = there x (Contains-head x xs) in
        let c : Call = Delegate (opened_at h x) to (given_at g x) in
        let place = near-place x here.0 in
        let range = declared-client F AF to known in
        go-cons T v made c (map (λ i. Delegate (opened_at h i) to (given_at g i)) xs) (
          ((place.0, place.1, here.1), client-known to known, other, (λ same. absurd (positive to range.0 same)), far x),
          (place.2, below-so to range.1, given-so x here.0),
        )
        (shares-go to g known other near xs (made ++ c ∷ []) (λ i among. let was = there i (Contains-tail x xs i among) in
        (was.0, holds-push made c (opened_at h i) ∙ was.1)))
      where
        positive : (a : ℕ) → 1 ≤ a → a ≡ SERVER → ⊥
        positive a some same = omega (arith, some, same)

        below-so : (a : ℕ) → a ≤ 63 → a < 64
        below-so a most = omega (arith, most)

        far : (x : ℕ) → GIVEN ≤ given_at g x
        far x = omega arith

        given-so : (x : ℕ) → x < 4 → given_at g x < 256
        given-so x few = omega (arith, near, few)

    -- a range is read or written
    module _ (access : ℕ → ℕ → Call) (quiet : (off len : ℕ) → IsQuiet (access off len))
        (go : (made : List Call) (sel off len : ℕ) → off + len ≤ EXTENT →
        Goes (compiled F) v (made ++ Bind ACCESS sel ∷ []) (access off len)) (off len : ℕ) where
      pub accesses-go : (xs : List ℕ) (made : List Call) → ((i : ℕ) → Contains xs i → (i < 4) × (holds made (opened_at h i) ≡ true))
          → AllGo (compiled F) v made (flat_map (part_accessed access h off len) xs)
      accesses-go [] made there = go-nil T v made
      accesses-go (x ∷ xs) made there =
          go-append T v made (part_accessed access h off len x) (flat_map (part_accessed access h off len) xs)
          part
          (accesses-go xs (made ++ part_accessed access h off len x) (λ i among. let was = there i (Contains-tail x xs i among) in
          (was.0, holds-quiet (part_accessed access h off len x) made quiet-part (opened_at h i) ∙ was.1)))
        where
          begins : ℕ
          begins = part_begin off x

          ends : ℕ
          ends = part_end off len x

          here : (x < 4) × (holds made (opened_at h x) ≡ true)
          here = there x (Contains-head x xs)

          quiet-part : All IsQuiet (part_accessed access h off len x)
          quiet-part = cond_both (nat_lt (part_begin off x) (part_end off len x)) _ [] (All IsQuiet)
              (λ _. All-cons IsQuiet (Bind ACCESS (opened_at h x)) (access (begins - EXTENT * x) (ends - begins) ∷ []) (λ sel b. refl)
              (All-cons IsQuiet (access (begins - EXTENT * x) (ends - begins)) [] (quiet (begins - EXTENT * x) (ends - begins)) (All-nil IsQuiet)))
              (λ _. All-nil IsQuiet)

          within : (begin end : ℕ) → EXTENT * x ≤ begin → begin < end → end ≤ EXTENT * (x + 1) → (begin - EXTENT * x) + (end - begin) ≤ EXTENT
          within begin end one two three = omega (arith, one, two, three)

          above : (a b : ℕ) → b ≤ greater a b
          above a b = elim (cases_Bool (nat_lt a b)) [
            | inl less' ↦ (let is = cond-true (nat_lt a b) b a less' in omega (arith, is))
            | inr more ↦ (let is = cond-false (nat_lt a b) b a more in let not_ = ltb-false a b more in omega (arith, is, not_))
          ]

          under : (a b : ℕ) → less a b ≤ b
          under a b = elim (cases_Bool (nat_lt a b)) [
            | inl less' ↦ (let is = cond-true (nat_lt a b) a b less' in let lt = ltb-true a b less' in omega (arith, is, lt))
            | inr more ↦ (let is = cond-false (nat_lt a b) a b more in omega (arith, is))
          ]

          part : AllGo (compiled F) v made (part_accessed access h off len x)
          part = cond_both (nat_lt (part_begin off x) (part_end off len x)) _ [] (AllGo T v made) (λ some.
              let place = near-place x here.0 in
              go-cons T v made (Bind ACCESS (opened_at h x)) (access (begins - EXTENT * x) (ends - begins) ∷ [])
              ((refl, (place.0, place.1, here.1)), (omega arith, place.2))
              (go-cons T v (made ++ Bind ACCESS (opened_at h x) ∷ []) (access (begins - EXTENT * x) (ends - begins)) []
              (go made (opened_at h x) (begins - EXTENT * x) (ends - begins)
              (within begins ends (above off (EXTENT * x)) (ltb-true begins ends some) (under (off + len) (EXTENT * (x + 1)))))
              (go-nil T v ((made ++ Bind ACCESS (opened_at h x) ∷ []) ++ access (begins - EXTENT * x) (ends - begins) ∷ []))))
              (λ _. go-nil T v made)

      pub accesses-quiet : (made : List Call) (ys : List ℕ) (sel : ℕ) → holds (made ++ flat_map (part_accessed access h off len) ys) sel ≡ holds made sel
      accesses-quiet made ys sel = holds-quiet (flat_map (part_accessed access h off len) ys) made (all ys) sel
        where
          all : (ys : List ℕ) → All IsQuiet (flat_map (part_accessed access h off len) ys)
          all [] = All-nil IsQuiet
          all (y ∷ ys) =
              let begins : ℕ = part_begin off y in
              let ends : ℕ = part_end off len y in
              let bind : Call = Bind ACCESS (opened_at h y) in
              let reads : Call = access (begins - EXTENT * y) (ends - begins) in
              All-append IsQuiet (part_accessed access h off len y) (flat_map (part_accessed access h off len) ys)
              (cond_both (nat_lt begins ends) (bind ∷ reads ∷ []) [] (All IsQuiet)
              (λ _. All-cons IsQuiet bind (reads ∷ []) (λ sel b. refl) (All-cons IsQuiet reads [] (quiet (begins - EXTENT * y) (ends - begins))
              (All-nil IsQuiet)))
              (λ _. All-nil IsQuiet))
              (all ys)
