-- What file commands are compiled to is a setup, with a server that has all roots and makes no call.
use Rattle.std.proofs.Common.{◌≡◌, ◌≢◌, ◌⊎◌, ℕ, ◌+◌, ◌%◌, ◌<◌, ◌≤◌, ◌++◌, Bool, true, false, List, [], ◌∷◌, map, length, get_or, find, Option, Some, None, refl}
use Rattle.std.proofs.Common.{sym, ap, ◌∙◌, subst, inl, inr, arith, zero-add, eq-eqb}
use Rattle.std.specs.Prelude.{◌==◌, ◌||◌}
use Rattle.std.specs.List.{All, AllPairs, Contains, flat_map, sum_by}
use Rattle.std.specs.Option.{IsSome, is_some, option_map_or}
use Rattle.std.proofs.Math.Nat.{mod-lt}
use Rattle.std.proofs.lemmas.Bool.{cases_Bool, cases_lt, cond-true, cond-false, eqb-true, ne_eqb, true≢false}
use Rattle.std.proofs.lemmas.Option.{none-some, same_Some}
use Rattle.std.proofs.lemmas.List.{get_or_past}
use Rattle.std.proofs.lemmas.List.Elements.{All-nil, All-cons}
use Rattle.std.proofs.lemmas.List.FromFn.{get_or-map-range_with_len, length-map-range_with_len}
use Rattle.std.proofs.lemmas.List.Kept.{AllPairs-cons}
use Rattle.std.proofs.lemmas.List.Sums.{sum_by-cons}
use Rattle.sem_key.specs.declared.limits.TheConstants.{PES}
use Rattle.sem_key.specs.KeyName.{KeyName}
use Rattle.sem_key.specs.MembershipTable.{MembershipTable, IsMembership, owner_at}
use Rattle.sem_key.proofs.Members.{Contains-nil, Contains-head, Contains-cons_cases, Contains-from_map, Contains-flat_map, Contains-from_flat_map, found}
use Rattle.sem_key.proofs.Members.{AllPairs-map}
use Rattle.sem_msg.specs.declared.setup.Offer.{Offer}
use Rattle.sem_msg.specs.declared.setup.Root.{Root}
use Rattle.sem_msg.specs.declared.setup.VpeDecl.{VpeDecl}
use Rattle.sem_msg.specs.declared.limits.TheConstants.{CALLS}
use Rattle.sem_msg.specs.Calls.{IsValidCall}
use Rattle.sem_msg.specs.Setup.{Setup, IsSetup, IsVpeDecl, IsRoot, IsOffer, ComesBefore, offer_place, root_key, services_from, declared_services}
use Rattle.sem_msg.specs.Lookups.{decl, calls_of, service_named}
use Rattle.sem_machine.specs.Journals.{root_keys, root_keys_from}
use Rattle.sem_safety.proofs.LiveWorlds.{sum-of_map}
use Rattle.sem_files.specs.Files.{Files, is_client}
use Rattle.sem_files.specs.Compiled.{SERVER, below, rising_clients, extents, service_root, root_of_extent, offer_of_extent, service_key, server, client}
use Rattle.sem_files.specs.Compiled.{client_calls, owner_of_pe, compiled, AreFiles}
use Rattle.sem_fs.specs.Service.{IsWholeExtent}
use Rattle.sem_fs.proofs.Rising.{all-of, clients-rise, client-near, declared-client, extents-rise, extent-near}

module _ (F : Files) where
  abbrev T : Setup
  T = compiled F

  abbrev vpes : List VpeDecl
  vpes = server F ∷ map (client F) (rising_clients F)

  pub vpes-are : (compiled F).vpes ≡ server F ∷ map (client F) (rising_clients F)
  unfolding compiled
  vpes-are = refl

  pub server-declared : decl (compiled F) SERVER ≡ Some (server F)
  unfolding compiled
  server-declared = refl

  pub server-rests-so : calls_of (compiled F) SERVER ≡ []
  unfolding compiled
  server-rests-so = refl

  pub service-served : service_named (compiled F) 0 ≡ Some (record { name = 0; key = service_key })
  unfolding compiled
  service-served = refl

  pub nothing-denied : (compiled F).denies ≡ []
  unfolding compiled
  nothing-denied = refl

  pub nobody-killed : (compiled F).kills ≡ []
  unfolding compiled
  nobody-killed = refl

  -- A VPE is the server or a client.
  pub vpe-cases : (d : VpeDecl) → Contains (compiled F).vpes d → (server F ≡ d) ⊎ ((v : ℕ) × Contains (rising_clients F) v × (client F v ≡ d))
  vpe-cases d among = elim (Contains-cons_cases (server F) (map (client F) (rising_clients F)) d (subst (λ ds. Contains ds d) vpes-are among)) [
    | inl same ↦ inl same
    | inr rest ↦ inr (Contains-from_map (client F) (rising_clients F) d rest)
  ]

  pub find-client : (vs : List ℕ) (v : ℕ) → Contains vs v → find (λ (d : VpeDecl). d.vpe == v) (map (client F) vs) ≡ Some (client F v)
  find-client [] v among = absurd (Contains-nil v among)
  find-client (u ∷ vs) v among = elim (cases_Bool (u == v)) [
    | inl same ↦ cond-true (u == v) (Some (client F u)) (find (λ (d : VpeDecl). d.vpe == v) (map (client F) vs)) same
        ∙ ap (λ w. Some (client F w)) (eqb-true u v same)
    | inr other ↦ elim (Contains-cons_cases u vs v among) [
      | inl same ↦ absurd (true≢false (sym (eq-eqb u v same) ∙ other))
      | inr rest ↦ cond-false (u == v) (Some (client F u)) (find (λ (d : VpeDecl). d.vpe == v) (map (client F) vs)) other ∙ find-client vs v rest
    ]
  ]

  -- the calls of a VPE are those of a declared client, or none
  pub calls-cases : (v : ℕ) → (calls_of (compiled F) v ≡ []) ⊎ (Contains (rising_clients F) v × (calls_of (compiled F) v ≡ client_calls F v))
  calls-cases v = from (decl (compiled F) v) refl
    where
      from : (o : Option VpeDecl) → decl (compiled F) v ≡ o → (calls_of (compiled F) v ≡ [])
          ⊎ (Contains (rising_clients F) v × (calls_of (compiled F) v ≡ client_calls F v))
      from None none = inl (ap (λ o. option_map_or (λ (d : VpeDecl). d.calls) o []) none)
      from (Some d) some =
          let there = found (λ (x : VpeDecl). x.vpe == v) (compiled F).vpes d some in
          elim (vpe-cases d there.0) [
            | inl same ↦ inl (ap (λ o. option_map_or (λ (x : VpeDecl). x.calls) o []) some ∙ ap (λ (x : VpeDecl). x.calls) (sym same))
            | inr (u, among, same) ↦
                let is : u ≡ v = ap (λ (x : VpeDecl). x.vpe) same ∙ eqb-true d.vpe v there.1 in
                inr (
                  subst (Contains (rising_clients F)) is among,
                  ap (λ o. option_map_or (λ (x : VpeDecl). x.calls) o []) some
                      ∙ (ap (λ (x : VpeDecl). x.calls) (sym same) ∙ ap (client_calls F) is),
                )
          ]

  -- Roots are the server's.

  keys-of : (d : VpeDecl) (n : ℕ) (rs : List Root) (k : KeyName) → Contains (root_keys_from d n rs) k → k.vpe ≡ d.vpe
  unfolding root_keys_from
  keys-of d n [] k among = absurd (Contains-nil k among)
  keys-of d n (r ∷ rs) k among = elim (Contains-cons_cases (root_key d n r) (root_keys_from d (n + 1) rs) k among) [
    | inl same ↦ ap (λ (q : KeyName). q.vpe) (sym same)
    | inr rest ↦ keys-of d (n + 1) rs k rest
  ]

  no-keys : (d : VpeDecl) (k : KeyName) → d.roots ≡ [] → Contains (root_keys_from d 0 d.roots) k → ⊥
  unfolding root_keys_from
  no-keys d k none among = Contains-nil k (subst (λ rs. Contains (root_keys_from d 0 rs) k) none among)

  pub roots-of-server : (k : KeyName) → Contains (root_keys (compiled F)) k → k.vpe ≡ SERVER
  roots-of-server k among =
      let o = Contains-from_flat_map (λ (d : VpeDecl). root_keys_from d 0 d.roots) (compiled F).vpes k among in
      elim (vpe-cases o.0 o.1) [
        | inl same ↦ keys-of o.0 0 o.0.roots k o.2 ∙ ap (λ (d : VpeDecl). d.vpe) (sym same)
        | inr (v, there, same) ↦ absurd (no-keys o.0 k (ap (λ (d : VpeDecl). d.roots) (sym same)) o.2)
      ]

  first-key : Contains (root_keys_from (server F) 0 (server F).roots) service_key
  unfolding root_keys_from
  first-key = Contains-head service_key (root_keys_from (server F) (0 + 1) (map root_of_extent (extents F)))

  pub service-root : Contains (root_keys (compiled F)) service_key
  service-root = Contains-flat_map (λ (d : VpeDecl). root_keys_from d 0 d.roots) (compiled F).vpes (server F) service_key
      (subst (λ ds. Contains ds (server F)) (sym vpes-are) (Contains-head (server F) (map (client F) (rising_clients F)))) first-key

  pub roots-whole : (d : VpeDecl) (r : Root) → Contains (compiled F).vpes d → Contains d.roots r → IsWholeExtent r.object
  roots-whole d r among root = elim (vpe-cases d among) [
    | inr (v, there, same) ↦ absurd (Contains-nil r (subst (λ (x : VpeDecl). Contains x.roots r) (sym same) root))
    | inl same ↦ elim (Contains-cons_cases service_root (map root_of_extent (extents F)) r (subst (λ (x : VpeDecl). Contains x.roots r) (sym same) root)) [
      | inl first ↦ subst (λ (x : Root). IsWholeExtent x.object) first tt
      | inr rest ↦ (let o = Contains-from_map root_of_extent (extents F) r rest in subst (λ (x : Root). IsWholeExtent x.object) o.2 (refl, refl))
    ]
  ]

  module _ (AF : AreFiles F) where
    pub client-declared : (v : ℕ) → Contains (rising_clients F) v → decl (compiled F) v ≡ Some (client F v)
    unfolding compiled
    client-declared v among =
        let near = client-near F AF v among in
        cond-false (SERVER == v) (Some (server F)) (find (λ (d : VpeDecl). d.vpe == v) (map (client F) (rising_clients F)))
        (ne_eqb SERVER v (λ same. absurd (positive v near.0 same)))
        ∙ find-client (rising_clients F) v among
      where
        positive : (v : ℕ) → 1 ≤ v → SERVER ≡ v → ⊥
        positive v low same = omega (arith, low, same)

    -- Who owns a PE.

    abbrev table : MembershipTable
    table = record { kernels = F.kernels; owners = map (owner_of_pe F) (below PES) }

    owner-in : (p : ℕ) → p < PES → owner_at table p ≡ owner_of_pe F p
    owner-in p small = get_or-map-range_with_len (owner_of_pe F) 0 PES p p None small (zero-add p)

    owner-past : (p : ℕ) → PES ≤ p → owner_at table p ≡ None
    owner-past p past = get_or_past (map (owner_of_pe F) (below PES)) p None (omega (arith, length-map-range_with_len (owner_of_pe F) 0 PES, past))

    owned : (p : ℕ) → p < PES → ((p == SERVER) || is_client F p) ≡ true → owner_at table p ≡ Some (p % F.kernels)
    owned p small is = owner-in p small ∙ cond-true ((p == SERVER) || is_client F p) (Some (p % F.kernels)) None is

    owned-only : (p kernel : ℕ) → owner_at table p ≡ Some kernel → (p < PES) × (((p == SERVER) || is_client F p) ≡ true) × (p % F.kernels ≡ kernel)
    owned-only p kernel some = elim (cases_lt p PES) [
      | inr past ↦ absurd (none-some kernel (sym (owner-past p past) ∙ some))
      | inl small ↦ elim (cases_Bool ((p == SERVER) || is_client F p)) [
        | inl is ↦ (small, is, same_Some (p % F.kernels) kernel (sym (owned p small is) ∙ some))
        | inr not_ ↦ absurd (none-some kernel (sym (owner-in p small ∙ cond-false ((p == SERVER) || is_client F p) (Some (p % F.kernels)) None not_) ∙ some))
      ]
    ]

    own-near : (p : ℕ) → ((p == SERVER) || is_client F p) ≡ true → p < 64
    own-near p is = from (p == SERVER) refl is
      where
        from : (b : Bool) → (p == SERVER) ≡ b → (b || is_client F p) ≡ true → p < 64
        from true same is' = let zero' = eqb-true p SERVER same in omega (arith, zero')
        from false other is' = let near = declared-client F AF p is' in omega (arith, near.1)

    membership-is : IsMembership table
    membership-is = record {
      some_kernel = AF.some_kernel;
      few_kernels = (let few = AF.few_kernels in omega (arith, few));
      all_pes = length-map-range_with_len (owner_of_pe F) 0 PES;
      owners_exist = λ p kernel some. let is = owned-only p kernel some in subst (λ n. n < F.kernels) is.2 (mod-lt p (positive F.kernels AF.some_kernel));
    }
      where
        positive : (n : ℕ) → 1 ≤ n → 0 < n
        positive n some = omega (arith, some)

    owned-near : (p : ℕ) → IsSome (owner_at table p) → p < 64
    owned-near p some = from (owner_at table p) refl some
      where
        from : (o : Option ℕ) → owner_at table p ≡ o → IsSome o → p < 64
        from None none some' = absurd (true≢false (sym some'))
        from (Some kernel) at some' = own-near p (owned-only p kernel at).1

    -- What is declared.

    selectors-differ : AllPairs (λ (a b : Root). a.sel ≢ b.sel) (server F).roots
    selectors-differ =
        AllPairs-cons (λ (a b : Root). a.sel ≢ b.sel) service_root (map root_of_extent (extents F))
        (all-of (λ (a b : Root). a.sel ≢ b.sel) (λ (b : Root). 0 ≢ b.sel) (map root_of_extent (extents F))
        (λ r among same. let o = Contains-from_map root_of_extent (extents F) r among in first o.0 (same ∙ ap (λ (x : Root). x.sel) (sym o.2))))
        (AllPairs-map (λ (a b : Root). a.sel ≢ b.sel) root_of_extent (extents F)
        (λ i j d less within same. apart (get_or (extents F) i d) (get_or (extents F) j d) (extents-rise F AF i j d less within) same))
      where
        first : (x : ℕ) → 0 ≡ 1 + x → ⊥
        first x same = omega (arith, same)

        apart : (x y : ℕ) → x < y → 1 + x ≡ 1 + y → ⊥
        apart x y less same = omega (arith, less, same)

    root-is : (x : ℕ) → x < 64 → IsRoot (root_of_extent x)
    root-is x near = record { selector = omega (arith, near); kind = tt; ranges = (omega (arith, near), omega arith, omega arith, omega (arith, near)) }

    roots-are : All IsRoot (server F).roots
    roots-are = All-cons IsRoot service_root (map root_of_extent (extents F)) (record { selector = omega arith; kind = tt; ranges = omega arith })
        (all-of (λ (a b : Root). Unit {0}) IsRoot (map root_of_extent (extents F))
        (λ r among. let o = Contains-from_map root_of_extent (extents F) r among in subst IsRoot o.2 (root-is o.0 (extent-near F AF o.0 o.1))))

    -- Services.

    no-services : (d : VpeDecl) (n : ℕ) (xs : List ℕ) → services_from d n (map root_of_extent xs) ≡ []
    unfolding services_from
    no-services d n [] = refl
    no-services d n (x ∷ xs) = no-services d (n + 1) xs

    client-services : (vs : List ℕ) → flat_map (λ (d : VpeDecl). services_from d 0 d.roots) (map (client F) vs) ≡ []
    unfolding services_from
    client-services [] = refl
    client-services (v ∷ vs) = client-services vs

    server-services : services_from (server F) 0 (server F).roots ≡ record { name = 0; key = service_key } ∷ []
    unfolding services_from
    server-services = ap (λ xs. record { name = 0; key = service_key } ∷ xs) (no-services (server F) (0 + 1) (extents F))

    services-are : declared_services (compiled F) ≡ record { name = 0; key = service_key } ∷ []
    services-are =
        ap (λ ds. flat_map (λ (d : VpeDecl). services_from d 0 d.roots) ds) vpes-are
        ∙ (ap (λ ss. ss ++ flat_map (λ (d : VpeDecl). services_from d 0 d.roots) (map (client F) (rising_clients F))) server-services
        ∙ ap (λ ss. (record { name = 0; key = service_key } ∷ []) ++ ss) (client-services (rising_clients F)))

    total-calls : sum_by (λ (d : VpeDecl). length d.calls) (server F ∷ map (client F) (rising_clients F))
        ≡ sum_by (λ v. length (client_calls F v)) (rising_clients F)
    total-calls =
        let cons' = sum_by-cons (λ (d : VpeDecl). length d.calls) (server F) (map (client F) (rising_clients F)) in
        let rest = sum-of_map (λ (d : VpeDecl). length d.calls) (client F) (rising_clients F) in
        plus (sum_by (λ (d : VpeDecl). length d.calls) (server F ∷ map (client F) (rising_clients F)))
        (sum_by (λ (d : VpeDecl). length d.calls) (map (client F) (rising_clients F))) (sum_by (λ v. length (client_calls F v)) (rising_clients F)) cons' rest
      where
        plus : (a b c : ℕ) → a ≡ 0 + b → b ≡ c → a ≡ c
        plus a b c one two = omega (arith, one, two)

    module _ (valid : (v : ℕ) → Contains (rising_clients F) v → All (IsValidCall 64) (client_calls F v)) where
      pub setup-is : IsSetup (compiled F)
      unfolding compiled
      setup-is = record {
        versioned = inl refl;
        windowed = (omega arith, omega arith);
        some_kernel = AF.some_kernel;
        few_kernels = AF.few_kernels;
        membership = membership-is;
        same_kernels = refl;
        owned_pes = λ p some. owned-near p some;
        vpes = all-of (λ (a b : VpeDecl). Unit {0}) (IsVpeDecl (compiled F)) vpes (λ d among. elim (vpe-cases d among) [
          | inl same ↦ subst (IsVpeDecl (compiled F)) same (record {
            vpe = omega arith;
            pe = omega arith;
            owned = ap is_some (owned SERVER (omega arith) refl);
            selectors_differ = selectors-differ;
            roots = roots-are;
            calls = All-nil (IsValidCall 64);
          })
          | inr (v, there, same) ↦
              let near = client-near F AF v there in
              subst (IsVpeDecl (compiled F)) same (record {
                vpe = near-so v near.1;
                pe = near-so v near.1;
                owned = ap is_some (owned v (far-so v near.1) (or-right (v == SERVER) (is_client F v) near.2));
                selectors_differ = λ i j d less within. absurd (omega (arith, within));
                roots = All-nil IsRoot;
                calls = valid v there;
              })
        ]);
        vpes_rise =
            AllPairs-cons (λ (a b : VpeDecl). a.vpe < b.vpe) (server F) (map (client F) (rising_clients F))
            (all-of (λ (a b : VpeDecl). a.vpe < b.vpe) (λ (b : VpeDecl). 0 < b.vpe) (map (client F) (rising_clients F))
            (λ d among. let o = Contains-from_map (client F) (rising_clients F) d among in
            subst (λ (x : VpeDecl). 0 < x.vpe) o.2 (positive-so o.0 (client-near F AF o.0 o.1).0)))
            (AllPairs-map (λ (a b : VpeDecl). a.vpe < b.vpe) (client F) (rising_clients F) (clients-rise F AF));
        pes_differ =
            AllPairs-cons (λ (a b : VpeDecl). a.pe ≢ b.pe) (server F) (map (client F) (rising_clients F))
            (all-of (λ (a b : VpeDecl). a.pe ≢ b.pe) (λ (b : VpeDecl). 0 ≢ b.pe) (map (client F) (rising_clients F))
            (λ d among same. let o = Contains-from_map (client F) (rising_clients F) d among in
            differs 0 o.0 (positive-so o.0 (client-near F AF o.0 o.1).0) (same ∙ ap (λ (x : VpeDecl). x.pe) (sym o.2))))
            (AllPairs-map (λ (a b : VpeDecl). a.pe ≢ b.pe) (client F) (rising_clients F)
            (λ i j d less within same. differs (get_or (rising_clients F) i d) (get_or (rising_clients F) j d) (clients-rise F AF i j d less within) same));
        services_rise = λ i j d less within. absurd (omega (arith, less, within));
        services = λ s. ((λ there. subst (λ ss. Contains ss s) (sym services-are) there), (λ there. subst (λ ss. Contains ss s) services-are there));
        offers = all-of (λ (a b : Offer). Unit {0}) (IsOffer (compiled F)) (map offer_of_extent (extents F)) (λ o among.
            let x = Contains-from_map offer_of_extent (extents F) o among in
            let near = extent-near F AF x.0 x.1 in
            subst (IsOffer (compiled F)) x.2
            (record {
              index = index-so x.0 near;
              selector = selector-so x.0 near;
              declared =
                  (0, record { name = 0; key = service_key }, omega arith, refl, refl);
            }));
        offers_rise = AllPairs-map (λ (a b : Offer). ComesBefore (offer_place a) (offer_place b)) offer_of_extent (extents F)
            (λ i j d less within. inr (refl, extents-rise F AF i j d less within));
        denies = λ k d within. absurd (omega (arith, within));
        denies_rise = λ i j d less within. absurd (omega (arith, within));
        kills = λ k d within. absurd (omega (arith, within));
        kills_rise = λ i j d less within. absurd (omega (arith, within));
        few_calls = subst (λ n. n ≤ CALLS) (sym total-calls) AF.few_calls;
      }
        where
          near-so : (v : ℕ) → v ≤ 63 → v < 64
          near-so v near = omega (arith, near)

          far-so : (v : ℕ) → v ≤ 63 → v < PES
          far-so v near = omega (arith, near)

          positive-so : (v : ℕ) → 1 ≤ v → 0 < v
          positive-so v low = omega (arith, low)

          differs : (a b : ℕ) → a < b → a ≡ b → ⊥
          differs a b less same = omega (arith, less, same)

          index-so : (x : ℕ) → x < 64 → x ≤ 255
          index-so x near = omega (arith, near)

          selector-so : (x : ℕ) → x < 64 → 1 + x < 256
          selector-so x near = omega (arith, near)

          or-right : (a b : Bool) → b ≡ true → (a || b) ≡ true
          or-right true b is = refl
          or-right false b is = is
