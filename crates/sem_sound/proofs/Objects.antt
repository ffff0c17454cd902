-- Objects that calls make, and keys that the setup names, are sound.
use Rattle.sem_msg.proofs.Declared.{most_vpes-le}
use Rattle.sem_msg.specs.declared.limits.TheConstants.{SELECTORS}
use Rattle.sem_key.specs.declared.limits.TheConstants.{VPES}
use Rattle.std.proofs.Common.{◌≡◌, ◌≢◌, ℕ, suc, ◌+◌, ◌<◌, ◌≤◌, ◌%◌, true, false, eqb, List, [], ◌∷◌, length, map, get_or, Option, Some, None, refl, sym, ap}
use Rattle.std.proofs.Common.{subst, ◌∙◌, inl, inr, arith, eq-eqb}
use Rattle.std.specs.Prelude.{◌==◌, nat_lt}
use Rattle.std.specs.List.{All, AllPairs, Contains, list_any}
use Rattle.std.specs.Option.{option_map_or}
use Rattle.std.proofs.lemmas.Bool.{cases_Bool, or_parts, eqb-true, ltb-false}
use Rattle.std.proofs.lemmas.Bool.Decides.{Decides-eqb}
use Rattle.std.proofs.lemmas.List.{get_or-map, length-map}
use Rattle.std.proofs.lemmas.List.Elements.{All-contains, Contains-append_cases}
use Rattle.std.proofs.lemmas.Map.Made.{IsDistinct-from_AllPairs}
use Rattle.std.proofs.lemmas.Map.Steps.{length-le_from_distinct_below}
use Rattle.sem_key.specs.declared.key.Kind.TheVariants.{Mem as MemKind, Recv as RecvKind, Serv as ServKind}
use Rattle.sem_key.specs.declared.object.Object.{Object}
use Rattle.sem_key.specs.declared.object.Object.TheVariants.{Mem, Recv, Send, Serv, Sess}
use Rattle.sem_key.specs.KeyName.{KeyName}
use Rattle.sem_key.specs.ObjectRanges.{object_kind}
use Rattle.sem_msg.specs.declared.setup.Root.{Root}
use Rattle.sem_msg.specs.declared.setup.Service.{Service}
use Rattle.sem_msg.specs.declared.setup.VpeDecl.{VpeDecl}
use Rattle.sem_msg.specs.Message.{IsDelegable, IsServiceKey}
use Rattle.sem_msg.specs.Calls.{IsWord}
use Rattle.sem_msg.specs.Setup.{Setup, IsSetup, IsVpeDecl, IsRoot, root_key, service_with, services_from}
use Rattle.sem_msg.specs.Lookups.{decl, is_declared, is_declared_at, kernel_of, pe_owner}
use Rattle.sem_machine.specs.Sound.{IsSoundObject}
use Rattle.sem_machine.specs.Calls.{is_of, stays_at_home, is_wider, narrowed}
use Rattle.sem_key.proofs.Members.{found, not_found, list_any-some, Contains-nil, Contains-cons_cases, Contains-from_flat_map}
use Rattle.sem_machine.proofs.FirstNumbers.{find-decl}
use Rattle.sem_sound.proofs.Named.{decl-owner}

-- what is not a service and no session may be delegated
pub delegable : (o : Object) → stays_at_home o ≡ false → IsDelegable (object_kind o)
delegable (Mem base len rights) home = tt
delegable (Recv slots) home = tt
delegable (Send gate label credits) home = tt
delegable (Serv name) home = absurd cc
delegable (Sess service ident) home = absurd cc

pub recv-kind : (o : Object) → is_of RecvKind o ≡ true → object_kind o ≡ RecvKind
recv-kind (Mem base len rights) test = absurd cc
recv-kind (Recv slots) test = refl
recv-kind (Send gate label credits) test = absurd cc
recv-kind (Serv name) test = absurd cc
recv-kind (Sess service ident) test = absurd cc

-- a derived range is a range
pub narrowed-sound : (T : Setup) (off len rights : ℕ) (o : Object) → IsSoundObject T o → is_of MemKind o ≡ true → is_wider off len rights o ≡ false →
    IsWord off → IsWord len → rights ≤ 7 → IsSoundObject T (narrowed off len rights o)
narrowed-sound T off len rights (Mem base size rights') sound mem narrow small_off small_len small_rights =
    let fits : off + len ≤ size = ltb-false size (off + len) (or_parts (nat_lt size (off + len)) _ narrow).0 in
    let ends : base + size ≤ 4294967296 = sound.0.3 in
    let low : base ≤ 4294967295 = sound.0.0 in
    let start : ((base + off) % 4294967296 ≤ 4294967295) × ((base + off) % 4294967296 + len ≤ 4294967296) = (omega arith, omega (arith, fits, ends)) in
    ((start.0, small_len, small_rights, start.1), tt)
narrowed-sound T off len rights (Recv slots) sound mem narrow small_off small_len small_rights = absurd cc
narrowed-sound T off len rights (Send gate label credits) sound mem narrow small_off small_len small_rights = absurd cc
narrowed-sound T off len rights (Serv name) sound mem narrow small_off small_len small_rights = absurd cc
narrowed-sound T off len rights (Sess service ident) sound mem narrow small_off small_len small_rights = absurd cc

-- Roots are at most as many as there are selectors.

get_map : (roots : List Root) (k : ℕ) (d : Root) (e : ℕ) → k < length roots → get_or (map (λ (r : Root). r.sel) roots) k e ≡ (get_or roots k d).sel
get_map roots k d e within = get_or-map (λ (r : Root). r.sel) roots k d e within

selectors_differ : (roots : List Root) → AllPairs (λ (a b : Root). a.sel ≢ b.sel) roots → AllPairs (λ (x y : ℕ). x ≢ y) (map (λ (r : Root). r.sel) roots)
selectors_differ [] differ k j e lt within = absurd (omega arith)
selectors_differ (r ∷ rs) differ k j e lt within =
    let long = length-map (r ∷ rs) (λ (x : Root). x.sel) in
    rw (get_map (r ∷ rs) k r e (omega arith), get_map (r ∷ rs) j r e (omega arith)) (differ k j r lt (omega arith))

selectors_small : (roots : List Root) → All IsRoot roots → (q : ℕ) → list_any (eqb q) (map (λ (r : Root). r.sel) roots) ≡ true → q < SELECTORS
selectors_small [] all q some = absurd cc
selectors_small (r ∷ rs) all q some = elim (cases_Bool (eqb q r.sel)) [
  | inl same ↦ let is : q ≡ r.sel = eqb-true q r.sel same in let small : r.sel < SELECTORS = (all 0 r (omega arith)).selector in omega (arith, is, small)
  | inr other ↦ let rest : list_any (eqb q) (map (λ (x : Root). x.sel) rs) ≡ true = rw other at some in
      selectors_small rs (λ k d lt. all (suc k) d (omega arith)) q rest
]

pub few-roots : (roots : List Root) → All IsRoot roots → AllPairs (λ (a b : Root). a.sel ≢ b.sel) roots → length roots ≤ SELECTORS
few-roots roots all differ =
    let sels : List ℕ = map (λ (r : Root). r.sel) roots in
    rw (length-map roots (λ (r : Root). r.sel)) at
    (length-le_from_distinct_below sels SELECTORS (IsDistinct-from_AllPairs Decides-eqb sels (selectors_differ roots differ)) (selectors_small roots all))

-- Services.

-- a service among roots has the key of a root, of the kind of services
service-of : (d : VpeDecl) (rs : List Root) (n : ℕ) (s : Service) → Contains (services_from d n rs) s → (s.key.pe ≡ d.pe) × (s.key.vpe ≡ d.vpe)
    × (s.key.kind ≡ ServKind) × (s.key.number < n + length rs)
unfolding services_from
service-of d [] n s among = absurd (Contains-nil s among)
service-of d (r ∷ rs) n s among = elim (Contains-append_cases (service_with r.object (root_key d n r)) (services_from d (n + 1) rs) s among) [
  | inl here ↦ one r here
  | inr rest ↦ let later = service-of d rs (n + 1) s rest in let below = later.3 in (later.0, later.1, later.2, omega (arith, below))
]
  where
    of_key : (name : ℕ) (k : KeyName) → Contains (record { name = name; key = k } ∷ []) s → s.key ≡ k
    of_key name k in_one = elim (Contains-cons_cases (record { name = name; key = k }) [] s in_one) [
      | inl same ↦ ap (λ (x : Service). x.key) (sym same)
      | inr none ↦ absurd (Contains-nil s none)
    ]

    by_object : (o : Object) → Contains (service_with o (record { pe = d.pe; vpe = d.vpe; kind = object_kind o; number = n })) s →
        (s.key.pe ≡ d.pe) × (s.key.vpe ≡ d.vpe) × (s.key.kind ≡ ServKind) × (s.key.number < n + length (r ∷ rs))
    by_object (Mem base len rights) in_one = absurd (Contains-nil s in_one)
    by_object (Recv slots) in_one = absurd (Contains-nil s in_one)
    by_object (Send gate label credits) in_one = absurd (Contains-nil s in_one)
    by_object (Sess service ident) in_one = absurd (Contains-nil s in_one)
    by_object (Serv name) in_one =
        let key = of_key name (record { pe = d.pe; vpe = d.vpe; kind = ServKind; number = n }) in_one in
        let number : s.key.number ≡ n = ap (λ (k : KeyName). k.number) key in
        (ap (λ (k : KeyName). k.pe) key, ap (λ (k : KeyName). k.vpe) key, ap (λ (k : KeyName). k.kind) key, omega (arith, number))

    one : (x : Root) → Contains (service_with x.object (root_key d n x)) s → (s.key.pe ≡ d.pe) × (s.key.vpe ≡ d.vpe) × (s.key.kind ≡ ServKind)
        × (s.key.number < n + length (r ∷ rs))
    one x in_one = by_object x.object in_one

module _ (T : Setup) (valid : IsSetup T) where
  -- the kernel of a declared VPE is a kernel, and the VPE has a place
  pub declared-vpe : (v : ℕ) → is_declared T v ≡ true → (kernel_of T v < T.kernels) × (v < VPES)
  declared-vpe v declared = from (decl T v) refl
    where
      some : (d : VpeDecl) × Contains T.vpes d × ((d.vpe == v) ≡ true)
      some = list_any-some (λ (d : VpeDecl). d.vpe == v) T.vpes declared

      from : (o : Option VpeDecl) → decl T v ≡ o → (option_map_or (λ d. pe_owner T d.pe) o T.kernels < T.kernels) × (v < VPES)
      from None none = let fails = not_found (λ (d : VpeDecl). d.vpe == v) T.vpes some.0 none some.1 in absurd (clash (sym fails ∙ some.2))
        where
          clash : false ≡ true → ⊥
          clash no' = cc
      from (Some d) there =
          let at = found (λ (x : VpeDecl). x.vpe == v) T.vpes d there in
          let declared' : IsVpeDecl T d = All-contains (IsVpeDecl T) T.vpes d valid.vpes at.0 in
          let few = declared'.vpe in
          let most = most_vpes-le T.version in
          let same = eqb-true d.vpe v at.1 in
          (decl-owner T valid d at.0, omega (arith, few, most, same))

  -- a declared VPE is declared at its PE
  pub decl-at : (d : VpeDecl) → Contains T.vpes d → is_declared_at T d.pe d.vpe ≡ true
  decl-at d among = ap (λ (o : Option VpeDecl). option_map_or (λ x. x.pe == d.pe) o false) (find-decl T.vpes d valid.vpes_rise among) ∙ eq-eqb d.pe d.pe refl

  -- the key of a service of the setup
  pub service-named : (s : Service) → Contains T.services s → IsServiceKey s.key × (is_declared_at T s.key.pe s.key.vpe ≡ true)
  service-named s among =
      let o = Contains-from_flat_map (λ (d : VpeDecl). services_from d 0 d.roots) T.vpes s ((valid.services s).0 among) in
      let d : VpeDecl = o.0 in
      let declared : IsVpeDecl T d = All-contains (IsVpeDecl T) T.vpes d valid.vpes o.1 in
      let at = service-of d d.roots 0 s o.2 in
      let few = few-roots d.roots declared.roots declared.selectors_differ in
      let most = most_vpes-le T.version in
      let pe_small = declared.pe in
      let vpe_small = declared.vpe in
      let pe = at.0 in
      let vpe = at.1 in
      let number = at.3 in (
        ((omega (arith, pe_small, most, pe), omega (arith, vpe_small, most, vpe), omega (arith, few, number)), at.2),
        subst (λ v. is_declared_at T s.key.pe v ≡ true) (sym vpe) (subst (λ p. is_declared_at T p d.vpe ≡ true) (sym pe) (decl-at d o.1)),
      )
