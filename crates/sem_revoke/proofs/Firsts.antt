-- At the start each root is held by the kernel of its VPE.
use Rattle.std.proofs.Common.{◌≡◌, ℕ, ◌+◌, ◌≤◌, ◌<◌, not, List, [], ◌∷◌, zero, suc, map, get_or, None, refl, sym, ap, ◌∙◌, subst, inl, inr, arith, eq-eqb}
use Rattle.std.specs.Prelude.{◌==◌}
use Rattle.std.specs.List.{All, Contains, filter, sum_by, range_with_len}
use Rattle.std.proofs.lemmas.Bool.{cases_Bool, cond-true, cond-false}
use Rattle.std.proofs.lemmas.List.Elements.{All-contains, All-head, All-tail}
use Rattle.std.proofs.lemmas.List.FromFn.{get_or-map-range_with_len}
use Rattle.std.proofs.lemmas.List.Sums.{sum_by-cons, sum_by-append}
use Rattle.sem_key.specs.KeyName.{KeyName, IsValidKey, key_eq, key_lt}
use Rattle.sem_key.specs.Lists.{in_turn}
use Rattle.sem_key.specs.MembershipTable.{owner_at}
use Rattle.sem_key.specs.Capability.{Capability}
use Rattle.sem_msg.specs.declared.setup.Root.{Root}
use Rattle.sem_msg.specs.declared.setup.VpeDecl.{VpeDecl}
use Rattle.sem_msg.specs.Rows.{VpeRow}
use Rattle.sem_msg.specs.Setup.{Setup, IsSetup, IsVpeDecl, root_key}
use Rattle.sem_msg.specs.Lookups.{pe_owner}
use Rattle.sem_machine.specs.Sides.{Side, no_side, row}
use Rattle.sem_machine.specs.Machine.{side, start, start_side, empty_side, root_added, vpe_added, vpe_fresh}
use Rattle.sem_msg.specs.VpeRows.{new_vpe}
use Rattle.sem_machine.specs.Journals.{root_keys, root_keys_from}
use Rattle.sem_key.proofs.KeyTests.{key_eq-from, key_eq-true}
use Rattle.sem_key.proofs.Members.{Contains-nil, Contains-cons_cases, Contains-filter, Contains-from_flat_map}
use Rattle.sem_safety.proofs.FirstCaps.{begun}
use Rattle.sem_machine.proofs.FirstNumbers.{with_row-same, root-next, owner-is}
use Rattle.sem_machine.proofs.Weighing.{weigh-parts}
use Rattle.sem_safety.proofs.Lives.{all_held, at_key, at_cap}

module _ (k0 : KeyName) where
  abbrev pub weight : Side → ℕ
  weight s = sum_by (at_cap k0 all_held) s.caps

  root-weighs : (d : VpeDecl) (r : Root) (s : Side) → weight (root_added d r s) ≡ weight s + at_key k0 (root_key d (row s d.vpe).next_number r)
  root-weighs d r s =
      let k : KeyName = root_key d (row s d.vpe).next_number r in
      let c : Capability = record { key = k; parent = None; children = []; mark = None; selector = r.sel; object = r.object } in
      let parts = weigh-parts (at_cap k0 all_held) (λ x. key_lt x.key c.key) s.caps in
      let joined = sum_by-append (at_cap k0 all_held) (filter (λ x. key_lt x.key c.key) s.caps) (c ∷ filter (λ x. not (key_lt x.key c.key)) s.caps) in
      let first = sum_by-cons (at_cap k0 all_held) c (filter (λ x. not (key_lt x.key c.key)) s.caps) in
      omega (arith, parts, joined, first)

  roots-more : (d : VpeDecl) (rs : List Root) (s : Side) → weight s ≤ weight (in_turn (root_added d) rs s)
  unfolding in_turn
  roots-more d [] s = omega arith
  roots-more d (r ∷ rs) s = let one = root-weighs d r s in let rest = roots-more d rs (root_added d r s) in omega (arith, one, rest)

  roots-held : (d : VpeDecl) (rs : List Root) (n : ℕ) (s : Side) → (row s d.vpe).next_number ≡ n → Contains (root_keys_from d n rs) k0 →
      1 ≤ weight (in_turn (root_added d) rs s)
  unfolding in_turn root_keys_from
  roots-held d [] n s number among = absurd (Contains-nil k0 among)
  roots-held d (r ∷ rs) n s number among = elim (Contains-cons_cases (root_key d n r) (root_keys_from d (n + 1) rs) k0 among) [
    | inl same ↦
        let key : root_key d (row s d.vpe).next_number r ≡ k0 = ap (λ m. root_key d m r) number ∙ same in
        let weighs = root-weighs d r s in
        let one : at_key k0 (root_key d (row s d.vpe).next_number r) ≡ 1 =
        cond-true (key_eq (root_key d (row s d.vpe).next_number r) k0) 1 0 (key_eq-from (root_key d (row s d.vpe).next_number r) k0 key) in
        let rest = roots-more d rs (root_added d r s) in
        omega (arith, weighs, one, rest)
    | inr later ↦ roots-held d rs (n + 1) (root_added d r s) (root-next d r s ∙ ap (λ m. m + 1) number) later
  ]

  vpe-held : (d : VpeDecl) (s : Side) → Contains (root_keys_from d 0 d.roots) k0 → 1 ≤ weight (vpe_added d s)
  vpe-held d s among = roots-held d d.roots 0 (vpe_fresh d s) (ap (λ (x : VpeRow). x.next_number) (with_row-same d.vpe (λ v. new_vpe) s)) among

  vpe-more : (d : VpeDecl) (s : Side) → weight s ≤ weight (vpe_added d s)
  vpe-more d s = roots-more d d.roots (vpe_fresh d s)

  vpes-more : (ds : List VpeDecl) (s : Side) → weight s ≤ weight (in_turn vpe_added ds s)
  unfolding in_turn
  vpes-more [] s = omega arith
  vpes-more (d ∷ ds) s = let one = vpe-more d s in let rest = vpes-more ds (vpe_added d s) in omega (arith, one, rest)

  vpes-held : (ds : List VpeDecl) (d : VpeDecl) (s : Side) → Contains ds d → Contains (root_keys_from d 0 d.roots) k0 → 1 ≤ weight (in_turn vpe_added ds s)
  unfolding in_turn
  vpes-held [] d s within among = absurd (Contains-nil d within)
  vpes-held (x ∷ xs) d s within among = elim (Contains-cons_cases x xs d within) [
    | inl same ↦ let one = vpe-held x s (subst (λ (y : VpeDecl). Contains (root_keys_from y 0 y.roots) k0) (sym same) among) in
        let rest = vpes-more xs (vpe_added x s) in omega (arith, one, rest)
    | inr rest ↦ vpes-held xs d (vpe_added x s) rest among
  ]

  pub root-held : (T : Setup) → IsSetup T → Contains (root_keys T) k0 → (i : ℕ) × (1 ≤ weight (side (start T) i))
  unfolding start start_side
  root-held T valid root =
      let from = Contains-from_flat_map (λ (d : VpeDecl). root_keys_from d 0 d.roots) T.vpes k0 root in
      by_decl from.0 from.1 from.2
    where
      by_decl : (d : VpeDecl) → Contains T.vpes d → Contains (root_keys_from d 0 d.roots) k0 → (i : ℕ) × (1 ≤ weight (side (start T) i))
      by_decl d among root =
          let i : ℕ = pe_owner T d.pe in
          let declared : IsVpeDecl T d = All-contains (IsVpeDecl T) T.vpes d valid.vpes among in
          let few : i < T.kernels =
          owner-is T.kernels (owner_at T.owners d.pe) declared.owned
          (λ j there. subst (λ n. j < n) valid.same_kernels (valid.membership.owners_exist d.pe j there)) in
          let at : side (start T) i ≡ start_side T i = get_or-map-range_with_len (start_side T) 0 T.kernels i i no_side few (omega arith) in
          let held : 1 ≤ weight (start_side T i) = vpes-held (filter (λ (x : VpeDecl). pe_owner T x.pe == i) T.vpes) d (empty_side T)
          (Contains-filter (λ (x : VpeDecl). pe_owner T x.pe == i) T.vpes d among (eq-eqb i i refl)) root in
          (i, subst (λ (s : Side). 1 ≤ weight s) (sym at) held)

  -- so it is valid
  pub started-valid : (T : Setup) → IsSetup T → Contains (root_keys T) k0 → IsValidKey k0
  unfolding start
  started-valid T valid root =
      let at = root-held T valid root in
      by (range_with_len 0 T.kernels) at.0 at.1
    where
      one : (cs : List Capability) → All (λ (c : Capability). IsValidKey c.key) cs → 1 ≤ sum_by (at_cap k0 all_held) cs → IsValidKey k0
      one [] all some = absurd (omega (arith, some))
      one (c ∷ cs) all some = elim (cases_Bool (key_eq c.key k0)) [
        | inl same ↦ subst IsValidKey (key_eq-true c.key k0 same) (All-head (λ (c : Capability). IsValidKey c.key) c cs all)
        | inr differ ↦
            let none : at_cap k0 all_held c ≡ 0 = cond-false (key_eq c.key k0) 1 0 differ in
            let sum = sum_by-cons (at_cap k0 all_held) c cs in
            one cs (All-tail (λ (c : Capability). IsValidKey c.key) c cs all) (omega (arith, some, none, sum))
      ]

      by : (is : List ℕ) (i : ℕ) → 1 ≤ weight (get_or (map (start_side T) is) i no_side) → IsValidKey k0
      by [] i some = absurd (omega (arith, some))
      by (n ∷ ns) zero some = one (start_side T n).caps (begun T n valid).1 some
      by (n ∷ ns) (suc i) some = by ns i some
