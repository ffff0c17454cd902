-- What a kernel holds at the start: the roots of its VPEs.
use Rattle.std.proofs.Common.{◌≡◌, ◌≢◌, ℕ, zero, suc, ◌<◌, ◌≤◌, ◌+◌, Bool, eqb, true, not, List, [], ◌∷◌, length, map, replicate, get_or, Option, None, refl}
use Rattle.std.proofs.Common.{sym, ◌∙◌, ap, subst, inl, inr, arith, eq-eqb}
use Rattle.std.specs.Prelude.{◌==◌}
use Rattle.std.specs.List.{All, AllPairs, Contains, filter, list_any}
use Rattle.std.specs.Option.{option_map_or, IsSome}
use Rattle.std.proofs.lemmas.Bool.{cases_Bool, eqb-true, false_from_ne_true}
use Rattle.std.proofs.lemmas.Bool.Decides.{Decides-eqb}
use Rattle.std.proofs.lemmas.List.{length-map}
use Rattle.std.proofs.lemmas.List.Elements.{All-append, All-cons, All-contains, All-filter, All-head, All-map, All-nil, All-tail}
use Rattle.std.proofs.lemmas.List.FromFn.{get_or-map-range_with_len}
use Rattle.std.proofs.lemmas.List.Kept.{AllPairs-filter}
use Rattle.std.proofs.lemmas.Map.Made.{IsDistinct-from_AllPairs}
use Rattle.std.proofs.lemmas.Map.Steps.{length-le_from_distinct_below}
use Rattle.sem_key.specs.KeyName.{KeyName, IsValidKey, key_eq, key_lt}
use Rattle.sem_key.specs.KeyList.{IsRising}
use Rattle.sem_key.specs.Lists.{in_turn}
use Rattle.sem_key.specs.Capability.{Capability}
use Rattle.sem_key.specs.CapList.{with_cap}
use Rattle.sem_msg.specs.declared.setup.Root.{Root}
use Rattle.sem_msg.specs.declared.setup.VpeDecl.{VpeDecl}
use Rattle.sem_msg.specs.Rows.{VpeRow}
use Rattle.sem_msg.specs.Setup.{Setup, IsSetup, IsVpeDecl, root_key}
use Rattle.sem_msg.specs.Lookups.{pe_owner, kernel_of}
use Rattle.sem_machine.specs.Sides.{Side, no_side, row, cap}
use Rattle.sem_msg.specs.VpeRows.{new_vpe}
use Rattle.sem_machine.specs.Machine.{side, start, start_side, empty_side, root_added, vpe_added, vpe_fresh}
use Rattle.sem_machine.specs.Journals.{root_keys_from, root_keys}
use Rattle.sem_key.proofs.Members.{AllPairs-map, Contains-nil, Contains-cons_cases, Contains-filter, Contains-from_flat_map, find_none, list_any-some}
use Rattle.sem_key.proofs.KeyTests.{key_eq-true, key_eq-from}
use Rattle.sem_key.proofs.Finds.{held, held-with_cap_same, held-with_cap_other, with_cap-rises}
use Rattle.sem_msg.proofs.Declared.{most_vpes-le}
use Rattle.sem_machine.proofs.FirstNumbers.{with_row-same, root-next, find-decl, owner-is}

-- a capability that nothing was made from, that was made from nothing and that nobody revokes
pub record IsFirst (c : Capability) : Type 0 where
  pub unmarked : c.mark ≡ None
  pub childless : c.children ≡ []
  pub parentless : c.parent ≡ None

-- the capability that a root becomes under a number
abbrev root_cap : VpeDecl → ℕ → Root → Capability
root_cap d n r = record { key = root_key d n r; parent = None; children = []; mark = None; selector = r.sel; object = r.object }

-- the next number of a VPE
abbrev next : Side → ℕ → ℕ
next s v = (row s v).next_number

-- the side with an empty place for the VPE
abbrev opened : VpeDecl → Side → Side
opened d s = vpe_fresh d s

-- no number was drawn there
opened-next : (d : VpeDecl) (s : Side) → next (opened d s) d.vpe ≡ 0
opened-next d s = ap (λ (v : VpeRow). v.next_number) (with_row-same d.vpe (λ v. new_vpe) s)

-- a VPE comes before another
abbrev Before : VpeDecl → VpeDecl → Type 0
Before a b = a.vpe < b.vpe

-- whether a kernel has a VPE
abbrev is_of : Setup → ℕ → VpeDecl → Bool
is_of T i d = pe_owner T d.pe == i

-- the first of a list, of which all pairs are so, and the others
AllPairs-parts : {X : Type 0} (S : X → X → Type 0) (x : X) (xs : List X) → AllPairs S (x ∷ xs) → All (S x) xs × AllPairs S xs
AllPairs-parts S x xs pairs = (
  λ k d within. pairs zero (suc k) d (omega arith) (omega arith),
  λ i j d lt within. pairs (suc i) (suc j) d (omega arith) (omega arith),
)

-- what each turn keeps, all turns keep
in_turn-keeps : {X S : Type 0} (I : S → Type 0) (f : X → S → S) (xs : List X) (s : S) → ((x : X) (s : S) → I s → I (f x s)) → I s → I (in_turn f xs s)
unfolding in_turn
in_turn-keeps I f [] s keeps is = is
in_turn-keeps I f (x ∷ xs) s keeps is = in_turn-keeps I f xs (f x s) keeps (keeps x s is)

-- A fact that each root has, and so each capability that is held.

module _ (P : Capability → Type 0) where
  with_cap-all : (cs : List Capability) (c : Capability) → All P cs → P c → All P (with_cap cs c)
  with_cap-all cs c all here = All-append P (filter (λ x. key_lt x.key c.key) cs) (c ∷ filter (λ x. not (key_lt x.key c.key)) cs)
      (All-filter (λ x. key_lt x.key c.key) P cs all)
      (All-cons P c (filter (λ x. not (key_lt x.key c.key)) cs) here (All-filter (λ x. not (key_lt x.key c.key)) P cs all))

  vpe-all : (d : VpeDecl) (s : Side) → ((n : ℕ) (r : Root) → P (root_cap d n r)) → All P s.caps → All P (vpe_added d s).caps
  vpe-all d s each all = in_turn-keeps (λ (t : Side). All P t.caps) (root_added d) d.roots (opened d s)
      (λ r t held. with_cap-all t.caps (root_cap d (next t d.vpe) r) held (each (next t d.vpe) r)) all

-- at the start nothing was made from anything, and nobody revokes
pub first-bare : (T : Setup) (i : ℕ) → All IsFirst (start_side T i).caps
unfolding start_side
first-bare T i = in_turn-keeps (λ (t : Side). All IsFirst t.caps) vpe_added (filter (is_of T i) T.vpes) (empty_side T)
    (λ d t held. vpe-all IsFirst d t (λ n r. record { unmarked = refl; childless = refl; parentless = refl }) held) (All-nil IsFirst)

-- The order of the keys.

-- the keys rise and are valid
abbrev pub IsBegun : Side → Type 0
IsBegun s = IsRising (map (λ (c : Capability). c.key) s.caps) × All (λ (c : Capability). IsValidKey c.key) s.caps

-- a root that is added is new, since those that its VPE has are numbered below it
roots-begun : (d : VpeDecl) (rs : List Root) (n : ℕ) (s : Side) → d.pe < 128 → d.vpe < 128 → n + length rs ≤ 4096 → next s d.vpe ≡ n →
    All (λ (c : Capability). c.key.vpe ≡ d.vpe → c.key.number < n) s.caps → IsBegun s → IsBegun (in_turn (root_added d) rs s)
unfolding in_turn
roots-begun d [] n s pe vpe room number below is = is
roots-begun d (r ∷ rs) n s pe vpe room number below (rises, valid) =
    let c : Capability = root_cap d (next s d.vpe) r in
    let known : IsValidKey c.key = (pe, vpe, omega (arith, room, number)) in
    let absent : (x : Capability) → Contains s.caps x → x.key ≡ c.key → ⊥ = λ x among same. let old = All-contains (λ (y : Capability). y.key.vpe ≡ d.vpe →
    y.key.number < n) s.caps x below among (ap (λ (q : KeyName). q.vpe) same) in
    let new : x.key.number ≡ next s d.vpe = ap (λ (q : KeyName). q.number) same in omega (arith, old, new, number) in
    let none = find_none (λ x. key_eq x.key c.key) s.caps
    (λ x among. false_from_ne_true (key_eq x.key c.key) (λ same. absent x among (key_eq-true x.key c.key same))) in
    roots-begun d rs (n + 1) (root_added d r s) pe vpe (omega (arith, room)) (root-next d r s ∙ ap (λ m. m + 1) number)
    (with_cap-all (λ (x : Capability). x.key.vpe ≡ d.vpe → x.key.number < n + 1) s.caps c (λ k e within same. let old = below k e within same in
    omega (arith, old)) (λ same. omega (arith, number))) (
      with_cap-rises s.caps c rises (All-map IsValidKey (λ (x : Capability). x.key) s.caps valid) known none,
      with_cap-all (λ (x : Capability). IsValidKey x.key) s.caps c valid known,
    )

-- the roots of a VPE stand at selectors of their own, of which there are 256
roots-few : (T : Setup) (d : VpeDecl) → IsVpeDecl T d → length d.roots ≤ 256
roots-few T d declared =
    let sels : List ℕ = map (λ (r : Root). r.sel) d.roots in
    let distinct = IsDistinct-from_AllPairs Decides-eqb sels (AllPairs-map (λ a b. a ≢ b) (λ (r : Root). r.sel) d.roots declared.selectors_differ) in
    let few : All (λ n. n < 256) sels = All-map (λ n. n < 256) (λ (r : Root). r.sel) d.roots (λ k e within. let selector =
    (declared.roots k e within).selector in omega (arith, selector)) in
    let below : (q : ℕ) → list_any (eqb q) sels ≡ true → q < 256 = λ q among. let some = list_any-some (eqb q) sels among in
    subst (λ n. n < 256) (sym (eqb-true q some.0 some.2)) (All-contains (λ n. n < 256) sels some.0 few some.1) in
    rw (length-map d.roots (λ (r : Root). r.sel)) at (length-le_from_distinct_below sels 256 distinct below)

-- the keys of later VPEs differ from those of earlier ones
vpes-begun : (T : Setup) (ds : List VpeDecl) (s : Side) → All (IsVpeDecl T) ds → AllPairs Before ds →
    All (λ (d : VpeDecl). All (λ (c : Capability). c.key.vpe < d.vpe) s.caps) ds → IsBegun s → IsBegun (in_turn vpe_added ds s)
unfolding in_turn
vpes-begun T [] s declared rise above is = is
vpes-begun T (d ∷ ds) s declared rise above is =
    let here : IsVpeDecl T d = All-head (IsVpeDecl T) d ds declared in
    vpes-begun T ds (vpe_added d s) (All-tail (IsVpeDecl T) d ds declared) (AllPairs-parts Before d ds rise).1
    (λ k e within. vpe-all (λ (c : Capability). c.key.vpe < (get_or ds k e).vpe) d s (λ n r. (AllPairs-parts Before d ds rise).0 k e within)
    (All-tail (λ (x : VpeDecl). All (λ (c : Capability). c.key.vpe < x.vpe) s.caps) d ds above k e within))
    (roots-begun d d.roots 0 (opened d s) (let few = most_vpes-le T.version in let pe = here.pe in omega arith) (let few = most_vpes-le T.version in
    let vpe = here.vpe in omega arith) (omega (arith, roots-few T d here)) (opened-next d s)
    (λ k e within same. let lower = All-head (λ (x : VpeDecl). All (λ (c : Capability). c.key.vpe < x.vpe) s.caps) d ds above k e within in
    absurd (omega (arith, lower, same))) is)

pub begun : (T : Setup) (i : ℕ) → IsSetup T → IsBegun (start_side T i)
unfolding start_side
begun T i valid =
    vpes-begun T (filter (is_of T i) T.vpes) (empty_side T) (All-filter (is_of T i) (IsVpeDecl T) T.vpes valid.vpes)
    (AllPairs-filter Before (is_of T i) T.vpes valid.vpes_rise)
    (λ j b inside. All-nil (λ (c : Capability). c.key.vpe < (get_or (filter (is_of T i) T.vpes) j b).vpe))
    (λ a b e lt within. absurd (omega (arith, within)), All-nil (λ (c : Capability). IsValidKey c.key))

-- at the start the keys that a kernel holds are valid
pub first-valid : (T : Setup) (i : ℕ) → IsSetup T → All (λ c. IsValidKey c.key) (start_side T i).caps
first-valid T i valid = (begun T i valid).1

-- and they stand in rising order
pub first-rises : (T : Setup) (i : ℕ) → IsSetup T → IsRising (map (λ (c : Capability). c.key) (start_side T i).caps)
first-rises T i valid = (begun T i valid).0

-- What is held.

module _ (k : KeyName) where
  with_cap-keeps : (cs : List Capability) (c : Capability) → IsSome (held k cs) → IsSome (held k (with_cap cs c))
  with_cap-keeps cs c some = elim (cases_Bool (key_eq c.key k)) [
    | inl same ↦ subst IsSome (sym (held-with_cap_same cs c k same)) refl
    | inr differs ↦ subst IsSome (sym (held-with_cap_other cs c k differs)) some
  ]

  roots-keep : (d : VpeDecl) (rs : List Root) (s : Side) → IsSome (cap s k) → IsSome (cap (in_turn (root_added d) rs s) k)
  roots-keep d rs s some =
      in_turn-keeps (λ (t : Side). IsSome (cap t k)) (root_added d) rs s (λ r t there. with_cap-keeps t.caps (root_cap d (next t d.vpe) r) there) some

  -- the keys of a VPE's roots are its own, and are held once the roots are added
  roots-held : (d : VpeDecl) (rs : List Root) (n : ℕ) (s : Side) → next s d.vpe ≡ n → Contains (root_keys_from d n rs) k →
      (k.vpe ≡ d.vpe) × IsSome (cap (in_turn (root_added d) rs s) k)
  unfolding in_turn root_keys_from
  roots-held d [] n s number among = absurd (Contains-nil k among)
  roots-held d (r ∷ rs) n s number among = elim (Contains-cons_cases (root_key d n r) (root_keys_from d (n + 1) rs) k among) [
    | inl same ↦ (
      sym (ap (λ (q : KeyName). q.vpe) same),
      roots-keep d rs (root_added d r s)
          (subst IsSome (sym (held-with_cap_same s.caps (root_cap d (next s d.vpe) r) k (key_eq-from _ k (ap (λ m. root_key d m r) number ∙ same)))) refl),
    )
    | inr rest ↦ roots-held d rs (n + 1) (root_added d r s) (root-next d r s ∙ ap (λ m. m + 1) number) rest
  ]

  vpes-held : (ds : List VpeDecl) (s : Side) (d : VpeDecl) → Contains ds d → Contains (root_keys_from d 0 d.roots) k → IsSome (cap (in_turn vpe_added ds s) k)
  unfolding in_turn
  vpes-held [] s d among root = absurd (Contains-nil d among)
  vpes-held (x ∷ xs) s d among root = elim (Contains-cons_cases x xs d among) [
    | inl same ↦
        let here = (roots-held x x.roots 0 (opened x s) (opened-next x s) (subst (λ (y : VpeDecl). Contains (root_keys_from y 0 y.roots) k) (sym same) root)).1
        in
        in_turn-keeps (λ (t : Side). IsSome (cap t k)) vpe_added xs (vpe_added x s) (λ y t some. roots-keep y y.roots (opened y t) some) here
    | inr rest ↦ vpes-held xs (vpe_added x s) d rest root
  ]

-- each root is held at the start, at the kernel of its VPE
pub root-held : (T : Setup) → IsSetup T → (k : KeyName) → Contains (root_keys T) k → IsSome (cap (side (start T) (kernel_of T k.vpe)) k)
unfolding start start_side
root-held T valid k root =
    let from = Contains-from_flat_map (λ (d : VpeDecl). root_keys_from d 0 d.roots) T.vpes k root in
    let d : VpeDecl = from.0 in
    let i : ℕ = pe_owner T d.pe in
    let vpe : k.vpe ≡ d.vpe = (roots-held k d d.roots 0 (opened d (empty_side T)) (opened-next d (empty_side T)) from.2).0 in
    let kernel : kernel_of T k.vpe ≡ i = ap (kernel_of T) vpe
    ∙ ap (λ (o : Option VpeDecl). option_map_or (λ (x : VpeDecl). pe_owner T x.pe) o T.kernels) (find-decl T.vpes d valid.vpes_rise from.1) in
    let declared : IsVpeDecl T d = All-contains (IsVpeDecl T) T.vpes d valid.vpes from.1 in
    let few : i < T.kernels =
    owner-is T.kernels _ declared.owned (λ j there. subst (λ n. j < n) valid.same_kernels (valid.membership.owners_exist d.pe j there)) in
    let at : side (start T) i ≡ start_side T i = get_or-map-range_with_len (start_side T) 0 T.kernels i i no_side few (omega arith) in
    let started : IsSome (cap (start_side T i) k) =
    vpes-held k (filter (is_of T i) T.vpes) (empty_side T) d (Contains-filter (is_of T i) T.vpes d from.1 (eq-eqb i i refl)) from.2 in
    subst (λ (j : ℕ). IsSome (cap (side (start T) j) k)) (sym kernel) (subst (λ (s : Side). IsSome (cap s k)) (sym at) started)

-- nothing is sent at the start
pub first-outs : (T : Setup) (i : ℕ) → (start_side T i).outs ≡ replicate T.kernels []
unfolding start_side
first-outs T i = in_turn-keeps (λ (t : Side). t.outs ≡ replicate T.kernels []) vpe_added (filter (is_of T i) T.vpes) (empty_side T)
    (λ d t same. in_turn-keeps (λ (u : Side). u.outs ≡ replicate T.kernels []) (root_added d) d.roots (opened d t) (λ r u here. here) same) refl
