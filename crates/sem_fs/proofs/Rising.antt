-- Lists of numbers that rise: ranges, the declared clients, and the extents of all files.
use Rattle.std.proofs.Common.{◌≡◌, ℕ, zero, suc, ◌+◌, ◌*◌, ◌<◌, ◌≤◌, ◌++◌, ◌==◌, true, List, [], ◌∷◌, map, length, get_or, find, Option, Some, None, refl}
use Rattle.std.proofs.Common.{subst, inl, inr, arith}
use Rattle.std.specs.List.{All, AllPairs, Contains, flat_map, range_with_len}
use Rattle.std.specs.Option.{option_map_or}
use Rattle.std.proofs.lemmas.Bool.{cases_eq, cases_lt, eqb-true}
use Rattle.std.proofs.lemmas.List.Elements.{All-contains, Contains-append_cases}
use Rattle.std.proofs.lemmas.List.Kept.{AllPairs-cons, AllPairs-filter}
use Rattle.sem_key.proofs.Members.{Contains-nil, Contains-head, Contains-tail, Contains-cons_cases, Contains-filter, Contains-from_filter, Contains-map}
use Rattle.sem_key.proofs.Members.{Contains-from_map, Contains-flat_map, Contains-from_flat_map, found, list_any-some, AllPairs-map}
use Rattle.sem_files.specs.declared.files.FileDecl.{FileDecl}
use Rattle.sem_files.specs.Files.{Files, is_file, is_client, extents_of}
use Rattle.sem_files.specs.Compiled.{extent_number, below, rising_files, rising_clients, extents, AreFiles}

-- Pairs of a list.

module _ {X : Type 0} (R : X → X → Type 0) where
  pub pairs-tail : (x : X) (xs : List X) → AllPairs R (x ∷ xs) → AllPairs R xs
  pairs-tail x xs pairs i j d less within = pairs (suc i) (suc j) d (omega (arith, less)) (omega (arith, within))

  pub pairs-head : (x : X) (xs : List X) → AllPairs R (x ∷ xs) → (y : X) → Contains xs y → R x y
  pairs-head x xs pairs y (j, within, same) = subst (R x) same (pairs 0 (suc j) y (omega arith) (omega (arith, within)))

  pub all-of : (P : X → Type 0) (xs : List X) → ((x : X) → Contains xs x → P x) → All P xs
  all-of P xs each i d within = each (get_or xs i d) (i, within, ends xs i d within)
    where
      ends : (xs : List X) (i : ℕ) (d : X) → i < length xs → get_or xs i (get_or xs i d) ≡ get_or xs i d
      ends [] i d within = absurd (omega (arith, within))
      ends (x ∷ xs) zero d within = refl
      ends (x ∷ xs) (suc i) d within = ends xs i d (omega (arith, within))

  pub pairs-append : (xs ys : List X) → AllPairs R xs → AllPairs R ys → ((x y : X) → Contains xs x → Contains ys y → R x y) → AllPairs R (xs ++ ys)
  pairs-append [] ys one two between = two
  pairs-append (x ∷ xs) ys one two between =
      AllPairs-cons R x (xs ++ ys)
      (all-of (R x) (xs ++ ys) (λ y among. elim (Contains-append_cases xs ys y among) [
        | inl left ↦ pairs-head x xs one y left
        | inr right ↦ between x y (Contains-head x xs) right
      ]))
      (pairs-append xs ys (pairs-tail x xs one) two (λ a b in_a in_b. between a b (Contains-tail x xs a in_a) in_b))

-- Ranges.

pub in-range : (a n x : ℕ) → Contains (range_with_len a n) x → (a ≤ x) × (x < a + n)
in-range a zero x among = absurd (Contains-nil x among)
in-range a (suc n) x among = elim (Contains-cons_cases a (range_with_len (a + 1) n) x among) [
  | inl same ↦ (omega (arith, same), omega (arith, same))
  | inr rest ↦ let is = in-range (a + 1) n x rest in (omega (arith, is.0), omega (arith, is.1))
]

pub range-in : (a n x : ℕ) → a ≤ x → x < a + n → Contains (range_with_len a n) x
range-in a zero x low high = absurd (omega (arith, low, high))
range-in a (suc n) x low high = elim (cases_eq a x) [
  | inl same ↦ subst (Contains (range_with_len a (suc n))) same (Contains-head a (range_with_len (a + 1) n))
  | inr other ↦ Contains-tail a (range_with_len (a + 1) n) x (range-in (a + 1) n x (less a x low other) (omega (arith, high)))
]
  where
    less : (a x : ℕ) → a ≤ x → (a ≡ x → ⊥) → a + 1 ≤ x
    less a x low other = elim (cases_lt a x) [ inl below' ↦ omega (arith, below') | inr above ↦ absurd (other (omega (arith, above, low))) ]

abbrev pub Less : ℕ → ℕ → Type 0
Less a b = a < b

pub range-rises : (a n : ℕ) → AllPairs Less (range_with_len a n)
range-rises a zero = λ i j d less within. absurd (omega (arith, within))
range-rises a (suc n) = AllPairs-cons Less a (range_with_len (a + 1) n)
    (all-of Less (Less a) (range_with_len (a + 1) n) (λ y among. let is = in-range (a + 1) n y among in omega (arith, is.0))) (range-rises (a + 1) n)

module _ (F : Files) (AF : AreFiles F) where
  -- Clients.

  pub clients-rise : AllPairs Less (rising_clients F)
  clients-rise = AllPairs-filter Less (is_client F) (range_with_len 1 63) (range-rises 1 63)

  pub client-near : (v : ℕ) → Contains (rising_clients F) v → (1 ≤ v) × (v ≤ 63) × (is_client F v ≡ true)
  client-near v among =
      let is = Contains-from_filter (is_client F) (range_with_len 1 63) v among in
      let near = in-range 1 63 v is.0 in
      (near.0, omega (arith, near.1), is.1)

  pub declared-client : (v : ℕ) → is_client F v ≡ true → (1 ≤ v) × (v ≤ 63) × Contains (rising_clients F) v
  declared-client v is =
      let x = list_any-some (λ (c : ℕ). c == v) F.clients is in
      let same : x.0 ≡ v = eqb-true x.0 v x.2 in
      let range : (1 ≤ x.0) × (x.0 ≤ 63) = All-contains (λ c. (1 ≤ c) × (c ≤ 63)) F.clients x.0 AF.clients x.1 in
      let low : 1 ≤ v = omega (arith, same, range.0) in
      let high : v ≤ 63 = omega (arith, same, range.1) in
      (low, high, Contains-filter (is_client F) (range_with_len 1 63) v (range-in 1 63 v low (omega (arith, high))) is)

  -- Extents.

  pub few-extents : (f : ℕ) → extents_of F f ≤ 4
  few-extents f = from (find (λ d. d.file == f) F.files) refl
    where
      from : (o : Option FileDecl) → find (λ d. d.file == f) F.files ≡ o → option_map_or (λ (d : FileDecl). d.extents) o 0 ≤ 4
      from None none = omega arith
      from (Some d) some = let is : (d.file ≤ 15) × (1 ≤ d.extents) × (d.extents ≤ 4) =
          All-contains (λ (d : FileDecl). (d.file ≤ 15) × (1 ≤ d.extents) × (d.extents ≤ 4)) F.files d AF.files
          (found (λ (d : FileDecl). d.file == f) F.files d some).0
          in is.2

  pub file-near : (f : ℕ) → is_file F f ≡ true → f ≤ 15
  file-near f is =
      let x = list_any-some (λ (d : FileDecl). d.file == f) F.files is in
      let range : (x.0.file ≤ 15) × (1 ≤ x.0.extents) × (x.0.extents ≤ 4) =
      All-contains (λ (d : FileDecl). (d.file ≤ 15) × (1 ≤ d.extents) × (d.extents ≤ 4)) F.files x.0 AF.files x.1 in
      let same : x.0.file ≡ f = eqb-true x.0.file f x.2 in
      omega (arith, same, range.0)

  abbrev extents_in : ℕ → List ℕ
  extents_in f = map (extent_number f) (below (extents_of F f))

  in-extents : (f x : ℕ) → Contains (extents_in f) x → (4 * f ≤ x) × (x < 4 * f + 4)
  in-extents f x among =
      let o = Contains-from_map (extent_number f) (below (extents_of F f)) x among in
      let near = in-range 0 (extents_of F f) o.0 o.1 in
      let few = few-extents f in
      (omega (arith, o.2), omega (arith, o.2, near.1, few))

  one-file-rises : (f : ℕ) → AllPairs Less (extents_in f)
  one-file-rises f = AllPairs-map Less (extent_number f) (below (extents_of F f))
      (λ i j d less within. more (get_or (below (extents_of F f)) i d) (get_or (below (extents_of F f)) j d) (range-rises 0 (extents_of F f) i j d less within))
    where
      more : (a b : ℕ) → a < b → 4 * f + a < 4 * f + b
      more a b less = omega (arith, less)

  files-rise : (fs : List ℕ) → AllPairs Less fs → AllPairs Less (flat_map extents_in fs)
  files-rise [] rise = λ i j d less within. absurd (omega (arith, within))
  files-rise (f ∷ fs) rise =
      pairs-append Less (extents_in f) (flat_map extents_in fs) (one-file-rises f) (files-rise fs (pairs-tail Less f fs rise)) (λ x y in_x in_y.
      let o = Contains-from_flat_map extents_in fs y in_y in
      let later : f < o.0 = pairs-head Less f fs rise o.0 o.1 in
      let one = in-extents f x in_x in
      let two = in-extents o.0 y o.2 in
      omega (arith, later, one.1, two.0))

  pub extents-rise : AllPairs Less (extents F)
  unfolding extents
  extents-rise = files-rise (rising_files F) (AllPairs-filter Less (is_file F) (below 16) (range-rises 0 16))

  pub extent-in : (f i : ℕ) → is_file F f ≡ true → i < extents_of F f → Contains (extents F) (extent_number f i)
  unfolding extents
  extent-in f i is less =
      let near = file-near f is in
      Contains-flat_map extents_in (rising_files F) f (extent_number f i)
      (Contains-filter (is_file F) (below 16) f (range-in 0 16 f (omega arith) (omega (arith, near))) is)
      (Contains-map (extent_number f) (below (extents_of F f)) i (range-in 0 (extents_of F f) i (omega arith) (omega (arith, less))))

  pub extent-near : (x : ℕ) → Contains (extents F) x → x < 64
  unfolding extents
  extent-near x among =
      let o = Contains-from_flat_map extents_in (rising_files F) x among in
      let f = Contains-from_filter (is_file F) (below 16) o.0 o.1 in
      let near = in-range 0 16 o.0 f.0 in
      let is = in-extents o.0 x o.2 in
      omega (arith, near.1, is.1)
