-- Masks of VPEs, and the resumes and upcalls of a kernel that they name.
use Rattle.std.proofs.Common.{◌≡◌, ℕ, zero, suc, ◌+◌, ◌*◌, ◌%◌, ◌^◌, ◌<◌, ◌≤◌, Bool, true, false, ◌&&◌, List, [], ◌∷◌, ◌++◌, length, map, take, get_or, refl}
use Rattle.std.proofs.Common.{sym, ◌∙◌, ap, subst, inl, inr, arith, eq-eqb}
use Rattle.std.specs.Prelude.{◌==◌, ◌||◌, bit_or, bit_and}
use Rattle.std.specs.Int.{bit_not, trailing_zeros}
use Rattle.std.specs.List.{All, AllPairs, Contains, filter, list_any, range_with_len}
use Rattle.std.proofs.Math.Bool.{or-false}
use Rattle.std.proofs.lemmas.Bool.{cases_Bool, cases_eq, ne_eqb}
use Rattle.std.proofs.lemmas.List.{take_more, take_all}
use Rattle.std.proofs.lemmas.List.Elements.{All-contains, All-filter, All-head, All-map, All-tail, Contains-get_or}
use Rattle.std.proofs.lemmas.List.Folds.{list_any-append}
use Rattle.std.proofs.lemmas.List.Kept.{AllPairs-filter}
use Rattle.std.proofs.lemmas.Nat.Bits.{bit_at-zero, bit_at-trailing_zeros, bit_at_set_same, bit_at_set_other, bit_at_clear_same, bit_at_clear_other}
use Rattle.std.proofs.lemmas.Simd.{map-map}
use mir.Syntax.{w128}
use Rattle.sem_key.proofs.Members.{AllPairs-map, Contains-from_map, Contains-from_filter}
use Rattle.sem_msg.specs.declared.setup.VpeDecl.{VpeDecl}
use Rattle.sem_msg.specs.Setup.{Setup, IsSetup, IsVpeDecl}
use Rattle.sem_msg.specs.Lookups.{own_vpes, runs_on}
use Rattle.sem_msg.specs.Masks.{has_bit}
use Rattle.sem_msg.proofs.Declared.{most_vpes-le}
use Rattle.sem_msg.proofs.Masks.{kept-same, kept-none}
use Rattle.sem_caps.proofs.Swept.{map-filter}
use Rattle.sem_machine.specs.Machine.{World, event, is_enabled}
use Rattle.sem_kernel.specs.declared.listing.VpeRow.{VpeRow}
use Rattle.sem_kernel.specs.declared.own.OwnVpe.{OwnVpe}
use Rattle.sem_kernel.specs.Listing.{enabled_in, vpe_act, vpe_events, vpes_in, IsVpeMaskOf}
use Rattle.sem_kernel.specs.Owning.{own_row, own_rows}
use Rattle.sem_kernel.proofs.Owned.{own-enough}

-- A bit is set.

pub bit-set : (mask v : ℕ) → v < 128 → IsVpeMaskOf (λ w. has_bit mask w || (w == v)) (bit_or mask (1 * 2 ^ v % 2 ^ 128))
bit-set mask v within w lt =
    let new : ℕ = bit_or mask (1 * 2 ^ v % 2 ^ 128) in
    elim (cases_eq w v) [
      | inl same ↦ rw (eq-eqb w v same) (ap (has_bit new) same ∙ (ap (λ b. b == 1) (bit_at_set_same w128 mask v within) ∙ sym (or-true (has_bit mask w))))
      | inr other ↦ rw (ne_eqb w v other) (ap (λ b. b == 1) (bit_at_set_other w128 mask v within w other) ∙ sym (or-false (has_bit mask w)))
    ]
  where
    or-true : (b : Bool) → (b || true) ≡ true
    or-true true = refl
    or-true false = refl

-- What tests keep of a run of numbers.

-- q keeps v, which is the lowest, and p does not
module _ (p q : ℕ → Bool) (v most : ℕ) (is : q v ≡ true) (no : p v ≡ false) (below : (k : ℕ) → k < v → q k ≡ false) (agree : (k : ℕ) → k < most → (k ≡ v → ⊥)
    → q k ≡ p k) where
  kept-lowest : (n a : ℕ) → a ≤ v → v < a + n → a + n ≤ most → filter q (range_with_len a n) ≡ v ∷ filter p (range_with_len a n)
  kept-lowest zero a low high within = absurd (omega arith)
  kept-lowest (suc n) a low high within = elim (cases_eq a v) [
    | inl here ↦
        let tail = kept-same p q n (v + 1) (λ k from to. agree k (omega arith) (λ same. omega (arith, same))) in
        subst (λ m. filter q (range_with_len m (suc n)) ≡ v ∷ filter p (range_with_len m (suc n))) (sym here) (rw (is, no) (ap (λ ks. v ∷ ks) tail))
    | inr apart ↦
        let off : q a ≡ false = below a (omega arith) in
        let none : p a ≡ false = sym (agree a (omega arith) apart) ∙ off in
        rw (off, none) (kept-lowest n (a + 1) (omega arith) (omega arith) (omega arith))
  ]

-- no number of a list is as low as a
none-as-low : (a : ℕ) (ys : List ℕ) → All (λ y. a < y) ys → list_any (λ y. a == y) ys ≡ false
none-as-low a [] above = refl
none-as-low a (y ∷ ys) above =
    let over = All-head (λ y. a < y) y ys above in
    rw (ne_eqb a y (λ same. omega (arith, over, same))) (none-as-low a ys (All-tail (λ y. a < y) y ys above))

-- of a run that has numbers that rise, a test for them keeps these numbers
kept-rising : (n a : ℕ) (ys : List ℕ) → AllPairs (λ x y. x < y) ys → All (λ y. a ≤ y) ys → All (λ y. y < a + n) ys →
    filter (λ k. list_any (λ y. k == y) ys) (range_with_len a n) ≡ ys
kept-rising n a [] rise low high = kept-none (λ k. false) n a (λ k from to. refl)
kept-rising zero a (y ∷ ys) rise low high =
    let from = All-head (λ y. a ≤ y) y ys low in
    let to = All-head (λ y. y < a + zero) y ys high in
    absurd (omega (arith, from, to))
kept-rising (suc n) a (y ∷ ys) rise low high =
    let later : All (λ z. y < z) ys = λ k d within. rise zero (suc k) d (omega arith) (omega arith) in
    let rest : AllPairs (λ x y. x < y) ys = λ i j d lt within. rise (suc i) (suc j) d (omega arith) (omega arith) in
    let from = All-head (λ y. a ≤ y) y ys low in
    let under : All (λ y. y < (a + 1) + n) ys = λ k d within. let one = high (suc k) d (omega arith) in omega (arith, one) in
    elim (cases_eq a y) [
      | inl here ↦
          let above : All (λ z. a + 1 ≤ z) ys = λ k d within. let one = later k d within in omega (arith, one, here) in
          let tail = kept-same (λ k. list_any (λ z. k == z) ys) (λ k. list_any (λ z. k == z) (y ∷ ys)) n (a + 1)
          (λ k past to. rw (ne_eqb k y (λ same. omega (arith, same, past, here))) refl) in
          rw (eq-eqb a y here) (ap (λ ks. a ∷ ks) (tail ∙ kept-rising n (a + 1) ys rest above under) ∙ ap (λ k. k ∷ ys) here)
      | inr apart ↦
          let over : a < y = omega (arith, from, apart) in
          let all : All (λ z. a < z) (y ∷ ys) = λ k d within. before k d within over later in
          let up : All (λ z. a + 1 ≤ z) (y ∷ ys) = λ k d within. let one = all k d within in omega (arith, one) in
          let down : All (λ z. z < (a + 1) + n) (y ∷ ys) = λ k d within. let one = high k d within in omega (arith, one) in
          rw (none-as-low a (y ∷ ys) all) (kept-rising n (a + 1) (y ∷ ys) rise up down)
    ]
  where
    before : (k d : ℕ) → k < length (y ∷ ys) → a < y → All (λ z. y < z) ys → a < get_or (y ∷ ys) k d
    before zero d within over later = over
    before (suc k) d within over later = let one = later k d (omega arith) in omega (arith, one, over)

-- a test for the numbers of those elements that pass one
any-kept : {X : Type 0} (test : X → Bool) (f : X → ℕ) (xs : List X) (v : ℕ) → list_any (λ x. test x && (v == f x)) xs
    ≡ list_any (λ y. v == y) (map f (filter test xs))
any-kept test f [] v = refl
any-kept test f (x ∷ xs) v = elim (cases_Bool (test x)) [
  | inl pass ↦ rw pass (ap (λ b. (v == f x) || b) (any-kept test f xs v))
  | inr fail ↦ rw fail (any-kept test f xs v)
]

-- The VPEs for which a mask has a bit.

pub vpes-none : vpes_in 0 ≡ []
unfolding vpes_in
vpes-none = kept-none (has_bit 0) 128 0 (λ k low high. ap (λ b. b == 1) (bit_at-zero k))

-- the lowest bit is that of the first
pub vpes-first : (mask : ℕ) → 0 < mask → mask < 2 ^ 128 → vpes_in mask ≡ trailing_zeros w128 mask ∷ vpes_in (bit_and mask (bit_not w128
    (1 * 2 ^ trailing_zeros w128 mask % 2 ^ 128)))
unfolding vpes_in
vpes-first mask some small =
    let v : ℕ = trailing_zeros w128 mask in
    let new : ℕ = bit_and mask (bit_not w128 (1 * 2 ^ v % 2 ^ 128)) in
    let (within, is, below) = bit_at-trailing_zeros w128 mask some small in
    kept-lowest (has_bit new) (has_bit mask) v 128 (ap (λ b. b == 1) is) (ap (λ b. b == 1) (bit_at_clear_same w128 mask v within))
    (λ k lt. ap (λ b. b == 1) (below k lt)) (λ k lt other. sym (ap (λ b. b == 1) (bit_at_clear_other w128 mask v within k lt other))) 128 0 (omega arith) (omega
    (arith, within)) (omega arith)

-- The VPEs of a kernel.

module _ (T : Setup) (valid : IsSetup T) (i : ℕ) where
  own-below : (o : OwnVpe) → Contains (own_rows T i) o → o.vpe < 128
  own-below o among =
      let (d, inside, same) = Contains-from_map own_row (own_vpes T i) o among in
      let declared : IsVpeDecl T d = All-contains (IsVpeDecl T) T.vpes d valid.vpes (Contains-from_filter (runs_on T i) T.vpes d inside).0 in
      let few = declared.vpe in
      let most = most_vpes-le T.version in
      subst (λ (x : OwnVpe). x.vpe < 128) same (omega (arith, few, most))

  -- also in the list that the kernel keeps
  pub kept-below : (os : List OwnVpe) → os ≡ own_rows T i → (n : ℕ) (d : OwnVpe) → n < length os → (get_or os n d).vpe < 128
  kept-below os are n d within = own-below (get_or os n d) (subst (λ (xs : List OwnVpe). Contains xs (get_or os n d)) are (Contains-get_or os n d within))

  own-rise : AllPairs (λ (a b : OwnVpe). a.vpe < b.vpe) (own_rows T i)
  own-rise = AllPairs-map (λ (a b : OwnVpe). a.vpe < b.vpe) own_row (own_vpes T i)
      (AllPairs-filter (λ (a b : VpeDecl). a.vpe < b.vpe) (runs_on T i) T.vpes valid.vpes_rise)

-- a test for those of some VPEs of a kernel that have an enabled event of a row
abbrev pub can_among : Setup → World → ℕ → VpeRow → List OwnVpe → ℕ → Bool
can_among T W i row os v = list_any (λ (o : OwnVpe). is_enabled T W (event i (vpe_act row o.vpe)) && (v == o.vpe)) os

module _ (T : Setup) (W : World) (i : ℕ) (row : VpeRow) where
  abbrev test : OwnVpe → Bool
  test o = is_enabled T W (event i (vpe_act row o.vpe))

  -- no VPE was looked at
  pub mask-start : IsVpeMaskOf (can_among T W i row (take 0 (own_rows T i))) 0
  mask-start v lt = ap (λ b. b == 1) (bit_at-zero v)

  -- one more VPE is looked at
  module _ (n : ℕ) (x : OwnVpe) (mask : ℕ) (more : n < length (own_rows T i)) (at : x ≡ get_or (own_rows T i) n x) (so_far : IsVpeMaskOf
      (can_among T W i row (take n (own_rows T i))) mask) where
    one-more : (v : ℕ) → can_among T W i row (take (n + 1) (own_rows T i)) v ≡ (can_among T W i row (take n (own_rows T i)) v || (test x && (v == x.vpe)))
    one-more v =
        ap (λ os. can_among T W i row os v) (take_more (own_rows T i) n x more ∙ ap (λ (y : OwnVpe). take n (own_rows T i) ++ y ∷ []) (sym at))
        ∙ (list_any-append (λ (o : OwnVpe). test o && (v == o.vpe)) (take n (own_rows T i)) (x ∷ [])
        ∙ ap (λ b. can_among T W i row (take n (own_rows T i)) v || b) (or-false (test x && (v == x.vpe))))

    pub mask-set : (new : ℕ) → test x ≡ true → IsVpeMaskOf (λ v. has_bit mask v || (v == x.vpe)) new →
        IsVpeMaskOf (can_among T W i row (take (n + 1) (own_rows T i))) new
    mask-set new can is v lt =
        is v lt
        ∙ (ap (λ b. b || (v == x.vpe)) (so_far v lt)
        ∙ sym (one-more v ∙ ap (λ b. can_among T W i row (take n (own_rows T i)) v || (b && (v == x.vpe))) can))

    pub mask-kept : test x ≡ false → IsVpeMaskOf (can_among T W i row (take (n + 1) (own_rows T i))) mask
    mask-kept cannot v lt =
        so_far v lt
        ∙ sym (one-more v
        ∙ (ap (λ b. can_among T W i row (take n (own_rows T i)) v || (b && (v == x.vpe))) cannot ∙ or-false (can_among T W i row (take n (own_rows T i)) v)))

  -- all its VPEs were looked at
  pub mask-all : IsSetup T → (n mask : ℕ) → length (own_rows T i) ≤ n → IsVpeMaskOf (can_among T W i row (take n (own_rows T i))) mask →
      vpe_events i row mask ≡ enabled_in T W i row
  unfolding vpes_in
  mask-all valid n mask all is =
      let os : List OwnVpe = own_rows T i in
      let kept : List OwnVpe = filter test os in
      let number : OwnVpe → ℕ = λ o. o.vpe in
      let below : All (λ (o : OwnVpe). o.vpe < 128) os = λ k d within. own-below T valid i (get_or os k d) (Contains-get_or os k d within) in
      let numbers : vpes_in mask ≡ map number kept =
      kept-same (λ v. list_any (λ y. v == y) (map number kept)) (has_bit mask) 128 0
      (λ v low lt. is v (omega (arith, lt)) ∙ (ap (λ xs. can_among T W i row xs v) (take_all n os all) ∙ any-kept test number os v))
      ∙ kept-rising 128 0 (map number kept)
      (AllPairs-map (λ x y. x < y) number kept (AllPairs-filter (λ (a b : OwnVpe). a.vpe < b.vpe) test os (own-rise T valid i)))
      (λ k d within. omega arith)
      (All-map (λ y. y < 128) number kept (All-filter test (λ (o : OwnVpe). o.vpe < 128) os below)) in
      ap (map (λ v. event i (vpe_act row v))) numbers
      ∙ (map-map (λ v. event i (vpe_act row v)) number kept
      ∙ (map-filter (λ (o : OwnVpe). event i (vpe_act row o.vpe)) (is_enabled T W) os ∙ own-enough T W valid i row))
