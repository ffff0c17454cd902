-- Masks and the kernels for which they have a bit.
use Rattle.std.proofs.Common.{◌≡◌, ℕ, zero, suc, ◌+◌, ◌-◌, ◌*◌, ◌%◌, ◌^◌, ◌<◌, ◌≤◌, Bool, true, false, not, ◌&&◌, cond, min, List, [], ◌∷◌, refl, sym, ◌∙◌, ap}
use Rattle.std.proofs.Common.{subst, inl, inr, arith, eq-eqb}
use Rattle.std.specs.Prelude.{◌==◌, bit_or, bit_and}
use Rattle.std.specs.List.{filter, range_with_len}
use Rattle.std.specs.Int.{bit_at, bit_not, trailing_zeros}
use Rattle.std.proofs.lemmas.Bool.{cases_eq, ne_eqb, cond-true, cond-false}
use Rattle.std.proofs.lemmas.Nat.Bits.{bit_at-zero, bit_at-lt, bit_at_and, bit_at_not, bit_at-trailing_zeros, bit_at_set_same, bit_at_set_other}
use Rattle.std.proofs.lemmas.Nat.Bits.{bit_at_clear_same, bit_at_clear_other}
use mir.Syntax.{w32}
use Rattle.sem_msg.specs.Masks.{has_bit, IsMaskOf}

-- A bit is written.

module _ (mask v : ℕ) (on : Bool) (within : v < 32) where
  pub bit-set : on ≡ true → IsMaskOf (λ k. cond (k == v) on (has_bit mask k)) (bit_or mask (1 * 2 ^ v % 2 ^ 32))
  bit-set is k lt =
      let new : ℕ = bit_or mask (1 * 2 ^ v % 2 ^ 32) in
      elim (cases_eq k v) [
        | inl same ↦ ap (has_bit new) same ∙ (ap (λ b. b == 1) (bit_at_set_same w32 mask v within) ∙ (sym is ∙ sym (cond-true (k == v) on (has_bit mask k)
            (eq-eqb k v same))))
        | inr other ↦ ap (λ b. b == 1) (bit_at_set_other w32 mask v within k other) ∙ sym (cond-false (k == v) on (has_bit mask k) (ne_eqb k v other))
      ]

  pub bit-cleared : on ≡ false → IsMaskOf (λ k. cond (k == v) on (has_bit mask k)) (bit_and mask (bit_not w32 (1 * 2 ^ v % 2 ^ 32)))
  bit-cleared is k lt =
      let new : ℕ = bit_and mask (bit_not w32 (1 * 2 ^ v % 2 ^ 32)) in
      elim (cases_eq k v) [
        | inl same ↦ ap (has_bit new) same ∙ (ap (λ b. b == 1) (bit_at_clear_same w32 mask v within) ∙ (sym is ∙ sym (cond-true (k == v) on (has_bit mask k)
            (eq-eqb k v same))))
        | inr other ↦ ap (λ b. b == 1) (bit_at_clear_other w32 mask v within k lt other) ∙ sym (cond-false (k == v) on (has_bit mask k) (ne_eqb k v other))
      ]

-- for a kernel that there cannot be a mask has no bit to write
pub bit-beyond : (mask v : ℕ) (on : Bool) → 32 ≤ v → IsMaskOf (λ k. cond (k == v) on (has_bit mask k)) mask
bit-beyond mask v on past k lt = sym (cond-false (k == v) on (has_bit mask k) (ne_eqb k v (λ same. omega (arith, same, past, lt))))

-- a mask with one bit written is that of another test
pub mask-written : (old new : ℕ → Bool) (v : ℕ) (on : Bool) (mask next : ℕ) → IsMaskOf old mask → IsMaskOf (λ k. cond (k == v) on (has_bit mask k)) next →
    new v ≡ on
    → ((k : ℕ) → (k ≡ v → ⊥) → new k ≡ old k) → IsMaskOf new next
mask-written old new v on mask next was written here others k lt = elim (cases_eq k v) [
  | inl same ↦ written k lt ∙ (cond-true (k == v) on (has_bit mask k) (eq-eqb k v same) ∙ (sym here ∙ ap new (sym same)))
  | inr other ↦ written k lt ∙ (cond-false (k == v) on (has_bit mask k) (ne_eqb k v other) ∙ (was k lt ∙ sym (others k other)))
]

-- no bit is set
pub mask-none : (test : ℕ → Bool) → ((k : ℕ) → test k ≡ false) → IsMaskOf test 0
mask-none test off k lt = ap (λ b. b == 1) (bit_at-zero k) ∙ sym (off k)

-- the bits that another mask does not have
one-without : (x y : ℕ) → x < 2 → y < 2 → (min x (1 - y) == 1) ≡ ((x == 1) && not (y == 1))
one-without zero zero few small = refl
one-without zero (suc zero) few small = refl
one-without (suc zero) zero few small = refl
one-without (suc zero) (suc zero) few small = refl
one-without (suc (suc x)) y few small = absurd (omega arith)
one-without zero (suc (suc y)) few small = absurd (omega arith)
one-without (suc zero) (suc (suc y)) few small = absurd (omega arith)

pub mask-without : (mask other : ℕ) → other < 2 ^ 32 → IsMaskOf (λ k. has_bit mask k && not (has_bit other k)) (bit_and mask (bit_not w32 other))
mask-without mask other small k lt =
    ap (λ b. b == 1) (bit_at_and mask (bit_not w32 other) k ∙ ap (min (bit_at mask k)) (bit_at_not w32 other k small lt))
    ∙ one-without (bit_at mask k) (bit_at other k) (bit_at-lt mask k) (bit_at-lt other k)

-- What tests keep of a run of numbers.

pub kept-same : (p q : ℕ → Bool) (n a : ℕ) → ((k : ℕ) → a ≤ k → k < a + n → q k ≡ p k) → filter q (range_with_len a n) ≡ filter p (range_with_len a n)
kept-same p q zero a agree = refl
kept-same p q (suc n) a agree =
    let tail = kept-same p q n (a + 1) (λ k low high. agree k (omega arith) (omega arith)) in
    rw (agree a (omega arith) (omega arith), tail) refl

-- nothing of a run whose numbers all fail
pub kept-none : (p : ℕ → Bool) (n a : ℕ) → ((k : ℕ) → a ≤ k → k < a + n → p k ≡ false) → filter p (range_with_len a n) ≡ []
kept-none p zero a off = refl
kept-none p (suc n) a off =
    rw (off a (omega arith) (omega arith)) (kept-none p n (a + 1) (λ k low high. off k (omega arith) (omega arith)))

-- no more of a longer run, where its further numbers fail
pub kept-longer : (p : ℕ → Bool) (n m a : ℕ) → n ≤ m → ((k : ℕ) → a + n ≤ k → k < a + m → p k ≡ false) →
    filter p (range_with_len a m) ≡ filter p (range_with_len a n)
kept-longer p zero m a le off = kept-none p m a (λ k low high. off k (omega arith) (omega arith))
kept-longer p (suc n) zero a le off = absurd (omega arith)
kept-longer p (suc n) (suc m) a le off =
    ap (λ ks. cond (p a) (a ∷ ks) ks) (kept-longer p n m (a + 1) (omega arith) (λ k low high. off k (omega arith) (omega arith)))

-- q keeps v, which is the lowest, and p does not
module _ (p q : ℕ → Bool) (v most : ℕ) (yes : q v ≡ true) (no : p v ≡ false) (below : (k : ℕ) → k < v → q k ≡ false) (agree : (k : ℕ) → k < most → (k ≡ v → ⊥)
    → q k ≡ p k) where
  kept-lowest : (n a : ℕ) → a ≤ v → v < a + n → a + n ≤ most → filter q (range_with_len a n) ≡ v ∷ filter p (range_with_len a n)
  kept-lowest zero a low high within = absurd (omega arith)
  kept-lowest (suc n) a low high within = elim (cases_eq a v) [
    | inl here ↦
        let tail = kept-same p q n (v + 1) (λ k from to. agree k (omega arith) (λ same. omega (arith, same))) in
        subst (λ m. filter q (range_with_len m (suc n)) ≡ v ∷ filter p (range_with_len m (suc n))) (sym here) (rw (yes, no) (ap (λ ks. v ∷ ks) tail))
    | inr apart ↦
        let off : q a ≡ false = below a (omega arith) in
        let none : p a ≡ false = sym (agree a (omega arith) apart) ∙ off in
        rw (off, none) (kept-lowest n (a + 1) (omega arith) (omega arith) (omega arith))
  ]

-- The kernels for which a mask has a bit, in rising order.

unfoldable pub kernels_in : ℕ → List ℕ
kernels_in mask = filter (has_bit mask) (range_with_len 0 32)

pub kernels-none : kernels_in 0 ≡ []
unfolding kernels_in
kernels-none = kept-none (has_bit 0) 32 0 (λ k low high. ap (λ b. b == 1) (bit_at-zero k))

-- the lowest bit is that of the first
pub kernels-first : (mask : ℕ) → 0 < mask → mask < 2 ^ 32 → kernels_in mask ≡ trailing_zeros w32 mask ∷ kernels_in (bit_and mask (bit_not w32
    (1 * 2 ^ trailing_zeros w32 mask % 2 ^ 32)))
unfolding kernels_in
kernels-first mask some small =
    let v : ℕ = trailing_zeros w32 mask in
    let new : ℕ = bit_and mask (bit_not w32 (1 * 2 ^ v % 2 ^ 32)) in
    let (within, is, below) = bit_at-trailing_zeros w32 mask some small in
    kept-lowest (has_bit new) (has_bit mask) v 32 (ap (λ b. b == 1) is) (ap (λ b. b == 1) (bit_at_clear_same w32 mask v within))
    (λ k lt. ap (λ b. b == 1) (below k lt)) (λ k lt other. sym (ap (λ b. b == 1) (bit_at_clear_other w32 mask v within k lt other))) 32 0 (omega arith) (omega
    (arith, within)) (omega arith)
