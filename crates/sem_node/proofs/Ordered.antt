-- Kernels of which each number stands once are all kernels, in order once they are sorted.
use Rattle.std.proofs.Common.{◌≡◌, ◌≢◌, ℕ, suc, ◌+◌, ◌<◌, ◌≤◌, eq-eqb, ne_eqb, get_or, cond, List, [], ◌∷◌, map, length, refl, sym, ap, ◌∙◌, arith}
use Rattle.std.specs.Prelude.{◌==◌, count_by}
use Rattle.std.specs.List.{range_with_len, AllZip}
use Rattle.std.specs.List.Sorted.{IsNonDecreasingBy}
use Rattle.std.proofs.lemmas.List.Sums.{sum_by-cons}
use mathlib.Core.Logic.{dite}
use native.Mathlib.Decide.{dec_le}
use Rattle.sem_msg.specs.Setup.{Setup}
use Rattle.sem_kernel.specs.KernelValue.{KernelValue}
use Rattle.sem_turn.specs.Passes.{PassValue, times}
use Rattle.sem_node.specs.Running.{HasRun}

-- how many of the kernels have the number n
abbrev pub numbered : ℕ → List KernelValue → ℕ
numbered n ks = count_by (λ k. k.id == n) ks

-- as many as there are passes of the number
pub same_numbers : (T : Setup) (n : ℕ) (ks : List KernelValue) (ps : List PassValue) → AllZip (HasRun T) ks ps → numbered n ks ≡ times n ps
same_numbers T n [] [] z = refl
same_numbers T n [] (p ∷ ps) z = absurd z
same_numbers T n (k ∷ ks) [] z = absurd z
same_numbers T n (k ∷ ks) (p ∷ ps) z =
    let rest = same_numbers T n ks ps z.1 in
    sum_by-cons (λ (x : KernelValue). cond (x.id == n) 1 0) k ks
    ∙ ((λ i. cond (z.0.id i == n) 1 0 + rest i) ∙ sym (sum_by-cons (λ (x : PassValue). cond (x.kernel == n) 1 0) p ps))

pub same_length : (T : Setup) (ks : List KernelValue) (ps : List PassValue) → AllZip (HasRun T) ks ps → length ks ≡ length ps
same_length T [] [] z = refl
same_length T [] (p ∷ ps) z = absurd z
same_length T (k ∷ ks) [] z = absurd z
same_length T (k ∷ ks) (p ∷ ps) z = ap suc (same_length T ks ps z.1)

-- 1 where the two are equal
hit : ℕ → ℕ → ℕ
hit a b = cond (a == b) 1 0

hit_yes : (a b : ℕ) → a ≡ b → hit a b ≡ 1
unfolding hit
hit_yes a b e = ap (λ t. cond t 1 0) (eq-eqb a b e)

hit_no : (a b : ℕ) → a ≢ b → hit a b ≡ 0
unfolding hit
hit_no a b ne = ap (λ t. cond t 1 0) (ne_eqb a b ne)

numbered_cons : (n : ℕ) (k : KernelValue) (ks : List KernelValue) → numbered n (k ∷ ks) ≡ hit k.id n + numbered n ks
unfolding hit
numbered_cons n k ks = sum_by-cons (λ (x : KernelValue). cond (x.id == n) 1 0) k ks

-- none has the number n, where each is above n
none_at : (n : ℕ) (ks : List KernelValue) → ((j : ℕ) (d : KernelValue) → j < length ks → n < (get_or ks j d).id) → numbered n ks ≡ 0
none_at n [] h = refl
none_at n (k ∷ ks) h =
    let gt = h 0 k (omega arith) in
    let off = hit_no k.id n (λ e. omega arith) in
    let rest = none_at n ks (λ j d lt. h (suc j) d (omega arith)) in
    let m = numbered_cons n k ks in
    let x : ℕ = numbered n (k ∷ ks) in
    let y : ℕ = numbered n ks in
    let m' : x ≡ hit k.id n + y = m in
    let rest' : y ≡ 0 = rest in
    let r : x ≡ 0 = omega (arith, m', rest', off) in r

-- sorted kernels, one of each number from a on, are in order
pub in_order : (a : ℕ) (ks : List KernelValue) → IsNonDecreasingBy (λ k. k.id) ks → ((k : ℕ) → a ≤ k → k < a + length ks → numbered k ks ≡ 1) →
    ((k : ℕ) → k < a → numbered k ks ≡ 0) → map (λ k. k.id) ks ≡ range_with_len a (length ks)
in_order a [] sorted once none = refl
in_order a (x ∷ xs) sorted once none =
    let low : a ≤ x.id = dite (dec_le a x.id) (λ (le : a ≤ x.id). le) (λ gt. absurd (let z = none x.id (omega arith) in let m = numbered_cons x.id x xs in
    let o = hit_yes x.id x.id refl in omega (arith, z, m, o))) in
    let here : x.id ≡ a = dite (dec_le x.id a)
    (λ (le : x.id ≤ a). let r : x.id ≡ a = omega arith in r)
    (λ gt. absurd (
    let z = none_at a (x ∷ xs) (λ j d lt. let up = sorted 0 j d (omega arith) lt in omega arith) in
    let o = once a (omega arith) (omega arith) in
    omega (arith, z, o))) in
    let rest = in_order (a + 1) xs
    (λ i j d le lt. sorted (suc i) (suc j) d (omega arith) (omega arith))
    (λ k le lt. let o = once k (omega arith) (omega arith) in let m = numbered_cons k x xs in let off = hit_no x.id k (λ e. omega arith) in
    omega (arith, o, m, off))
    (λ k lt. dite (dec_le a k)
    (λ (le : a ≤ k). let same : x.id ≡ k = omega arith in let o = once k (omega arith) (omega arith) in let m = numbered_cons k x xs in
    let on = hit_yes x.id k same in omega (arith, o, m, on))
    (λ gt. let o = none k (omega arith) in let m = numbered_cons k x xs in omega (arith, o, m))) in
    λ i. here i ∷ rest i
