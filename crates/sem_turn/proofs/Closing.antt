-- What is known once one seat carries all kernels.
use Rattle.std.proofs.Common.{◌≡◌, ◌≢◌, ℕ, zero, suc, ◌+◌, ◌<◌, ◌≤◌, true, false, cond, List, [], ◌∷◌, length, Option, Some, None, refl, sym, ap, ◌∙◌, subst}
use Rattle.std.proofs.Common.{⊎_elim, arith}
use Rattle.std.specs.Prelude.{nat_lt, All, sum_by}
use Rattle.std.proofs.lemmas.List.Sums.{sum_by-cons}
use mathlib.Core.Option.{some, some-injective}
use mathlib.Core.Logic.{dite}
use native.Mathlib.Decide.{dec_le, ℕ_discrete}
use lib.ListN.{get_elem?}
use Rattle.atomic_table.specs.Table.{Final, Seen}
use Rattle.sem_msg.specs.Setup.{Setup}
use Rattle.sem_msg.specs.Fabric.{FabricValue}
use Rattle.sem_turn.specs.declared.rule.Share.{Share}
use Rattle.sem_turn.specs.declared.rule.View.{View}
use Rattle.sem_turn.specs.Passes.{IsWhole}
use Rattle.sem_turn.specs.Rule.{IsShareOf, IsFree, IsTurnHeld, IsInTurn, carries, once_below}
use Rattle.sem_turn.proofs.Totals.{is_of, is_of_hit, is_of_miss, shares_of, shares_of-cons, total_at, total_two}
use Rattle.sem_turn.proofs.Opening.{once_below_yes, once_below_no}

-- whether a share is of a kernel below m, as a number
abbrev is_below : ℕ → Share → ℕ
is_below m p = once_below p.kernel m

-- how many are of a kernel below m
below : ℕ → List Share → ℕ
below m ps = sum_by (is_below m) ps

below-cons : (m : ℕ) (p : Share) (ps : List Share) → below m (p ∷ ps) ≡ is_below m p + below m ps
unfolding below
below-cons m p ps = sum_by-cons (is_below m) p ps

-- each is of a kernel below n, where no other kernel is carried
all_below : (n : ℕ) (ps : List Share) → ((k : ℕ) → n ≤ k → shares_of k ps ≡ 0) → below n ps ≡ length ps
unfolding below
all_below n [] h = refl
all_below n (p ∷ ps) h =
    let rest = all_below n ps (λ k le. let z = h k le in let all = shares_of-cons k p ps in omega (arith, z, all)) in
    let head : is_below n p ≡ 1 = dite (dec_le n p.kernel)
    (λ (le : n ≤ p.kernel). absurd (let z = h p.kernel le in let all = shares_of-cons p.kernel p ps in let one = is_of_hit p.kernel p refl in
    omega (arith, z, all, one)))
    (λ gt. once_below_yes p.kernel n (omega arith)) in
    let x : ℕ = is_below n p in
    let y : ℕ = sum_by (is_below n) ps in
    let z : ℕ = sum_by (is_below n) (p ∷ ps) in
    let all : z ≡ x + y = sum_by-cons (is_below n) p ps in
    let head' : x ≡ 1 = head in
    let rest' : y ≡ length ps = rest in
    let r : z ≡ suc (length ps) = omega (arith, all, head', rest') in r

-- one number more
step_one : (m : ℕ) (p : Share) → is_below (suc m) p ≡ is_below m p + is_of m p
step_one m p =
    dite (dec_le (suc m) p.kernel)
    (λ (le : suc m ≤ p.kernel).
    let a = once_below_no p.kernel (suc m) le in let b = once_below_no p.kernel m (omega arith) in let c = is_of_miss m p (λ e. omega arith) in
    let x : ℕ = once_below p.kernel (suc m) in let y : ℕ = once_below p.kernel m in let z : ℕ = is_of m p in
    let a' : x ≡ 0 = a in let b' : y ≡ 0 = b in let c' : z ≡ 0 = c in let r : x ≡ y + z = omega (arith, a', b', c') in r)
    (λ gt. dite (ℕ_discrete p.kernel m)
    (λ (e : p.kernel ≡ m).
    let a = once_below_yes p.kernel (suc m) (omega arith) in let b = once_below_no p.kernel m (omega arith) in let c = is_of_hit m p e in
    let x : ℕ = once_below p.kernel (suc m) in let y : ℕ = once_below p.kernel m in let z : ℕ = is_of m p in
    let a' : x ≡ 1 = a in let b' : y ≡ 0 = b in let c' : z ≡ 1 = c in let r : x ≡ y + z = omega (arith, a', b', c') in r)
    (λ ne.
    let less : p.kernel < m = omega arith in
    let a = once_below_yes p.kernel (suc m) (omega arith) in let b = once_below_yes p.kernel m less in let c = is_of_miss m p ne in
    let x : ℕ = once_below p.kernel (suc m) in let y : ℕ = once_below p.kernel m in let z : ℕ = is_of m p in
    let a' : x ≡ 1 = a in let b' : y ≡ 1 = b in let c' : z ≡ 0 = c in let r : x ≡ y + z = omega (arith, a', b', c') in r))

below_step : (m : ℕ) (ps : List Share) → below (suc m) ps ≡ below m ps + shares_of m ps
unfolding below
below_step m [] = refl
below_step m (p ∷ ps) =
    let a : ℕ = is_below (suc m) p in
    let b : ℕ = is_below m p in
    let c : ℕ = is_of m p in
    let x : ℕ = sum_by (is_below (suc m)) ps in
    let y : ℕ = sum_by (is_below m) ps in
    let z : ℕ = shares_of m ps in
    let x2 : ℕ = sum_by (is_below (suc m)) (p ∷ ps) in
    let y2 : ℕ = sum_by (is_below m) (p ∷ ps) in
    let z2 : ℕ = shares_of m (p ∷ ps) in
    let head : a ≡ b + c = step_one m p in
    let rest : x ≡ y + z = below_step m ps in
    let x' : x2 ≡ a + x = sum_by-cons (is_below (suc m)) p ps in
    let y' : y2 ≡ b + y = sum_by-cons (is_below m) p ps in
    let z' : z2 ≡ c + z = shares_of-cons m p ps in
    let r : x2 ≡ y2 + z2 = omega (arith, head, rest, x', y', z') in r

below_zero : (ps : List Share) → below 0 ps ≡ 0
unfolding below
below_zero [] = refl
below_zero (p ∷ ps) =
    let x : ℕ = is_below 0 p in
    let y : ℕ = sum_by (is_below 0) ps in
    let z : ℕ = sum_by (is_below 0) (p ∷ ps) in
    let head : x ≡ 0 = once_below_no p.kernel 0 (omega arith) in
    let rest : y ≡ 0 = below_zero ps in
    let all : z ≡ x + y = sum_by-cons (is_below 0) p ps in
    let r : z ≡ 0 = omega (arith, head, rest, all) in r

-- there are m at most, where none is of a kernel that another is of
below_most : (m : ℕ) (ps : List Share) → ((k : ℕ) → shares_of k ps < 2) → below m ps ≤ m
below_most zero ps h = let z = below_zero ps in omega (arith, z)
below_most (suc m) ps h = let r = below_most m ps h in let s = below_step m ps in let t = h m in omega (arith, r, s, t)

-- where one kernel below m is left out, there are fewer than m
below_fewer : (m k : ℕ) (ps : List Share) → k < m → shares_of k ps ≡ 0 → ((k : ℕ) → shares_of k ps < 2) → below m ps < m
below_fewer zero k ps lt none h = absurd (omega arith)
below_fewer (suc m) k ps lt none h =
    dite (ℕ_discrete k m)
    (λ (e : k ≡ m). let s = below_step m ps in let t = below_most m ps h in let none' : shares_of m ps ≡ 0 = subst (λ j. shares_of j ps ≡ 0) e none in
    omega (arith, s, t, none'))
    (λ ne. let less : k < m = omega arith in let r = below_fewer m k ps less none h in let s = below_step m ps in let t = h m in omega (arith, r, s, t))

-- n shares, no two of one kernel and none of another kernel than those below n, are one of each
pub each_once : (n : ℕ) (ps : List Share) → length ps ≡ n → ((k : ℕ) → shares_of k ps ≤ once_below k n) → (k : ℕ) → k < n → shares_of k ps ≡ 1
each_once n ps len most k lt =
    let one = once_below_yes k n lt in
    let here = most k in
    let few : (j : ℕ) → shares_of j ps < 2 = λ j. elim (nat_lt j n) as (λ b. shares_of j ps ≤ cond b 1 0 → shares_of j ps < 2) [
      | true ↦ λ h. omega (arith, h)
      | false ↦ λ h. omega (arith, h)
    ] (most j) in
    dite (ℕ_discrete (shares_of k ps) 0)
    (λ (none : shares_of k ps ≡ 0).
    let less = below_fewer n k ps lt none few in
    let all = all_below n ps (λ j le. let no = once_below_no j n le in let m = most j in let x : ℕ = shares_of j ps in let y : ℕ = once_below j n in
    let no' : y ≡ 0 = no in let m' : x ≤ y = m in let r : x ≡ 0 = omega (arith, no', m') in r) in
    let x : ℕ = below n ps in
    let less' : x < n = less in
    let all' : x ≡ length ps = all in
    absurd (omega (arith, less', all', len)))
    (λ some_here. let x : ℕ = shares_of k ps in let y : ℕ = once_below k n in let one' : y ≡ 1 = one in let here' : x ≤ y = here in
    let not_none : x ≢ 0 = some_here in let r : x ≡ 1 = omega (arith, one', here', not_none) in r)

-- what the table has at the end
pub record IsClosed (T : Setup) (ps : List Share) (xs : List (Option FabricValue)) : Type 0 where
  pub fabric : FabricValue
  pub there : get_elem? xs 0 ≡ some (Some fabric)
  pub whole : IsWhole T fabric
  pub fits : All (IsShareOf fabric) ps
  pub once : (k : ℕ) → k < T.kernels → shares_of k ps ≡ 1

-- some kernel is carried
head_kernel : (ps : List Share) → 0 < length ps → (k : ℕ) × (0 < shares_of k ps)
head_kernel [] h = absurd (omega arith)
head_kernel (p ∷ ps) h = (p.kernel, (let one = is_of_hit p.kernel p refl in let all = shares_of-cons p.kernel p ps in omega (arith, one, all)))

-- where one seat carries as many kernels as there are, the fabric is at home
pub closes : (key T : Setup) (id : ℕ) (v : View) (ws : List ℕ) (xs : List (Option FabricValue)) → key ≡ T → v.taken ≡ None → length v.shares ≡ T.kernels
    → Final (Seen (IsInTurn key) id v) ws xs → IsClosed T v.shares xs
closes key T id v ws xs key_is free len last =
    let n : ℕ = T.kernels in
    let s = last.0 in
    let h : IsInTurn T s = subst (λ k. IsInTurn k s) key_is last.1.0 in
    let at = last.1.1 in
    let most : (k : ℕ) → shares_of k v.shares ≤ once_below k n = λ k. subst (λ m. shares_of k v.shares ≤ m) (h.once k) (total_at (carries k) s.views id v at) in
    let once = each_once n v.shares len most in
    let there : get_elem? xs 0 ≡ some (Some h.fabric) = ⊎_elim
    (λ (home : IsFree s h.fabric). last.4 0 (Some h.fabric) (ap (λ hs. get_elem? hs 0) home.1))
    (λ (held : IsTurnHeld s h.fabric).
    let now = held.2 in
    let apart : now.0 ≢ id = λ e. absurd (let same : now.1 ≡ v = some-injective now.1 v (sym now.2 ∙ ap (λ j. get_elem? s.views j) e ∙ at) in
    cc (sym now.3 ∙ ap (λ (x : View). x.taken) same ∙ free)) in
    let k = head_kernel now.1.shares now.4 in
    let two = total_two (carries k.0) s.views id now.0 v now.1 apart at now.2 in
    let all = h.once k.0 in
    absurd (dite (dec_le n k.0)
    (λ (le : n ≤ k.0). let no = once_below_no k.0 n le in
    let a : ℕ = shares_of k.0 v.shares in let b : ℕ = shares_of k.0 now.1.shares in let t : ℕ = sum_by (carries k.0) s.views in let o : ℕ = once_below k.0 n in
    let two' : a + b ≤ t = two in let all' : t ≡ o = all in let no' : o ≡ 0 = no in let some' : 0 < b = k.1 in
    let r : ⊥ = omega (arith, two', all', no', some') in r)
    (λ lt. let yes = once_below_yes k.0 n (omega arith) in let mine = once k.0 (omega arith) in
    let a : ℕ = shares_of k.0 v.shares in let b : ℕ = shares_of k.0 now.1.shares in let t : ℕ = sum_by (carries k.0) s.views in let o : ℕ = once_below k.0 n in
    let two' : a + b ≤ t = two in let all' : t ≡ o = all in let yes' : o ≡ 1 = yes in let some' : 0 < b = k.1 in let mine' : a ≡ 1 = mine in
    let r : ⊥ = omega (arith, two', all', yes', some', mine') in r)))
    h.stands in
    record { fabric = h.fabric; there = there; whole = h.whole; fits = h.each id v at; once = once }
