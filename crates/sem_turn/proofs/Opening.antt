-- The rule of the turn holds at the start.
use Rattle.std.proofs.Common.{◌≡◌, ℕ, zero, suc, ◌+◌, ◌<◌, ◌≤◌, false, List, [], ◌∷◌, Option, Some, None, refl, sym, ap, ◌∙◌, subst, inl, arith}
use Rattle.std.specs.Prelude.{All}
use Rattle.std.proofs.lemmas.Bool.Decides.{nat_tests}
use Rattle.std.proofs.lemmas.List.Elements.{All-nil, All-cons}
use Rattle.std.proofs.lemmas.List.Sums.{sum_by-cons}
use mathlib.Core.Option.{some, some-injective, some-ne-none}
use mathlib.Core.Logic.{dite}
use native.Mathlib.Decide.{dec_le}
use lib.ListN.{get_elem?}
use Rattle.atomic_table.specs.Table.{opening}
use Rattle.sem_msg.specs.Setup.{Setup}
use Rattle.sem_msg.specs.Journal.{part}
use Rattle.sem_msg.specs.Fabric.{FabricValue}
use Rattle.sem_msg.proofs.Squares.{square-start}
use Rattle.sem_fabric.specs.Fabrics.{new_fabric}
use Rattle.sem_fabric.proofs.Starts.{agrees-new}
use Rattle.sem_turn.specs.declared.rule.View.{View}
use Rattle.sem_turn.specs.Passes.{IsWhole}
use Rattle.sem_turn.specs.Rule.{IsShareOf, IsInTurn, carries, once_below, share, new_shares, first_view}
use Rattle.sem_turn.proofs.Totals.{is_of_hit, is_of_miss, shares_of, shares_of-cons}

pub once_below_yes : (k n : ℕ) → k < n → once_below k n ≡ 1
once_below_yes k n h = grind (arith, nat_tests)

pub once_below_no : (k n : ℕ) → n ≤ k → once_below k n ≡ 0
once_below_no k n h = grind (arith, nat_tests)

-- new shares have no kernel before the first
none_before : (k a n : ℕ) → k < a → shares_of k (new_shares a n) ≡ 0
none_before k a zero h = refl
none_before k a (suc n) h =
    let rest = none_before k (a + 1) n (omega arith) in
    let head = is_of_miss k (share a [] false) (λ e. omega arith) in
    omega (arith, rest, head, shares_of-cons k (share a [] false) (new_shares (a + 1) n))

-- and none behind the last
none_after : (k a n : ℕ) → a + n ≤ k → shares_of k (new_shares a n) ≡ 0
none_after k a zero h = refl
none_after k a (suc n) h =
    let rest = none_after k (a + 1) n (omega arith) in
    let head = is_of_miss k (share a [] false) (λ e. omega arith) in
    omega (arith, rest, head, shares_of-cons k (share a [] false) (new_shares (a + 1) n))

-- but each between them, once
once_within : (k a n : ℕ) → a ≤ k → k < a + n → shares_of k (new_shares a n) ≡ 1
once_within k a zero h l = absurd (omega arith)
once_within k a (suc n) h l =
    dite (dec_le (a + 1) k)
    (λ (above : a + 1 ≤ k).
    let rest = once_within k (a + 1) n above (omega arith) in
    let head = is_of_miss k (share a [] false) (λ e. omega arith) in
    omega (arith, rest, head, shares_of-cons k (share a [] false) (new_shares (a + 1) n)))
    (λ not_above.
    let here : a ≡ k = omega arith in
    let rest = none_before k (a + 1) n (omega arith) in
    let head = is_of_hit k (share a [] false) here in
    omega (arith, rest, head, shares_of-cons k (share a [] false) (new_shares (a + 1) n)))

-- the first seat carries each kernel of the setup once
carried_once : (k n : ℕ) → shares_of k (new_shares 0 n) ≡ once_below k n
carried_once k n =
    dite (dec_le n k)
    (λ (past : n ≤ k). none_after k 0 n (omega arith) ∙ sym (once_below_no k n past))
    (λ before. once_within k 0 n (omega arith) (omega arith) ∙ sym (once_below_yes k n (omega arith)))

-- new shares fit a fabric whose journal is empty
fits_new : (f : FabricValue) → f.journal ≡ [] → (a n : ℕ) → All (IsShareOf f) (new_shares a n)
fits_new f e a zero = All-nil (IsShareOf f)
fits_new f e a (suc n) = All-cons (IsShareOf f) (share a [] false) (new_shares (a + 1) n) (sym (ap (λ J. part J a) e), λ no. absurd (cc no)) (fits_new f e (a + 1) n)

-- a new fabric is whole
new-whole : (T : Setup) → IsWhole T (new_fabric T)
new-whole T = record { agrees = agrees-new T; square = square-start T.kernels }

begins : (T : Setup) → IsInTurn T (opening (0 ∷ []) (Some (new_fabric T) ∷ []) (first_view T.kernels))
begins T = record {
  fabric = new_fabric T;
  whole = new-whole T;
  stands = inl (refl, refl, only (λ v. v.taken ≡ None) refl);
  each = only (λ v. All (IsShareOf (new_fabric T)) v.shares) (fits_new (new_fabric T) refl 0 T.kernels);
  once = λ k. sum_by-cons (carries k) (first_view T.kernels) [] ∙ alone (carries k (first_view T.kernels)) ∙ carried_once k T.kernels;
}
  where
    only : (P : View → Type 0) → P (first_view T.kernels) → (j : ℕ) (v : View) → get_elem? (first_view T.kernels ∷ []) j ≡ some v → P v
    only P p zero v e = subst P (some-injective _ _ e) p
    only P p (suc j) v e = absurd (some-ne-none v (sym e))

    alone : (n : ℕ) → n + 0 ≡ n
    alone n = omega arith

-- the table with a new fabric in its only slot keeps the rule
pub begins_as : (T : Setup) (f : FabricValue) (slots : List (Option FabricValue)) → slots ≡ Some f ∷ [] → f ≡ new_fabric T
    → IsInTurn T (opening (0 ∷ []) slots (first_view T.kernels))
begins_as T f slots slots_are new =
    subst (λ (x : List (Option FabricValue)). IsInTurn T (opening (0 ∷ []) x (first_view T.kernels)))
    (sym (◌∙◌ {A = List (Option FabricValue)} slots_are (ap (λ (g : FabricValue). Some g ∷ []) new))) (begins T)
