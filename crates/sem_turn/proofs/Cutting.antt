-- Cutting a seat in two and joining two seats keep the rule of the turn.
use Rattle.std.proofs.Common.{◌≡◌, ◌≢◌, ℕ, ◌+◌, List, [], ◌∷◌, ◌++◌, set, None, Some, refl, sym, ap, ◌∙◌, subst, inl, inr, ⊎_elim, arith}
use Rattle.std.specs.Prelude.{All, sum_by}
use Rattle.std.proofs.lemmas.List.Elements.{All-nil, All-append}
use Rattle.std.proofs.lemmas.List.Sums.{sum_by_push, sum_by-append}
use mathlib.Core.Option.{some, some-injective}
use lib.ListN.{get_elem?}
use Rattle.atomic_table.specs.Table.{Splits, Joins}
use Rattle.atomic_table.proofs.Lists.{at_set, at_snoc, at_longer, set_else}
use Rattle.sem_msg.specs.Setup.{Setup}
use Rattle.sem_msg.specs.Fabric.{FabricValue}
use Rattle.sem_turn.specs.declared.rule.View.{View}
use Rattle.sem_turn.specs.Rule.{IsShareOf, IsFree, IsTurnHeld, IsInTurn, carries, once_below}
use Rattle.sem_turn.specs.Steps.{rest_of, front_of, cut_rest, cut_front, glued, nobody}
use Rattle.sem_turn.proofs.Totals.{is_of, shares_of, total_set}
use Rattle.sem_turn.proofs.Fitting.{fits-rest, fits-front, shares_of-cut}
use Rattle.sem_turn.proofs.Moves.{all_set}

-- what holds of each view holds on where one is set and one is added
all_split : (P : View → Type 0) (views : List View) (id : ℕ) (w u : View) → ((j : ℕ) (v : View) → get_elem? views j ≡ some v → P v) → P w → P u →
    (j : ℕ) (v : View)
    → get_elem? (set views id w ++ u ∷ []) j ≡ some v → P v
all_split P views id w u all pw pu j v e =
    ⊎_elim
    (λ (was : get_elem? (set views id w) j ≡ some v). all_set P views id w (λ i x _ d. all i x d) pw j v was)
    (λ (new : u ≡ v). subst P new pu)
    (at_snoc (set views id w) u v j e)

-- a view that does not hold the turn is not the holder's
not_holder : (views : List View) (holder i : ℕ) (h v : View) (f : FabricValue) → get_elem? views holder ≡ some h → h.taken ≡ Some f → get_elem? views i ≡ some v
    → v.taken ≡ None → holder ≢ i
not_holder views holder i h v f there holds at free same = absurd (let equal : h ≡ v = some-injective h v (sym there ∙ ap (λ j. get_elem? views j) same ∙ at) in
    cc (sym holds ∙ ap (λ (x : View). x.taken) equal ∙ free))

-- cutting keeps the rule
pub split_moves : (T : Setup) (id : ℕ) (v : View) → v.taken ≡ None → Splits (IsInTurn T) id v (cut_rest v) (cut_front v)
split_moves T id v free s h at = record {
  fabric = h.fabric;
  whole = h.whole;
  stands = ⊎_elim
      (λ (home : IsFree s h.fabric). inl (home.0, home.1, all_split (λ u. u.taken ≡ None) s.views id (cut_rest v) (cut_front v) home.2 free refl))
      (λ (held : IsTurnHeld s h.fabric).
      let now = held.2 in
      let apart : now.0 ≢ id = not_holder s.views now.0 id now.1 v h.fabric now.2 now.3 at free in
      inr (
        held.0,
        held.1,
        (
          now.0,
          now.1,
          at_longer (set s.views id (cut_rest v)) (cut_front v ∷ []) now.0 now.1 (set_else s.views id now.0 (cut_rest v) apart ∙ now.2),
          now.3,
          now.4,
          λ j u ne e. ⊎_elim
              (λ (was : get_elem? (set s.views id (cut_rest v)) j ≡ some u). ⊎_elim
              (λ (t : (j ≡ id) × (cut_rest v ≡ u)). ap (λ (x : View). x.taken) (sym t.1) ∙ free)
              (λ (t : (j ≢ id) × (get_elem? s.views j ≡ some u)). now.5 j u ne t.1)
              (at_set s.views id j (cut_rest v) u was))
              (λ (new : cut_front v ≡ u). ap (λ (x : View). x.taken) (sym new))
              (at_snoc (set s.views id (cut_rest v)) (cut_front v) u j e),
        ),
      ))
      h.stands;
  each = all_split (λ x. All (IsShareOf h.fabric) x.shares) s.views id (cut_rest v) (cut_front v) h.each (fits-rest h.fabric v.shares (h.each id v at))
      (fits-front h.fabric v.shares (h.each id v at));
  once = λ k.
      let t = total_set (carries k) s.views id v (cut_rest v) at in
      let a = sum_by_push (carries k) (set s.views id (cut_rest v)) (cut_front v) in
      let c = shares_of-cut k v.shares in
      let o = h.once k in
      let x : ℕ = sum_by (carries k) (set s.views id (cut_rest v)) in
      let y : ℕ = sum_by (carries k) s.views in
      let z : ℕ = sum_by (carries k) (set s.views id (cut_rest v) ++ cut_front v ∷ []) in
      let l : ℕ = shares_of k (rest_of v.shares) in
      let r : ℕ = shares_of k (front_of v.shares) in
      let m : ℕ = shares_of k v.shares in
      let b : ℕ = once_below k T.kernels in
      let t' : x + m ≡ y + l = t in
      let a' : z ≡ x + r = a in
      let c' : l + r ≡ m = c in
      let o' : y ≡ b = o in
      let q : z ≡ b = omega (arith, t', a', c', o') in q;
}

-- joining keeps the rule
pub join_moves : (T : Setup) (id other : ℕ) (v w : View) → v.taken ≡ None → w.taken ≡ None → Joins (IsInTurn T) id v other w (glued v w) nobody
join_moves T id other v w free free' s h at apart there =
    let both = glued v w in
    let there' : get_elem? s.views other ≡ some w = sym (set_else s.views id other both apart) ∙ there in
    let after = set (set s.views id both) other nobody in
    let all : (P : View → Type 0) → ((j : ℕ) (u : View) → get_elem? s.views j ≡ some u → P u) → P both → P nobody → (j : ℕ) (u : View) →
    get_elem? after j ≡ some u → P u = λ P was pb pn.
    all_set P (set s.views id both) other nobody (λ j u _ e. all_set P s.views id both (λ i x _ d. was i x d) pb j u e) pn in record {
      fabric = h.fabric;
      whole = h.whole;
      stands = ⊎_elim
          (λ (home : IsFree s h.fabric). inl (home.0, home.1, all (λ u. u.taken ≡ None) home.2 free refl))
          (λ (held : IsTurnHeld s h.fabric).
          let now = held.2 in
          let off : (i : ℕ) (u : View) → get_elem? s.views i ≡ some u → u.taken ≡ None →
          now.0 ≢ i = λ i u e none. not_holder s.views now.0 i now.1 u h.fabric now.2 now.3 e none in
          inr (
            held.0,
            held.1,
            (
              now.0,
              now.1,
              set_else (set s.views id both) other now.0 nobody (off other w there' free') ∙ set_else s.views id now.0 both (off id v at free) ∙ now.2,
              now.3,
              now.4,
              λ j u ne e. ⊎_elim
                  (λ (t : (j ≡ other) × (nobody ≡ u)). ap (λ (x : View). x.taken) (sym t.1))
                  (λ (t : (j ≢ other) × (get_elem? (set s.views id both) j ≡ some u)). ⊎_elim
                  (λ (t : (j ≡ id) × (both ≡ u)). ap (λ (x : View). x.taken) (sym t.1) ∙ free)
                  (λ (t : (j ≢ id) × (get_elem? s.views j ≡ some u)). now.5 j u ne t.1)
                  (at_set s.views id j both u t.1))
                  (at_set (set s.views id both) other j nobody u e),
            ),
          ))
          h.stands;
      each = all (λ x. All (IsShareOf h.fabric) x.shares) h.each (All-append (IsShareOf h.fabric) v.shares w.shares (h.each id v at) (h.each other w there'))
          (All-nil (IsShareOf h.fabric));
      once = λ k.
          let t = total_set (carries k) s.views id v both at in
          let t2 = total_set (carries k) (set s.views id both) other w nobody there in
          let c = sum_by-append (is_of k) v.shares w.shares in
          let o = h.once k in
          let x : ℕ = sum_by (carries k) (set s.views id both) in
          let y : ℕ = sum_by (carries k) s.views in
          let z : ℕ = sum_by (carries k) after in
          let l : ℕ = shares_of k v.shares in
          let r : ℕ = shares_of k w.shares in
          let m : ℕ = shares_of k (v.shares ++ w.shares) in
          let b : ℕ = once_below k T.kernels in
          let t' : x + l ≡ y + m = t in
          let t2' : z + r ≡ x + 0 = t2 in
          let c' : m ≡ l + r = c in
          let o' : y ≡ b = o in
          let q : z ≡ b = omega (arith, t', t2', c', o') in q;
    }
