-- A tree of parts has each part once.
use Rattle.std.proofs.Common.{◌≡◌, ◌≢◌, ℕ, zero, suc, ◌+◌, ◌<◌, ◌≤◌, List, [], ◌∷◌, ◌++◌, length, take, get_or, refl, sym, ◌∙◌, ap, subst, inl, inr, arith, ◌⊎◌}
use Rattle.std.specs.List.{Contains}
use Rattle.std.proofs.lemmas.Bool.{cases_eq, cases_lt}
use Rattle.std.proofs.lemmas.List.{length_push, take_at, get_or_at, get_or_append_left, get_or_default}
use Rattle.std.proofs.lemmas.List.Quantifiers.{all_pairs_push}
use Rattle.sem_msg.specs.declared.entry.Entry.{Entry}
use Rattle.sem_histories.specs.Trees.{IsTree, part_below}

snoc-same : {X : Type 0} (xs ys : List X) (x y : X) → xs ++ x ∷ [] ≡ ys ++ y ∷ [] → (xs ≡ ys) × (x ≡ y)
snoc-same xs ys x y same =
    let whole = ap length same in
    let left = length_push xs x in
    let right = length_push ys y in
    let long : length xs ≡ length ys = omega (arith, whole, left, right) in (
      sym (take_at xs (x ∷ []) (length xs) refl) ∙ (ap (take (length xs)) same ∙ take_at ys (y ∷ []) (length xs) (sym long)),
      sym (get_or_at xs x [] x (length xs) refl) ∙ (ap (λ l. get_or l (length xs) x) same ∙ get_or_at ys y [] x (length xs) (sym long)),
    )

pub tree-start : IsTree [] ([] ∷ [])
tree-start = record {
  long = refl;
  root = refl;
  earlier = λ k d inside. absurd (none k inside);
  child = λ k d inside. absurd (none k inside);
  apart = λ i j d less inside. absurd (one i j less inside);
}
  where
    none : (k : ℕ) → k < 0 → ⊥
    none k inside = omega (arith, inside)

    one : (i j : ℕ) → i < j → j < 1 → ⊥
    one i j less inside = omega (arith, less, inside)

module _ (nodes : List (ℕ × Entry)) (parts : List (List Entry)) (is : IsTree nodes parts) where
  pub tree-tells : (i j : ℕ) → i < length parts → j < length parts → get_or parts i [] ≡ get_or parts j [] → i ≡ j
  tree-tells i j here there same = elim (cases_eq i j) [
    | inl equal ↦ equal
    | inr apart ↦ elim (cases_lt i j) [
      | inl less ↦ absurd (is.apart i j [] less there same)
      | inr more ↦ let less : j < i = omega (arith, more, apart) in absurd (is.apart j i [] less here (sym same))
    ]
  ]

  module _ (p : ℕ) (e : Entry) (inside : p ≤ length nodes) (new : Contains nodes (p, e) → ⊥) where
    new-part : (k : ℕ) → k < length parts → get_or parts k [] ≢ part_below parts p e
    new-part zero here same =
        let whole = ap length (sym is.root ∙ same) in
        let more = length_push (get_or parts p []) e in
        omega (arith, whole, more)
    new-part (suc m) here same =
        let long = is.long in
        let within : m < length nodes = omega (arith, long, here) in
        let node : ℕ × Entry = get_or nodes m (p, e) in
        let up : suc m ≡ m + 1 = omega arith in
        let both = snoc-same (get_or parts node.0 []) (get_or parts p []) node.1 e (sym (is.child m (p, e) within)
        ∙ (ap (λ n. get_or parts n []) (sym up) ∙ same)) in
        let before = is.earlier m (p, e) within in
        let parent : node.0 ≡ p = tree-tells node.0 p (omega (arith, long, within, before)) (omega (arith, long, inside)) both.0 in
        new (m, within, λ k. (parent k, both.1 k))

    pub tree-put : IsTree (nodes ++ (p, e) ∷ []) (parts ++ part_below parts p e ∷ [])
    tree-put =
        let long = is.long in
        let more = length_push nodes (p, e) in
        let more' = length_push parts (part_below parts p e) in
        record {
          long = omega (arith, long, more, more');
          root = get_or_append_left parts (part_below parts p e ∷ []) [] 0 (omega (arith, long)) ∙ is.root;
          earlier = λ k d within. by_place k d (place k within);
          child = λ k d within. child-by k d (place k within);
          apart = all_pairs_push (λ L M. L ≢ M) parts (part_below parts p e) is.apart (λ k d here same. new-part k here (get_or_default parts k [] d here
              ∙ same));
        }
      where
        place : (k : ℕ) → k < length (nodes ++ (p, e) ∷ []) → (k < length nodes) ⊎ (length nodes ≡ k)
        place k within =
            let more = length_push nodes (p, e) in
            elim (cases_lt k (length nodes)) [
              | inl less ↦ inl less
              | inr past ↦ inr (omega (arith, more, within, past))
            ]

        by_place : (k : ℕ) (d : ℕ × Entry) → (k < length nodes) ⊎ (length nodes ≡ k) → (get_or (nodes ++ (p, e) ∷ []) k d).0 ≤ k
        by_place k d (inl less) = subst (λ (n : ℕ × Entry). n.0 ≤ k) (sym (get_or_append_left nodes ((p, e) ∷ []) d k less)) (is.earlier k d less)
        by_place k d (inr last) = subst (λ (n : ℕ × Entry). n.0 ≤ k) (sym (get_or_at nodes (p, e) [] d k last)) (subst (λ m. p ≤ m) last inside)

        -- the parts that were there stand where they stood
        kept : (k : ℕ) → k < length parts → get_or (parts ++ part_below parts p e ∷ []) k [] ≡ get_or parts k []
        kept k here = get_or_append_left parts (part_below parts p e ∷ []) [] k here

        child-by : (k : ℕ) (d : ℕ × Entry) → (k < length nodes) ⊎ (length nodes ≡ k)
            → get_or (parts ++ part_below parts p e ∷ []) (k + 1) [] ≡ get_or (parts ++ part_below parts p e ∷ []) (get_or (nodes ++ (p, e) ∷ []) k d).0 []
            ++ (get_or (nodes ++ (p, e) ∷ []) k d).1 ∷ []
        child-by k d (inl less) =
            let long = is.long in
            let before = is.earlier k d less in
            subst (λ (n : ℕ × Entry). get_or (parts ++ part_below parts p e ∷ []) (k + 1) [] ≡ get_or (parts ++ part_below parts p e ∷ []) n.0 [] ++ n.1 ∷ [])
            (sym (get_or_append_left nodes ((p, e) ∷ []) d k less))
            (kept (k + 1) (omega (arith, long, less))
            ∙ (is.child k d less ∙ ap (λ L. L ++ (get_or nodes k d).1 ∷ []) (sym (kept (get_or nodes k d).0 (omega (arith, long, less, before))))))
        child-by k d (inr last) =
            let long = is.long in
            subst (λ (n : ℕ × Entry). get_or (parts ++ part_below parts p e ∷ []) (k + 1) [] ≡ get_or (parts ++ part_below parts p e ∷ []) n.0 [] ++ n.1 ∷ [])
            (sym (get_or_at nodes (p, e) [] d k last))
            (get_or_at parts (part_below parts p e) [] [] (k + 1) (omega (arith, long, last))
            ∙ ap (λ L. L ++ e ∷ []) (sym (kept p (omega (arith, long, inside)))))
