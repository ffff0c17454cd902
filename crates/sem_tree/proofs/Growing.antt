-- Rows that grow key by key.
use Rattle.std.proofs.Common.{◌≡◌, ℕ, ◌+◌, ◌<◌, List, [], ◌∷◌, ◌++◌, length, map, take, get_or, Option, sym, ◌∙◌, ap}
use Rattle.std.proofs.lemmas.List.{take_more, map-append}
use Rattle.sem_key.specs.KeyName.{KeyName}
use Rattle.sem_machine.specs.Journals.{parent_in}
use Rattle.sem_tree.specs.declared.rows.TreeRow.{TreeRow}

-- rows are those of these keys, where there were these grants
pub record AreRows (gs : List (KeyName × KeyName)) (ks : List KeyName) (rows : List TreeRow) : Type 0 where
  pub keys : map (λ (r : TreeRow). r.key) rows ≡ ks
  pub parents : map (λ (r : TreeRow). r.parent) rows ≡ map (parent_in gs) ks

-- no row is that of no key
pub rows_none : (gs : List (KeyName × KeyName)) (rows : List TreeRow) → rows ≡ [] → AreRows gs [] rows
rows_none gs rows none = record {
  keys = ap (map (λ (r : TreeRow). r.key)) none;
  parents = ap (map (λ (r : TreeRow). r.parent)) none;
}

-- one row more
pub rows_more : (gs : List (KeyName × KeyName)) (ks : List KeyName) (i : ℕ) (k : KeyName) (parent : Option KeyName) (now new : List TreeRow) → i < length ks →
    k ≡ get_or ks i k → AreRows gs (take i ks) now → parent ≡ parent_in gs k → new ≡ now ++ record { key = k; parent = parent } ∷ [] →
    AreRows gs (take (i + 1) ks) new
rows_more gs ks i k parent now new more at so_far above is =
    let row : TreeRow = record { key = k; parent = parent } in
    let one_more : take (i + 1) ks ≡ take i ks ++ k ∷ [] = take_more ks i k more ∙ ap (λ x. take i ks ++ x ∷ []) (sym at) in
    record {
      keys = ap (map (λ (r : TreeRow). r.key)) is ∙ (map-append (λ (r : TreeRow). r.key) now (row ∷ []) ∙ (ap (λ xs. xs ++ k ∷ []) so_far.keys ∙ sym one_more));
      parents = ap (map (λ (r : TreeRow). r.parent)) is
          ∙ (map-append (λ (r : TreeRow). r.parent) now (row ∷ [])
          ∙ (ap (λ xs. xs ++ parent ∷ []) so_far.parents
          ∙ (ap (λ p. map (parent_in gs) (take i ks) ++ p ∷ []) above
          ∙ (sym (map-append (parent_in gs) (take i ks) (k ∷ [])) ∙ ap (map (parent_in gs)) (sym one_more)))));
    }
