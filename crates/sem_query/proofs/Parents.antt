-- The parent of a key, entry by entry.
use Rattle.std.proofs.Common.{◌≡◌, ℕ, ◌+◌, ◌≤◌, ◌<◌, Bool, List, [], ◌∷◌, ◌++◌, length, take, drop, get_or, Option, Some, None, refl, sym, ap, ◌∙◌, inl, inr}
use Rattle.std.specs.Option.{option_map, option_to_list}
use Rattle.std.specs.List.{find}
use Rattle.std.proofs.lemmas.Bool.{cases_Bool, cond-true, cond-false}
use Rattle.std.proofs.lemmas.List.{take_more, take_all, take-append-drop}
use Rattle.std.proofs.lemmas.List.Elements.{filter_map-append}
use Rattle.sem_key.specs.KeyName.{KeyName, key_eq}
use Rattle.sem_msg.specs.declared.entry.Entry.{Entry}
use Rattle.sem_machine.specs.Journals.{grants, parent_in}

module _ (k : KeyName) where
  abbrev is_child : KeyName × KeyName → Bool
  is_child g = key_eq g.1 k

  above : Option (KeyName × KeyName) → Option KeyName
  above o = option_map (λ g. g.0) o

  none-append : (gs hs : List (KeyName × KeyName)) → parent_in gs k ≡ None → parent_in (gs ++ hs) k ≡ parent_in hs k
  unfolding above
  none-append [] hs none = refl
  none-append (g ∷ gs) hs none = elim (cases_Bool (is_child g)) [
    | inl yes' ↦ let some : Some g.0 ≡ None = sym (ap above (cond-true (is_child g) (Some g) (find is_child gs) yes')) ∙ none in absurd cc
    | inr no' ↦
        ap above (cond-false (is_child g) (Some g) (find is_child (gs ++ hs)) no')
        ∙ none-append gs hs (sym (ap above (cond-false (is_child g) (Some g) (find is_child gs) no')) ∙ none)
  ]

  some-append : (gs hs : List (KeyName × KeyName)) (p : KeyName) → parent_in gs k ≡ Some p → parent_in (gs ++ hs) k ≡ Some p
  unfolding above
  some-append [] hs p some = absurd cc
  some-append (g ∷ gs) hs p some = elim (cases_Bool (is_child g)) [
    | inl yes' ↦
        ap above (cond-true (is_child g) (Some g) (find is_child (gs ++ hs)) yes')
        ∙ (sym (ap above (cond-true (is_child g) (Some g) (find is_child gs) yes')) ∙ some)
    | inr no' ↦
        ap above (cond-false (is_child g) (Some g) (find is_child (gs ++ hs)) no')
        ∙ some-append gs hs p (sym (ap above (cond-false (is_child g) (Some g) (find is_child gs) no')) ∙ some)
  ]

  one-grant : (e : Entry) → grants (e ∷ []) ≡ option_to_list e.grant
  one-grant e = of e.grant refl
    where
      of : (o : Option (KeyName × KeyName)) → e.grant ≡ o → grants (e ∷ []) ≡ option_to_list o
      of None none = rw none refl
      of (Some g) some = rw some refl

  module _ (es : List Entry) (i : ℕ) (e : Entry) (within : i < length es) (at : e ≡ get_or es i e) (none : parent_in (grants (take i es)) k ≡ None) where
    next : parent_in (grants (take (i + 1) es)) k ≡ parent_in (option_to_list e.grant) k
    next =
        ap (λ xs. parent_in (grants xs) k) (take_more es i e within ∙ ap (λ x. take i es ++ x ∷ []) (sym at))
        ∙ (ap (λ gs. parent_in gs k) (filter_map-append (λ (x : Entry). x.grant) (take i es) (e ∷ []))
        ∙ (none-append (grants (take i es)) (grants (e ∷ [])) none
        ∙ ap (λ gs. parent_in gs k) (one-grant e)))

    -- one entry more, which is no grant of the key
    pub parent-more : parent_in (option_to_list e.grant) k ≡ None → parent_in (grants (take (i + 1) es)) k ≡ None
    parent-more here = next ∙ here

    -- or is the first
    pub parent-found : (p : KeyName) → parent_in (option_to_list e.grant) k ≡ Some p → parent_in (grants es) k ≡ Some p
    parent-found p here =
        ap (λ xs. parent_in (grants xs) k) (sym (take-append-drop (i + 1) es))
        ∙ (ap (λ gs. parent_in gs k) (filter_map-append (λ (x : Entry). x.grant) (take (i + 1) es) (drop (i + 1) es))
        ∙ some-append (grants (take (i + 1) es)) (grants (drop (i + 1) es)) p (next ∙ here))

  -- no entry is
  pub parent-none : (es : List Entry) (i : ℕ) → length es ≤ i → parent_in (grants (take i es)) k ≡ None → parent_in (grants es) k ≡ None
  parent-none es i all none = ap (λ xs. parent_in (grants xs) k) (sym (take_all i es all)) ∙ none
