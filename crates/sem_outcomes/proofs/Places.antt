-- Where an element stands that has a value.
use Rattle.std.proofs.Common.{◌≡◌, ℕ, zero, suc, ◌+◌, ◌<◌, List, [], ◌∷◌, length, map, get_or, slice_get, Some, refl, sym, ◌∙◌, ap, arith, inl, inr}
use Rattle.std.proofs.lemmas.Bool.{cases_eq}
use Rattle.std.proofs.lemmas.List.{get_or_default}
use Rattle.std.proofs.lemmas.Option.{none-some, same_Some, slice_get-map, slice_get-get_or}
use Rattle.std.specs.Option.{option_map}

-- none of the first has the value
abbrev pub NoneBelow : {A B : Type 0} → (A → B) → List A → B → ℕ → Type 0
NoneBelow {A} {B} f xs y i = (k : ℕ) (d : A) → k < i → f (get_or xs k d) ≡ y → ⊥

module _ {A B : Type 0} (f : A → B) where
  -- a value of a mapped list is that of an element
  pub mapped-at : (xs : List A) (k : ℕ) (y : B) → slice_get (map f xs) k ≡ Some y → (x : A) × (slice_get xs k ≡ Some x) × (f x ≡ y)
  mapped-at [] k y there = absurd (none-some y there)
  mapped-at (x ∷ xs) zero y there = (x, refl, same_Some (f x) y there)
  mapped-at (x ∷ xs) (suc k) y there = mapped-at xs k y there

  module _ (xs : List A) (y : B) (i : ℕ) (x : A) (here : i < length xs) (is : x ≡ get_or xs i x) where
    pub there-at : f x ≡ y → slice_get (map f xs) i ≡ Some y
    there-at same = slice_get-map f xs i ∙ (ap (option_map f) (slice_get-get_or xs i x here ∙ ap Some (sym is)) ∙ ap Some same)

    pub none-more : (f x ≡ y → ⊥) → NoneBelow f xs y i → NoneBelow f xs y (i + 1)
    none-more other before k d below same = elim (cases_eq k i) [
      | inl equal ↦ other (ap f (is ∙ (get_or_default xs i x d here ∙ ap (λ n. get_or xs n d) (sym equal))) ∙ same)
      | inr apart ↦ before k d (omega (arith, below, apart)) same
    ]
