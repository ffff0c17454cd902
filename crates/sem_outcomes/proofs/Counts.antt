-- How many of a list have a property, as the list grows.
use Rattle.std.proofs.Common.{ℕ, ◌+◌, ◌≤◌, arith, List, [], ◌∷◌, ◌++◌, length, refl, ap, inl, inr}
use Rattle.std.specs.List.{Contains}
use Rattle.std.proofs.lemmas.List.Elements.{Contains-append_right}
use Rattle.sem_key.proofs.Members.{Contains-head}
use Rattle.sem_histories.specs.Listing.{HasSoMany}

module _ {A : Type 0} (P : A → Type 0) where
  pub count-more : (xs : List A) (n : ℕ) (y : A) → P y → HasSoMany P xs n → HasSoMany P (xs ++ y ∷ []) (n + 1)
  count-more [] n y is none = inl (is, (n, refl, none))
  count-more (x ∷ xs) n y is (inl (has, (m, more, rest))) = inl (has, (m + 1, ap (λ k. k + 1) more, count-more xs m y is rest))
  count-more (x ∷ xs) n y is (inr (lacks, rest)) = inr (lacks, count-more xs n y is rest)

  pub count-same : (xs : List A) (n : ℕ) (y : A) → (P y → ⊥) → HasSoMany P xs n → HasSoMany P (xs ++ y ∷ []) n
  count-same [] n y fails none = inr (fails, none)
  count-same (x ∷ xs) n y fails (inl (has, (m, more, rest))) = inl (has, (m, more, count-same xs m y fails rest))
  count-same (x ∷ xs) n y fails (inr (lacks, rest)) = inr (lacks, count-same xs n y fails rest)

  pub count-few : (xs : List A) (n : ℕ) → HasSoMany P xs n → n ≤ length xs
  count-few [] n none = omega (arith, none)
  count-few (x ∷ xs) n (inl (has, (m, more, rest))) = let few = count-few xs m rest in omega (arith, few, more)
  count-few (x ∷ xs) n (inr (lacks, rest)) = let few = count-few xs n rest in omega (arith, few)

  pub count-none : (xs : List A) → ((x : A) → Contains xs x → P x → ⊥) → HasSoMany P xs 0
  count-none [] fails = refl
  count-none (x ∷ xs) fails = inr (fails x (Contains-head x xs), count-none xs (λ y among. fails y (Contains-append_right (x ∷ []) xs y among)))
