-- Lists with one element more at their end.
use Rattle.std.proofs.Common.{◌≡◌, Bool, true, false, cond, List, [], ◌∷◌, ◌++◌, length, refl, sym, ◌∙◌, ap, inl, inr, arith, append-nil, length-append, ◌⊎◌}
use Rattle.std.specs.List.{filter, flat_map}
use Rattle.std.proofs.lemmas.Bool.{cases_Bool, cond-true, cond-false}
use Rattle.std.proofs.lemmas.List.Elements.{filter-append}
use Rattle.std.proofs.lemmas.List.Concat.{flat_map-append}

-- an element of a list with one more is the one more, or was there before
pub snoc-cases : {X : Type 0} (xs before after : List X) (x y : X) → xs ++ x ∷ [] ≡ before ++ y ∷ after →
    ((before ≡ xs) × (y ≡ x)) ⊎ ((mid : List X) × (xs ≡ before ++ y ∷ mid))
snoc-cases [] [] after x y same = inl (refl, cc)
snoc-cases [] (b ∷ bs) after x y same = let long : length (x ∷ []) ≡ length (b ∷ (bs ++ y ∷ after)) = ap length same in
    let sum = length-append bs (y ∷ after) in absurd (omega (arith, long, sum))
snoc-cases (z ∷ zs) [] after x y same = let head : z ≡ y = cc in inr (zs, ap (λ w. w ∷ zs) head)
snoc-cases (z ∷ zs) (b ∷ bs) after x y same =
    let head : z ≡ b = cc in
    let rest : zs ++ x ∷ [] ≡ bs ++ y ∷ after = cc in
    elim (snoc-cases zs bs after x y rest) [
      | inl (front, last) ↦ inl (ap (λ w. w ∷ bs) (sym head) ∙ ap (λ ws. z ∷ ws) front, last)
      | inr (mid, inner) ↦ inr (mid, ap (λ ws. z ∷ ws) inner ∙ ap (λ w. w ∷ (bs ++ y ∷ mid)) head)
    ]

-- what two filters keep, and what is made of it
pub sifted-snoc : {X Y : Type 0} (f : X → List Y) (p q : X → Bool) (xs : List X) (x : X) →
    flat_map f (filter p (filter q (xs ++ x ∷ []))) ≡ flat_map f (filter p (filter q xs)) ++ cond (p x) (cond (q x) (f x) []) []
sifted-snoc f p q xs x =
    ap (λ l. flat_map f (filter p l)) (filter-append q xs (x ∷ []))
    ∙ (ap (flat_map f) (filter-append p (filter q xs) (filter q (x ∷ [])))
    ∙ (flat_map-append f (filter p (filter q xs)) (filter p (filter q (x ∷ [])))
    ∙ ap (λ l. flat_map f (filter p (filter q xs)) ++ l) last))
  where
    inner : flat_map f (filter p (x ∷ [])) ≡ cond (p x) (f x) []
    inner = elim (cases_Bool (p x)) [
      | inl pass ↦ ap (flat_map f) (cond-true (p x) (x ∷ []) [] pass) ∙ (append-nil (f x) ∙ sym (cond-true (p x) (f x) [] pass))
      | inr fail ↦ ap (flat_map f) (cond-false (p x) (x ∷ []) [] fail) ∙ sym (cond-false (p x) (f x) [] fail)
    ]

    swap : (b c : Bool) → cond b (cond c (f x) []) [] ≡ cond c (cond b (f x) []) []
    swap true true = refl
    swap true false = refl
    swap false true = refl
    swap false false = refl

    last : flat_map f (filter p (filter q (x ∷ []))) ≡ cond (p x) (cond (q x) (f x) []) []
    last = elim (cases_Bool (q x)) [
      | inl pass ↦ ap (λ l. flat_map f (filter p l)) (cond-true (q x) (x ∷ []) [] pass)
          ∙ (inner ∙ ap (λ l. cond (p x) l []) (sym (cond-true (q x) (f x) [] pass)))
      | inr fail ↦ ap (λ l. flat_map f (filter p l)) (cond-false (q x) (x ∷ []) [] fail)
          ∙ (sym (cond-false (q x) (cond (p x) (f x) []) [] fail) ∙ swap (q x) (p x))
    ]
