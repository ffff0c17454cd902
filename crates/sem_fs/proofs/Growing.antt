-- Lists that are built number by number.
use Rattle.std.proofs.Common.{◌≡◌, ℕ, ◌+◌, List, [], ◌∷◌, ◌++◌, map, refl, ap, ◌∙◌, sym, append_assoc, append-nil, arith}
use Rattle.std.specs.List.{flat_map, range_with_len}
use Rattle.std.proofs.lemmas.List.FromFn.{map-range_with_len_more}
use Rattle.std.proofs.lemmas.List.Concat.{flat_map-append}

-- a range with one number more
pub range-more : (a n j : ℕ) → a + n ≡ j → range_with_len a (n + 1) ≡ range_with_len a n ++ j ∷ []
range-more a n j is = sym (map-same (range_with_len a (n + 1)))
    ∙ (map-range_with_len_more (λ k. k) a n j is ∙ ap (λ xs. xs ++ j ∷ []) (map-same (range_with_len a n)))
  where
    map-same : (xs : List ℕ) → map (λ k. k) xs ≡ xs
    map-same [] = refl
    map-same (x ∷ xs) = ap (λ ys. x ∷ ys) (map-same xs)

-- what f gives of the numbers below one more
pub one-more : {X : Type 0} (f : ℕ → X) (n : ℕ) (before now after : List X) → now ≡ before ++ map f (range_with_len 0 n) → after ≡ now ++ f n ∷ [] →
    after ≡ before ++ map f (range_with_len 0 (n + 1))
one-more f n before now after so_far more =
    let next = map-range_with_len_more f 0 n n (omega arith) in
    rw (more, so_far, next, append_assoc) refl

-- the lists that f gives of the numbers below one more
pub some-more : {X : Type 0} (f : ℕ → List X) (n : ℕ) (before now after : List X) → now ≡ before ++ flat_map f (range_with_len 0 n) → after ≡ now ++ f n →
    after ≡ before ++ flat_map f (range_with_len 0 (n + 1))
some-more f n before now after so_far more =
    let next = range-more 0 n n (omega arith) in
    rw (more, so_far, next, flat_map-append f (range_with_len 0 n) (n ∷ []), append-nil, append_assoc) refl
