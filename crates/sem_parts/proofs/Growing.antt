-- Lists that grow at their end.
use Rattle.std.proofs.Common.{List, [], ◌∷◌, ◌++◌, sym, subst, append-nil, append_assoc}

-- what is so of the empty list, and of a list with one more where it is so of the list, is so of every list
pub snoc-induct : {X : Type 0} (P : List X → Type 0) → P [] → ((xs : List X) (x : X) → P xs → P (xs ++ x ∷ [])) → (xs : List X) → P xs
snoc-induct {X = X} P none more xs = from [] xs none
  where
    from : (before later : List X) → P before → P (before ++ later)
    from before [] is = subst P (sym (append-nil before)) is
    from before (x ∷ later) is = subst P (append_assoc before (x ∷ []) later) (from (before ++ x ∷ []) later (more before x is))
