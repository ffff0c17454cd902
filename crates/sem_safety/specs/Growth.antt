-- Grants made one after another, each of a new key below one that was there ("Lines" in
-- docs/proof.md).
use Rattle.std.specs.Prelude.{List, [], ◌∷◌, ◌++◌, map, Contains}
use Rattle.sem_machine.specs.Prelude.{KeyName}

-- the keys that are there: the roots, and the children of the grants
abbrev pub grown : List KeyName → List (KeyName × KeyName) → List KeyName
grown roots gs = roots ++ map (λ g. g.1) gs

-- each grant is of a key that was not there before, below one that was
pub data IsGrown (roots : List KeyName) : List (KeyName × KeyName) → Type 0 where
  no_grants : IsGrown roots []
  granted_next : (gs : List (KeyName × KeyName)) (p k : KeyName) → IsGrown roots gs → Contains (grown roots gs) p →
      (Contains (grown roots gs) k → ⊥) → IsGrown roots (gs ++ (p, k) ∷ [])
