-- Grants of keys that were never made before ("Each key is made once" in docs/proof.md).
use Rattle.std.specs.Prelude.{◌≡◌, List, ◌∷◌, ◌++◌, Contains, Some}
use Rattle.sem_machine.specs.Prelude.{KeyName, Entry, Setup, made}

-- each grant of the journal is of a key that was never made before it
abbrev pub AreNew : Setup → List Entry → Type 0
AreNew T J = (before later : List Entry) (e : Entry) (p k : KeyName) → J ≡ before ++ e ∷ later →
    e.grant ≡ Some (p, k) → Contains (made T before) k → ⊥
