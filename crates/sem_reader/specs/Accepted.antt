-- Lines that are accepted one after another.
use Rattle.std.specs.Prelude.{◌≡◌, List, ◌∷◌, ◌++◌, ℕ, None}
use Rattle.sem_trace.specs.declared.declaration.Declaration.{Declaration}
use Rattle.sem_trace.specs.Ranges.{IsInRange}
use Rattle.sem_trace.specs.Context.{context_fault}

-- what the lines say is in range, and nothing is wrong with any of it after what was said before
abbrev pub AreAccepted : (version kernels : ℕ) → List Declaration → Type 0
AreAccepted version kernels ds = (before after : List Declaration) (d : Declaration) → ds ≡ before ++ d ∷ after →
    IsInRange version kernels d × (context_fault before d ≡ None)
