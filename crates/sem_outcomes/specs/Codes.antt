-- The code that a reply tells a VPE.
use Rattle.std.specs.Prelude.{ℕ, ◌==◌, List, [], ◌∷◌, if◌then◌else◌}
use Rattle.sem_machine.specs.Prelude.{Reply}

-- none, if the reply is to another VPE
abbrev pub code_of : Reply → ℕ → List ℕ
code_of r v = if r.vpe == v then r.code ∷ [] else []
