use Rattle.std.proofs.Common.{◌≡◌, ℕ, List, take}
use Rattle.sem_trace.specs.declared.declaration.Declaration.{Declaration}
use Rattle.sem_trace.specs.SetupOfText.{kills_of}
use Rattle.sem_reader.specs.Tells.{Tells}
use Rattle.sem_reader.proofs.tables.Tables.kills_of.Given as goal

-- the kills of the VPEs so far
abbrev pub invariant-loop-declared : goal.invariant-loop-declared
invariant-loop-declared l = (version kernels : ℕ) (ds : List Declaration) → Tells version kernels ds l.self →
    l.kills ≡ kills_of ds (take l.declared-index l.vpes)
