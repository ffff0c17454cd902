use Rattle.std.proofs.Common.{◌≡◌, ℕ, List}
use Rattle.std.specs.List.{filter_map}
use Rattle.sem_trace.specs.declared.declaration.Declaration.{Declaration}
use Rattle.sem_trace.specs.Earlier.{vpe_in}
use Rattle.sem_trace.specs.Refusal.{numbers}
use Rattle.sem_reader.specs.Tells.{Tells}
use Rattle.sem_reader.proofs.tables.Tables.vpes.Given as goal

-- the VPEs of the numbers so far
abbrev pub invariant-loop-vpe : goal.invariant-loop-vpe
invariant-loop-vpe l = (version kernels : ℕ) (ds : List Declaration) → Tells version kernels ds l.self → l.vpes ≡ filter_map (vpe_in ds) (numbers l.vpe)
