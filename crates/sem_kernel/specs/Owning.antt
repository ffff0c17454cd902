-- The VPEs of a kernel, as it keeps them.
use Rattle.std.specs.Prelude.{ℕ, List, length, map}
use Rattle.sem_machine.specs.Prelude.{VpeDecl, Setup}
use Rattle.sem_msg.specs.Lookups.{own_vpes}
use Rattle.sem_kernel.specs.declared.own.OwnVpe.{OwnVpe}

-- a VPE, and how many calls it makes
abbrev pub own_row : VpeDecl → OwnVpe
own_row d = record { vpe = d.vpe; calls = length d.calls }

-- the VPEs of kernel i, by number
abbrev pub own_rows : Setup → ℕ → List OwnVpe
own_rows T i = map own_row (own_vpes T i)
