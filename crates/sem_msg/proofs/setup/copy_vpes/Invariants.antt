use Rattle.std.proofs.Common.{◌≡◌, take}
use Rattle.sem_msg.proofs.setup.copy_vpes.Given as goal

-- the declarations so far were copied
abbrev pub invariant-loop-vpe : goal.invariant-loop-vpe
invariant-loop-vpe l = l.copy ≡ take l.vpe-index l.vpes
