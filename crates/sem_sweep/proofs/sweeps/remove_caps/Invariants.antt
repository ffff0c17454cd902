use Rattle.std.proofs.Common.{◌≡◌, take}
use Rattle.sem_sweep.specs.Sweeping.{pairs_freed}
use Rattle.sem_sweep.proofs.sweeps.remove_caps.Given as goal

-- the first selectors are free
abbrev pub invariant-loop-at : goal.invariant-loop-at
invariant-loop-at l = record {
  rows : l.vpes.rows ≡ pairs_freed (take l.at l.gone.items) l.fn.vpes.rows;
  ours : l.vpes.ours ≡ l.fn.vpes.ours;
}
