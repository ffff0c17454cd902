use Rattle.std.proofs.Common.{◌≡◌, ◌≤◌, take}
use Rattle.sem_audit.specs.Straying.{missing}
use Rattle.sem_audit.proofs.words.missing.Given as goal

-- those of the first keys are counted
abbrev pub invariant-loop-key : goal.invariant-loop-key
invariant-loop-key l = (l.count ≡ missing (take l.key-index l.keys) l.others) × (l.count ≤ l.key-index)
