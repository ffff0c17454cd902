use Rattle.std.proofs.Common.{◌≡◌, [], take}
use Rattle.std.specs.List.{All}
use Rattle.sem_key.specs.KeyName.{IsValidKey}
use Rattle.sem_grants.proofs.Reading.{with_keys}
use Rattle.sem_grants.proofs.cuts.set_of.Given as goal

-- the first keys were added, and are valid
abbrev pub invariant-loop-key : goal.invariant-loop-key
invariant-loop-key l = record { keys : l.keys.keys ≡ with_keys [] (take l.key-index l.key-items); valid : All IsValidKey (take l.key-index l.key-items) }
