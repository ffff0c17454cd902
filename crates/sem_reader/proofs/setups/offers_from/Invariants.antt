use Rattle.std.proofs.Common.{◌≡◌, map, take}
use Rattle.sem_reader.specs.Pairs.{offer_with}
use Rattle.sem_reader.proofs.setups.offers_from.Given as goal

-- the offers so far
abbrev pub invariant-loop-name : goal.invariant-loop-name
invariant-loop-name l = l.offers ≡ map offer_with (take l.name-index l.entries)
