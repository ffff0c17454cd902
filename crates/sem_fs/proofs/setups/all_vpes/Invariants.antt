use Rattle.std.proofs.Common.{◌≡◌, ◌∷◌}
use Rattle.sem_fs.specs.Clients.{clients_below}
use Rattle.sem_fs.specs.Extents.{server_with}
use Rattle.sem_fs.proofs.setups.all_vpes.Given as goal

-- the server, and the clients so far
abbrev pub invariant-loop-before : goal.invariant-loop-before
invariant-loop-before l = l.vpes ≡ server_with l.extents ∷ clients_below l.files l.before
