-- The clients, as the function that lists them promises.
use Rattle.std.specs.Prelude.{ℕ, List, map, filter}
use Rattle.std.specs.List.{range_with_len}
use Rattle.sem_machine.specs.Prelude.{VpeDecl}
use Rattle.sem_files.specs.Files.{Files, is_client}
use Rattle.sem_files.specs.Compiled.{client}

-- the clients among the numbers 1 to n
unfoldable pub clients_below : Files → ℕ → List VpeDecl
clients_below F n = map (client F) (filter (is_client F) (range_with_len 1 n))
