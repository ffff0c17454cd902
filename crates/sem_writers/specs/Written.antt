-- The writer of a run.
use Rattle.std.specs.Prelude.{◌≡◌, ◌==◌, List, find}
use Rattle.sem_access.specs.declared.access.Access.{Access}
use Rattle.sem_writers.specs.declared.rows.Written.{Written}

-- a run is told with the first of the accesses that its entry makes
abbrev pub IsWriter : List Access → Written → Type 0
IsWriter xs r = r.writer ≡ find (λ x. x.entry == r.run.entry) xs
