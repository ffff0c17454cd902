-- The run that goes on from a journal by the words of a generator.
use Rattle.std.specs.Prelude.{◌-◌, List, ◌++◌, length}
use Rattle.rand_pcg.specs.Lcg.{Lcg}
use Rattle.sem_machine.specs.Prelude.{Entry, Setup, world_after}
use Rattle.sem_machine.specs.Seeded.{drain, entry_limit}

-- the journal that the words of a generator make from one
abbrev pub drained_on : Setup → List Entry → Lcg → List Entry
drained_on T J g = J ++ drain (entry_limit T - length J) T (world_after T J) g
