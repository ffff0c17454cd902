use Rattle.sem_kernel_tests.proofs.Played.{HasPlayed}
use Rattle.sem_kernel_tests.proofs.journals.played.Given as goal

-- the journal is a schedule, and the world is the one after it
abbrev pub invariant-loop-event : goal.invariant-loop-event
invariant-loop-event l = HasPlayed l.setup l.journal.entries l.world
