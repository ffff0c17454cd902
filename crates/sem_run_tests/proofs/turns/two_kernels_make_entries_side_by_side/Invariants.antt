use Rattle.sem_run_tests.proofs.turns.two_kernels_make_entries_side_by_side.Given as goal

abbrev pub ghosts-entered : goal.ghosts-entered
ghosts-entered g a = record { table = a.opened.table; setup = a.opened.setup }
