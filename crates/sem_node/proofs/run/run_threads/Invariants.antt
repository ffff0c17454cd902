use Rattle.sem_node.proofs.run.run_threads.Given as goal

abbrev pub ghosts-run_named : goal.ghosts-run_named
ghosts-run_named g a = record { table = a.opened.table; setup = a.opened.setup }
