use Rattle.gm_threads.proofs.actors.run_actors.Given as goal

abbrev pub ghosts-run_named : goal.ghosts-run_named
ghosts-run_named g a = record { orders = a.published.orders }
