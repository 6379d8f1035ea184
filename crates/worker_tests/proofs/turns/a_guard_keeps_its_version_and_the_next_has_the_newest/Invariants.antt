use Rattle.worker_tests.proofs.turns.a_guard_keeps_its_version_and_the_next_has_the_newest.Given as goal

abbrev pub ghosts-in_run : goal.ghosts-in_run
ghosts-in_run b a = record { run = a.literal }
