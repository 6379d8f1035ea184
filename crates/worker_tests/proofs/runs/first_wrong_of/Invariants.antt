use Rattle.worker_tests.proofs.runs.first_wrong_of.Given as goal

-- the name means what the row made
abbrev pub ghosts-in_run : goal.ghosts-in_run
ghosts-in_run g a = record { run = a.literal }
