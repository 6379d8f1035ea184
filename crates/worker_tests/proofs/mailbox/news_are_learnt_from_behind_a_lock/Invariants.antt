use Rattle.worker_tests.proofs.mailbox.news_are_learnt_from_behind_a_lock.Given as goal

abbrev pub ghosts-in_run : goal.ghosts-in_run
ghosts-in_run b a = record { run = a.literal }
