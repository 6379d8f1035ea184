use Rattle.worker_tests.proofs.places.news_find_a_place_where_no_seer_has_learnt_the_ones_before.Given as goal

abbrev pub ghosts-in_run : goal.ghosts-in_run
ghosts-in_run b a = record { run = a.literal }
