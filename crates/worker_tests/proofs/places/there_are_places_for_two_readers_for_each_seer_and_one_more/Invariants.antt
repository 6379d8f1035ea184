use Rattle.worker_tests.proofs.places.there_are_places_for_two_readers_for_each_seer_and_one_more.Given as goal

abbrev pub ghosts-without_edits : goal.ghosts-without_edits
ghosts-without_edits b a = record { run = a.literal }
