use Rattle.worker_tests.proofs.mailbox.one_told.Given as goal

abbrev pub ghosts-in_publication : goal.ghosts-in_publication
ghosts-in_publication g a = record { id = a.editor.publication }
