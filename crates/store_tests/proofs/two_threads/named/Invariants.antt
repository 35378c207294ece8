use Rattle.store_tests.proofs.two_threads.named.Given as goal

-- the log that was just made
abbrev pub ghosts-add_both : goal.ghosts-add_both
ghosts-add_both g a = record { log = a.pen.log }
