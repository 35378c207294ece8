use Rattle.store_tests.proofs.inbox.empties.named.Given as goal

-- the log that was just made
abbrev pub ghosts-take_by_two : goal.ghosts-take_by_two
ghosts-take_by_two g a = record { log = λ _. a.note.log }
