use Rattle.store_tests.proofs.inbox.two_threads.named_relay.Given as goal

-- the log that was just made
abbrev pub ghosts-relay : goal.ghosts-relay
ghosts-relay g a = record { log = λ _. a.note.log }
