use Rattle.store_tests.proofs.inbox.two_threads.named_exchange.Given as goal

-- one log for both shards, which was just made
abbrev pub ghosts-exchange : goal.ghosts-exchange
ghosts-exchange g a = record { log = λ _. a.note.log }
