use Rattle.shared_tiers.specs.cluster_opening.Opening.{logs_of, making_of}
use Rattle.cluster_server.proofs.serving.serve_opened.Given as goal

-- the logs of the stores that were opened
abbrev pub ghosts-serve_named-J-Logs : goal.ghosts-serve_named-J-Logs
ghosts-serve_named-J-Logs g a = record { log = logs_of a.opened.fleet.stores }

-- what they were opened with
abbrev pub ghosts-serve_named-J-Sharing : goal.ghosts-serve_named-J-Sharing
ghosts-serve_named-J-Sharing g a = record { making = making_of a.opened.config.now a.opened.fleet.stores a.opened.cuts.items }
