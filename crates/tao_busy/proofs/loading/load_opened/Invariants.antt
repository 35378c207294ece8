use Rattle.shared_tiers.specs.cluster_opening.Opening.{logs_of, making_of}
use Rattle.tao_busy.proofs.loading.load_opened.Given as goal

-- the logs of the stores that were opened
abbrev pub ghosts-load_shared-J-Logs : goal.ghosts-load_shared-J-Logs
ghosts-load_shared-J-Logs g a = record { log = logs_of a.opened.fleet.stores }

-- what they were opened with
abbrev pub ghosts-load_shared-J-Sharing : goal.ghosts-load_shared-J-Sharing
ghosts-load_shared-J-Sharing g a = record { making = making_of a.opened.config.now a.opened.fleet.stores a.opened.cuts.items }
