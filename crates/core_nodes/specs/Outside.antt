-- What stands outside of the nodes.
use Rattle.tao_keeper.specs.KeeperState.{KeeperState}
use Rattle.tao_link.specs.Shown.{LinkShown}

-- what the keepers and the link show
pub record Outside : Type 0 where
  pub keepers : KeeperState
  pub link : LinkShown

-- what the keepers show and what the link shows, together
abbrev pub outside : KeeperState → LinkShown → Outside
outside keepers link = record { keepers = keepers; link = link }
