-- What a step sees: the nodes of a core, and what its keepers and its link show.
use Rattle.core_nodes.specs.Outside.{Outside, outside}
use Rattle.core_mail.specs.Inboxes.{Inboxes}
use Rattle.core_model.specs.Fleet.{Fleet}
use Rattle.tao_keeper.specs.KeeperState.{KeeperState}
use Rattle.tao_link.specs.Shown.{LinkShown}
use Rattle.topology.specs.States.{NodeStates}
use Rattle.core_steps.specs.declared.nodes.Nodes.{Nodes}

-- the nodes of a core, the messages that wait for them, which of them are up, and what the keepers and the link show
pub record World : Type 0 where
  pub fleet : Fleet
  pub inboxes : Inboxes
  pub states : NodeStates
  pub keepers : KeeperState
  pub link : LinkShown

-- the fleet, with these messages that wait, these of its nodes up, and what the keepers and the link show
abbrev pub world_with : Fleet → Inboxes → NodeStates → KeeperState → LinkShown → World
world_with fleet inboxes states keepers link =
    record { fleet = fleet; inboxes = inboxes; states = states; keepers = keepers; link = link }

-- the nodes of a core, with what its keepers and its link show
abbrev pub world : Nodes → KeeperState → LinkShown → World
world nodes keepers link = world_with nodes.fleet nodes.mail nodes.topology keepers link

-- what the keepers and the link show in a world
abbrev pub outside_of : World → Outside
outside_of now = outside now.keepers now.link
