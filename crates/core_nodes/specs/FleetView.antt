-- What contracts see of the nodes of a core.
use Rattle.core_model.specs.Fleet.{Fleet}
use Rattle.core_nodes.specs.declared.fleet.Fleet.TheInside.{Inside}

-- the leaders, followers and stores of a core, as contracts see them
abbrev pub fleet_seen : Inside → Fleet
fleet_seen f = record { leaders = f.leaders.items; followers = f.followers.items; stores = f.stores.items }
