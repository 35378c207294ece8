-- The node that the fields stand for.
use Rattle.cache_items.specs.declared.holdings.Holdings.TheInside.{Inside}
use Rattle.cache_items.specs.Node.{Node}

-- what contracts see of a node's fields
abbrev pub node_seen : Inside → Node
node_seen n = record { items = n.items.entries; most = n.items.cap; asks = n.asks; served = n.shards }
