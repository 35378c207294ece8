use Rattle.std.proofs.Common.{◌≡◌, take}
use Rattle.std.specs.Prelude.{All}
use Rattle.core_model.specs.Fleet.{node_names}
use Rattle.core_nodes.specs.Beginning.{IsBegun}
use Rattle.core_nodes.proofs.beginning.make_nodes.Given as goal

abbrev pub invariant-loop-name : goal.invariant-loop-name
invariant-loop-name g l = record {
  names : node_names l.nodes.items ≡ take l.name-index l.names;
  begun : All (IsBegun g.C.Cache.node g.C.Cache.refills l.config l.fn.stores l.lengths) l.nodes.items;
  same : l.stores ≡ l.fn.stores;
}
