use Rattle.std.proofs.Common.{◌≡◌, ◌++◌, drop, map}
use Rattle.topology.specs.Nodes.{node_text}
use Rattle.load_gen.proofs.names.node_texts.Given as goal

-- the texts so far, with those of the nodes that are left, are all
abbrev pub invariant-loop-node : goal.invariant-loop-node
invariant-loop-node l = l.texts.items ++ map (node_text l.config) (drop l.node-index l.node-items) ≡ map (node_text l.config) l.node-items
