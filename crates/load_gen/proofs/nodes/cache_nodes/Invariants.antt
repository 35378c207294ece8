use Rattle.std.proofs.Common.{◌≡◌, ◌++◌, drop}
use Rattle.load_gen.specs.Nodes.{nodes_from}
use Rattle.load_gen.proofs.nodes.cache_nodes.Given as goal

-- the nodes so far, with those of the regions that are left, are all
abbrev pub invariant-loop-place : goal.invariant-loop-place
invariant-loop-place l = l.nodes.items ++ nodes_from l.place (drop l.place l.regions) ≡ nodes_from 0 l.regions
