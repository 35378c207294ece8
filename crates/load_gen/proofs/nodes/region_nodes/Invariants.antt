use Rattle.std.proofs.Common.{◌≡◌, ◌++◌, drop, map}
use Rattle.std.specs.List.{range_with_len}
use Rattle.node_name.specs.declared.NodeName.TheVariants.{Leader}
use Rattle.load_gen.specs.Nodes.{followers_from}
use Rattle.load_gen.proofs.nodes.region_nodes.Given as goal

-- the nodes so far, with the followers of the tiers that are left, are all
abbrev pub invariant-loop-tier_place : goal.invariant-loop-tier_place
invariant-loop-tier_place l = l.nodes.items ++ followers_from l.place l.tier_place (drop l.tier_place l.tiers)
    ≡ map (Leader l.place) (range_with_len 0 l.region.leaders) ++ followers_from l.place 0 l.tiers
