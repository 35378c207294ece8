-- How many tiers, regions and nodes there are.
use Rattle.std.proofs.Common.{◌≡◌, ℕ, ◌+◌, ◌≤◌, List, [], ◌∷◌, ◌++◌, length, map, IsTrue, arith}
use Rattle.std.specs.List.{list_all, range_with_len}
use Rattle.std.proofs.lemmas.Bool.{and_parts}
use Rattle.std.proofs.lemmas.Bool.Decides.{nat_tests}
use Rattle.std.proofs.lemmas.List.{length-append}
use Rattle.std.proofs.lemmas.List.FromFn.{length-map-range_with_len}
use Rattle.node_name.specs.declared.NodeName.TheVariants.{Leader}
use Rattle.topology.specs.Named.{in_range}
use Rattle.topology.specs.Regions.{are_regions, is_region}
use Rattle.topology.specs.Tiers.{are_tiers}
use Rattle.topology.specs.declared.regions.Region.{Region}
use Rattle.topology.specs.declared.tiers.Tier.{Tier}
use Rattle.load_gen.specs.Nodes.{followers_from, nodes_from}

-- a number that the test takes is within its range
pub within : (least most n : ℕ) → IsTrue (in_range least most n) → (least ≤ n) × (n ≤ most)
within least most n is = grind (arith, nat_tests)

pub few_tiers : (tiers : List Tier) → IsTrue (are_tiers tiers) → (1 ≤ length tiers) × (length tiers ≤ 4)
few_tiers tiers are = within 1 4 (length tiers) (and_parts _ _ (and_parts _ _ are).0).0

pub few_regions : (regions : List Region) → IsTrue (are_regions regions) → (1 ≤ length regions) × (length regions ≤ 4)
few_regions regions are = within 1 4 (length regions) (and_parts _ _ (and_parts _ _ are).0).0

-- each region has a leader, so there are as many cache nodes as regions at least
nodes_in : (place : ℕ) (regions : List Region) → IsTrue (list_all is_region regions) → length regions ≤ length (nodes_from place regions)
nodes_in place [] all = omega arith
nodes_in place (region ∷ regions) all =
    let parts = and_parts (is_region region) (list_all is_region regions) all in
    let leader : 1 ≤ region.leaders = (within 1 4 region.leaders parts.0).0 in
    let rest : length regions ≤ length (nodes_from (place + 1) regions) = nodes_in (place + 1) regions parts.1 in
    let leaders = map (Leader place) (range_with_len 0 region.leaders) in
    let count : length leaders ≡ region.leaders = length-map-range_with_len (Leader place) 0 region.leaders in
    omega (
      arith,
      length-append leaders (followers_from place 0 region.tiers),
      length-append (leaders ++ followers_from place 0 region.tiers) (nodes_from (place + 1) regions),
    )

pub some_nodes : (regions : List Region) → IsTrue (are_regions regions) → length regions ≤ length (nodes_from 0 regions)
some_nodes regions are = nodes_in 0 regions (and_parts _ _ (and_parts _ _ are).0).1
