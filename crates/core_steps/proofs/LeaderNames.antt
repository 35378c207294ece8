-- The names of a configuration's leaders are of its regions.
use Rattle.std.proofs.Common.{◌≡◌, ℕ, ◌+◌, ◌<◌, List, [], ◌∷◌, length, map, inl, inr, arith, ap}
use Rattle.std.proofs.lemmas.List.{length-map}
use Rattle.std.proofs.lemmas.List.Elements.{Contains-append_cases}
use Rattle.std.specs.List.{range_with_len}
use Rattle.std.specs.Prelude.{Contains}
use Rattle.graph_model.proofs.Members.{in_from_contains, in_map_parts}
use Rattle.node_name.specs.declared.NodeName.{NodeName}
use Rattle.node_name.specs.declared.NodeName.TheVariants.{Leader}
use Rattle.topology.specs.Config.{Settings}
use Rattle.topology.specs.Counts.{NodeCounts, counts_of}
use Rattle.core_model.specs.Fleet.{leader_names, leaders_from, region_of, regions_of}

named_within : (regions : List NodeCounts) (first : ℕ) (name : NodeName) → Contains (leaders_from first regions) name
    → region_of name < first + length regions
named_within [] first name there = absurd (in_from_contains [] name there)
named_within (r ∷ rs) first name there =
    elim (Contains-append_cases (map (Leader first) (range_with_len 0 r.leaders)) (leaders_from (first + 1) rs) name there) [
      | inl own ↦
          let at = in_map_parts (Leader first) (range_with_len 0 r.leaders) name (in_from_contains _ name own) in
          let region : first ≡ region_of name = ap region_of at.2 in
          omega (arith, region)
      | inr later ↦ (let lt = named_within rs (first + 1) name later in omega (arith, lt))
    ]

pub leader_region : (s : Settings) (name : NodeName) → Contains (leader_names s) name → region_of name < length s.regions
leader_region s name there =
    let lt = named_within (regions_of s) 0 name there in
    let same = length-map s.regions counts_of in
    omega (arith, lt, same)
