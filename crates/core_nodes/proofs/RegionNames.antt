-- The regions of a configuration's leaders and followers.
use Rattle.std.proofs.Common.{ℕ, ◌+◌, ◌<◌, ◌≤◌, ◌++◌, List, [], ◌∷◌, length, arith}
use Rattle.std.proofs.lemmas.List.{length-map}
use Rattle.std.proofs.lemmas.List.Elements.{All-contains, All-from_recursion}
use Rattle.std.specs.List.{AllByRecursion, range_with_len}
use Rattle.std.specs.Prelude.{map}
use Rattle.graph_model.proofs.Later.{all_append}
use Rattle.node_name.specs.declared.NodeName.{NodeName}
use Rattle.node_name.specs.declared.NodeName.TheVariants.{Follower, Leader}
use Rattle.topology.specs.Config.{Settings}
use Rattle.topology.specs.Counts.{NodeCounts, counts_of}
use Rattle.core_model.specs.Fleet.{follower_names, followers_from, leader_names, leaders_from, region_of, regions_of, tiers_from}
use Rattle.core_nodes.specs.Settling.{IsConfiguredCache}

-- all are of regions below a bound
abbrev AreBelow : ℕ → List NodeName → Type 0
AreBelow top names = AllByRecursion (λ name. region_of name < top) names

mapped_below : (top : ℕ) (f : ℕ → NodeName) (ns : List ℕ) → ((n : ℕ) → region_of (f n) < top) → AreBelow top (map f ns)
mapped_below top f [] each = tt
mapped_below top f (n ∷ ns) each = (each n, mapped_below top f ns each)

leaders_below : (region top : ℕ) (rs : List NodeCounts) → region + length rs ≤ top → AreBelow top (leaders_from region rs)
leaders_below region top [] le = tt
leaders_below region top (r ∷ rs) le =
    all_append (λ name. region_of name < top) (map (Leader region) (range_with_len 0 r.leaders)) (leaders_from (region + 1) rs)
    (mapped_below top (Leader region) (range_with_len 0 r.leaders) (λ n. omega (arith, le)))
    (leaders_below (region + 1) top rs (omega (arith, le)))

tiers_below : (region top tier : ℕ) (counts : List ℕ) → region < top → AreBelow top (tiers_from region tier counts)
tiers_below region top tier [] lt = tt
tiers_below region top tier (count ∷ counts) lt =
    all_append (λ name. region_of name < top) (map (Follower region tier) (range_with_len 0 count)) (tiers_from region (tier + 1) counts)
    (mapped_below top (Follower region tier) (range_with_len 0 count) (λ n. lt))
    (tiers_below region top (tier + 1) counts lt)

followers_below : (region top : ℕ) (rs : List NodeCounts) → region + length rs ≤ top → AreBelow top (followers_from region rs)
followers_below region top [] le = tt
followers_below region top (r ∷ rs) le =
    all_append (λ name. region_of name < top) (tiers_from region 0 r.followers) (followers_from (region + 1) rs)
    (tiers_below region top 0 r.followers (omega (arith, le)))
    (followers_below (region + 1) top rs (omega (arith, le)))

-- each is of one of the configuration's regions
pub configured_region : (s : Settings) (name : NodeName) → IsConfiguredCache s name → region_of name < length s.regions
configured_region s name is =
    let top : ℕ = length s.regions in
    let all = length-map s.regions counts_of in
    let below = all_append (λ name. region_of name < top) (leader_names s) (follower_names s) (leaders_below 0 top (regions_of s) (omega arith))
    (followers_below 0 top (regions_of s) (omega arith)) in
    All-contains (λ n. region_of n < top) (leader_names s ++ follower_names s) name
    (All-from_recursion (λ n. region_of n < top) (leader_names s ++ follower_names s) below) is
