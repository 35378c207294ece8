-- One more part of the cache nodes.
use Rattle.std.proofs.Common.{◌≡◌, ℕ, ◌+◌, ◌<◌, List, ◌∷◌, ◌++◌, append_assoc, length, drop, get_or, map, sym, ap, ◌∙◌}
use Rattle.std.specs.List.{range_with_len}
use Rattle.std.proofs.lemmas.List.{drop_more}
use Rattle.node_name.specs.declared.NodeName.{NodeName}
use Rattle.node_name.specs.declared.NodeName.TheVariants.{Follower}
use Rattle.topology.specs.declared.regions.Region.{Region}
use Rattle.topology.specs.declared.tiers.Tier.{Tier}
use Rattle.load_gen.specs.Nodes.{followers_from, nodes_from, region_nodes}

-- an element of the list comes first of what is left
element_is : {X : Type 0} (xs : List X) (place : ℕ) (x : X) → place < length xs → x ≡ get_or xs place x → drop place xs ≡ x ∷ drop (place + 1) xs
element_is xs place x within is = drop_more xs place x within ∙ ap (λ y. y ∷ drop (place + 1) xs) (sym is)

-- a part is joined to those before it
joined : (nodes part new rest all : List NodeName) → new ≡ nodes ++ part → nodes ++ (part ++ rest) ≡ all → new ++ rest ≡ all
joined nodes part new rest all is whole = rw is (append_assoc nodes part rest ∙ whole)

-- the followers of one more tier
pub tier_joins : (region place : ℕ) (tiers : List Tier) (tier : Tier) (nodes part new all : List NodeName) → place < length tiers
    → tier ≡ get_or tiers place tier → part ≡ map (Follower region place) (range_with_len 0 tier.followers) → new ≡ nodes ++ part
    → nodes ++ followers_from region place (drop place tiers) ≡ all → new ++ followers_from region (place + 1) (drop (place + 1) tiers) ≡ all
tier_joins region place tiers tier nodes part new all within is of_tier more whole =
    let left : drop place tiers ≡ tier ∷ drop (place + 1) tiers = element_is tiers place tier within is in
    joined nodes part new _ all more (rw of_tier (rw left at whole))

-- the nodes of one more region
pub region_joins : (place : ℕ) (regions : List Region) (region : Region) (nodes part new all : List NodeName) → place < length regions
    → region ≡ get_or regions place region → part ≡ region_nodes place region → new ≡ nodes ++ part
    → nodes ++ nodes_from place (drop place regions) ≡ all → new ++ nodes_from (place + 1) (drop (place + 1) regions) ≡ all
region_joins place regions region nodes part new all within is of_region more whole =
    let left : drop place regions ≡ region ∷ drop (place + 1) regions = element_is regions place region within is in
    joined nodes part new _ all more (rw of_region (rw left at whole))
