-- The names that draws choose among.
use Rattle.std.specs.Prelude.{ℕ, ◌≤◌, List, length, map}
use Rattle.std.specs.List.{flat_map}
use Rattle.tao_schema.specs.AssocTypes.{names_of as assoc_names}
use Rattle.topology.specs.Config.{Settings}
use Rattle.topology.specs.Nodes.{node_text}
use Rattle.topology.specs.declared.regions.Region.{Region}
use Rattle.load_gen.specs.Nodes.{nodes_from}
use Rattle.load_gen.specs.declared.names.TierName.{TierName}

-- the names that draws choose among: of regions, tiers, cache nodes, object types and association types. Shards have numbers
pub record NameLists : Type 0 where
  pub shards : ℕ
  pub regions : List (List ℕ)
  pub tiers : List TierName
  pub nodes : List (List ℕ)
  pub objects : List (List ℕ)
  pub assocs : List (List ℕ)

-- the tiers of a region, each with the region's name
abbrev pub tiers_of : Region → List TierName
tiers_of region = map (λ tier. record { region = region.name; tier = tier.name }) region.tiers

-- the names of a configuration, each kind in the configuration's order
abbrev pub names_of : Settings → NameLists
names_of settings = record {
  shards = settings.shards;
  regions = map (λ region. region.name) settings.regions;
  tiers = flat_map tiers_of settings.regions;
  nodes = map (node_text settings) (nodes_from 0 settings.regions);
  objects = settings.schema.objects;
  assocs = assoc_names settings.schema.assocs;
}

-- there is something to choose of each kind; sessions, one for each tier, and shards have small numbers
pub record HasNames (names : NameLists) : Type 0 where
  pub shard : 1 ≤ names.shards
  pub shards : names.shards ≤ 64
  pub regions : 1 ≤ length names.regions
  pub tier : 1 ≤ length names.tiers
  pub tiers : length names.tiers ≤ 16
  pub nodes : 1 ≤ length names.nodes
  pub objects : 1 ≤ length names.objects
  pub assocs : 1 ≤ length names.assocs
