-- The places of names, or their refusals.
use Rattle.std.specs.Prelude.{ℕ, List, ◌++◌, Option, None, Some, if◌then◌else◌, Result, Ok, ⊤, option_map, codes, nat_lt}
use Rattle.tao_base.specs.Ids.{shard_of}
use Rattle.tao_base.specs.declared.id.AType.{AType}
use Rattle.tao_base.specs.declared.id.OType.{OType}
use Rattle.tao_base.specs.declared.id.StoreName.{StoreName}
use Rattle.tao_schema.specs.AssocTypes.{atype_at, names_of}
use Rattle.tao_schema.specs.Names.{place_of}
use Rattle.tao_schema.specs.ObjectTypes.{otype_at}
use Rattle.node_name.specs.declared.NodeName.{NodeName}
use Rattle.topology.specs.Config.{Settings}
use Rattle.topology.specs.Lookup.{node_at, tier_in}
use Rattle.topology.specs.Regions.{region_at}
use Rattle.replies.specs.declared.refusals.NameRefused.{NameRefused}
use Rattle.replies.specs.declared.refusals.NameRefused.TheVariants.{NoTier, NoNode, UnknownType, NoShard}
use Rattle.request_check.specs.declared.names.TierPlace.{TierPlace}
use Rattle.request_check.specs.declared.kind.NodeKind.{NodeKind}
use Rattle.request_check.specs.declared.names.Names.{Names}
use Rattle.request_check.specs.Kind.{takes}
use Rattle.outcomes.specs.Results.{◌>>=◌, needed, refused_unless}

-- the configuration whose names are meant
abbrev pub settings : Names → Settings
settings names = names.config.now

-- the region of a name
abbrev pub region_named : Settings → List ℕ → Result ℕ NameRefused
region_named s name = needed (NoTier name) (region_at s.regions name)

-- a region's name and a tier's, with a `/` between them
abbrev pub tier_text : List ℕ → List ℕ → List ℕ
tier_text region tier = region ++ codes "/" ++ tier

-- the tier of a name in a region of a name: one that the region lacks is refused by both names
abbrev pub tier_named : Settings → List ℕ → List ℕ → Result TierPlace NameRefused
tier_named s region tier = do
  place ← region_named s region
  found ← needed (NoTier (tier_text region tier)) (tier_in s.regions place tier)
  Ok (record { region = place; tier = found })

-- the association type of a name
abbrev pub atype_named : Settings → List ℕ → Result AType NameRefused
atype_named s name = needed (UnknownType name) (option_map atype_at (place_of (names_of s.schema.assocs) name))

-- the object type of a name
abbrev pub otype_named : Settings → List ℕ → Result OType NameRefused
otype_named s name = needed (UnknownType name) (option_map otype_at (place_of s.schema.objects name))

-- shards are numbered from 0
abbrev pub configured_shard : Settings → ℕ → Result ⊤ NameRefused
configured_shard s shard = refused_unless (NoShard shard) (nat_lt shard s.shards)

-- the store of a region's name and a shard: the region is looked up first, then the shard checked
abbrev pub store_named : Settings → List ℕ → ℕ → Result StoreName NameRefused
store_named s name shard = do
  region ← region_named s name
  there ← configured_shard s shard
  Ok (record { region = region; shard = shard })

-- an id lies on a shard
abbrev pub configured_id : Settings → ℕ → Result ⊤ NameRefused
configured_id s id = configured_shard s (shard_of id)

-- a node, where it is of the kind
abbrev pub of_kind : NodeKind → Option NodeName → Option NodeName
of_kind kind None = None
of_kind kind (Some node) = if takes kind node then Some node else None

-- the node of a text, where it is of the kind
abbrev pub node_named : Settings → NodeKind → List ℕ → Result NodeName NameRefused
node_named s kind name = needed (NoNode name) (of_kind kind (node_at s name))

-- what was found, as the request that it makes
abbrev pub placed_as : {A B : Type 0} → (A → B) → Result A NameRefused → Result B NameRefused
placed_as f found = do
  place ← found
  Ok (f place)
