-- Worked examples of the workload: a draw, and all requests of two seeds.
use Rattle.std.specs.Prelude.{◌≡◌, ◌^◌, ℕ, List, [], ◌∷◌, Option, None, Some, codes}
use Rattle.requests.specs.declared.caches.CacheRequest.TheVariants.{Deliver}
use Rattle.requests.specs.declared.calls.EdgeName.{EdgeName}
use Rattle.requests.specs.declared.calls.QueryText.TheVariants.{AssocCount}
use Rattle.requests.specs.declared.calls.WriteText.TheVariants.{AssocAdd, AssocDelete}
use Rattle.requests.specs.declared.request.Request.{Request}
use Rattle.requests.specs.declared.request.Request.TheVariants.{Cache, Open, Store}
use Rattle.requests.specs.declared.stores.StoreRequest.TheVariants.{Settle, Stream}
use Rattle.tao_schema.specs.declared.lines.AssocLine.{AssocLine}
use Rattle.topology.specs.Config.{Settings}
use Rattle.topology.specs.declared.regions.Region.{Region}
use Rattle.topology.specs.declared.tiers.Tier.{Tier}
use Rattle.load_gen.specs.Calls.{read_of, write_of}
use Rattle.load_gen.specs.Draws.{below, next_state}
use Rattle.load_gen.specs.Names.{names_of}
use Rattle.load_gen.specs.Requests.{requests_of}
use Rattle.load_gen.specs.Summary.{summary_text}

-- ---- two configurations

-- an association type with an inverse or without
abbrev pub assoc : List ℕ → Option (List ℕ) → AssocLine
assoc name inverse = record { name = name; inverse = inverse; bound = 6000 }

-- a tier with so many followers
abbrev pub tier : List ℕ → ℕ → Tier
tier name followers = record { name = name; followers = followers }

-- a region with two tiers, t1 and t2, and so many followers in each of them
abbrev pub region : List ℕ → ℕ → ℕ → Region
region name leaders followers = record { name = name; leaders = leaders; tiers = tier (codes "t1") followers ∷ tier (codes "t2") followers ∷ [] }

-- one shard, a region with one tier, an object type and an association type
abbrev pub one_shard : Settings
one_shard = record {
  schema = record { objects = codes "user" ∷ []; assocs = assoc (codes "likes") None ∷ [] };
  shards = 1;
  regions = record { name = codes "east"; leaders = 1; tiers = tier (codes "t1") 1 ∷ [] } ∷ [];
  masters = 0 ∷ [];
  log_max = 16384;
  cache_items = 1024;
}

-- eight shards, two regions with two tiers each, three object types and four association types
abbrev pub two_regions : Settings
two_regions = record {
  schema = record {
    objects = codes "user" ∷ codes "post" ∷ codes "comment" ∷ [];
    assocs = assoc (codes "friend") (Some (codes "friend")) ∷ assoc (codes "likes") (Some (codes "liked_by"))
        ∷ assoc (codes "liked_by") (Some (codes "likes")) ∷ assoc (codes "comments") None ∷ [];
  };
  shards = 8;
  regions = region (codes "east") 2 2 ∷ region (codes "west") 1 1 ∷ [];
  masters = 0 ∷ [];
  log_max = 16384;
  cache_items = 1024;
}

-- ---- their requests

-- a session opens at a tier of a region
abbrev pub opens : ℕ → List ℕ → List ℕ → Request
opens session region tier = Open (record { session = session; region = region; tier = tier })

-- an edge of a type from an id to another
abbrev pub edge : ℕ → List ℕ → ℕ → EdgeName
edge id1 atype id2 = record { list = record { id1 = id1; atype = atype }; id2 = id2 }

-- The first draw of seed 0 is the number 7 below 10, out of 167951807. Over one shard this counts the edges of a list. Of four calls of seed 7 over
-- two regions one delivers a message, one adds an edge, one deletes one, and one moves a stream. The line of 2,000 calls, of which 177 were refused.
pub record RequestsByExample : Type 0 where
  pub step : next_state 0 ≡ 1442695040888963407
  pub drawn : (below (2 ^ 31) 0).0 ≡ 167951807
  pub kind : (below 10 0).0 ≡ 7
  pub no_call : requests_of one_shard 0 0 ≡ opens 1 (codes "east") (codes "t1") ∷ Store Settle ∷ []
  pub one_call : requests_of one_shard 0 1
      ≡ opens 1 (codes "east") (codes "t1") ∷ read_of 1 (AssocCount (record { id1 = 37; atype = codes "likes" })) ∷ Store Settle ∷ []
  pub nodes : (names_of two_regions).nodes ≡ codes "east/leader/0" ∷ codes "east/leader/1" ∷ codes "east/t1/0" ∷ codes "east/t1/1" ∷ codes "east/t2/0"
      ∷ codes "east/t2/1" ∷ codes "west/leader/0" ∷ codes "west/t1/0" ∷ codes "west/t2/0" ∷ []
  pub four_calls : requests_of two_regions 7 4
      ≡ opens 1 (codes "east") (codes "t1") ∷ opens 2 (codes "east") (codes "t2") ∷ opens 3 (codes "west") (codes "t1") ∷ opens 4 (codes "west") (codes "t2")
      ∷ Cache (Deliver (record { node = codes "west/t2/0"; message = 0 }))
      ∷ write_of 2 2 (AssocAdd (edge 281474976710676 (codes "friend") 1125899906842664) 686 [])
      ∷ write_of 4 3 (AssocDelete (edge 31 (codes "likes") 562949953421318))
      ∷ Store (Stream (codes "east") 7 None) ∷ Store Settle ∷ []
  pub summed : summary_text 2000 177 ≡ codes "{\"calls\":2000,\"ok\":\"gen\",\"refused\":177}"
