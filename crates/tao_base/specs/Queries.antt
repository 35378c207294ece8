-- Queries: the key that each reads.
use Rattle.std.specs.Prelude.{ℕ}
use Rattle.tao_base.specs.Keys.{key_shard}
use Rattle.tao_base.specs.declared.id.Key.{Key}
use Rattle.tao_base.specs.declared.id.Key.TheVariants.{Obj, List as Assocs}
use Rattle.tao_base.specs.declared.query.Query.{Query}
use Rattle.tao_base.specs.declared.query.Query.TheVariants.{ObjGet, AssocGet, AssocCount, AssocRange, AssocTimeRange}

-- the key that a query reads
abbrev pub query_key : Query → Key
query_key (ObjGet id) = Obj id
query_key (AssocGet id1 atype ids high low) = Assocs id1 atype
query_key (AssocCount id1 atype) = Assocs id1 atype
query_key (AssocRange id1 atype pos limit) = Assocs id1 atype
query_key (AssocTimeRange id1 atype high low limit) = Assocs id1 atype

-- the shard of a query: that of its key
abbrev pub query_shard : Query → ℕ
query_shard query = key_shard (query_key query)
