-- Queries as keys.
use Rattle.std.specs.Prelude.{ℕ, Bool, true, false, ◌==◌, ◌&&◌, List, []}
use Rattle.std.specs.Cmp.Lexicographic.{pointwise}
use Rattle.std.specs.Option.{option_eq}
use Rattle.tao_base.specs.Keys.{same_key}
use Rattle.tao_base.specs.Queries.{query_key}
use Rattle.tao_base.specs.declared.id.Key.{Key}
use Rattle.tao_base.specs.declared.query.Query.{Query}
use Rattle.tao_base.specs.declared.query.Query.TheVariants.{ObjGet, AssocGet, AssocCount, AssocRange, AssocTimeRange}
use Rattle.hot_items.specs.declared.key.Part.{Part}
use Rattle.hot_items.specs.declared.key.Part.TheVariants.{Whole, Among, Places, Times}

-- a query as a key: what it reads, what it asks of that, and of which ids
pub record Asked : Type 0 where
  pub key : Key
  pub part : Part
  pub ids : List ℕ

-- what a query asks of its key, but for the ids
abbrev pub part_of : Query → Part
part_of (ObjGet id) = Whole
part_of (AssocGet id1 atype ids high low) = Among high low
part_of (AssocCount id1 atype) = Whole
part_of (AssocRange id1 atype pos limit) = Places pos limit
part_of (AssocTimeRange id1 atype high low limit) = Times high low limit

-- the ids that a query names besides the one of its key
abbrev pub ids_of : Query → List ℕ
ids_of (ObjGet id) = []
ids_of (AssocGet id1 atype ids high low) = ids
ids_of (AssocCount id1 atype) = []
ids_of (AssocRange id1 atype pos limit) = []
ids_of (AssocTimeRange id1 atype high low limit) = []

abbrev pub asked_of : Query → Asked
asked_of query = record { key = query_key query; part = part_of query; ids = ids_of query }

-- whether two parts are the same
abbrev pub same_part : Part → Part → Bool
same_part Whole Whole = true
same_part (Among high low) (Among top bottom) = option_eq ◌==◌ high top && option_eq ◌==◌ low bottom
same_part (Places pos limit) (Places place most) = pos == place && limit == most
same_part (Times high low limit) (Times top bottom most) = high == top && (low == bottom && limit == most)
same_part part other = false

-- whether two keys are of one query
abbrev pub same_asked : Asked → Asked → Bool
same_asked asked other = same_key asked.key other.key && (same_part asked.part other.part && pointwise ◌==◌ asked.ids other.ids)

-- whether two queries are the same
abbrev pub same_query : Query → Query → Bool
same_query query other = same_asked (asked_of query) (asked_of other)
