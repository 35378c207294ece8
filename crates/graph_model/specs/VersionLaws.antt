-- The versions that a log has reached.
use Rattle.std.specs.Prelude.{ℕ, List, length, take, ◌≡◌, ◌≤◌}
use Rattle.tao_base.specs.declared.edge.Edge.{Edge}
use Rattle.tao_base.specs.declared.entry.Entry.{Entry}
use Rattle.tao_base.specs.declared.id.AType.{AType}
use Rattle.tao_base.specs.declared.id.Id.{Id}
use Rattle.tao_base.specs.declared.id.Key.{Key}
use Rattle.tao_base.specs.declared.id.Key.TheVariants.{List as Assocs}
use Rattle.graph_model.specs.Edges.{edge_list}
use Rattle.graph_model.specs.Log.{version}
use Rattle.graph_model.specs.Prefixes.{IsExactList}
use Rattle.graph_model.specs.Soundness.{IsSound}

-- a version that the log has reached is that of one of its beginnings, and none of them has a greater one
pub record VersionsAreOfBeginnings (log : List Entry) (key : Key) : Type 0 where
  pub beginning : (v : ℕ) → v ≤ version log key → (n : ℕ) × (n ≤ length log) × (version (take n log) key ≡ v)
  pub no_greater : (n : ℕ) → version (take n log) key ≤ version log key

-- a list of a sound log is no longer than its version, and no exact item tells of a longer one
pub record LengthIsWithinVersion (log : List Entry) (id1 : Id) (atype : AType) : Type 0 where
  pub list_is : IsSound log → length (edge_list log id1 atype) ≤ version log (Assocs id1 atype)
  pub item_is : IsSound log → (v : ℕ) (edges : List Edge) (total : ℕ) → IsExactList log id1 atype v edges total → total ≤ v
