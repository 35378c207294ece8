-- The two ends of an edge.
use Rattle.std.specs.Prelude.{ℕ, List, Some, ◌≡◌}
use Rattle.tao_base.specs.EdgeTypes.{EdgeTypes, InversesMatch}
use Rattle.tao_base.specs.Ids.{shard_of}
use Rattle.tao_base.specs.declared.id.Id.{Id}
use Rattle.tao_base.specs.declared.id.AType.{AType}
use Rattle.tao_base.specs.declared.entry.Entry.{Entry}
use Rattle.graph_model.specs.Edges.{edge_record}
use Rattle.graph_model.specs.Soundness.{IsSoundOf}

-- in a sound log of a shard, an edge whose two ends lie on the shard has the same record at both
abbrev pub NearEndsArePaired : ℕ → List Entry → Type 0
NearEndsArePaired shard log =
    (types : EdgeTypes) → InversesMatch types → IsSoundOf types shard log
    → (id1 : Id) (atype inverse : AType) (id2 : Id) → types.inverse atype ≡ Some inverse → shard_of id1 ≡ shard → shard_of id2 ≡ shard
    → edge_record log id1 atype id2 ≡ edge_record log id2 inverse id1
