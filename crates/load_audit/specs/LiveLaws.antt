-- What the records are that count as the last ones.
use Rattle.std.specs.Prelude.{◌≡◌, false, List, Some, AllPairs, Contains}
use Rattle.tao_base.specs.declared.entry.Entry.{Entry}
use Rattle.graph_model.specs.Edges.{edge_record}
use Rattle.graph_model.specs.Soundness.{EdgeUpdate}
use Rattle.write_model.specs.Writes.{same_edge}
use Rattle.load_audit.specs.LiveEdges.{last_records, records_of}

-- the last records of a log are the records of its edges as they stand after it, each edge's once
pub record LastRecordLaws : Type 0 where
  pub stand : (log : List Entry) (u : EdgeUpdate) → Contains (last_records (records_of log)) u → edge_record log u.0 u.1 u.2 ≡ Some u.3
  pub all : (log : List Entry) (u : EdgeUpdate) → edge_record log u.0 u.1 u.2 ≡ Some u.3 → Contains (last_records (records_of log)) u
  pub once : (log : List Entry) → AllPairs (λ u v. same_edge u v ≡ false) (last_records (records_of log))
