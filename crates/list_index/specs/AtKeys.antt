-- Edges by their places.
use Rattle.std.specs.Prelude.{◌≡◌, ℕ, List, map}
use Rattle.std.specs.BTreeMap.{BTreeMap, values}
use Rattle.tao_base.specs.declared.edge.Edge.{Edge}
use Rattle.graph_model.specs.Edges.{edges_to}
use Rattle.list_index.specs.OrderKeys.{order_key_of}
use Rattle.list_index.specs.declared.order_key.OrderKey.{OrderKey}

-- each edge with its place
abbrev pub at_keys : List Edge → List (OrderKey × Edge)
at_keys edges = map (λ e. (order_key_of e, e)) edges

-- the map has each edge at its place
abbrev pub AreAtKeys : BTreeMap OrderKey Edge → Type 0
AreAtKeys map = map.entries ≡ at_keys (values map)

-- the times of the edges to an id
abbrev pub times_to : ℕ → List Edge → List ℕ
times_to id2 edges = map (λ e. e.time) (edges_to id2 edges)
