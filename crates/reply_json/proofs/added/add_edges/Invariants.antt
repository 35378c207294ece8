use Rattle.std.proofs.Common.{◌≡◌, ◌++◌, ◌∷◌, drop, map, false}
use Rattle.serde_json.specs.View.{items_of}
use Rattle.serde_json.specs.Written.{items_text}
use Rattle.reply_json.specs.Values.{edge_data}
use Rattle.reply_json.proofs.added.add_edges.Given as goal

-- with the edges that are left, what is written comes to the whole array
abbrev pub invariant-loop-edge : goal.invariant-loop-edge
invariant-loop-edge l =
    l.out.items ++ items_text l.later (items_of (map edge_data (drop l.edge-index l.edges))) ≡ l.fn.out.items ++
    91 ∷ items_text false (items_of (map edge_data l.edges))
