use Rattle.std.proofs.Common.{◌≡◌, map, take}
use Rattle.graph_model.specs.Log.{changes_of}
use Rattle.plain_graph.proofs.changes.changes_at.Given as goal

abbrev pub invariant-loop-entry : goal.invariant-loop-entry
invariant-loop-entry l = map (λ c. c.now) l.changes.items ≡ changes_of (take l.entry-index l.entries) l.key
