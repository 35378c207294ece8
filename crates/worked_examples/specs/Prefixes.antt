-- Worked examples of cached lists that take a change of an edge that they hold.
use Rattle.std.specs.Prelude.{◌≡◌, ℕ, [], ◌∷◌, Some}
use Rattle.list_prefix.specs.Changes.{prefix_after}
use Rattle.list_prefix.specs.ListPrefix.{ListPrefix, list_prefix}
use Rattle.tao_base.specs.declared.edge.Edge.{Edge}
use Rattle.tao_base.specs.declared.entry.Change.{Change}
use Rattle.tao_base.specs.declared.entry.Change.TheVariants.{SetEdge}

-- an edge without data, which was written at the first shard
abbrev pub edge_of : ℕ → ℕ → ℕ → Edge
edge_of id2 time number = record { id2 = id2; time = time; payload = []; stamp = record { number = number; shard = 0 } }

-- the edge to 2, whose time was 9, is set to the time 5
abbrev pub set_earlier : Change
set_earlier = SetEdge (edge_of 2 5 2) (Some 9)

-- A prefix of two edges of a list of four can't say where the edge belongs that moved behind its last one: it holds one edge, of a list
-- of four still. A prefix that is the whole list can.
pub record PrefixesByExample : Type 0 where
  pub part : prefix_after set_earlier (list_prefix (edge_of 2 9 1 ∷ edge_of 3 8 1 ∷ []) 4) 6000 ≡ list_prefix (edge_of 3 8 1 ∷ []) 4
  pub whole : prefix_after set_earlier (list_prefix (edge_of 2 9 1 ∷ []) 1) 6000 ≡ list_prefix (edge_of 2 5 2 ∷ []) 1
