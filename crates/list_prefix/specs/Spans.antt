-- Which of the edges of a list lie within some times.
use Rattle.std.specs.Prelude.{ℕ, Bool, nat_lt, nat_le, ◌==◌, ◌&&◌, List, Option}
use Rattle.std.specs.List.{list_any, prefix_len}
use Rattle.tao_base.specs.declared.edge.Edge.{Edge}
use Rattle.graph_model.specs.Answers.{at_least, at_most}

-- how many of the first edges are later than a time
abbrev pub later_than : ℕ → List Edge → ℕ
later_than high edges = prefix_len (λ e. nat_lt high e.time) edges

-- how many of the first edges are no earlier than a time
abbrev pub from_on : ℕ → List Edge → ℕ
from_on low edges = prefix_len (λ e. nat_le low e.time) edges

-- whether the edge lies within the times that are given, and goes to one of the ids
abbrev pub is_wanted : List ℕ → Option ℕ → Option ℕ → Edge → Bool
is_wanted ids low high e = (at_least low e.time && at_most high e.time) && list_any (λ id. id == e.id2) ids
