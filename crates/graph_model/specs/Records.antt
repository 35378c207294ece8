-- Records of one edge: which is the later, and whether a log has it.
use Rattle.std.specs.Prelude.{◌≡◌, Bool, true, false, if◌then◌else◌, List, Option, Some, None}
use Rattle.tao_base.specs.Stamps.{stamp_of, is_earlier}
use Rattle.tao_base.specs.declared.edge.EdgeState.{EdgeState}
use Rattle.tao_base.specs.declared.entry.Entry.{Entry}
use Rattle.graph_model.specs.Edges.{edge_record}
use Rattle.graph_model.specs.Soundness.{EdgeUpdate}

-- of two records of one edge the one with the greater stamp
abbrev pub later_of : EdgeState → EdgeState → EdgeState
later_of old new = if is_earlier (stamp_of old) (stamp_of new) then new else old

-- the join of two records of one edge: the later one, and a record joined with none is the record
abbrev pub join : Option EdgeState → Option EdgeState → Option EdgeState
join None new = new
join (Some old) None = Some old
join (Some old) (Some new) = Some (later_of old new)

-- records of one edge: equal stamps mean equal records
abbrev pub Agree : EdgeState → EdgeState → Type 0
Agree x y = stamp_of x ≡ stamp_of y → x ≡ y

-- whether the record has a greater stamp than the one found, if any
abbrev pub is_later : EdgeState → Option EdgeState → Bool
is_later state None = true
is_later state (Some found) = is_earlier (stamp_of found) (stamp_of state)

-- whether the record is later than the log's
abbrev pub is_news : List Entry → EdgeUpdate → Bool
is_news log u = is_later u.3 (edge_record log u.0 u.1 u.2)

-- the log has the record, or a later one
abbrev pub HasStamp : List Entry → EdgeUpdate → Type 0
HasStamp log u = is_news log u ≡ false
