-- The edges that are live after a log.
use Rattle.std.specs.Prelude.{ℕ, Bool, true, false, List, [], ◌∷◌, flat_map, count_by, if◌then◌else◌}
use Rattle.std.specs.List.{list_any}
use Rattle.tao_base.specs.declared.edge.EdgeState.{EdgeState}
use Rattle.tao_base.specs.declared.edge.EdgeState.TheVariants.{Live, Cut}
use Rattle.tao_base.specs.declared.entry.Entry.{Entry}
use Rattle.graph_model.specs.Soundness.{EdgeUpdate, updates_of}
use Rattle.write_model.specs.Writes.{same_edge}

-- whether a record is that of a live edge
abbrev pub is_live : EdgeState → Bool
is_live (Live time payload stamp) = true
is_live (Cut stamp) = false

-- of each edge the last of these records
abbrev pub last_records : List EdgeUpdate → List EdgeUpdate
last_records [] = []
last_records (u ∷ later) = if list_any (same_edge u) later then last_records later else (u ∷ last_records later)

-- how many edges these records leave live: those whose last record is live
abbrev pub live_among : List EdgeUpdate → ℕ
live_among records = count_by (λ u. is_live u.3) (last_records records)

-- the records that the log's entries write, in order
abbrev pub records_of : List Entry → List EdgeUpdate
records_of log = flat_map updates_of log

-- how many edges are live after the log
abbrev pub live_count : List Entry → ℕ
live_count log = live_among (records_of log)
