-- The edges of a log, and the records that touches write of them.
use Rattle.std.specs.Prelude.{◌==◌, ◌&&◌, Bool, true, false, Option, Some, None, option_map}
use Rattle.tao_base.specs.declared.entry.Change.{Change}
use Rattle.tao_base.specs.declared.entry.Change.TheVariants.{PutObject, DropObject, SetEdge, CutEdge}
use Rattle.tao_base.specs.declared.entry.Touch.{Touch}
use Rattle.tao_base.specs.declared.id.Id.{Id}
use Rattle.graph_model.specs.Soundness.{EdgeUpdate, update_at}
use Rattle.load_audit.specs.LiveEdges.{is_live}
use Rattle.load_audit.specs.declared.logged.LoggedEdge.{LoggedEdge}

-- the edge that a record is of
abbrev pub logged_edge : EdgeUpdate → LoggedEdge
logged_edge u = record { id1 = u.0; atype = u.1; id2 = u.2 }

-- whether two edges of a log are one
abbrev pub same_logged : LoggedEdge → LoggedEdge → Bool
same_logged x y = x.id1 == y.id1 && (x.atype.0 == y.atype.0 && x.id2 == y.id2)

-- where the edge goes that a change of a list writes, and whether it is live then
abbrev pub end_of : Change → Option (Id × Bool)
end_of (SetEdge edge was) = Some (edge.id2, true)
end_of (CutEdge id2 stamp was) = Some (id2, false)
end_of (PutObject object) = None
end_of DropObject = None

-- the edge of the record that a touch writes, if it writes one, and whether that is live
abbrev pub record_at : Touch → Option (LoggedEdge × Bool)
record_at touch = option_map (λ u. (logged_edge u, is_live u.3)) (update_at touch.key touch.change)
