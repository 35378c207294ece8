-- What makes a fill, and keeps it.
use Rattle.std.specs.Prelude.{ℕ, ◌≤◌, List, length, take}
use Rattle.tao_base.specs.declared.entry.Entry.{Entry}
use Rattle.tao_base.specs.declared.id.AType.{AType}
use Rattle.tao_base.specs.declared.id.Id.{Id}
use Rattle.tao_base.specs.declared.id.Key.{Key}
use Rattle.tao_base.specs.declared.id.Key.TheVariants.{Obj, List as Assocs}
use Rattle.graph_model.specs.Edges.{edge_list}
use Rattle.graph_model.specs.Log.{object, version}
use Rattle.graph_model.specs.Told.{WhereTold}
use Rattle.list_prefix.specs.ListPrefix.{ListPrefix, list_prefix}
use Rattle.shard_log.specs.View.{View, Grows}
use Rattle.sealed_item.specs.declared.content.Content.{Content}
use Rattle.sealed_item.specs.declared.content.Content.TheVariants.{Object as ObjectIs, List as ListIs}
use Rattle.sealed_item.specs.Fills.{SealedItem, IsExactContent, IsFill, IsSealed, fill_with_note}

-- a content that is exact in a view is exact in each view that it grew into
pub record ContentsStay : Type 0 where
  pub stays : (v w : View) (key : Key) (at : ℕ) (content : Content) → Grows v w
      → WhereTold v.log.told (IsExactContent v.entries key at content) → WhereTold w.log.told (IsExactContent w.entries key at content)

-- a fill is one in each view that its note's grew into
pub record FillsStay : Type 0 where
  pub stays : (item : SealedItem) (seen : View) → Grows item.note seen → IsSealed item → IsSealed (fill_with_note item seen)

-- the first edges of a list, and its length
abbrev pub front_of : ℕ → List Entry → Id → AType → ListPrefix
front_of count log id1 atype = list_prefix (take count (edge_list log id1 atype)) (length (edge_list log id1 atype))

-- what the first n entries of a log give, an object or any first edges of a list, is a fill as of n at the version there
pub record BeginningIsSealed (log : List Entry) (n : ℕ) : Type 0 where
  pub object_is : (id : Id) → n ≤ length log → IsFill log (Obj id) (version (take n log) (Obj id)) n (ObjectIs (object (take n log) id))
  pub list_is : (id1 : Id) (atype : AType) (count : ℕ) → n ≤ length log
      → IsFill log (Assocs id1 atype) (version (take n log) (Assocs id1 atype)) n (ListIs (front_of count (take n log) id1 atype))
