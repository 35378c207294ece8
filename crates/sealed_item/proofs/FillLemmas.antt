-- A fill stays one while the log grows, and the first entries of a log make one.
use Rattle.std.proofs.Common.{ℕ, ◌≤◌, List, take, sym, ap, subst, ◌∙◌, arith}
use Rattle.tao_base.specs.declared.entry.Entry.{Entry}
use Rattle.tao_base.specs.declared.id.AType.{AType}
use Rattle.tao_base.specs.declared.id.Id.{Id}
use Rattle.tao_base.specs.declared.id.Key.{Key}
use Rattle.tao_base.specs.declared.id.Key.TheVariants.{Obj, List as Assocs}
use Rattle.graph_model.proofs.Exact.{beginning_is_exact}
use Rattle.graph_model.specs.Log.{version}
use Rattle.shard_log.proofs.Beginnings.{begins-length}
use Rattle.shard_log.proofs.GrowthLemmas.{list_stays, object_stays, versions_stay}
use Rattle.graph_model.specs.Told.{WhereTold}
use Rattle.shard_log.specs.View.{View, Grows}
use Rattle.sealed_item.specs.FillLaws.{BeginningIsSealed, ContentsStay, FillsStay, front_of}
use Rattle.sealed_item.specs.Fills.{SealedItem, IsExactContent, IsSealed, IsSince, fill_with_note}
use Rattle.sealed_item.specs.declared.content.Content.{Content}
use Rattle.sealed_item.specs.declared.content.Content.TheVariants.{Object as ObjectIs, List as ListIs}

-- a content that is exact in a view is exact in what it grew into
pub content_stays : (v w : View) (key : Key) (at : ℕ) (content : Content) → Grows v w
    → WhereTold v.log.told (IsExactContent v.entries key at content) → WhereTold w.log.told (IsExactContent w.entries key at content)
content_stays v w (Obj id) at (ObjectIs found) grows = object_stays v w id at found grows
content_stays v w (Obj id) at (ListIs prefix) grows = λ was told. was (ap (λ l. l.told) (sym grows.log_is) ∙ told)
content_stays v w (Assocs id1 atype) at (ListIs prefix) grows = list_stays v w id1 atype at prefix.edges prefix.total grows
content_stays v w (Assocs id1 atype) at (ObjectIs found) grows = λ was told. was (ap (λ l. l.told) (sym grows.log_is) ∙ told)

since_stays : (v w : View) (key : Key) (at as_of : ℕ) → Grows v w → IsSince v.entries key at as_of → IsSince w.entries key at as_of
since_stays v w key at as_of grows was = record {
  within = let longer = begins-length v.entries w.entries grows.begins in let within = was.within in omega arith;
  since = subst (λ n. n ≤ at) (sym (versions_stay.version_stays v w key as_of grows was.within)) was.since;
}

pub contents_stay : ContentsStay
contents_stay = record { stays = content_stays }

pub fill_stays : (item : SealedItem) (seen : View) → Grows item.note seen → IsSealed item → IsSealed (fill_with_note item seen)
fill_stays item seen grows was told =
    let before = ap (λ l. l.told) (sym grows.log_is) ∙ told in record {
      exact = content_stays item.note seen item.key item.version item.content grows (λ on. (was on).exact) told;
      since = since_stays item.note seen item.key item.version item.as_of grows (was before).since;
    }

pub fills_stay : FillsStay
fills_stay = record { stays = fill_stays }

refl_le : (n : ℕ) → n ≤ n
refl_le n = omega arith

-- any first edges of a list are exact, with their own number as the bound
front_is_exact : (log : List Entry) (n : ℕ) (id1 : Id) (atype : AType) (count : ℕ)
    → IsExactContent log (Assocs id1 atype) (version (take n log) (Assocs id1 atype)) (ListIs (front_of count (take n log) id1 atype))
front_is_exact log n id1 atype count =
    (beginning_is_exact log n).list_is id1 atype count

pub beginning_is_sealed : (log : List Entry) (n : ℕ) → BeginningIsSealed log n
beginning_is_sealed log n = record {
  object_is = λ id within. record {
    exact = (beginning_is_exact log n).object_is id;
    since = record { within = within; since = refl_le (version (take n log) (Obj id)) };
  };
  list_is = λ id1 atype count within. record {
    exact = front_is_exact log n id1 atype count;
    since = record { within = within; since = refl_le (version (take n log) (Assocs id1 atype)) };
  };
}
