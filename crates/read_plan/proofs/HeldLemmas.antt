-- What was given may be held, and is legal.
use Rattle.std.proofs.Common.{ℕ, Bool, List, length, sym, subst}
use Rattle.tao_base.specs.EdgeTypes.{EdgeTypes}
use Rattle.tao_base.specs.Queries.{query_key}
use Rattle.tao_base.specs.declared.id.Key.{Key}
use Rattle.tao_base.specs.declared.query.Query.{Query}
use Rattle.tao_base.specs.declared.entry.Entry.{Entry}
use Rattle.graph_model.proofs.Beginnings.{beginning_of}
use Rattle.sealed_item.proofs.Deciding.{contents_answer}
use Rattle.sealed_item.specs.Decided.{IsExactAnswer, content_answer}
use Rattle.shard_tables.specs.ReadOuts.{IsReadOutOf}
use Rattle.shard_tables.specs.declared.read_out.ReadOut.TheVariants as store
use Rattle.sealed_item.specs.Fills.{SealedItem, IsExactContent, IsSealed}
use Rattle.shard_log.specs.GrowthLaws.{IsLegalIn}
use Rattle.read_plan.specs.Held.{GivenIsLegal, IsHeldFill, ReadsAreGiven, ReadsGoOn}
use Rattle.read_plan.specs.Readings.{Reading}

pub reads_go_on : (types : EdgeTypes) (p : Reading) (hops : ℕ) (called : Bool) → ReadsGoOn types p hops called
reads_go_on types p hops called = record {
  begun = tt;
  filled = λ fill right. (right, right);
  past = λ answer version total note right. (right, right);
  behind = λ version. tt;
}

fill_legal : (types : EdgeTypes) (query : Query) (floor : ℕ) (fill : SealedItem) → IsSealed fill → IsHeldFill types query floor fill
    → IsLegalIn types fill.note query floor (content_answer types fill.content query) fill.version
fill_legal types query floor fill sealed given told =
    let P : Key → Type 0 = λ k. IsExactContent fill.note.entries k fill.version fill.content in
    let exact : IsExactContent fill.note.entries (query_key query) fill.version fill.content = subst P given.key_is (sealed told).exact in
    let answers : IsExactAnswer types fill.note.entries query (content_answer types fill.content query) fill.version =
    contents_answer.answers types fill.note.entries query fill.version fill.content exact given.decides in
    let at = beginning_of fill.note.entries (query_key query) fill.version answers.reached in
    record {
      n = at.0;
      answers = answers.gives at.0 at.2;
      version_is = sym at.2;
      reached = given.reaches told;
    }

pub given_is_legal : (types : EdgeTypes) (query : Query) (floor : ℕ) → GivenIsLegal types query floor
given_is_legal types query floor = record {
  filled = λ fill sealed given. fill_legal types query floor fill sealed given;
  past = λ answer version total note given told.
      let was = given told in
      record { n = was.n; answers = was.out_is.0.answer_is; version_is = was.out_is.0.version_is; reached = was.reaches };
}

pub reads_are_given : (types : EdgeTypes) (query : Query) (floor : ℕ) → ReadsAreGiven types query floor
reads_are_given types query floor = record {
  filled = λ fill for reaches. record { key_is = for.key_is; decides = for.decided; reaches = reaches };
  past = λ log answer version total note begins reads reaches told.
      let P : List Entry → Type 0 = λ part. IsReadOutOf types part query (store.Past answer version total note) in
      record { n = length log; out_is = subst P (begins told) (reads told); reaches = reaches told };
}
