-- An answer past the bound, as a leader gives it, in what was seen.
use Rattle.std.proofs.Common.{◌≡◌, ℕ, Bool, true, false, inl, inr, sym, subst}
use Rattle.std.specs.Prelude.{if◌then◌else◌, nat_lt}
use Rattle.cache_items.specs.Node.{Node}
use Rattle.core_model.specs.Reads.{given_of}
use Rattle.core_model.specs.leader_tier.LeaderReads.{AskedRead, GivesAnswer, at_floor}
use Rattle.graph_model.specs.Told.{WhereTold}
use Rattle.log_names.specs.Names.{LogNames}
use Rattle.sealed_item.specs.Fills.{SealedItem}
use Rattle.shard_log.specs.View.{View}
use Rattle.shard_tables.specs.ReadOuts.{IsReadOutOf}
use Rattle.shard_tables.specs.declared.leader_answer.LeaderAnswer.{LeaderAnswer}
use Rattle.shard_tables.specs.declared.leader_answer.LeaderAnswer.TheVariants.{Behind, Filled, Past}
use Rattle.shard_tables.specs.declared.read_out.ReadOut.{ReadOut}
use Rattle.shard_tables.specs.declared.read_out.ReadOut.TheVariants as out
use Rattle.shared_nodes.proofs.shared_stores_lemmas.PastAnswers.{read_noted}
use Rattle.shared_nodes.specs.shared_stores.Locked.{IsSharedStore, Locked, table_in}
use Rattle.shared_nodes.specs.shared_stores.Making.{Making}
use Rattle.shared_nodes.specs.shared_stores.PastBound.{IsUndecidedGiven, IsUndecidedIn}
use Rattle.tao_base.specs.EdgeTypes.{EdgeTypes}
use Rattle.tao_base.specs.declared.query.Answer.{Answer}
use Rattle.tao_base.specs.declared.query.Query.{Query}
use Rattle.tao_keeper.specs.KeeperState.{KeeperState}

either_fill : (types : EdgeTypes) (query : Query) (b : Bool) (version : ℕ) (fill : SealedItem)
    → IsUndecidedGiven types query (if b then Behind version else Filled fill)
either_fill types query true version fill = tt
either_fill types query false version fill = tt

either_past : (types : EdgeTypes) (query : Query) (b : Bool) (answer : Answer) (version total : ℕ) (note : View)
    → IsUndecidedIn types note query version total → IsUndecidedGiven types query (if b then Behind version else Past answer version total note)
either_past types query true answer version total note is = tt
either_past types query false answer version total note is = is

at_floor_seen : (types : EdgeTypes) (query : Query) (floor : ℕ) (read : ReadOut) → IsUndecidedGiven types query (given_of read)
    → IsUndecidedGiven types query (at_floor floor read)
at_floor_seen types query floor (out.Filled fill) is = either_fill types query (nat_lt fill.version floor) fill.version fill
at_floor_seen types query floor (out.Past answer version total note) is =
    either_past types query (nat_lt version floor) answer version total note is

module _ (tells : Bool) (m : Making) (log : LogNames) (l : Locked) (kept : IsSharedStore tells m log l) where
  -- what a leader gives of its own, or of what its store read
  pub given_seen : (asked : AskedRead) (given : LeaderAnswer) (node : Node) (before after : KeeperState) → before.told ≡ l.told
      → GivesAnswer asked l.store given node before after → IsUndecidedGiven asked.types asked.query given
  given_seen asked given node before after same gives = elim gives [
    | inl own ↦ subst (IsUndecidedGiven asked.types asked.query) (sym own.given_is) tt
    | inr reads ↦ (
        let told : WhereTold l.store.view.log.told (IsReadOutOf asked.types (table_in l).log asked.query reads.out) =
        λ t. subst (λ tables. IsReadOutOf asked.types (tables l.store.name).log asked.query reads.out) same (reads.reads t) in
        subst (IsUndecidedGiven asked.types asked.query) (sym reads.given_is)
        (at_floor_seen asked.types asked.query asked.floor reads.out (read_noted tells m log l kept asked.types asked.query reads.out reads.note_is told)))
  ]
