-- A read that may go on: what was given to it is whole, for its query, and right in what was seen of the log.
use Rattle.std.specs.Prelude.{ℕ, ◌≡◌, ◌≤◌, ⊤, Bool, true, List, Some, None, take, Ok}
use Rattle.tao_base.specs.EdgeTypes.{EdgeTypes}
use Rattle.tao_base.specs.Queries.{query_key}
use Rattle.tao_base.specs.declared.entry.Entry.{Entry}
use Rattle.tao_base.specs.declared.query.Answer.{Answer}
use Rattle.tao_base.specs.declared.query.Query.{Query}
use Rattle.graph_model.specs.Told.{WhereTold}
use Rattle.sealed_item.specs.Decided.{content_answer, content_decides}
use Rattle.sealed_item.specs.Fills.{SealedItem, IsSealed}
use Rattle.shard_log.specs.GrowthLaws.{IsLegalIn}
use Rattle.shard_log.specs.View.{View, Begins}
use Rattle.shard_tables.specs.ReadOuts.{IsFillFor, IsReadOutOf}
use Rattle.shard_tables.specs.declared.leader_answer.LeaderAnswer.TheVariants as leader
use Rattle.shard_tables.specs.declared.read_out.ReadOut.{ReadOut}
use Rattle.shard_tables.specs.declared.read_out.ReadOut.TheVariants as store
use Rattle.read_plan.specs.Readings.{Reading, new_reading, taken}
use Rattle.read_plan.specs.declared.stages.ReadResult.TheVariants as came
use Rattle.read_plan.specs.declared.standing.Given.{Given}
use Rattle.read_plan.specs.declared.standing.Given.TheVariants.{Fill, HandedOut, Past}
use Rattle.read_plan.specs.declared.standing.Standing.{Standing}
use Rattle.read_plan.specs.declared.standing.Standing.TheVariants.{Looking, Asking, Mastering, Keeping, Ended}

-- the fill is of the query's key and decides the query, and where the log is told it is at the floor or above. That it is true is in its type
pub record IsHeldFill (types : EdgeTypes) (query : Query) (floor : ℕ) (fill : SealedItem) : Type 0 where
  pub key_is : fill.key ≡ query_key query
  pub decides : content_decides types fill.content query ≡ true
  pub reaches : WhereTold fill.note.log.told (floor ≤ fill.version)

-- the version of what a store read: that of its fill, or of its answer past the bound
abbrev pub read_out_version : ReadOut → ℕ
read_out_version (store.Filled fill) = fill.version
read_out_version (store.Past answer version total note) = version

-- some beginning of the log was read so: it answers so at the version, the floor or above, and the list's first edges, as many as its
-- bound, leave the query open
pub record WasRead (types : EdgeTypes) (log : List Entry) (query : Query) (floor : ℕ) (out : ReadOut) : Type 0 where
  pub n : ℕ
  pub out_is : IsReadOutOf types (take n log) query out
  pub reaches : floor ≤ read_out_version out

-- what was given to a read with that query and floor is there, and right
abbrev pub IsGiven : EdgeTypes → Query → ℕ → Given → Type 0
IsGiven types query floor (Fill fill) = IsHeldFill types query floor fill
IsGiven types query floor (Past answer version total (Some seen)) =
    WhereTold seen.log.told (WasRead types seen.entries query floor (store.Past answer version total seen))
IsGiven types query floor (Past answer version total None) = ⊥
IsGiven types query floor (HandedOut version) = ⊥

-- a read that is to keep was given what is right for the query and the floor; of one that stands elsewhere nothing is asked
abbrev pub IsStandingFor : EdgeTypes → Query → ℕ → Standing → Type 0
IsStandingFor types query floor (Keeping given) = IsGiven types query floor given
IsStandingFor types query floor Looking = ⊤
IsStandingFor types query floor Asking = ⊤
IsStandingFor types query floor Mastering = ⊤
IsStandingFor types query floor (Ended end) = ⊤

-- a read that may be held
abbrev pub IsHeldRead : EdgeTypes → Reading → Type 0
IsHeldRead types p = IsStandingFor types p.query p.floor p.at

-- a read may be held when it begins, and after a stage that gave what is right
pub record ReadsGoOn (types : EdgeTypes) (p : Reading) (hops : ℕ) (called : Bool) : Type 0 where
  pub begun : IsHeldRead types (new_reading p.query p.region p.tier p.floor p.critical p.follower)
  pub filled : (fill : SealedItem) → IsHeldFill types p.query p.floor fill
      → IsHeldRead types (taken (came.Ask (Ok (leader.Filled fill))) hops called p)
      × IsHeldRead types (taken (came.Master (Ok (store.Filled fill))) hops called p)
  pub past : (answer : Answer) (version total : ℕ) (note : View) → IsGiven types p.query p.floor (Past answer version total (Some note))
      → IsHeldRead types (taken (came.Ask (Ok (leader.Past answer version total note))) hops called p)
      × IsHeldRead types (taken (came.Master (Ok (store.Past answer version total note))) hops called p)
  pub behind : (version : ℕ) → IsHeldRead types (taken (came.Ask (Ok (leader.Behind version))) hops called p)

-- what a store read of its log, of which the note has seen a beginning at least as long, may be given at a floor that its version has
pub record ReadsAreGiven (types : EdgeTypes) (query : Query) (floor : ℕ) : Type 0 where
  pub filled : (fill : SealedItem) → IsFillFor types query fill → WhereTold fill.note.log.told (floor ≤ fill.version) → IsHeldFill types query floor fill
  pub past : (log : List Entry) (answer : Answer) (version total : ℕ) (note : View) → WhereTold note.log.told (Begins log note.entries)
      → WhereTold note.log.told (IsReadOutOf types log query (store.Past answer version total note)) → WhereTold note.log.told (floor ≤ version)
      → IsGiven types query floor (Past answer version total (Some note))

-- what is answered from what is right is legal in what was seen of the log
pub record GivenIsLegal (types : EdgeTypes) (query : Query) (floor : ℕ) : Type 0 where
  pub filled : (fill : SealedItem) → IsSealed fill → IsHeldFill types query floor fill
      → IsLegalIn types fill.note query floor (content_answer types fill.content query) fill.version
  pub past : (answer : Answer) (version total : ℕ) (note : View) → IsGiven types query floor (Past answer version total (Some note))
      → IsLegalIn types note query floor answer version
