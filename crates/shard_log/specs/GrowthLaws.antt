-- What stays so when a view grows.
use Rattle.std.specs.Prelude.{ℕ, ◌≡◌, ◌≤◌, ◌+◌, List, [], ◌∷◌, ◌++◌, length, take, Option, Some}
use Rattle.tao_base.specs.declared.edge.Edge.{Edge}
use Rattle.tao_base.specs.declared.edge.Object.{Object}
use Rattle.tao_base.specs.declared.entry.Entry.{Entry}
use Rattle.tao_base.specs.declared.id.AType.{AType}
use Rattle.tao_base.specs.declared.id.Id.{Id}
use Rattle.tao_base.specs.declared.id.Key.{Key}
use Rattle.tao_base.specs.EdgeTypes.{EdgeTypes}
use Rattle.tao_base.specs.declared.query.Answer.{Answer}
use Rattle.tao_base.specs.declared.query.Query.{Query}
use Rattle.graph_model.specs.Legal.{IsLegal}
use Rattle.graph_model.specs.Log.{version, entry_at}
use Rattle.graph_model.specs.Prefixes.{IsExactList, IsExactObject}
use Rattle.graph_model.specs.Soundness.{IsSound}
use Rattle.graph_model.specs.Told.{WhereTold}
use Rattle.shard_log.specs.View.{View, Grows, longer_view}

-- growth is a chain
pub record GrowthGoesOn : Type 0 where
  -- a view has grown from itself
  pub stays : (v : View) → Grows v v
  -- what grew from a view that grew has grown
  pub goes_on : (u v w : View) → Grows u v → Grows v w → Grows u w
  -- of two views that grew into one the longer has grown from the other
  pub in_order : (u v w : View) → Grows u w → Grows v w → length u.entries ≤ length v.entries → Grows u v
  -- one that is as long as what it grew into has the same entries
  pub whole : (v w : View) → Grows v w → length w.entries ≤ length v.entries → v.entries ≡ w.entries

-- an item that is exact in a view stays exact
pub record ItemsStayExact : Type 0 where
  pub object_stays : (v w : View) (id : Id) (at : ℕ) (found : Option Object) → Grows v w
      → WhereTold v.log.told (IsExactObject v.entries id at found) → WhereTold w.log.told (IsExactObject w.entries id at found)
  pub list_stays : (v w : View) (id1 : Id) (atype : AType) (at : ℕ) (edges : List Edge) (total : ℕ) → Grows v w
      → WhereTold v.log.told (IsExactList v.entries id1 atype at edges total) → WhereTold w.log.told (IsExactList w.entries id1 atype at edges total)

-- what a view's first entries are stays, and so do the versions of each key in them. A key's version in the whole view never falls
pub record VersionsStay : Type 0 where
  pub first_stay : (v w : View) (n : ℕ) → Grows v w → n ≤ length v.entries → take n w.entries ≡ take n v.entries
  pub version_stays : (v w : View) (key : Key) (n : ℕ) → Grows v w → n ≤ length v.entries → version (take n w.entries) key ≡ version (take n v.entries) key
  pub version_rises : (v w : View) (key : Key) → Grows v w → version v.entries key ≤ version w.entries key

-- an entry that was added stands at the next position, and the entry at a position stays there
pub record EntriesStay : Type 0 where
  pub added : (log : List Entry) (e : Entry) → entry_at (log ++ e ∷ []) (length log + 1) ≡ Some e
  pub stays : (v w : View) (position : ℕ) (e : Entry) → Grows v w → entry_at v.entries position ≡ Some e → entry_at w.entries position ≡ Some e

-- a view that grew into a sound one is sound
pub record BeginningsAreSound : Type 0 where
  pub begins : (v w : View) → Grows v w → WhereTold w.log.told (IsSound w.entries) → WhereTold v.log.told (IsSound v.entries)

-- in what was seen the read is legal, where the log is told
abbrev pub IsLegalIn : EdgeTypes → View → Query → ℕ → Answer → ℕ → Type 0
IsLegalIn types view query floor answer version = WhereTold view.log.told (IsLegal types view.entries query floor answer version)

-- what was seen of a log stays seen
pub record SeenStays : Type 0 where
  -- of two views that a log has grown from, so has it from the longer one
  pub meets : (v w whole : View) → Grows v whole → Grows w whole → Grows (longer_view v w) whole
  -- a read that is legal in a view is legal in what it grew into
  pub legal : (v w : View) (types : EdgeTypes) (query : Query) (floor : ℕ) (answer : Answer) (version : ℕ) → Grows v w
      → IsLegalIn types v query floor answer version → IsLegalIn types w query floor answer version
