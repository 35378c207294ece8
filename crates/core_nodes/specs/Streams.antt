-- What a stream finds at the stores of a shard, and what a slave's store takes of it.
use Rattle.std.specs.Prelude.{ℕ, ◌≡◌, ◌≤◌, ◌<◌, ◌+◌, ⊤, IsSome, IsSomeAnd, Option, Some, None, Result, Ok, Err, length, unwrap_or}
use Rattle.graph_model.specs.Log.{entry_at}
use Rattle.region_stream.specs.declared.applying.Applied.{Applied}
use Rattle.region_stream.specs.declared.applying.Applied.TheVariants as applied
use Rattle.replies.specs.declared.nodes.StreamVerdict.{StreamVerdict}
use Rattle.replies.specs.declared.nodes.StreamVerdict.TheVariants as verdict
use Rattle.shard_tables.specs.declared.refusal.StoreRefusal.{StoreRefusal}
use Rattle.tao_base.specs.declared.entry.Entry.{Entry}
use Rattle.tao_base.specs.declared.id.StoreName.{StoreName}
use Rattle.tao_keeper.specs.Table.{Stays, Tables}
use Rattle.topology.specs.Config.{Settings}
use Rattle.core_model.specs.Growing.{TakesNext}
use Rattle.core_model.specs.Stores.{master_log, master_store}
use Rattle.core_nodes.specs.declared.streams.NextEntry.{NextEntry}
use Rattle.core_nodes.specs.declared.streams.NextEntry.TheVariants as next

-- ---- what is to be carried

-- the position that a store takes next of its shard's log
abbrev pub next_position : Tables → StoreName → ℕ
next_position tables at = length (tables at).log + 1

-- the entry is a live one of the shard's log, at the position that is asked for, or else at the one that the store takes next
pub record IsToCarry (s : Settings) (tables : Tables) (at : StoreName) (asked : Option ℕ) (entry : Entry) : Type 0 where
  pub live : (tables (master_store s at.shard)).cut < entry.position
  pub position_is : entry.position ≡ unwrap_or asked (next_position tables at)
  pub stands : entry_at (master_log s tables at.shard) entry.position ≡ Some entry

-- no entry is asked for, and the store has all of its shard's log
pub record HasAll (s : Settings) (tables : Tables) (at : StoreName) (asked : Option ℕ) : Type 0 where
  pub unasked : asked ≡ None
  pub whole : (tables at).log ≡ master_log s tables at.shard

-- the entry at the position that is asked for is an old one of the shard's log: the store has taken it long ago
pub record IsOldThere (s : Settings) (tables : Tables) (shard : ℕ) (asked : Option ℕ) : Type 0 where
  pub position : ℕ
  pub asked_is : asked ≡ Some position
  pub old : position ≤ (tables (master_store s shard)).cut

-- the shard's log, of that length, has no entry at the position that is asked for, which is past its cut
pub record LacksEntry (s : Settings) (tables : Tables) (shard : ℕ) (asked : Option ℕ) (count position : ℕ) : Type 0 where
  pub asked_is : asked ≡ Some position
  pub count_is : count ≡ length (master_log s tables shard)
  pub lacks : entry_at (master_log s tables shard) position ≡ None
  pub past : (tables (master_store s shard)).cut < position

-- what a stream into a store finds, by the position that is asked for, if any: an entry to carry, an old one, nothing that the store lacks, or no such entry
abbrev pub FindsNext : Settings → Tables → StoreName → Option ℕ → NextEntry → Type 0
FindsNext s tables at asked (next.Found entry position) = (position ≡ next_position tables at) × IsToCarry s tables at asked entry
FindsNext s tables at asked (next.Old position) = (position ≡ next_position tables at) × IsOldThere s tables at.shard asked
FindsNext s tables at asked (next.Nothing position) = (position ≡ next_position tables at) × HasAll s tables at asked
FindsNext s tables at asked (next.Past count position) = LacksEntry s tables at.shard asked count position

-- whatever the tables are, nothing is lacked only where no position is asked for, and an entry is old or missing only where one is
abbrev pub IsOfAsked : Option ℕ → NextEntry → Type 0
IsOfAsked asked (next.Found entry position) = ⊤
IsOfAsked asked (next.Old position) = IsSome asked
IsOfAsked asked (next.Nothing position) = asked ≡ None
IsOfAsked asked (next.Past count position) = asked ≡ Some position

-- what is said where the shard's log has no live entry: of the position that is asked for, or else that the store takes this one next
abbrev pub IsNothingAt : Settings → Tables → ℕ → Option ℕ → ℕ → NextEntry → Type 0
IsNothingAt s tables shard asked position (next.Found entry other) = ⊥
IsNothingAt s tables shard asked position (next.Old other) = (other ≡ position) × IsSomeAnd asked (λ at. at ≤ length (master_log s tables shard))
IsNothingAt s tables shard asked position (next.Nothing other) = (asked ≡ None) × (other ≡ position)
IsNothingAt s tables shard asked position (next.Past count other) =
    (asked ≡ Some other) × (count ≡ length (master_log s tables shard)) × (count < other)

-- the entry that is to be carried, where there is one
abbrev pub entry_found : NextEntry → Option Entry
entry_found (next.Found entry position) = Some entry
entry_found (next.Old position) = None
entry_found (next.Nothing position) = None
entry_found (next.Past count position) = None

-- the position that the store takes next, where the log has what is asked for
abbrev pub position_found : NextEntry → ℕ
position_found (next.Found entry position) = position
position_found (next.Old position) = position
position_found (next.Nothing position) = position
position_found (next.Past count position) = 0

-- ---- what the store takes

-- what the store says of the entry
abbrev pub streamed_as : Result Applied StoreRefusal → Result StreamVerdict StoreRefusal
streamed_as (Ok applied.Applied) = Ok verdict.Applied
streamed_as (Ok applied.Old) = Ok verdict.Old
streamed_as (Ok (applied.Gap position)) = Ok verdict.Gap
streamed_as (Err refusal) = Err refusal

-- the store takes the entry exactly where it comes next: one of an earlier position is old, and before one of a later position is a gap. Nothing else
-- changes a table
abbrev pub StreamsTo : Settings → StoreName → Entry → Result StreamVerdict StoreRefusal → Tables → Tables → Type 0
StreamsTo s at e (Ok verdict.Applied) old new = (e.position ≡ next_position old at) × TakesNext s at e old new
StreamsTo s at e (Ok verdict.Old) old new = (e.position < next_position old at) × Stays old new
StreamsTo s at e (Ok verdict.Gap) old new = (next_position old at < e.position) × Stays old new
StreamsTo s at e (Ok verdict.None) old new = ⊥
StreamsTo s at e (Err refusal) old new = Stays old new

-- this is so unless the entry was taken
abbrev pub UnlessApplied : Result StreamVerdict StoreRefusal → Type 0 → Type 0
UnlessApplied (Ok verdict.Applied) P = ⊤
UnlessApplied (Ok verdict.Old) P = P
UnlessApplied (Ok verdict.Gap) P = P
UnlessApplied (Ok verdict.None) P = P
UnlessApplied (Err refusal) P = P
