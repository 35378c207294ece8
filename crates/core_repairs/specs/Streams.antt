-- A settle's streams: each is moved to its end, region by region and in each of them shard by shard.
use Rattle.std.specs.List.{AllByRecursion}
use Rattle.std.specs.Prelude.{ℕ, ◌≡◌, ◌≤◌, ◌<◌, ◌⊎◌, ◌&&◌, ⊤, Bool, List, [], ◌∷◌, None, Result, Ok, Err, false, nat_lt, true}
use Rattle.counts.specs.Count.{Rose}
use Rattle.core_model.specs.Stores.{AreWhole, IsConfiguredStore, master_log, stores_in}
use Rattle.core_steps.specs.core_nodes.Opening.{IsSlaveStore}
use Rattle.core_steps.specs.core_nodes.declared.settling.SettleStop.{SettleStop}
use Rattle.core_steps.specs.core_nodes.declared.settling.SettleStop.TheVariants as stop
use Rattle.core_steps.specs.Streams.{OnlyReadsKeepers, RefusesStream, StreamsEntry, StreamsOver}
use Rattle.core_steps.specs.World.{World}
use Rattle.core_steps.specs.declared.streaming.AskedStream.{AskedStream}
use Rattle.graph_model.specs.Told.{WhereTold}
use Rattle.replies.specs.declared.nodes.StreamVerdict.{StreamVerdict}
use Rattle.replies.specs.declared.nodes.StreamVerdict.TheVariants as verdict
use Rattle.replies.specs.declared.nodes.Streamed.{Streamed}
use Rattle.replies.specs.declared.refusals.Refusal.{Refusal}
use Rattle.replies.specs.declared.refusals.UnsettledWhy.TheVariants as why
use Rattle.tao_base.specs.declared.id.StoreName.{StoreName}
use Rattle.tao_keeper.specs.KeeperState.{IsLater}
use Rattle.tao_keeper.specs.Table.{Tables}
use Rattle.topology.specs.Config.{Settings}
use Rattle.core_repairs.specs.Stops.{StopsAsRefused}

-- ---- their order

-- the stream of the one store is moved before that of the other: region by region, and in each region shard by shard
abbrev pub IsStreamedBefore : StoreName → StoreName → Type 0
IsStreamedBefore one other = (one.region < other.region) ⊎ ((one.region ≡ other.region) × (one.shard < other.shard))

-- the stream of the one store is moved before that of the other, or the stores are one
abbrev pub IsStreamedUpTo : StoreName → StoreName → Type 0
IsStreamedUpTo one other = (one.region < other.region) ⊎ ((one.region ≡ other.region) × (one.shard ≤ other.shard))

-- each store whose stream is moved before that of this store has all of its shard's log
abbrev pub AreWholeBefore : Settings → Tables → StoreName → Type 0
AreWholeBefore s tables at = (other : StoreName) → IsConfiguredStore s other → IsStreamedBefore other at
    → (tables other).log ≡ master_log s tables other.shard

-- ---- the steps

-- the stream of a store is asked for the entry that the store takes next
abbrev pub asks_next : StoreName → AskedStream
asks_next at = record { at = at; position = None }

-- a step of a stream that was made: into which store, and what it came to
pub record StreamStep : Type 0 where
  pub at : StoreName
  pub streamed : Streamed

-- a step into the store, which came to this
abbrev pub step_into : StoreName → Streamed → StreamStep
step_into at streamed = record { at = at; streamed = streamed }

-- the entry that a slave's store takes next was carried to it from its shard's master store, and processed there
pub record MakesStep (tells : Bool) (s : Settings) (step : StreamStep) (old new : World) : Type 0 where
  pub slave : IsSlaveStore s step.at
  pub streams : StreamsEntry tells s (asks_next step.at) step.streamed old new

-- all of these steps are into stores whose streams are moved before that of the store, or into it
abbrev pub AreUpTo : StoreName → List StreamStep → Type 0
AreUpTo at steps = AllByRecursion (λ step. IsStreamedUpTo step.at at) steps

-- the steps were made one after another, in the order of the stores, and nothing else was done but that keepers were read; the list has the last step first
abbrev pub HaveStreamed : Bool → Settings → List StreamStep → World → World → Type 0
HaveStreamed tells s [] old new = OnlyReadsKeepers tells old new
HaveStreamed tells s (step ∷ earlier) old new = (before after : World)
    × HaveStreamed tells s earlier old before × MakesStep tells s step before after × OnlyReadsKeepers tells after new × AreUpTo step.at earlier

-- ---- all streams

-- every stream was moved to its end: every store has all of its shard's log. No shard's own log changed, and no job was opened or ended
pub record StreamsAll (tells : Bool) (s : Settings) (old new : World) : Type 0 where
  pub steps : List StreamStep
  pub streamed : HaveStreamed tells s steps old new
  pub whole : WhereTold tells (AreWhole s new.keepers.told)
  pub shards : WhereTold tells (stores_in s new.keepers.told ≡ stores_in s old.keepers.told)

-- the streams of a settle stop at a fault only where the fault's count rose, and never for a full log, nor for a shard that isn't configured
abbrev pub StreamStopHasCause : SettleStop → World → World → Type 0
StreamStopHasCause (stop.Unsettled shard why.KeeperFault) old new = Rose old.keepers.faults new.keepers.faults
StreamStopHasCause (stop.Unsettled shard why.LinkFault) old new = Rose old.link.faults new.link.faults
StreamStopHasCause (stop.Unsettled shard why.LogFull) old new = ⊥
StreamStopHasCause (stop.NoServer shard) old new = ⊥
StreamStopHasCause stop.OutOfMemory old new = ⊤

-- some steps were made, and then one into this store was refused, which changed no node and no table. The streams before this store's are at their ends
pub record StopsStreams (tells : Bool) (s : Settings) (given : SettleStop) (old new : World) : Type 0 where
  pub at : StoreName
  pub slave : IsSlaveStore s at
  pub steps : List StreamStep
  pub between : World
  pub refusal : Refusal
  pub streamed : HaveStreamed tells s steps old between
  pub up_to : AreUpTo at steps
  pub whole : WhereTold tells (AreWholeBefore s between.keepers.told at)
  pub given_is : StopsAsRefused at.shard refusal given
  pub refuses : RefusesStream tells s (asks_next at) refusal between new
  pub cause : StreamStopHasCause given old new
  pub shards : WhereTold tells (stores_in s new.keepers.told ≡ stores_in s old.keepers.told)

-- what came of all streams
abbrev pub RunsStreams : Bool → Settings → Result ⊤ SettleStop → World → World → Type 0
RunsStreams tells s (Ok done) old new = StreamsAll tells s old new
RunsStreams tells s (Err given) old new = StopsStreams tells s given old new

-- ---- one step

-- a step into the store was refused, and this is what a settle stops with
pub record RefusesStep (tells : Bool) (s : Settings) (at : StoreName) (given : SettleStop) (old new : World) : Type 0 where
  pub refusal : Refusal
  pub given_is : StopsAsRefused at.shard refusal given
  pub refuses : RefusesStream tells s (asks_next at) refusal old new

-- what came of a step into the store
abbrev pub StreamsOnce : Bool → Settings → StoreName → Result Streamed SettleStop → World → World → Type 0
StreamsOnce tells s at (Ok streamed) old new = StreamsOver tells s (asks_next at) (Ok streamed) old new
StreamsOnce tells s at (Err given) old new = RefusesStep tells s at given old new

-- after a step that came to this more is to come, where the store took the entry, and takes a position behind the last one next
abbrev pub goes_further : ℕ → Streamed → Bool
goes_further last streamed = is_applied streamed.verdict && nat_lt last streamed.next
  where
    is_applied : StreamVerdict → Bool
    is_applied verdict.Applied = true
    is_applied verdict.Old = false
    is_applied verdict.Gap = false
    is_applied verdict.None = false

-- ---- streams under way

-- the streams before that of this store are at their ends, and some steps into this store may have been made
pub record StreamsTill (tells : Bool) (s : Settings) (at : StoreName) (old new : World) : Type 0 where
  pub steps : List StreamStep
  pub streamed : HaveStreamed tells s steps old new
  pub up_to : AreUpTo at steps
  pub whole : WhereTold tells (AreWholeBefore s new.keepers.told at)
  pub shards : WhereTold tells (stores_in s new.keepers.told ≡ stores_in s old.keepers.told)
  pub keepers : IsLater old.keepers new.keepers

-- what came of all streams before that of the next store
abbrev pub StreamsOn : Bool → Settings → StoreName → Result ⊤ SettleStop → World → World → Type 0
StreamsOn tells s next (Ok done) start new = StreamsTill tells s next start new
StreamsOn tells s next (Err given) start new = StopsStreams tells s given start new

-- the streams from the one store's on were moved to their ends, up to that of the next, after whatever came before
pub record StreamsFrom (tells : Bool) (s : Settings) (at next : StoreName) (result : Result ⊤ SettleStop) (old new : World) : Type 0 where
  pub on : (start : World) → StreamsTill tells s at start old → StreamsOn tells s next result start new
