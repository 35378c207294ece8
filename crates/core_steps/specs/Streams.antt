-- A step of a stream over a link: which entry is carried, and what the slave region's store and its nodes take of it.
use Rattle.std.specs.Prelude.{ℕ, ◌≡◌, ◌+◌, ◌⊎◌, Bool, IsSome, Option, Some, None, Result, Ok, Err, MatchBool}
use Rattle.counts.specs.Count.{Rose}
use Rattle.core_mail.specs.Inboxes.{Sends, entry_message}
use Rattle.core_model.specs.Fleet.{ChangesNode, Fleet}
use Rattle.core_model.specs.Messages.{Delivers, notified_of}
use Rattle.core_model.specs.Pens.{Pens}
use Rattle.core_nodes.specs.Streams.{HasAll, IsOldThere, IsToCarry, LacksEntry, StreamsTo, next_position}
use Rattle.graph_model.specs.Told.{WhereTold}
use Rattle.maint_msg.specs.Maints.{SeenMaint}
use Rattle.node_name.specs.declared.NodeName.{NodeName}
use Rattle.node_name.specs.declared.NodeName.TheVariants.{Store as StoreName_}
use Rattle.replies.specs.declared.nodes.StreamVerdict.{StreamVerdict}
use Rattle.replies.specs.declared.nodes.StreamVerdict.TheVariants as verdict
use Rattle.replies.specs.declared.nodes.Streamed.{Streamed}
use Rattle.replies.specs.declared.refusals.NodeRefused.TheVariants.{NoEntry}
use Rattle.replies.specs.declared.refusals.Refusal.{Refusal}
use Rattle.replies.specs.declared.refusals.Refusal.TheVariants.{Memory, Node as OfNode, Store}
use Rattle.replies.specs.declared.refusals.StoreRefused.TheVariants.{KeeperFault, LinkFault}
use Rattle.replies.specs.declared.refusals.When.TheVariants.{Before}
use Rattle.shard_log.specs.View.{View, as_note}
use Rattle.tao_base.specs.declared.entry.Entry.{Entry}
use Rattle.tao_base.specs.declared.id.StoreName.{StoreName}
use Rattle.tao_keeper.specs.KeeperState.{KeepsTables}
use Rattle.tao_keeper.specs.Table.{Tables}
use Rattle.tao_link.specs.Shown.{after_carry}
use Rattle.topology.specs.Choices.{preferred_leader}
use Rattle.topology.specs.Config.{Settings}
use Rattle.topology.specs.States.{NodeStates, is_up}
use Rattle.core_steps.specs.Posting.{ChangesNoNode}
use Rattle.core_steps.specs.Routes.{FailsCarry, master_node}
use Rattle.core_steps.specs.World.{World}
use Rattle.core_steps.specs.declared.streaming.AskedStream.{AskedStream}
use Rattle.core_steps.specs.declared.streaming.Load.{Load}
use Rattle.core_steps.specs.declared.streaming.News.{News}

-- ---- what is made before anything is carried

-- the leader that a region prefers for its store's shard
abbrev pub region_leader : NodeStates → StoreName → NodeName
region_leader states at = preferred_leader states at.region at.shard

-- the message of an entry for that leader, where it is up
abbrev pub IsLeaderMessage : NodeStates → StoreName → SeenMaint → Option SeenMaint → Type 0
IsLeaderMessage states at m message = MatchBool (is_up states (region_leader states at)) (message ≡ Some m) (message ≡ None)

-- what the region's nodes are to learn of an entry by that note: a note for its followers, and its message for the leader
pub record IsNewsOf (states : NodeStates) (at : StoreName) (entry : Entry) (note : View) (news : News) : Type 0 where
  pub note_is : news.note ≡ note
  pub message_is : IsLeaderMessage states at (entry_message at.shard entry note) news.message

-- the entry, with a note for the store that has seen it, and with what the region's nodes are to learn
pub record IsLoad (pens : Pens) (states : NodeStates) (at : StoreName) (entry : Entry) (load : Load) : Type 0 where
  pub entry_is : load.entry ≡ entry
  pub note_is : load.note ≡ as_note (pens at.shard)
  pub news_is : IsNewsOf states at entry (as_note (pens at.shard)) load.news

-- ---- what the region takes

-- the leader processes the entry as a message, and queues no refill
pub record ProcessesEntry (leader : NodeName) (shard : ℕ) (e : Entry) (old new : Fleet) : Type 0 where
  pub note : View
  pub dropped : ℕ
  pub processes : ChangesNode leader (Delivers (entry_message shard e note) dropped) old.leaders new.leaders

-- the leader that the store's region prefers processes the entry, where it is up
abbrev pub LeaderProcesses : NodeStates → StoreName → Entry → Fleet → Fleet → Type 0
LeaderProcesses states at e old new = MatchBool (is_up states (region_leader states at))
    (ProcessesEntry (region_leader states at) at.shard e old new) (new.leaders ≡ old.leaders)

-- the leader processes the entry, and the followers of the region that serve the shard are notified of it, where they are up
pub record RegionTakes (at : StoreName) (e : Entry) (old new : World) : Type 0 where
  pub leader : LeaderProcesses old.states at e old.fleet new.fleet
  pub followers : new.fleet.followers ≡ old.fleet.followers
  pub note : View
  pub notified : Sends (notified_of old.states at.region at.shard) (entry_message at.shard e note) old.inboxes new.inboxes

-- where the store took the entry, the nodes of its region take it too (`RegionTakes`); else no node and no inbox changed
abbrev pub TakesAs : StreamVerdict → StoreName → Entry → World → World → Type 0
TakesAs verdict.Applied at e old new = RegionTakes at e old new
TakesAs verdict.Old at e old new = (new.fleet ≡ old.fleet) × (new.inboxes ≡ old.inboxes)
TakesAs verdict.Gap at e old new = (new.fleet ≡ old.fleet) × (new.inboxes ≡ old.inboxes)
TakesAs verdict.None at e old new = (new.fleet ≡ old.fleet) × (new.inboxes ≡ old.inboxes)

-- the position that a store takes next, where it was this one before it said so of an entry
abbrev pub next_after : ℕ → StreamVerdict → ℕ
next_after next verdict.Applied = next + 1
next_after next verdict.Old = next
next_after next verdict.Gap = next
next_after next verdict.None = next

-- a leader processes a message, where there is one, and no other node changes
abbrev pub ProcessesMessage : NodeName → Option SeenMaint → Fleet → Fleet → Type 0
ProcessesMessage leader None old new = new ≡ old
ProcessesMessage leader (Some m) old new =
    ((dropped : ℕ) × ChangesNode leader (Delivers m dropped) old.leaders new.leaders) × (new ≡ record old { leaders = new.leaders })

-- ---- what a step answers

-- the store was given the entry and took it where it came next, and then so did the nodes of its region
pub record TakesLoad (tells : Bool) (s : Settings) (at : StoreName) (e : Entry) (said : StreamVerdict) (old new : World) : Type 0 where
  pub streams : WhereTold tells (StreamsTo s at e (Ok said) old.keepers.told new.keepers.told)
  pub takes : TakesAs said at e old new
  pub states : new.states ≡ old.states

-- the entry was carried from the shard's master store, and the store was given it and took it where it came next, and then so did the nodes of its region
pub record TakesCarried (tells : Bool) (s : Settings) (at : StoreName) (e : Entry) (said : StreamVerdict) (old new : World) : Type 0 where
  pub streams : WhereTold tells (StreamsTo s at e (Ok said) old.keepers.told new.keepers.told)
  pub takes : TakesAs said at e old new
  pub states : new.states ≡ old.states
  pub link : new.link ≡ after_carry old.link

-- an entry was carried from the shard's master store to the region's, which took it where it came next; `next` is the position that the store takes next
-- now
pub record StreamsEntry (tells : Bool) (s : Settings) (asked : AskedStream) (streamed : Streamed) (old new : World) : Type 0 where
  pub entry : Entry
  pub carried : WhereTold tells (IsToCarry s old.keepers.told asked.at asked.position entry)
  pub streams : WhereTold tells (StreamsTo s asked.at entry (Ok streamed.verdict) old.keepers.told new.keepers.told)
  pub takes : TakesAs streamed.verdict asked.at entry old new
  pub next_is : WhereTold tells (streamed.next ≡ next_position new.keepers.told asked.at)
  pub hops_is : streamed.hops ≡ 1
  pub link : new.link ≡ after_carry old.link
  pub states : new.states ≡ old.states

-- only the keepers were read
pub record OnlyReadsKeepers (tells : Bool) (old new : World) : Type 0 where
  pub rest : new ≡ record old { keepers = new.keepers }
  pub tables : KeepsTables tells old.keepers new.keepers

-- why nothing is carried: the store has all of its shard's log, or the entry that is asked for is an old one
abbrev pub NeedsNoCarry : Bool → Settings → AskedStream → StreamVerdict → Tables → Type 0
NeedsNoCarry tells s asked verdict.None tables = WhereTold tells (HasAll s tables asked.at asked.position)
NeedsNoCarry tells s asked verdict.Old tables = IsSome asked.position × WhereTold tells (IsOldThere s tables asked.at.shard asked.position)
NeedsNoCarry tells s asked verdict.Applied tables = ⊥
NeedsNoCarry tells s asked verdict.Gap tables = ⊥

-- nothing was carried, for this reason
pub record StreamsNothing (tells : Bool) (s : Settings) (asked : AskedStream) (streamed : Streamed) (old new : World) : Type 0 where
  pub why : NeedsNoCarry tells s asked streamed.verdict old.keepers.told
  pub next_is : WhereTold tells (streamed.next ≡ next_position new.keepers.told asked.at)
  pub hops_is : streamed.hops ≡ 0
  pub rest : OnlyReadsKeepers tells old new

-- no node, no inbox and no table changed, and at most the entry was carried
pub record ComesToNothing (tells : Bool) (old new : World) : Type 0 where
  pub same : ChangesNoNode tells old new
  pub link : (new.link ≡ old.link) ⊎ (new.link ≡ after_carry old.link)

-- why an entry was not taken, with nothing changed: a keeper or the carry failed, or there was no memory
abbrev pub FailsToTake : Bool → Settings → StoreName → Refusal → World → World → Type 0
FailsToTake tells s at (Store (KeeperFault count)) old new =
    (count ≡ new.keepers.faults) × Rose old.keepers.faults new.keepers.faults × ComesToNothing tells old new
FailsToTake tells s at (Store (LinkFault count when)) old new =
    (count ≡ new.link.faults) × (when ≡ Before) × FailsCarry (master_node s at.shard) (StoreName_ at) old.link new.link × ChangesNoNode tells old new
FailsToTake tells s at (Memory position) old new = (position ≡ 0) × ComesToNothing tells old new
FailsToTake tells s at refusal old new = ⊥

-- why a step was refused, with nothing changed: the log has no such entry, or nothing was taken
abbrev pub RefusesStream : Bool → Settings → AskedStream → Refusal → World → World → Type 0
RefusesStream tells s asked (OfNode (NoEntry count position)) old new =
    (asked.position ≡ Some position) × WhereTold tells (LacksEntry s old.keepers.told asked.at.shard asked.position count position)
    × OnlyReadsKeepers tells old new
RefusesStream tells s asked refusal old new = FailsToTake tells s asked.at refusal old new

-- what a step of a stream is answered
abbrev pub StreamsOver : Bool → Settings → AskedStream → Result Streamed Refusal → World → World → Type 0
StreamsOver tells s asked (Ok streamed) old new = StreamsNothing tells s asked streamed old new ⊎ StreamsEntry tells s asked streamed old new
StreamsOver tells s asked (Err refusal) old new = RefusesStream tells s asked refusal old new
