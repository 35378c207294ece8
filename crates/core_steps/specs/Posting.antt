-- What nodes and inboxes take of a write, and what each of its steps keeps.
use Rattle.std.specs.Prelude.{ℕ, ◌≡◌, Bool, Option, Some, None}
use Rattle.core_mail.specs.Inboxes.{AreInboxesOf, HaveArrived, Inboxes, Sends, entry_message}
use Rattle.core_model.specs.Consistent.{GoesOn, IsConsistent}
use Rattle.core_model.specs.Fleet.{ChangesNode, Fleet, serves}
use Rattle.core_model.specs.Growing.{StoresGrow}
use Rattle.core_model.specs.Messages.{notified_by}
use Rattle.core_model.specs.Pens.{pens_of}
use Rattle.core_model.specs.States.{AreStatesOf}
use Rattle.core_nodes.specs.Settling.{IsLaterLink}
use Rattle.core_nodes.specs.Stages.{taken_by}
use Rattle.graph_model.specs.Told.{WhereTold}
use Rattle.core_model.specs.leader_tier.TakenWrites.{TakesWritten}
use Rattle.node_name.specs.declared.NodeName.{NodeName}
use Rattle.shard_log.specs.View.{View}
use Rattle.tao_base.specs.declared.entry.Entry.{Entry}
use Rattle.tao_keeper.specs.KeeperState.{IsLater, KeepsTables}
use Rattle.tao_schema.specs.Schema.{types_of}
use Rattle.topology.specs.Config.{Settings}
use Rattle.topology.specs.States.{NodeStates}
use Rattle.core_steps.specs.World.{World}

-- the leader that wrote takes the entry, where there is one, and marks it; one that stands in for another takes none
pub record LeaderTakes (s : Settings) (leader : NodeName) (shard : ℕ) (entry : Option Entry) (old new : Fleet) : Type 0 where
  pub note : View
  pub takes : ChangesNode leader (TakesWritten (types_of s.schema) shard (taken_by (serves s leader shard) entry) note) old.leaders new.leaders

-- of an entry that the log gained, by that leader, the followers of the master's region are notified, and the leader that it stands in for; and of no other
abbrev pub NotifiesOfNew : NodeStates → NodeName → ℕ → Option Entry → Inboxes → Inboxes → Type 0
NotifiesOfNew states leader shard None old new = new ≡ old
NotifiesOfNew states leader shard (Some e) old new = (note : View) × Sends (notified_by states leader shard) (entry_message shard e note) old new

-- no node, no inbox and no table changed
pub record ChangesNoNode (tells : Bool) (old new : World) : Type 0 where
  pub fleet : new.fleet ≡ old.fleet
  pub inboxes : new.inboxes ≡ old.inboxes
  pub states : new.states ≡ old.states
  pub tables : KeepsTables tells old.keepers new.keepers

-- no node but followers changed, nor any table nor message, nor who is up
pub record AppliesAlone (old new : World) : Type 0 where
  pub fleet : new.fleet ≡ record old.fleet { followers = new.fleet.followers }
  pub keepers : new.keepers ≡ old.keepers
  pub inboxes : new.inboxes ≡ old.inboxes
  pub states : new.states ≡ old.states

-- what a write, a merge or a repair begins with: what is consistent, the messages of the inboxes, and nodes of which some are up
pub record CanPost (tells : Bool) (s : Settings) (now : World) : Type 0 where
  pub consistent : IsConsistent tells s now.keepers.told now.fleet
  pub inboxes : AreInboxesOf s (pens_of now.fleet.stores) now.inboxes
  pub arrived : WhereTold tells (HaveArrived now.keepers.told now.inboxes)
  pub states : AreStatesOf s now.states

-- what is consistent stays so, messages stay those of their inboxes, who is up stays so, the nodes go on, of tables only logs of the configuration's stores
-- grow, no count falls, and what is cut stays so
pub record PostsOn (tells : Bool) (s : Settings) (old new : World) : Type 0 where
  pub consistent : IsConsistent tells s new.keepers.told new.fleet
  pub inboxes : AreInboxesOf s (pens_of new.fleet.stores) new.inboxes
  pub arrived : WhereTold tells (HaveArrived new.keepers.told new.inboxes)
  pub states : new.states ≡ old.states
  pub goes : GoesOn old.fleet new.fleet
  pub grows : StoresGrow tells s old.keepers.told new.keepers.told
  pub later : IsLater old.keepers new.keepers
  pub link : IsLaterLink old.link new.link
