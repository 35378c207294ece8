-- What contracts see of a core.
use Rattle.core_nodes.specs.Outside.{Outside, outside}
use Rattle.std.specs.Prelude.{ℕ, ◌≡◌, ◌<◌, ◌≤◌, List, [], Bool, true, All, IfSome, Some, length}
use Rattle.core_mail.specs.Inboxes.{AreEmpty, AreInboxesOf, HaveArrived, Inboxes}
use Rattle.core_model.specs.Consistent.{GoesOn, IsConsistent}
use Rattle.core_model.specs.Fleet.{Fleet}
use Rattle.core_model.specs.Cuts.{ArePastCuts}
use Rattle.core_model.specs.Growing.{StoresGrow, TablesGoOn}
use Rattle.core_model.specs.Pens.{AreFirstNotes, Pens, pens_of}
use Rattle.core_model.specs.States.{AreStatesOf, ComeUpAtStores, nodes_now}
use Rattle.core_model.specs.Stores.{HaveMasterRegions, master_log}
use Rattle.core_nodes.specs.Beginning.{IsEmptyFleet, MayHold}
use Rattle.core_plans.specs.Held.{ArePlansOf, OpensNone, Plans, plan_at}
use Rattle.core_plans.specs.declared.held.HeldPlan.{HeldPlan}
use Rattle.core_plans.specs.declared.held.HeldPlan.TheVariants.{Read, Write}
use Rattle.core_sessions.specs.Sessions.{Session, is_open, sessions_of}
use Rattle.graph_model.specs.Log.{version}
use Rattle.graph_model.specs.Told.{WhereTold}
use Rattle.replies.specs.declared.refusals.Refusal.TheVariants.{Memory}
use Rattle.replies.specs.declared.reply.Reply.{Reply}
use Rattle.replies.specs.declared.reply.Reply.TheVariants.{Refused}
use Rattle.session_pass.specs.Floors.{floor_at}
use Rattle.tao_base.specs.Keys.{key_shard}
use Rattle.tao_base.specs.declared.entry.Origin.{Origin}
use Rattle.tao_base.specs.declared.entry.Origin.TheVariants.{Client, Merge}
use Rattle.tao_base.specs.declared.id.Key.{Key}
use Rattle.tao_keeper.specs.KeeperState.{IsLater, KeeperState}
use Rattle.tao_keeper.specs.Table.{Tables}
use Rattle.tao_link.specs.Shown.{LinkShown}
use Rattle.topology.specs.Config.{Settings}
use Rattle.topology.specs.States.{NodeStates, all_up}
use Rattle.tao_core.specs.declared.serving.Core.TheInside.{Inside}

-- a core's configuration, the sessions that are open, which nodes are up, the nodes, the messages that wait for them, and the calls that are held
pub record CoreState : Type 0 where
  pub settings : Settings
  pub sessions : List Session
  pub states : NodeStates
  pub fleet : Fleet
  pub mail : Inboxes
  pub plans : Plans

-- a core as contracts see it
abbrev pub core_state : Inside → CoreState
core_state core = record {
  settings = core.config.now;
  sessions = sessions_of core.sessions;
  states = core.nodes.topology;
  fleet = core.nodes.fleet;
  mail = core.nodes.mail;
  plans = core.plans;
}

-- no session is open, each node is up and holds nothing, up to as many items as are configured, no message waits, and no call is held
pub record IsNewCore (core : CoreState) : Type 0 where
  pub sessions : core.sessions ≡ []
  pub states : core.states ≡ all_up core.settings
  pub fleet : IsEmptyFleet core.fleet
  pub most : MayHold core.settings.cache_items core.fleet
  pub mail : AreEmpty core.mail
  pub plans : core.plans ≡ []

-- the session is of a region of the configuration, has seen beginnings of the shards' logs, and where the tables are told each key has come to its floor
pub record IsSessionOf (tells : Bool) (s : Settings) (tables : Tables) (pens : Pens) (session : Session) : Type 0 where
  pub region : session.region < length s.regions
  pub notes : AreFirstNotes pens s.shards session.notes
  pub floors : WhereTold tells ((key : Key) → floor_at session.floors key ≤ version (master_log s tables (key_shard key)) key)

-- the nodes are consistent with keepers that tell these tables, whichever of them are up; each message names an entry of its shard's log, to which the
-- store of its node's region has come; and each key has come to the floors of the sessions
pub record IsConsistentCore (tells : Bool) (tables : Tables) (core : CoreState) : Type 0 where
  pub masters : HaveMasterRegions core.settings
  pub consistent : IsConsistent tells core.settings tables core.fleet
  pub states : AreStatesOf core.settings core.states
  pub mail : AreInboxesOf core.settings (pens_of core.fleet.stores) core.mail
  pub arrived : WhereTold tells (HaveArrived tables core.mail)
  pub sessions : All (IsSessionOf tells core.settings tables (pens_of core.fleet.stores)) core.sessions

-- the session of a client's write
abbrev pub author : Origin → ℕ
author (Client session seq) = session
author (Merge shard position) = 0

-- a call that is held is of an open session
abbrev pub IsOfSession : List Session → HeldPlan → Type 0
IsOfSession sessions (Write p) = is_open sessions (author p.origin) ≡ true
IsOfSession sessions (Read p) = IfSome p.reader (λ number. is_open sessions number ≡ true)

-- the core may be used with keepers that tell these tables: it is consistent, no node lies behind a cut, each call that is held can go on, each open ask is
-- that of one held read, and each of them is of an open session
pub record IsCoreOf (tells : Bool) (tables : Tables) (core : CoreState) : Type 0 where
  pub is_consistent : IsConsistentCore tells tables core
  pub past : WhereTold tells (ArePastCuts tables core.fleet)
  pub plans : ArePlansOf tells core.settings tables core.fleet core.plans
  pub authors : (number : ℕ) (plan : HeldPlan) → plan_at core.plans number ≡ Some plan → IsOfSession core.sessions plan

-- the nodes go on, so that each call that is held can go on, and no ask was opened that stays open
pub record StaysHeld (old new : Fleet) : Type 0 where
  pub goes : GoesOn old new
  pub opens : OpensNone old.followers new.followers

-- each node that came up is at its region's store, where the tables are told
abbrev pub ComeUp : Bool → Tables → CoreState → CoreState → Type 0
ComeUp tells tables old new = WhereTold tells (ComeUpAtStores tables (nodes_now old.fleet old.states) (nodes_now new.fleet new.states))

-- what a call leaves of a core: it is consistent, each call that is held can go on, who came up is at its store, of tables only logs of the
-- configuration's stores grew, none was cut, and no count of the keepers fell
pub record LeavesCore (tells : Bool) (before now : KeeperState) (old new : CoreState) : Type 0 where
  pub is_consistent : IsConsistentCore tells now.told new
  pub on : StaysHeld old.fleet new.fleet
  pub comes : ComeUp tells now.told old new
  pub grows : StoresGrow tells old.settings before.told now.told
  pub later : IsLater before now

-- what a request leaves: under its settings the core may be used as before, its nodes went on, who came up is at its store, and what a call leaves
-- of the keepers
pub record StaysUsable (tells : Bool) (before now : KeeperState) (old new : CoreState) : Type 0 where
  pub settings : new.settings ≡ old.settings
  pub keepers : IsCoreOf tells now.told new
  pub goes : GoesOn old.fleet new.fleet
  pub comes : ComeUp tells now.told old new
  pub grows : TablesGoOn tells old.settings before.told now.told
  pub later : IsLater before now

-- a core, and what its keepers and its link show, at a moment
pub record Moment : Type 0 where
  pub core : CoreState
  pub keepers : KeeperState
  pub link : LinkShown

-- a core at a moment, with what the keepers and the link show then
abbrev pub moment : CoreState → KeeperState → LinkShown → Moment
moment core keepers link = record { core = core; keepers = keepers; link = link }

-- a core at a moment, with what stands outside of it then
abbrev pub moment_of : CoreState → Outside → Moment
moment_of core around = moment core around.keepers around.link

-- there was no memory before anything was done
pub record WantsMemory (old : Moment) (reply : Reply) (new : Moment) : Type 0 where
  pub reply_is : reply ≡ Refused (Memory 0)
  pub same : new ≡ old

-- what the keepers and the link show at a moment
abbrev pub outside_at : Moment → Outside
outside_at m = outside m.keepers m.link
