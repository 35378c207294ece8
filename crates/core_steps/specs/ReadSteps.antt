-- The stages of a read that its follower could not answer: a leader or its region's store is asked, or the master's store.
use Rattle.std.specs.Prelude.{ℕ, ◌≡◌, ◌≤◌, ◌⊎◌, Bool}
use Rattle.counts.specs.Count.{Rose}
use Rattle.core_model.specs.Consistent.{GoesOn, IsConsistent}
use Rattle.core_model.specs.Pens.{pens_of}
use Rattle.core_model.specs.Reads.{IsGivenAnswer, StoreReads, Wanted, given_of, wanted}
use Rattle.core_model.specs.Stores.{master_log}
use Rattle.core_nodes.specs.Settling.{IsLaterLink}
use Rattle.graph_model.specs.Log.{version}
use Rattle.graph_model.specs.Told.{WhereTold}
use Rattle.node_name.specs.declared.NodeName.{NodeName}
use Rattle.replies.specs.declared.refusals.Refusal.{Refusal}
use Rattle.replies.specs.declared.refusals.Refusal.TheVariants.{Store, Memory}
use Rattle.replies.specs.declared.refusals.StoreRefused.TheVariants.{KeeperFault, LinkFault}
use Rattle.replies.specs.declared.refusals.When.TheVariants.{Before}
use Rattle.shard_tables.specs.declared.leader_answer.LeaderAnswer.{LeaderAnswer}
use Rattle.shard_tables.specs.declared.read_out.ReadOut.{ReadOut}
use Rattle.tao_base.specs.Queries.{query_key, query_shard}
use Rattle.tao_base.specs.declared.query.Query.{Query}
use Rattle.tao_keeper.specs.KeeperState.{IsLater, KeeperState, KeepsTables}
use Rattle.tao_link.specs.Shown.{after_carry}
use Rattle.tao_schema.specs.Schema.{types_of}
use Rattle.topology.specs.Config.{Settings}
use Rattle.core_steps.specs.Reads.{AnswersThere, GivesOver, master_calls}
use Rattle.core_steps.specs.Routes.{FailsCarry, master_node, there_and_back}
use Rattle.core_steps.specs.World.{World}
use Rattle.core_steps.specs.declared.routes.Route.{Route}

-- what each stage of a read keeps: what is consistent stays so, the nodes go on, no table and no message changes, nor who is up; no count falls, and what
-- is cut stays so
pub record ReadsOn (tells : Bool) (s : Settings) (old new : World) : Type 0 where
  pub consistent : IsConsistent tells s new.keepers.told new.fleet
  pub goes : GoesOn old.fleet new.fleet
  pub inboxes : new.inboxes ≡ old.inboxes
  pub states : new.states ≡ old.states
  pub tables : KeepsTables tells old.keepers new.keepers
  pub later : IsLater old.keepers new.keepers
  pub link : IsLaterLink old.link new.link

-- where the tables are told, the log of the read's shard has come to its floor
abbrev pub IsReached : Bool → Settings → Wanted → KeeperState → Type 0
IsReached tells s read keepers = WhereTold tells (read.floor ≤ version (master_log s keepers.told (query_shard read.query)) (query_key read.query))

-- ---- what fails over a link

-- why a leader, or a store, gave nothing: the store's keeper failed, or there was no memory
abbrev pub AskFails : Refusal → KeeperState → KeeperState → Type 0
AskFails (Store (KeeperFault count)) old new = (count ≡ new.faults) × Rose old.faults new.faults
AskFails (Memory position) old new = position ≡ 0
AskFails refusal old new = ⊥

-- the carry from one node to the other failed, as the refusal says, and nothing else changed
pub record LosesQuestion (from to : NodeName) (refusal : Refusal) (old new : World) : Type 0 where
  pub said : refusal ≡ Store (LinkFault new.link.faults Before)
  pub carry : FailsCarry from to old.link new.link
  pub rest : new ≡ record old { link = new.link }

-- the question was carried there, and the other end gave nothing, as the refusal says. No node changed
pub record GivesNothing (refusal : Refusal) (old new : World) : Type 0 where
  pub fails : AskFails refusal old.keepers new.keepers
  pub link : new.link ≡ after_carry old.link
  pub rest : new ≡ record old { keepers = new.keepers; link = new.link }

-- the carry back of an answer failed, as the refusal says
pub record LosesAnswer (from to : NodeName) (refusal : Refusal) (old new : World) : Type 0 where
  pub said : refusal ≡ Store (LinkFault new.link.faults Before)
  pub carry : FailsCarry from to (after_carry old.link) new.link

-- ---- who is asked: a leader, or its region's store

-- only a leader may have changed, and what the keepers and the link show
abbrev pub ChangesLeaders : World → World → Type 0
ChangesLeaders old new =
    new ≡ record old { fleet = record old.fleet { leaders = new.fleet.leaders }; keepers = new.keepers; link = new.link }

-- who was asked answered, and that was carried back. Nothing else changed
pub record IsGivenOver (s : Settings) (route : Route) (read : Wanted) (given : LeaderAnswer) (old new : World) : Type 0 where
  pub gives : GivesOver (types_of s.schema) route read given old new
  pub rest : ChangesLeaders old new
  pub given_is : IsGivenAnswer (types_of s.schema) (pens_of new.fleet.stores) read given

-- who was asked answered, and the answer was lost on the way back. No other node changed
pub record LosesGiven (s : Settings) (route : Route) (read : Wanted) (refusal : Refusal) (old new : World) : Type 0 where
  pub given : LeaderAnswer
  pub asks : AnswersThere (types_of s.schema) route.leader read given old new
  pub lost : LosesAnswer route.leader route.follower refusal old new
  pub rest : ChangesLeaders old new
  pub given_is : IsGivenAnswer (types_of s.schema) (pens_of new.fleet.stores) read given

-- why nothing was carried back: the question was lost, or who was asked gave nothing, or the answer was lost
abbrev pub IsNotGiven : Settings → Route → Wanted → Refusal → World → World → Type 0
IsNotGiven s route read refusal old new = LosesQuestion route.follower route.leader refusal old new
    ⊎ (GivesNothing refusal old new ⊎ LosesGiven s route read refusal old new)

-- ---- the master's store

-- the store read, and that was carried back: it has each floor that the log has come to. No node changed
pub record IsReadOver (tells : Bool) (s : Settings) (query : Query) (out : ReadOut) (old new : World) : Type 0 where
  pub reads : StoreReads (types_of s.schema) query out (master_calls s query old.fleet.stores old.keepers new.keepers)
  pub link : new.link ≡ there_and_back old.link
  pub same : new.fleet ≡ old.fleet
  pub given : (floor : ℕ) → IsReached tells s (wanted query floor) old.keepers
      → IsGivenAnswer (types_of s.schema) (pens_of new.fleet.stores) (wanted query floor) (given_of out)

-- the store read, and what it read was lost on the way back. No node changed
pub record LosesRead (s : Settings) (follower : NodeName) (query : Query) (refusal : Refusal) (old new : World) : Type 0 where
  pub out : ReadOut
  pub reads : StoreReads (types_of s.schema) query out (master_calls s query old.fleet.stores old.keepers new.keepers)
  pub lost : LosesAnswer (master_node s (query_shard query)) follower refusal old new
  pub same : new.fleet ≡ old.fleet

-- why nothing was carried back: the question was lost, or the store gave nothing, or what it read was lost
abbrev pub IsNotRead : Settings → NodeName → Query → Refusal → World → World → Type 0
IsNotRead s follower query refusal old new = LosesQuestion follower (master_node s (query_shard query)) refusal old new
    ⊎ (GivesNothing refusal old new ⊎ LosesRead s follower query refusal old new)
