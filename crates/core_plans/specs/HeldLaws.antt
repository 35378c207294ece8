-- What stays so of the asks of held reads.
use Rattle.std.specs.Prelude.{ℕ, ◌≡◌, ◌≤◌, Bool, List, Option, true}
use Rattle.cache_items.specs.declared.look.Kept.{Kept}
use Rattle.cache_items.specs.declared.look.Look.TheVariants.{Hit}
use Rattle.core_model.specs.Consistent.{IsConsistent}
use Rattle.core_model.specs.Emptied.{Anew, FollowerBeginsAnew}
use Rattle.core_model.specs.Evictions.{Evicts}
use Rattle.core_model.specs.Fleet.{ChangesNode}
use Rattle.core_model.specs.Messages.{DeliversThere, TakesRefill}
use Rattle.core_model.specs.Pens.{Pens}
use Rattle.core_model.specs.Reads.{EndsAsk, KeepsFill, LooksFirst, Wanted, taken_fill}
use Rattle.core_model.specs.States.{AreSettled, nodes_now}
use Rattle.core_model.specs.Writes.{AppliesTo}
use Rattle.core_model.specs.declared.named.Named.{Named}
use Rattle.core_plans.specs.Held.{AsksAreHeld, OpensNone, Plans, StepsHeld, learner}
use Rattle.core_plans.specs.HeldReads.{HasComeTo, MissesNone, StepsRead, version_now}
use Rattle.core_plans.specs.HeldWrites.{ComesOfWrite}
use Rattle.core_plans.specs.LedBy.{Rules, rules_of}
use Rattle.core_plans.specs.declared.held.HeldPlan.TheVariants.{Read}
use Rattle.core_steps.specs.World.{World}
use Rattle.follower_cache.specs.Seen.{FollowerState}
use Rattle.follower_cache.specs.declared.queue.Refill.{Refill}
use Rattle.maint_msg.specs.Maints.{SeenMaint}
use Rattle.node_name.specs.declared.NodeName.{NodeName}
use Rattle.read_plan.specs.Ends.{EndsWith}
use Rattle.read_plan.specs.Readings.{Reading}
use Rattle.read_plan.specs.declared.standing.Standing.TheVariants.{Looking}
use Rattle.replies.specs.declared.calls.CallReply.TheVariants as called
use Rattle.replies.specs.declared.calls.ReadReply.{ReadReply}
use Rattle.replies.specs.declared.reply.Reply.TheVariants.{Called}
use Rattle.sealed_item.specs.Fills.{SealedItem}
use Rattle.shard_log.specs.View.{View}
use Rattle.tao_base.specs.EdgeTypes.{EdgeTypes}
use Rattle.tao_base.specs.declared.entry.Entry.{Entry}
use Rattle.tao_base.specs.declared.id.Key.{Key}
use Rattle.tao_base.specs.declared.query.Answer.{Answer}
use Rattle.tao_base.specs.declared.query.Query.{Query}
use Rattle.tao_keeper.specs.Growing.{LogsGrow}
use Rattle.tao_keeper.specs.KeeperState.{KeeperState}
use Rattle.topology.specs.Config.{Settings}
use Rattle.write_plan.specs.Plans.{Writing}

-- the followers, each with its name
abbrev pub Followers : Type 0
Followers = List (Named FollowerState)

-- which changes of one follower open no ask
pub record ChangesOpenNone (name : NodeName) (old new : Followers) : Type 0 where
  pub hit : (types : EdgeTypes) (read : Wanted) (answer : Answer) (version : ℕ) (ask : Option ℕ)
      → ChangesNode name (LooksFirst types read (Hit answer version) ask) old new → OpensNone old new
  pub ends : (ask : Option ℕ) → ChangesNode name (EndsAsk ask) old new → OpensNone old new
  pub keeps : (types : EdgeTypes) (query : Query) (ask : Option ℕ) (fill : SealedItem) (answer : Answer) (kept : Kept)
      → ChangesNode name (KeepsFill types query (taken_fill ask fill answer kept)) old new → OpensNone old new
  pub applies : (types : EdgeTypes) (shard : ℕ) (entry : Entry) (note : View) → ChangesNode name (AppliesTo types shard entry note) old new
      → OpensNone old new
  pub delivers : (types : EdgeTypes) (m : SeenMaint) (dropped : ℕ) → ChangesNode name (DeliversThere types m dropped) old new → OpensNone old new
  pub refills : (refill : Option Refill) → ChangesNode name (TakesRefill refill) old new → OpensNone old new
  pub evicts : (key : Option Key) (held : Bool)
      → ChangesNode name (λ from to. Evicts key held from.node to.node × (to.refills ≡ from.refills)) old new → OpensNone old new
  pub empties : (pens : Pens) (at : Anew) → ChangesNode name (FollowerBeginsAnew pens at) old new → OpensNone old new

-- where no ask opens, each that is open is still that of a held read; and a write opens none
pub record AsksStayHeld : Type 0 where
  pub held : (plans : Plans) (old new : Followers) → OpensNone old new → AsksAreHeld plans old → AsksAreHeld plans new
  pub same : (old new : Followers) → new ≡ old → OpensNone old new
  pub on : (old mid new : Followers) → OpensNone old mid → OpensNone mid new → OpensNone old new
  pub changes : (name : NodeName) (old new : Followers) → ChangesOpenNone name old new
  pub stages : (rules : Rules) (p q : Writing) (old new : World) → ComesOfWrite rules p old q new
      → OpensNone old.fleet.followers new.fleet.followers

-- what a critical read doesn't miss it doesn't miss later: logs only grow
pub record NothingIsMissedLater : Type 0 where
  pub later : (tells : Bool) (s : Settings) (least : ℕ) (p : Reading) (old new : KeeperState) → LogsGrow tells old.told new.told
      → MissesNone tells s least p old → MissesNone tells s least p new
  -- one that begins misses nothing that stands
  pub begun : (tells : Bool) (s : Settings) (least : ℕ) (p : Reading) (keepers : KeeperState) → p.at ≡ Looking
      → least ≤ version_now s p keepers → MissesNone tells s least p keepers

-- a stage of a held read leaves it for the same session; and where it answers the read, that session was known before it to be the one that is to learn
pub record AnswersAreLearnt (rules : Rules) (p : Reading) (old : World) (q : Reading) (new : World) : Type 0 where
  pub reader : StepsHeld rules (Read p) old (Read q) new → q.reader ≡ p.reader
  pub learner : StepsHeld rules (Read p) old (Read q) new → (reply : ReadReply) → EndsWith q (Called (called.Read reply)) → learner (Read p) ≡ p.reader

-- no stage of any read misses anything that the read didn't before, where each store has its shard's whole log, and each node that is up has processed
-- it: a hit of its look, and what is given by who is asked, have the last version
pub record StagesMissNothing (s : Settings) (p : Reading) (old : World) (q : Reading) (new : World) : Type 0 where
  pub whole : StepsRead (rules_of true s) p old q new → IsConsistent true s old.keepers.told old.fleet
      → AreSettled s old.keepers.told (nodes_now old.fleet old.states) → LogsGrow true old.keepers.told new.keepers.told
      → (least : ℕ) → HasComeTo least (version_now s p old.keepers) p.at → HasComeTo least (version_now s q new.keepers) q.at
