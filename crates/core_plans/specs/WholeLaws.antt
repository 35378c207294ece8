-- What a call comes to that isn't held: what it took, what it left as it was, and what is so of its inverse.
use Rattle.std.specs.Prelude.{ℕ, ◌≡◌, ◌≤◌, ◌+◌, All, IfSome, Option, None, Some, false, max, min, true}
use Rattle.core_model.specs.Consistent.{IsConsistent}
use Rattle.core_model.specs.Stores.{HaveMasterRegions, stores_in}
use Rattle.core_plans.specs.Held.{IsOver, learnt_with}
use Rattle.core_plans.specs.HeldReads.{EndsLegally}
use Rattle.core_plans.specs.HeldWrites.{IsWriteUnderWay}
use Rattle.core_plans.specs.LedBy.{Rules, rules_of}
use Rattle.core_plans.specs.Needs.{leaders_of_write}
use Rattle.core_plans.specs.WholeCalls.{CarriesOut}
use Rattle.core_plans.specs.declared.held.HeldPlan.{HeldPlan}
use Rattle.core_plans.specs.declared.held.HeldPlan.TheVariants.{Read, Write}
use Rattle.core_steps.specs.World.{World}
use Rattle.core_steps.specs.Routes.{hops_between, was_called}
use Rattle.graph_model.specs.Records.{HasStamp}
use Rattle.hop_count.specs.Hops.{most_hops}
use Rattle.node_name.specs.declared.NodeName.{NodeName}
use Rattle.read_plan.specs.Readings.{Reading}
use Rattle.read_plan.specs.declared.standing.Standing.TheVariants.{Looking}
use Rattle.replies.specs.declared.calls.CallReply.TheVariants as called
use Rattle.replies.specs.declared.calls.InverseEnd.TheVariants.{Written}
use Rattle.replies.specs.declared.calls.ReadReply.{ReadReply}
use Rattle.replies.specs.declared.calls.WriteReply.{WriteReply}
use Rattle.replies.specs.declared.refusals.NodeRefused.{NodeRefused}
use Rattle.replies.specs.declared.refusals.NodeRefused.TheVariants.{NoServer, NodeDown}
use Rattle.replies.specs.declared.refusals.Refusal.TheVariants.{Memory, Node}
use Rattle.replies.specs.declared.refusals.When.{When}
use Rattle.replies.specs.declared.reply.Reply.TheVariants.{Called, Refused}
use Rattle.tao_base.specs.Ids.{shard_of}
use Rattle.tao_base.specs.Writes.{write_shard}
use Rattle.tao_base.specs.declared.entry.Entry.{Entry}
use Rattle.tao_keeper.specs.KeeperState.{KeepsTables}
use Rattle.tao_keeper.specs.Table.{Tables}
use Rattle.tao_keeper.specs.declared.jobs.Job.{Job}
use Rattle.tao_link.specs.Shown.{LinkShown}
use Rattle.tao_schema.specs.Schema.{types_of}
use Rattle.topology.specs.Choices.{master_region}
use Rattle.topology.specs.Config.{Settings}
use Rattle.topology.specs.States.{NodeStates, is_up}
use Rattle.write_model.specs.Merges.{job_of, log_of}
use Rattle.write_plan.specs.Plans.{Writing, answered_job, answered_passed}
use Rattle.write_plan.specs.declared.progress.WayBack.TheVariants.{Ahead}

-- ---- reads

-- a read of which nothing was done
pub record IsBegunRead (p : Reading) : Type 0 where
  pub at : p.at ≡ Looking
  pub hops : p.hops ≡ 0
  pub store : p.store ≡ false

-- the hops of an answer are the carries between the two scenes, and its `store` says whether a keeper was called
pub record SaysCost (reply : ReadReply) (old new : World) : Type 0 where
  pub hops : reply.hops ≡ hops_between old.link new.link
  pub store : reply.store ≡ was_called old.keepers new.keepers

-- a read that does all of its stages: an answer says what they took, and is legal in the log as it is at their end; the read is for the session that
-- it was begun for; and no table and no message changes
pub record WholeRead (rules : Rules) (p : Reading) (old : World) (q : HeldPlan) (new : World) : Type 0 where
  pub cost : IsBegunRead p → CarriesOut rules (Read p) old q new → (reply : ReadReply) → IsOver q (Called (called.Read reply))
      → SaysCost reply old new
  pub tables : CarriesOut rules (Read p) old q new → KeepsTables rules.tells old.keepers new.keepers
  pub inboxes : CarriesOut rules (Read p) old q new → new.inboxes ≡ old.inboxes
  pub legal : p.at ≡ Looking → CarriesOut rules (Read p) old q new → (r : Reading) → q ≡ Read r → EndsLegally rules.tells rules.settings r new
  pub reader : p.at ≡ Looking → CarriesOut rules (Read p) old q new → (r : Reading) → q ≡ Read r → r.reader ≡ p.reader

-- ---- writes

-- a write of which nothing was done
pub record IsBegunWrite (p : Writing) : Type 0 where
  pub uncommitted : p.committed ≡ None
  pub unrefused : p.refused ≡ None
  pub hops : p.hops ≡ 0

-- how many carries the way of a write takes, there and back: one each way, and one more each way where it passes a leader
abbrev pub way_carries : Option NodeName → ℕ
way_carries None = 2
way_carries (Some leader) = 4

-- a count of carries with so many more; from its last value on it stands still
abbrev pub carries_after : ℕ → ℕ → ℕ
carries_after count more = max count (min (count + more) most_hops)

-- the carries between the two scenes are those of its way, and two more at most, for the other end: none more where its commit answered no job
pub record TakesItsWay (passed : Option NodeName) (job : Option Job) (old new : LinkShown) : Type 0 where
  pub more : ℕ
  pub few : more ≤ 2
  pub alone : job ≡ None → more ≡ 0
  pub carries : new.carries ≡ carries_after old.carries (way_carries passed + more)

-- a write that does all of its stages: the hops of an Ok reply are the carries that they took, which are those of its way, and of the way to its other end.
-- Where it is refused as out of memory, nothing was written
pub record WholeWrite (rules : Rules) (p : Writing) (old : World) (q : HeldPlan) (new : World) : Type 0 where
  pub cost : IsBegunWrite p → CarriesOut rules (Write p) old q new → (reply : WriteReply) → IsOver q (Called (called.Write reply))
      → reply.hops ≡ hops_between old.link new.link
  pub way : IsBegunWrite p → p.back ≡ Ahead → CarriesOut rules (Write p) old q new → (reply : WriteReply) → IsOver q (Called (called.Write reply))
      → (r : Writing) → q ≡ Write r → TakesItsWay (answered_passed r) (answered_job r) old.link new.link
  pub memory : IsBegunWrite p → CarriesOut rules (Write p) old q new → (position : ℕ) → IsOver q (Refused (Memory position))
      → (position ≡ 0) × KeepsTables rules.tells old.keepers new.keepers

-- each record that the entry owes to another shard is there, or a later one
abbrev pub HasOtherEnds : Settings → Tables → Entry → Type 0
HasOtherEnds s tables e = All (λ u. HasStamp (log_of (stores_in s tables).logs (shard_of u.0)) u) (job_of (types_of s.schema) e)

-- a write that does all of its stages, over keepers that tell their tables: where its Ok reply says the inverse is written, the other end has it
pub record WrittenIsThere (s : Settings) (p : Writing) (old : World) (q : HeldPlan) (new : World) : Type 0 where
  pub there : HaveMasterRegions s → IsBegunWrite p → IsWriteUnderWay true s old.keepers.told old.fleet p
      → IsConsistent true s old.keepers.told old.fleet → CarriesOut (rules_of true s) (Write p) old q new
      → (reply : WriteReply) → IsOver q (Called (called.Write reply)) → reply.written.inverse ≡ Written
      → IfSome (learnt_with (Called (called.Write reply)) q).here (λ t. HasOtherEnds s new.keepers.told t.entry)

-- ---- who is up

-- nothing was done of the plan
abbrev pub IsBegun : HeldPlan → Type 0
IsBegun (Read p) = IsBegunRead p
IsBegun (Write p) = IsBegunWrite p

-- the follower of a plan
abbrev pub follower_of : HeldPlan → NodeName
follower_of (Read p) = p.follower
follower_of (Write p) = p.follower

-- the plan is a write for which no leader could be chosen at its beginning, in the region that has the master of its shard, and the refusal says so
abbrev pub IsForWantOfLeader : Settings → NodeStates → HeldPlan → NodeRefused → Type 0
IsForWantOfLeader s states (Read p) why = ⊥
IsForWantOfLeader s states (Write p) why = (leaders_of_write s states p ≡ None) × (why ≡ NoServer (master_region states (write_shard p.write)))

-- a plan that does all of its stages from a follower that is up: each node that it needs is up too, and where a node's refusal ends it, no leader could be
-- chosen for a write
pub record WholeCallIsUp (rules : Rules) (plan : HeldPlan) (old : World) (q : HeldPlan) (new : World) : Type 0 where
  pub refused : IsBegun plan → is_up old.states (follower_of plan) ≡ true → CarriesOut rules plan old q new → (why : NodeRefused)
      → IsOver q (Refused (Node why)) → IsForWantOfLeader rules.settings old.states plan why
  pub never_down : IsBegun plan → is_up old.states (follower_of plan) ≡ true → CarriesOut rules plan old q new → (node : NodeName) (when : When)
      → IsOver q (Refused (Node (NodeDown node when))) → ⊥
