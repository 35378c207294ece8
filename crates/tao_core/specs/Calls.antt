-- What a session's call sees, and what it leaves: what is kept, and what the session learns.
use Rattle.std.specs.Prelude.{ℕ, ◌≡◌, ◌≤◌, ⊤, Bool, List, Option, Some, None, slice_get, take}
use Rattle.std.specs.Option.{option_map}
use Rattle.core_model.specs.Fleet.{IsFirstAt, named}
use Rattle.core_model.specs.Pens.{Pens}
use Rattle.core_model.specs.Stores.{master_log}
use Rattle.core_plans.specs.declared.held.LearntEntries.{LearntEntries}
use Rattle.core_sessions.specs.Sessions.{Session, SessionLearns, SessionLearnsVersion}
use Rattle.core_steps.specs.World.{World, world_with}
use Rattle.core_steps.specs.declared.jobs.LearntEntry.{LearntEntry}
use Rattle.follower_cache.specs.Seen.{FollowerState}
use Rattle.graph_model.specs.Log.{version}
use Rattle.graph_model.specs.Told.{WhereTold}
use Rattle.node_name.specs.declared.NodeName.{NodeName}
use Rattle.read_plan.specs.Readings.{Reading}
use Rattle.replies.specs.declared.calls.CallReply.TheVariants as called
use Rattle.replies.specs.declared.nodes.KeptOrNot.TheVariants.{Kept}
use Rattle.replies.specs.declared.reply.Reply.{Reply}
use Rattle.replies.specs.declared.reply.Reply.TheVariants.{Called}
use Rattle.served_shards.specs.Served.{low_at}
use Rattle.shard_log.specs.View.{View, as_note}
use Rattle.tao_base.specs.Keys.{key_shard}
use Rattle.tao_base.specs.Queries.{query_key, query_shard}
use Rattle.tao_base.specs.declared.id.Key.{Key}
use Rattle.tao_base.specs.declared.query.Query.{Query}
use Rattle.tao_base.specs.declared.entry.Entry.{Entry}
use Rattle.topology.specs.Config.{Settings}
use Rattle.tao_keeper.specs.KeeperState.{KeeperState}
use Rattle.tao_link.specs.Shown.{LinkShown}
use Rattle.tao_core.specs.Core.{CoreState, Moment}

-- the nodes of a core, with what its keepers and its link show
abbrev pub world_at : CoreState → KeeperState → LinkShown → World
world_at core keepers link = world_with core.fleet core.mail core.states keepers link

-- the nodes of a core, with what its keepers and its link show at a moment
abbrev pub world_of : Moment → World
world_of m = world_at m.core m.keepers m.link

-- ---- what is kept

-- the version has come as far as the key's at the mark of the follower of that name
abbrev pub ReachesMark : Settings → NodeName → Query → ℕ → World → Type 0
ReachesMark s name query reached new = (place : ℕ) (f : FollowerState) → IsFirstAt name new.fleet.followers place
    → slice_get new.fleet.followers place ≡ Some (named name f)
    → version (take (low_at (query_shard query) f.node.served) (master_log s new.keepers.told (query_shard query))) (query_key query) ≤ reached

-- what is said to be kept has
abbrev pub KeptReaches : Bool → Settings → NodeName → Query → Reply → World → Type 0
KeptReaches tells s name query (Called (called.Read reply)) new = WhereTold tells (reply.kept ≡ Kept → ReachesMark s name query reply.version new)
KeptReaches tells s name query reply new = ⊤

-- ---- what is learnt

-- the session of that number learns that entry of a shard's log, where there is one, and nothing else is learnt
abbrev pub LearnsThrough : ℕ → Option LearntEntry → List Session → List Session → Type 0
LearnsThrough number None old new = new ≡ old
LearnsThrough number (Some t) old new = SessionLearns number t.shard t.entry t.note old new

-- the session of that number learns what a write wrote: first the entry of the write, and then the one at the other end
pub record LearnsBoth (number : ℕ) (learnt : LearntEntries) (old new : List Session) : Type 0 where
  pub between : List Session
  pub here : LearnsThrough number learnt.here old between
  pub other : LearnsThrough number learnt.other between new

-- the session of that number, where there is one, learns a version of a key, through a note that has seen all of the key's log
abbrev pub LearnsVersion : Pens → Option ℕ → Key → ℕ → List Session → List Session → Type 0
LearnsVersion pens None key version old new = new ≡ old
LearnsVersion pens (Some number) key version old new = SessionLearnsVersion number key version (as_note (pens (key_shard key))) old new

-- the version that a reply answers a read with; None where it is no such reply
abbrev pub answered_version : Reply → Option ℕ
answered_version (Called (called.Read reply)) = Some reply.version
answered_version reply = None

-- the session of a read learns which version the reply answers; a refusal teaches it nothing
abbrev pub LearnsAnswer : Pens → Reading → Reply → List Session → List Session → Type 0
LearnsAnswer pens p (Called (called.Read reply)) old new = LearnsVersion pens p.reader (query_key p.query) reply.version old new
LearnsAnswer pens p reply old new = new ≡ old

-- an entry of a shard's log, as it is learnt by a note
abbrev pub learn_through_note : ℕ → View → Option Entry → Option LearntEntry
learn_through_note shard note entry = option_map (λ e. record { shard = shard; entry = e; note = note }) entry
