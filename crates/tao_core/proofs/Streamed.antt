-- A core after a step of a stream.
use Rattle.std.proofs.Common.{◌≡◌, Bool, Result, Ok, Err, ap, refl, inl, inr}
use Rattle.core_model.specs.Fleet.{Fleet}
use Rattle.core_nodes.proofs.GrowingLemmas.{stays_stores}
use Rattle.core_steps.specs.Posting.{PostsOn}
use Rattle.core_steps.specs.Streams.{StreamsOver, TakesAs}
use Rattle.core_steps.specs.World.{World, world}
use Rattle.core_steps.specs.declared.nodes.Nodes.{Nodes}
use Rattle.core_steps.specs.declared.streaming.AskedStream.{AskedStream}
use Rattle.replies.specs.declared.nodes.StreamVerdict.{StreamVerdict}
use Rattle.replies.specs.declared.nodes.StreamVerdict.TheVariants as verdict
use Rattle.replies.specs.declared.nodes.Streamed.{Streamed}
use Rattle.replies.specs.declared.refusals.NodeRefused.TheVariants.{NoEntry}
use Rattle.replies.specs.declared.refusals.Refusal.{Refusal}
use Rattle.replies.specs.declared.refusals.Refusal.TheVariants.{Memory, Node as OfNode, Store}
use Rattle.replies.specs.declared.refusals.StoreRefused.TheVariants.{KeeperFault, LinkFault}
use Rattle.tao_base.specs.declared.entry.Entry.{Entry}
use Rattle.tao_base.specs.declared.id.StoreName.{StoreName}
use Rattle.tao_keeper.proofs.Later.{later_self}
use Rattle.tao_keeper.specs.KeeperState.{KeeperState}
use Rattle.tao_link.specs.Shown.{LinkShown}
use Rattle.topology.specs.Config.{Settings}
use Rattle.tao_core.proofs.HeldOn.{none_come, same_held}
use Rattle.tao_core.proofs.Keeping.{written_core}
use Rattle.tao_core.proofs.Settled.{left_core, stores_held}
use Rattle.tao_core.specs.Calls.{world_at}
use Rattle.tao_core.specs.Core.{CoreState, IsConsistentCore, LeavesCore}

-- ---- followers stay as they are

-- what the region of a store takes changes none
taken_same : (said : StreamVerdict) (at : StoreName) (e : Entry) (old new : World) → TakesAs said at e old new
    → new.fleet.followers ≡ old.fleet.followers
taken_same verdict.Applied at e old new takes = takes.followers
taken_same verdict.Old at e old new takes = ap (λ (f : Fleet). f.followers) takes.0
taken_same verdict.Gap at e old new takes = ap (λ (f : Fleet). f.followers) takes.0
taken_same verdict.None at e old new takes = ap (λ (f : Fleet). f.followers) takes.0

-- nor does a step
pub streamed_same : (tells : Bool) (s : Settings) (asked : AskedStream) (outcome : Result Streamed Refusal) (old new : World)
    → StreamsOver tells s asked outcome old new → new.fleet.followers ≡ old.fleet.followers
streamed_same tells s asked (Ok streamed) old new (inl is) = ap (λ (w : World). w.fleet.followers) is.rest.rest
streamed_same tells s asked (Ok streamed) old new (inr is) = taken_same streamed.verdict asked.at is.entry old new is.takes
streamed_same tells s asked (Err (OfNode (NoEntry count position))) old new is = ap (λ (w : World). w.fleet.followers) is.2.rest
streamed_same tells s asked (Err (Store (KeeperFault count))) old new is = ap (λ (f : Fleet). f.followers) is.2.same.fleet
streamed_same tells s asked (Err (Store (LinkFault count when))) old new is = ap (λ (f : Fleet). f.followers) is.3.fleet
streamed_same tells s asked (Err (Memory position)) old new is = ap (λ (f : Fleet). f.followers) is.1.same.fleet
streamed_same tells s asked (Err refusal) old new is = absurd is

-- ---- what is left

-- nodes that went on, with their followers as they were, leave the core consistent
pub posted_leaves : (tells : Bool) (core : CoreState) (before now : KeeperState) (from to : LinkShown) (end : Nodes)
    → IsConsistentCore tells before.told core → PostsOn tells core.settings (world_at core before from) (world end now to)
    → end.fleet.followers ≡ core.fleet.followers → LeavesCore tells before now core (left_core core end.topology end.fleet end.mail)
posted_leaves tells core before now from to end of on same = record {
  is_consistent = written_core tells before.told core of now.told end.topology end.fleet end.mail on.states on.consistent on.inboxes on.arrived
      on.goes on.grows.on.logs;
  on = stores_held core.fleet end.fleet on.goes same;
  comes = none_come tells now.told core (left_core core end.topology end.fleet end.mail) on.states;
  grows = on.grows;
  later = on.later;
}

-- as does a call that changes nothing
pub unchanged_leaves : (tells : Bool) (keepers : KeeperState) (core : CoreState) → IsConsistentCore tells keepers.told core
    → LeavesCore tells keepers keepers core core
unchanged_leaves tells keepers core of = record {
  is_consistent = of;
  on = same_held core.fleet;
  comes = none_come tells keepers.told core core refl;
  grows = stays_stores tells core.settings keepers keepers (λ told at. refl);
  later = later_self keepers;
}
