-- A write whose commit is refused has changed nothing, wherever on its way it was refused.
use Rattle.std.proofs.Common.{◌≡◌, Option, Some, None, inl, inr, refl, subst, sym}
use Rattle.core_steps.specs.Posting.{ChangesNoNode}
use Rattle.core_steps.specs.Relays.{RefusesPassing}
use Rattle.core_steps.specs.World.{World}
use Rattle.core_steps.specs.Writes.{NotCommitted, RefusesCommit}
use Rattle.core_steps.specs.declared.routes.Route.{Route}
use Rattle.node_name.specs.declared.NodeName.{NodeName}
use Rattle.replies.specs.declared.refusals.Refusal.{Refusal}
use Rattle.replies.specs.declared.refusals.Refusal.TheVariants.{Store, Memory}
use Rattle.replies.specs.declared.refusals.StoreRefused.{StoreRefused}
use Rattle.replies.specs.declared.refusals.StoreRefused.TheVariants.{SeqReused, TooOld, ShardFull, StampFull, LogFull, KeeperFault, LinkFault, Unsettled}
use Rattle.write_plan.specs.Plans.{Writing}
use Rattle.core_plans.specs.HeldWrites.{RefusesOnWay, RefusesWrite, come_past, sent_by, way_by}
use Rattle.core_plans.specs.LedBy.{LedBy}

module _ (led : LedBy) (p : Writing) (old new : World) where
  -- ---- as a commit is

  store_none : (refused : StoreRefused) → NotCommitted led.tells led.settings (sent_by led p) refused (come_past led old) new
      → ChangesNoNode led.tells (come_past led old) new
  store_none (LinkFault count when) is = is.1.same
  store_none (TooOld cut position) is = is.1.same
  store_none (SeqReused position) is = is.1.same
  store_none (ShardFull serial) is = is.1.same
  store_none (StampFull number) is = is.1.same
  store_none (LogFull count) is = is.1.same
  store_none (KeeperFault count) is = is.1.same
  store_none (Unsettled at why) is = is.1.same

  there_none : (refusal : Refusal) → RefusesCommit led.tells led.settings (sent_by led p) refusal (come_past led old) new
      → ChangesNoNode led.tells (come_past led old) new
  there_none (Store refused) is = store_none refused is
  there_none (Memory position) is = is.1.same
  there_none refusal is = absurd is

  -- ---- on the way to the leader that it passes

  same_none : new ≡ old → ChangesNoNode led.tells old new
  same_none is = subst (ChangesNoNode led.tells old) (sym is) (record { fleet = refl; inboxes = refl; states = refl; tables = λ told at. refl })

  stopped_none : (route : Route) (refused : StoreRefused) → RefusesPassing led.tells route (Store refused) old new → ChangesNoNode led.tells old new
  stopped_none route (LinkFault count when) is = is.1.same
  stopped_none route (TooOld cut position) is = absurd is
  stopped_none route (SeqReused position) is = absurd is
  stopped_none route (ShardFull serial) is = absurd is
  stopped_none route (StampFull number) is = absurd is
  stopped_none route (LogFull count) is = absurd is
  stopped_none route (KeeperFault count) is = absurd is
  stopped_none route (Unsettled at why) is = absurd is

  passing_none : (route : Route) (refusal : Refusal) → RefusesPassing led.tells route refusal old new → ChangesNoNode led.tells old new
  passing_none route (Store refused) is = stopped_none route refused is
  passing_none route (Memory position) is = same_none is.1
  passing_none route refusal is = absurd is

  on_way_none : (passed : Option NodeName) (refusal : Refusal) → RefusesOnWay led.tells passed p refusal old new → ChangesNoNode led.tells old new
  on_way_none None refusal is = absurd is
  on_way_none (Some leader) refusal is = passing_none (way_by leader p) refusal is

  -- so wherever
  pub refused_none : (refusal : Refusal) → RefusesWrite led p refusal old new → ChangesNoNode led.tells old new
  refused_none refusal (inl stops) = on_way_none led.passed refusal stops
  refused_none refusal (inr refuses) =
      let none = there_none refusal refuses in
      record { fleet = none.fleet; inboxes = none.inboxes; states = none.states; tables = none.tables }
