-- How a load ends.
use Rattle.std.proofs.Common.{◌≡◌, ℕ, ◌<◌, Bool, List, sym, subst, arith}
use Rattle.shared_tiers.specs.cluster_closing.Closing.{AnswersClosed, StopsOver}
use Rattle.core_model.specs.Fleet.{Fleet}
use Rattle.core_model.specs.Jobs.{IsFirstJobOf, job_on}
use Rattle.shared_tiers.specs.locked_nodes.core_nodes.Outside.{outside}
use Rattle.shared_tiers.specs.locked_nodes.core_nodes.declared.settling.SettleStop.{SettleStop}
use Rattle.shared_tiers.specs.locked_nodes.core_nodes.declared.settling.SettleStop.TheVariants as stop
use Rattle.graph_model.specs.Told.{WhereTold}
use Rattle.keepers.specs.Shown.{told_in}
use Rattle.replies.specs.declared.refusals.Refusal.TheVariants.{Store}
use Rattle.replies.specs.declared.refusals.StoreRefused.TheVariants.{Unsettled}
use Rattle.replies.specs.declared.refusals.UnsettledWhy.{UnsettledWhy}
use Rattle.replies.specs.declared.refusals.UnsettledWhy.TheVariants as why
use Rattle.replies.specs.declared.reply.Reply.{Reply}
use Rattle.replies.specs.declared.reply.Reply.TheVariants.{Refused, Settled}
use Rattle.shared_tiers.specs.cluster_opening.Opening.{shown_in}
use Rattle.shared_tiers.specs.cluster_closing.unlocked_nodes.Settling.{ClosedNow, HasStopCause, closed_now}
use Rattle.shared_tiers.specs.cluster_closing.unlocked_nodes.core_repairs.Stops.{unsettled_as}
use Rattle.load_audit.specs.Audits.{logs_in}
use Rattle.requests.specs.declared.request.Request.{Request}
use Rattle.tao_base.specs.declared.entry.Entry.{Entry}
use Rattle.tao_base.specs.declared.id.StoreName.{StoreName}
use Rattle.tao_keeper.specs.KeeperState.{KeeperState}
use Rattle.tao_keeper.specs.Table.{Tables}
use Rattle.tao_link.specs.Shown.{LinkShown}
use Rattle.topology.specs.Config.{Settings}
use Rattle.topology.specs.States.{NodeStates, all_up}
use Rattle.tao_busy.specs.Load.{IsSettledLoad, OwesToFullLog}

-- what is so of the logs of the same keepers, and of the same requests
pub so_over : {M : Type 0} (state : M → KeeperState) (P : List (List Entry) → List Request → Type 0) (s t : Settings) (old new : List M)
    (asked now : List Request) → s ≡ t → new ≡ old → now ≡ asked → P (logs_in t (told_in state t.shards old)) asked
    → P (logs_in s (told_in state s.shards new)) now
so_over {M} state P s t old new asked now made kept same so =
    subst (λ (x : Settings). P (logs_in x (told_in state x.shards new)) now) (sym made)
    (subst (λ (ks : List M). P (logs_in t (told_in state t.shards ks)) now) (sym kept)
    (subst (λ (x : List Request). P (logs_in t (told_in state t.shards old)) x) (sym same) so))

module _ {M : Type 0} (tells : Bool) (state : M → KeeperState) (s : Settings) (was fleet : Fleet) (old keepers : List M) (before after : LinkShown) where
  -- what the closed cluster was, and is after any number of calls on stores that no keeper stands for
  abbrev now_closed : ℕ → ClosedNow
  now_closed strays = closed_now fleet (outside (shown_in state s.shards strays keepers) after)

  abbrev was_closed : ClosedNow
  was_closed = closed_now was (outside (shown_in state s.shards 0 old) before)

  -- a settle that came to its end
  pub settled_so : (said : Reply) (logs : List ℕ) → said ≡ Settled logs → AnswersClosed tells s was_closed said now_closed
      → WhereTold tells (IsSettledLoad s (told_in state s.shards keepers))
  settled_so said logs is answers told =
      let done = subst (λ x. AnswersClosed tells s was_closed x now_closed) is answers in
      let settled = done.1.settled told in
      record { none = settled.none; paired = settled.paired; whole = settled.whole }

  -- a settle that was stuck, over links that never fail
  pub record StuckAt (shard : ℕ) (reason : UnsettledWhy) : Type 0 where
    pub here : shard < s.shards
    pub no_link : reason ≡ why.LinkFault → ⊥
    pub full : reason ≡ why.LogFull → WhereTold tells (OwesToFullLog s (told_in state s.shards keepers) shard)

  given_so : (states : NodeStates) (given : SettleStop) (shard : ℕ) (reason : UnsettledWhy)
      → Refused (Store (Unsettled shard reason)) ≡ unsettled_as states given → given ≡ stop.Unsettled shard reason
  given_so states (stop.Unsettled at why_) shard reason is = cc
  given_so states (stop.NoServer at) shard reason is = absurd (cc)
  given_so states stop.OutOfMemory shard reason is = absurd (cc)

  stuck_by : (shard strays : ℕ) (reason : UnsettledWhy) → before.faults ≡ 0 → after.faults ≡ 0
      → HasStopCause tells s (stop.Unsettled shard reason) was_closed.outside (now_closed strays).outside → StuckAt shard reason
  stuck_by shard strays why.LogFull none still cause = record {
    here = cause.0;
    no_link = λ is. absurd (cc);
    full = λ is told.
        let stays : (at : StoreName) → told_in state s.shards keepers at ≡ cause.1.before.keepers.told at = cause.1.merges.1 told in
        record {
          job = cause.1.job;
          first = subst (λ (tables : Tables). IsFirstJobOf s tables (job_on shard cause.1.job)) (λ i at. sym (stays at) i) (cause.1.first told);
          full = cause.1.full told;
        };
  }
  stuck_by shard strays why.KeeperFault none still cause = record { here = cause.0; no_link = λ is. absurd (cc); full = λ is. absurd (cc) }
  stuck_by shard strays why.LinkFault none still cause = absurd (omega (arith, cause.1, none, still))

  pub stuck_so : (said : Reply) (shard : ℕ) (reason : UnsettledWhy) → before.faults ≡ 0 → after.faults ≡ 0 → said ≡ Refused (Store (Unsettled shard reason))
      → AnswersClosed tells s was_closed said now_closed → StuckAt shard reason
  stuck_so said shard reason none still is answers =
      let stops : StopsOver tells s was_closed (Refused (Store (Unsettled shard reason))) now_closed =
      subst (λ x. AnswersClosed tells s was_closed x now_closed) is answers in
      let given = given_so (all_up s) stops.given shard reason stops.reply_is in
      stuck_by shard stops.strays reason none still
      (subst (λ g. HasStopCause tells s g was_closed.outside (now_closed stops.strays).outside) given stops.stops.cause)
