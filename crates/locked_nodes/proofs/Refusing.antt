-- Why a read gets no answer, and that a keeper which failed may fail.
use Rattle.std.proofs.Common.{Result, arith}
use Rattle.std.specs.Prelude.{IsErrOf}
use Rattle.counts.specs.Count.{Rose}
use Rattle.replies.specs.declared.refusals.Refusal.{Refusal}
use Rattle.replies.specs.declared.refusals.Refusal.TheVariants as refusal_is
use Rattle.replies.specs.declared.refusals.StoreRefused.TheVariants as store
use Rattle.replies.specs.declared.refusals.When.TheVariants.{After, Before}
use Rattle.replies.specs.declared.reply.Reply.{Reply}
use Rattle.replies.specs.declared.reply.Reply.TheVariants as reply
use Rattle.shard_tables.specs.declared.refusal.StoreRefusal.{StoreRefusal}
use Rattle.shard_tables.specs.declared.refusal.StoreRefusal.TheVariants.{KeeperFault}
use Rattle.tao_keeper.specs.KeeperState.{CallsKeeper, KeeperState}
use Rattle.locked_nodes.specs.Cluster.{MayFail}
use Rattle.locked_nodes.specs.Replies.{RefusesFor, RepliesRefused}

-- a keeper that failed may fail
pub may_fail : {M T : Type 0} (state : M → KeeperState) (before after : M) (r : Result T StoreRefusal) → CallsKeeper KeeperFault (state before) (state after) r
    → IsErrOf r KeeperFault → MayFail state
may_fail state before after r calls failed none =
    let rose : Rose (state before).faults (state after).faults = calls.failed failed in
    absurd (omega (arith, rose, none before, none after))

-- ---- wider causes

module _ (failed fails now also : Type 0) (later : failed → now) (wider : fails → also) where
  refuses_wider : (refusal : Refusal) → RefusesFor failed fails refusal → RefusesFor now also refusal
  refuses_wider (refusal_is.Store (store.LinkFault count Before)) is = later is
  refuses_wider (refusal_is.Store (store.LinkFault count (After position))) is = absurd is
  refuses_wider (refusal_is.Store (store.KeeperFault count)) is = wider is
  refuses_wider (refusal_is.Store (store.TooOld cut position)) is = absurd is
  refuses_wider (refusal_is.Store (store.SeqReused position)) is = absurd is
  refuses_wider (refusal_is.Store (store.ShardFull serial)) is = absurd is
  refuses_wider (refusal_is.Store (store.StampFull number)) is = absurd is
  refuses_wider (refusal_is.Store (store.LogFull count)) is = absurd is
  refuses_wider (refusal_is.Store (store.Unsettled shard reason)) is = absurd is
  refuses_wider (refusal_is.Memory position) is = is
  refuses_wider (refusal_is.Line line) is = absurd is
  refuses_wider (refusal_is.Plan plan) is = absurd is
  refuses_wider (refusal_is.Session session) is = absurd is
  refuses_wider (refusal_is.Name name) is = absurd is
  refuses_wider (refusal_is.Node node) is = absurd is

  pub replies_wider : (said : Reply) → RepliesRefused failed fails said → RepliesRefused now also said
  replies_wider (reply.Refused refusal) is = refuses_wider refusal is
  replies_wider (reply.Called called) is = absurd is
  replies_wider reply.Configured is = absurd is
  replies_wider (reply.BadConfiguration field) is = absurd is
  replies_wider (reply.BadStores at position) is = absurd is
  replies_wider (reply.Opened session) is = absurd is
  replies_wider (reply.Plan plan) is = absurd is
  replies_wider (reply.Node node) is = absurd is
  replies_wider (reply.Settled logs) is = absurd is
  replies_wider (reply.Audited answer position) is = absurd is
