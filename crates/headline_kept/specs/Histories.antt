-- Which refusals leave the histories as they were.
use Rattle.std.specs.Prelude.{◌≡◌, Bool, true, false, nat_lt}
use Rattle.plain_promise.specs.Promise.{refused_at}
use Rattle.replies.specs.declared.refusals.NodeRefused.TheVariants.{NoServer}
use Rattle.replies.specs.declared.refusals.Refusal.{Refusal}
use Rattle.replies.specs.declared.refusals.Refusal.TheVariants.{Memory, Node, Store}
use Rattle.replies.specs.declared.refusals.StoreRefused.TheVariants.{KeeperFault, LinkFault, Unsettled}
use Rattle.replies.specs.declared.reply.Reply.{Reply}
use Rattle.replies.specs.declared.reply.Reply.TheVariants.{Refused}
use Rattle.requests.specs.declared.request.Request.{Request}
use Rattle.requests.specs.declared.request.Request.TheVariants as request
use Rattle.requests.specs.declared.stores.StoreRequest.TheVariants as store
use Rattle.tao_core.specs.Core.{Moment}
use Rattle.tao_keeper.specs.KeeperState.{KeepsTables}

-- a settle stopped on its way
abbrev pub stops_settle : Refusal → Bool
stops_settle (Store (Unsettled shard why)) = true
stops_settle (Node (NoServer region)) = true
stops_settle (Memory position) = true
stops_settle other = false

-- a repair failed on its way, and its merge may have been written
abbrev pub stops_repair : Refusal → Bool
stops_repair (Store (KeeperFault count)) = true
stops_repair (Store (LinkFault count when)) = true
stops_repair (Memory position) = true
stops_repair other = false

-- something may have been written although the request was refused: a settle or a repair failed on its way, or a write that isn't held, behind its commit. A
-- line that begins a held call or goes on with one, and is refused, has written nothing
abbrev pub may_have_written : Request → Refusal → Bool
may_have_written (request.Plan made) refusal = false
may_have_written (request.Store store.Settle) refusal = stops_settle refusal
may_have_written (request.Store (store.Repair shard)) refusal = stops_repair refusal
may_have_written other refusal = nat_lt 0 (refused_at refusal)

-- a refusal leaves each table as it was, but for these
pub record LeavesHistories (tells : Bool) (old : Moment) (request : Request) (reply : Reply) (new : Moment) : Type 0 where
  pub same : (refusal : Refusal) → reply ≡ Refused refusal → may_have_written request refusal ≡ false → KeepsTables tells old.keepers new.keepers
