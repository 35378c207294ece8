-- What a read that may wait shows, and what it gives.
use Rattle.std.specs.Prelude.{ℕ, Bool}
use Rattle.shared_tiers.specs.locked_nodes.Cluster.{OnCluster}
use Rattle.replies.specs.declared.reply.Reply.{Reply}
use Rattle.requests.specs.declared.request.Request.{Request}
use Rattle.shared_stores.specs.declared.sharing.Sharing.{Ghosts as SharingOf}
use Rattle.shared_tiers.specs.Calls.{Calling, RepliesTo}
use Rattle.tao_keeper.specs.declared.keeper.Keeper.{Ghosts as KeeperOf}
use Rattle.read_herds.specs.declared.reading.HerdRead.{HerdRead}

-- how often it waited
abbrev pub waits_of : {R K J L : Type 0} {keeper : KeeperOf K} {sharing : SharingOf J} → HerdRead R K J L keeper sharing → ℕ
waits_of read = read.waits

-- whether it was polled before
abbrev pub was_begun : {R K J L : Type 0} {keeper : KeeperOf K} {sharing : SharingOf J} → HerdRead R K J L keeper sharing → Bool
was_begun read = read.is_begun

-- the cluster replied so to the request, and left something
abbrev pub IsReplyTo : {M : Type 0} → OnCluster M → Calling → Request → Reply → Type 0
IsReplyTo on old request said = (new : Calling) × RepliesTo on old new request said
