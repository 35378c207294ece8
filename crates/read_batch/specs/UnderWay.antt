-- A batch that is under way, and what a poll of it does.
use Rattle.std.specs.Prelude.{ℕ, ◌≡◌, ◌≤◌, ◌<◌, ◌↔◌, ⊤, List, [], ◌∷◌, ◌++◌, drop, length, vec_capacity}
use Rattle.futures.specs.Task.{Hears}
use Rattle.futures.specs.declared.task.Poll.{Poll}
use Rattle.futures.specs.declared.task.Poll.TheVariants.{Ready, Pending}
use Rattle.futures.specs.declared.task.context.Context.{Context}
use Rattle.log_names.specs.Names.{LogNames}
use Rattle.replies.specs.declared.reply.Reply.{Reply}
use Rattle.requests.specs.declared.request.Request.{Request}
use Rattle.shared_stores.specs.Making.{Making}
use Rattle.shared_tiers.specs.Calls.{Calling, calling}
use Rattle.shared_tiers.specs.locked_nodes.Cluster.{OnCluster}
use Rattle.shared_tiers.specs.locked_nodes.Passes.{IsPassOf, PassGoesOn}
use Rattle.tao_link.specs.Shown.{LinkShown}
use Rattle.read_batch.specs.Answering.{MakesCall, RepliesToEach}
use Rattle.read_batch.specs.declared.batch.Batch.{Batch}

-- what the next call goes by, all requests, the replies so far, and for how many there is room
pub record UnderWay : Type 0 where
  pub at : Calling
  pub requests : List Request
  pub replies : List Reply
  pub room : ℕ

-- the batch, as its link shows itself
abbrev pub under_way : {R K J L : Type 0} → (L → LinkShown) → Batch R K J L → UnderWay
under_way shown batch = record {
  at = calling batch.pass.now (shown batch.link.now);
  requests = batch.requests.now;
  replies = batch.replies.now.items;
  room = vec_capacity batch.replies.now;
}

-- the requests that are left
abbrev pub left : UnderWay → List Request
left b = drop (length b.replies) b.requests

-- its pass is of the cluster, and there is room for the replies to all requests
pub record IsUnderWay (m : Making) (log : LogNames) (b : UnderWay) : Type 0 where
  pub pass : IsPassOf m log b.at.pass
  pub many : length b.replies ≤ length b.requests
  pub room : length b.requests ≤ b.room

-- with these requests left the next is called, and its reply comes behind those so far; with none left nothing is done
abbrev pub CallsNext : {M : Type 0} → OnCluster M → List Request → UnderWay → UnderWay → Type 0
CallsNext on [] old new = new ≡ old
CallsNext on (request ∷ rest) old new =
    (said : Reply) × MakesCall on old.at new.at request said × (new ≡ record old { at = new.at; replies = old.replies ++ said ∷ []; room = new.room })

-- one call is made, where a request is left
pub record StepsBatch {M : Type 0} (on : OnCluster M) (old new : UnderWay) : Type 0 where
  pub calls : CallsNext on (left old) old new

-- the replies so far, and then one to each request that is left, the last of which leaves off there
pub record GivesAll {M : Type 0} (on : OnCluster M) (b : UnderWay) (end : Calling) (given : List Reply) : Type 0 where
  pub rest : List Reply
  pub all : given ≡ b.replies ++ rest
  pub each : RepliesToEach on b.at end (left b) rest

-- what a batch may give, wherever it leaves off
pub record MayGive {M : Type 0} (on : OnCluster M) (b : UnderWay) (given : List Reply) : Type 0 where
  pub end : Calling
  pub gives : GivesAll on b end given

-- calls were made: the pass went on, and all that may be given now could be given then
pub record Follows {M : Type 0} (on : OnCluster M) (old new : UnderWay) : Type 0 where
  pub goes : PassGoesOn old.at.pass new.at.pass
  pub gives : (end : Calling) (given : List Reply) → GivesAll on new end given → GivesAll on old end given

-- the task is polled again, whatever its sources do
abbrev pub IsWoken : Context → Type 0
IsWoken cx = (source : ℕ) → Hears cx source

-- the answer of a poll is that it isn't done
abbrev pub IsPending : {A : Type 0} → Poll A → Type 0
IsPending (Ready given) = ⊥
IsPending Pending = ⊤

-- exactly where more than one request was left more are to come
abbrev pub PendsWhereMore : {A : Type 0} → UnderWay → Poll A → Type 0
PendsWhereMore old polled = IsPending polled ↔ (1 < length (left old))
