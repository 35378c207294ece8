-- What follows of a batch's calls and polls.
use Rattle.std.specs.Prelude.{ℕ, zero, suc, ◌≡◌, ◌-◌, ◌<◌, List, length}
use Rattle.replies.specs.declared.reply.Reply.{Reply}
use Rattle.requests.specs.declared.request.Request.{Request}
use Rattle.shared_tiers.specs.Calls.{Calling}
use Rattle.shared_tiers.specs.locked_nodes.Cluster.{OnCluster}
use Rattle.shared_tiers.specs.locked_nodes.Passes.{PassGoesOn}
use Rattle.read_batch.specs.Answering.{RepliesToEach}
use Rattle.read_batch.specs.UnderWay.{StepsBatch, UnderWay, left}

-- so many polls in a row were pending
abbrev pub PendsFor : {M : Type 0} → OnCluster M → ℕ → UnderWay → UnderWay → Type 0
PendsFor on zero old new = new ≡ old
PendsFor on (suc polls) old new = (next : UnderWay) × (1 < length (left old)) × StepsBatch on old next × PendsFor on polls next new

-- where the poll after them isn't pending, they were one less than the requests that were left, and none where none was
pub record CountsPending {M : Type 0} (on : OnCluster M) : Type 0 where
  pub count : (polls : ℕ) (old new : UnderWay) → PendsFor on polls old new → ¬ (1 < length (left new)) → polls ≡ length (left old) - 1

-- the replies are as many as the requests, and the pass goes on over all of them
pub record AnswersAll {M : Type 0} (on : OnCluster M) (old new : Calling) (requests : List Request) (replies : List Reply) : Type 0 where
  pub many : length replies ≡ length requests
  pub goes : PassGoesOn old.pass new.pass

-- whatever is replied
pub record AlwaysAnswersAll {M : Type 0} (on : OnCluster M) : Type 0 where
  pub always : (old new : Calling) (requests : List Request) (replies : List Reply) → RepliesToEach on old new requests replies
      → AnswersAll on old new requests replies
