-- When a cluster refuses a request at once.
use Rattle.std.specs.Prelude.{ℕ, ◌≡◌, ◌≢◌, ◌↔◌}
use Rattle.replies.specs.declared.refusals.LineRefused.TheVariants.{NotHere}
use Rattle.replies.specs.declared.refusals.Refusal.TheVariants.{Line, Session}
use Rattle.replies.specs.declared.refusals.SessionRefused.TheVariants.{NoSession}
use Rattle.replies.specs.declared.reply.Reply.{Reply}
use Rattle.replies.specs.declared.reply.Reply.TheVariants.{Refused}
use Rattle.requests.specs.CallWords.{asking_session}
use Rattle.requests.specs.declared.request.Request.{Request}
use Rattle.requests.specs.declared.request.Request.TheVariants as request
use Rattle.words.specs.declared.Word.{Word}
use Rattle.shared_tiers.specs.Calls.{AsksCall, Calling, RepliesTo}
use Rattle.cluster_closing.specs.locked_nodes.Cluster.{OnCluster}

-- the reply says that a word isn't served here
abbrev pub SaysNotHere : Reply → Type 0
SaysNotHere said = (word : Word) × (said ≡ Refused (Line (NotHere word)))

-- the reply says that there is no session
abbrev pub SaysNoSession : Reply → Type 0
SaysNoSession said = (session : ℕ) × (said ≡ Refused (Session (NoSession session)))

-- the request is a read or a write of another session
abbrev pub IsOfAnother : ℕ → Request → Type 0
IsOfAnother session (request.Call call) = asking_session call ≢ session
IsOfAnother session other = ⊥

-- a word isn't served here exactly where the request is no read or write, and there is no session exactly where a read or a write is of another than the
-- pass's
pub record RefusesExactly (old : Calling) (asked : Request) (said : Reply) : Type 0 where
  pub not_here : SaysNotHere said ↔ (¬ (AsksCall asked))
  pub no_session : SaysNoSession said ↔ IsOfAnother old.pass.session asked

-- whatever is replied to a request, these two are so
pub record AreExact {M : Type 0} (on : OnCluster M) : Type 0 where
  pub exact : (old new : Calling) (asked : Request) (said : Reply) → RepliesTo on old new asked said → RefusesExactly old asked said
