-- What a line is replied, by what it was read as.
use Rattle.std.proofs.Common.{◌≡◌, Result, Ok, sym, subst}
use Rattle.cluster_talks.specs.TalkStates.{TalkState}
use Rattle.cluster_talks.specs.TalkSteps.{RepliesToTalk}
use Rattle.cluster_talks.specs.declared.reply.TalkReply.{TalkReply}
use Rattle.request_json.specs.declared.refusal.LineRefusal.{LineRefusal}
use Rattle.shared_tiers.specs.locked_nodes.Cluster.{OnCluster}
use Rattle.talk_lines.specs.declared.line.TalkLine.{TalkLine}

module _ {M : Type 0} (on : OnCluster M) (old new : TalkState) where
  -- what a line was read as
  pub talk_asked : (asked : Result TalkLine LineRefusal) (line : TalkLine) (said : TalkReply) → asked ≡ Ok line → RepliesToTalk on old new (Ok line) said
      → RepliesToTalk on old new asked said
  talk_asked asked line said is replied = subst (λ k. RepliesToTalk on old new k said) (sym is) replied
