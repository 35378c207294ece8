-- What a connection has read and written.
use Rattle.std.specs.Prelude.{ℕ, ◌≡◌, ◌⊎◌, Bool, false, List, [], ◌∷◌, Option, Contains}
use Rattle.std.specs.Io.KnownBytes.{Appends, IsAtEnd}
use Rattle.cluster_talks.specs.TalkStates.{TalkState, talk_state}
use Rattle.cluster_talks.specs.TalkSteps.{TalkStep}
use Rattle.cluster_talks.specs.TalkTexts.{talk_line, talk_lines_of}
use Rattle.cluster_talks.specs.declared.reply.TalkReply.{TalkReply}
use Rattle.first_line.specs.Interrupts.{AppendsPart}
use Rattle.shared_tiers.specs.Calls.{Calling}
use Rattle.shared_tiers.specs.locked_nodes.Cluster.{OnCluster}
use Rattle.tao_io.specs.Lines.{GivesLines}

-- the line has a reply, whose line is written so
pub record SaysReply {M : Type 0} (on : OnCluster M) (old : TalkState) (line : List ℕ) (new : TalkState) (Writes : List ℕ → Type 0) : Type 0 where
  pub said : TalkReply
  pub step : TalkStep on old line said new
  pub written : Writes (talk_line on.making.settings said)

-- the line has no reply and nothing was done for it, or it has one, of whose line a front was written
abbrev pub SaysReplyInPart : {M : Type 0} → OnCluster M → TalkState → List ℕ → TalkState → Option (List ℕ) → Option (List ℕ) → Type 0
SaysReplyInPart on old line new before after = ((new ≡ old) × Appends before after []) ⊎ SaysReply on old line new (AppendsPart before after)

-- each line gets one of the replies, one after another
abbrev pub TalkRuns : {M : Type 0} → OnCluster M → TalkState → List (List ℕ) → List TalkReply → TalkState → Type 0
TalkRuns on old [] [] new = new ≡ old
TalkRuns on old (line ∷ lines) (said ∷ others) new = (mid : TalkState) × TalkStep on old line said mid × TalkRuns on mid lines others new
TalkRuns on old [] (said ∷ others) new = ⊥
TalkRuns on old (line ∷ lines) [] new = ⊥

-- what a connection has still to give, and what it took, where they are known
pub record Wire : Type 0 where
  pub left : Option (List ℕ)
  pub written : Option (List ℕ)

-- a connection that has this left, and took this
abbrev pub wire : Option (List ℕ) → Option (List ℕ) → Wire
wire left written = record { left = left; written = written }

-- some lines came out of the connection, each has its reply, and the replies' lines were written
pub record Talked {M : Type 0} (on : OnCluster M) (old new : TalkState) (before after : Wire) : Type 0 where
  pub lines : List (List ℕ)
  pub said : List TalkReply
  pub read : GivesLines before.left after.left lines
  pub run : TalkRuns on old lines said new
  pub written : Appends before.written after.written (talk_lines_of on.making.settings said)

-- all lines of the connection came out of it, each has its reply, and the replies' lines were written
pub record TalkedAll {M : Type 0} (on : OnCluster M) (old new : TalkState) (before : Wire) (after : Option (List ℕ)) : Type 0 where
  pub rest : Option (List ℕ)
  pub end : IsAtEnd rest
  pub talked : Talked on old new before (wire rest after)

-- some first lines of the connection came out of it and have their replies, of whose lines a front was written
pub record TalkedInPart {M : Type 0} (on : OnCluster M) (old new : TalkState) (before : Wire) (after : Option (List ℕ)) : Type 0 where
  pub rest : Option (List ℕ)
  pub lines : List (List ℕ)
  pub said : List TalkReply
  pub read : GivesLines before.left rest lines
  pub run : TalkRuns on old lines said new
  pub written : AppendsPart before.written after (talk_lines_of on.making.settings said)

-- ---- a whole connection, which has no session at first

-- all of it
abbrev pub TalksWhole : {M : Type 0} → OnCluster M → Calling → Calling → Wire → Option (List ℕ) → Type 0
TalksWhole on old new before after = (opened : Bool) × TalkedAll on (talk_state false old) (talk_state opened new) before after

-- a part of it
abbrev pub TalksInPart : {M : Type 0} → OnCluster M → Calling → Calling → Wire → Option (List ℕ) → Type 0
TalksInPart on old new before after = (opened : Bool) × TalkedInPart on (talk_state false old) (talk_state opened new) before after

-- the statuses that a connection may end with
abbrev pub IsTalkStatus : ℕ → Type 0
IsTalkStatus code = Contains (0 ∷ 4 ∷ 5 ∷ 7 ∷ 9 ∷ []) code
