-- The lines that a connection is written.
use Rattle.std.specs.Prelude.{ℕ, List, [], ◌∷◌, ◌++◌}
use Rattle.std.specs.List.{flat_map}
use Rattle.cluster_talks.specs.declared.reply.TalkReply.{TalkReply}
use Rattle.cluster_talks.specs.declared.reply.TalkReply.TheVariants.{Batch, One}
use Rattle.replies.specs.declared.refusals.LineRefused.TheVariants.{BadLine}
use Rattle.replies.specs.declared.refusals.Refusal.TheVariants.{Line}
use Rattle.replies.specs.declared.reply.Reply.TheVariants.{Refused}
use Rattle.reply_json.specs.Reply.{reply_text}
use Rattle.talk_lines.specs.BatchText.{batch_text}
use Rattle.topology.specs.Config.{Settings}

-- the text of what a line is replied
abbrev pub talk_text : Settings → TalkReply → List ℕ
talk_text s (One reply) = reply_text s reply
talk_text s (Batch replies) = batch_text s replies

-- its line: the text and a line feed
abbrev pub talk_line : Settings → TalkReply → List ℕ
talk_line s said = talk_text s said ++ 10 ∷ []

-- the lines of what some lines are replied, one after another
abbrev pub talk_lines_of : Settings → List TalkReply → List ℕ
talk_lines_of s said = flat_map (talk_line s) said

-- what a line is replied that is too long
abbrev pub too_long_reply : TalkReply
too_long_reply = One (Refused (Line (BadLine [])))

-- its line
abbrev pub too_long_line : Settings → List ℕ
too_long_line s = talk_line s too_long_reply
