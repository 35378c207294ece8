-- The text of the reply to a batch.
use Rattle.std.specs.Prelude.{ℕ, List, [], ◌∷◌, ◌++◌, codes}
use Rattle.std.specs.List.{flat_map}
use Rattle.replies.specs.declared.reply.Reply.{Reply}
use Rattle.reply_json.specs.Reply.{reply_text}
use Rattle.topology.specs.Config.{Settings}

-- the text of a reply behind a comma
abbrev pub after_comma : Settings → Reply → List ℕ
after_comma s reply = codes "," ++ reply_text s reply

-- the texts of some replies, each behind a comma
abbrev pub after_commas : Settings → List Reply → List ℕ
after_commas s replies = flat_map (after_comma s) replies

-- the texts of some replies, with a comma between each two
abbrev pub with_commas : Settings → List Reply → List ℕ
with_commas s [] = []
with_commas s (reply ∷ replies) = reply_text s reply ++ after_commas s replies

-- the text of the reply to a batch: the texts of its replies, as a JSON array
abbrev pub batch_text : Settings → List Reply → List ℕ
batch_text s replies = codes "{\"ok\":\"batch\",\"replies\":[" ++ with_commas s replies ++ codes "]}"
