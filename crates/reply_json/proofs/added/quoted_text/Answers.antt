use Rattle.std.proofs.Common.{◌∙◌}
use Rattle.serde_json.specs.Data.{string}
use Rattle.reply_json.proofs.TextOf.{text_of}
use Rattle.reply_json.specs.Writing.{tokens_of}
use Rattle.reply_json.proofs.added.quoted_text.Goals as goal

pub returns : goal.returns
unfolding tokens_of
returns c =
    text_of (string c.args.text.now) c.new-writer.result c.string.new.self _ (c.new-writer.ensures.before ∙ c.new.ensures.items)
    c.new-writer.ensures.tokens c.string.ensures.room.0 c.in_ok-string.ensures.ok c.into_inner.ensures.items
