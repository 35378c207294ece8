use Rattle.std.proofs.Common.{◌≡◌, ◌∙◌, ap, subst, sym}
use Rattle.reply_json.proofs.KeptReads.{read_spelled}
use Rattle.reply_json.proofs.OneLine.{text_free}
use Rattle.reply_json.specs.OneLine.{IsOneLine}
use Rattle.reply_json.specs.Reply.{data_of, reply_text}
use Rattle.reply_json.proofs.reply.reply_text.Goals as goal

pub returns-in_ok-kept_text-in-Some : goal.returns-in_ok-kept_text-in-Some
returns-in_ok-kept_text-in-Some c =
    let s = c.args.config.now in
    let same : c.of.result ≡ reply_text s c.args.reply.now =
    c.of.ensures ∙ c.in_ok-kept_text-in-Some.ensures ∙ read_spelled s c.in-Some.read.now c.in-Some.ensures.1
    ∙ ap (reply_text s) (sym c.in-Some.ensures.0) in
    record { text = same; one_line = subst IsOneLine (sym same) (text_free (data_of s c.args.reply.now)) }
