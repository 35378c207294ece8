use Rattle.std.proofs.Common.{◌∙◌, subst, sym}
use Rattle.reply_json.proofs.TextOf.{text_of, one_line}
use Rattle.reply_json.specs.OneLine.{IsOneLine}
use Rattle.reply_json.specs.Reply.{data_of}
use Rattle.reply_json.proofs.reply.spelled_text.Goals as goal

pub returns : goal.returns
returns c =
    let d = data_of c.args.config.now c.args.reply.now in
    let old = c.new-out.result in
    let new = c.put_reply.new.out in
    let nothing = c.new-out.ensures.before ∙ c.in_ok-with_capacity.ensures.items in
    let tokens = c.in_ok-put_reply.ensures.tokens in
    record {
      text = c.of.ensures ∙ text_of d old new _ nothing c.new-out.ensures.tokens c.put_reply.ensures.before tokens c.into_inner.ensures.items;
      one_line = subst IsOneLine (sym c.of.ensures) (one_line d old new _ nothing c.new-out.ensures.tokens c.put_reply.ensures.before tokens
          c.into_inner.ensures.items);
    }
