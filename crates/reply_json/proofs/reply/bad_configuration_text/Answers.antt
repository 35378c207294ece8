use Rattle.std.proofs.Common.{◌∙◌, subst, sym}
use Rattle.reply_json.proofs.TextOf.{text_of, one_line}
use Rattle.reply_json.specs.OneLine.{IsOneLine}
use Rattle.reply_json.specs.Reply.{bad_configuration_data}
use Rattle.reply_json.proofs.reply.bad_configuration_text.Goals as goal

pub returns : goal.returns
returns c =
    let d = bad_configuration_data c.args.field.now in
    let old = c.new-out.result in
    let new = c.put_bad_configuration.new.out in
    let nothing = c.new-out.ensures.before ∙ c.new.ensures.items in
    let tokens = c.in_ok-put_bad_configuration.ensures.tokens in
    record {
      text = λ s. c.of.ensures ∙ text_of d old new _ nothing c.new-out.ensures.tokens c.put_bad_configuration.ensures.before tokens c.into_inner.ensures.items;
      one_line = subst IsOneLine (sym c.of.ensures) (one_line d old new _ nothing c.new-out.ensures.tokens c.put_bad_configuration.ensures.before tokens
          c.into_inner.ensures.items);
    }
