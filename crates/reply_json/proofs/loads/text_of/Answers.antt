use Rattle.std.proofs.Common.{◌∙◌, map, subst, sym}
use Rattle.reply_json.proofs.TextOf.{text_of, one_line}
use Rattle.reply_json.specs.Json.{fields}
use Rattle.reply_json.specs.OneLine.{IsOneLine}
use Rattle.reply_json.specs.Said.{said_value}
use Rattle.reply_json.proofs.loads.text_of.Goals as goal

pub returns : goal.returns
returns c =
    let d = fields (map (λ m. (m.0.now, said_value m.1)) c.args.members.now) in
    let old = c.new-out.result in
    let new = c.put_members.new.out in
    let nothing = c.new-out.ensures.before ∙ c.new.ensures.items in
    let tokens = c.in_ok-put_members.ensures.tokens in
    record {
      text = c.of.ensures ∙ text_of d old new _ nothing c.new-out.ensures.tokens c.put_members.ensures.before tokens c.into_inner.ensures.items;
      one_line = subst IsOneLine (sym c.of.ensures) (one_line d old new _ nothing c.new-out.ensures.tokens c.put_members.ensures.before tokens
          c.into_inner.ensures.items);
    }
