use Rattle.std.proofs.Common.{◌≡◌, ◌++◌, drop}
use Rattle.reply_json.specs.OneLine.{IsOneLine}
use Rattle.talk_lines.specs.BatchText.{after_commas}
use Rattle.talk_lines.proofs.text.put_others.Given as goal

-- what is left adds its texts to those that were put
abbrev pub invariant-loop-other : goal.invariant-loop-other
invariant-loop-other l = record {
  text : l.text.items ++ after_commas l.config (drop l.other-index l.others) ≡ l.fn.text.items ++ after_commas l.config l.others;
  one_line : IsOneLine l.fn.text.items → IsOneLine l.text.items;
}
