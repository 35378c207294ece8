use Rattle.json.specs.Written.{PlainBetween}
use Rattle.reply_json.proofs.added.all_plain.Given as goal

-- no byte so far is one that JSON escapes
abbrev pub invariant-loop-byte : goal.invariant-loop-byte
invariant-loop-byte l = PlainBetween l.text 0 l.byte-index
