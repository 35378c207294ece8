use Rattle.std.proofs.Common.{◌≡◌, ◌++◌, ◌∷◌, drop, map}
use Rattle.json.specs.Token.{begin_object}
use Rattle.json.specs.Tree.{members_tokens}
use Rattle.serde_json.specs.Written.{members_outline}
use Rattle.reply_json.specs.Json.{members, text}
use Rattle.reply_json.proofs.values.put_pairs.Given as goal

-- with the pairs that are left, what is written comes to the whole object
abbrev pub invariant-loop-pair : goal.invariant-loop-pair
invariant-loop-pair l = record {
  all : l.pair-items ≡ l.payload;
  before : l.out.before ≡ l.fn.out.before;
  tokens : l.out.tokens ++ members_tokens (members_outline (members (map (λ p. (p.key, text p.value)) (drop l.pair-index l.pair-items)))) ≡ l.fn.out.tokens ++
      begin_object ∷ members_tokens (members_outline (members (map (λ p. (p.key, text p.value)) l.payload)));
}
