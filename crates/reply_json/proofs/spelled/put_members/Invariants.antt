use Rattle.std.proofs.Common.{◌≡◌, ◌++◌, ◌∷◌, drop, map}
use Rattle.json.specs.Token.{begin_object}
use Rattle.json.specs.Tree.{members_tokens}
use Rattle.serde_json.specs.Written.{members_outline}
use Rattle.reply_json.specs.Json.{members}
use Rattle.reply_json.proofs.spelled.put_members.Given as goal

-- with the members that are left, what is written comes to the whole object
abbrev pub invariant-loop-name : goal.invariant-loop-name
invariant-loop-name g l = record {
  before : l.out.before ≡ l.fn.out.before;
  tokens : l.out.tokens ++ members_tokens (members_outline (members (map (λ m. (m.0.now, g.T.Spelled.value m.1)) (drop l.name-index l.members)))) ≡
      l.fn.out.tokens ++ begin_object ∷ members_tokens (members_outline (members (map (λ m. (m.0.now, g.T.Spelled.value m.1)) l.members)));
}
