use Rattle.std.proofs.Common.{◌≡◌, ◌++◌, ◌∷◌, drop, map}
use Rattle.json.specs.Token.{begin_array}
use Rattle.json.specs.Tree.{items_tokens}
use Rattle.serde_json.specs.View.{items_of}
use Rattle.serde_json.specs.Written.{items_outline}
use Rattle.reply_json.proofs.spelled.put_items.Given as goal

-- with the items that are left, what is written comes to the whole array
abbrev pub invariant-loop-item : goal.invariant-loop-item
invariant-loop-item g l = record {
  before : l.out.before ≡ l.fn.out.before;
  tokens : l.out.tokens ++ items_tokens (items_outline (items_of (map g.T.Spelled.value (drop l.item-index l.items)))) ≡ l.fn.out.tokens ++ begin_array ∷
      items_tokens (items_outline (items_of (map g.T.Spelled.value l.items)));
}
