use Rattle.std.proofs.Common.{◌≡◌, ◌++◌, ◌∷◌, drop, map, false}
use Rattle.serde_json.specs.Written.{members_text}
use Rattle.reply_json.specs.Json.{members, text}
use Rattle.reply_json.proofs.added.add_pairs.Given as goal

-- with the pairs that are left, what is written comes to the whole object
abbrev pub invariant-loop-pair : goal.invariant-loop-pair
invariant-loop-pair l = record {
  all : l.pair-items ≡ l.payload;
  written : l.out.items ++ members_text l.later (members (map (λ p. (p.key, text p.value)) (drop l.pair-index l.pair-items))) ≡ l.fn.out.items ++
      123 ∷ members_text false (members (map (λ p. (p.key, text p.value)) l.payload));
}
