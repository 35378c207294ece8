use Rattle.std.proofs.Common.{◌≡◌, ◌++◌, drop, map, option_map}
use Rattle.json_fields.specs.View.{members_view}
use Rattle.tao_base.specs.Data.{pair_of}
use Rattle.request_json.specs.Data.{pairs_of}
use Rattle.request_json.proofs.fields.pairs_of.Given as goal

-- what is left adds its pairs to those that were taken
abbrev pub invariant-loop-member : goal.invariant-loop-member
invariant-loop-member l = option_map (λ others. map pair_of l.pairs.items ++ others) (pairs_of (members_view (drop l.member-index l.members))) ≡ pairs_of
    (members_view l.members)
