use Rattle.std.proofs.Common.{◌≡◌, drop, map}
use Rattle.json_fields.specs.Fields.{first_strange}
use Rattle.json_fields.specs.View.{members_view}
use Rattle.json_fields.proofs.fields.first_strange.Given as goal

abbrev pub invariant-loop-member : goal.invariant-loop-member
invariant-loop-member l = first_strange (map (λ n. n.now) l.names) (members_view (drop l.member-index l.members)) ≡ first_strange (map (λ n. n.now) l.names)
    (members_view l.members)
