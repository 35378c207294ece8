use Rattle.std.proofs.Common.{map}
use Rattle.json_fields.specs.View.{members_view}
use Rattle.json_fields.proofs.Strange.{none_lent}
use Rattle.json_fields.proofs.fields.are_named.Goals as goal

pub returns : goal.returns
returns c = none_lent (map (λ n. n.now) c.args.names.now) (members_view c.args.members.now) _ _ c.first_strange.ensures c.is_none.ensures
