use Rattle.std.proofs.Common.{Some, None, subst}
use Rattle.std.specs.Prelude.{option_copied}
use Rattle.core_model.specs.Fleet.{IsNodeOfName}
use Rattle.locked_nodes.proofs.Inboxes.{part_found}
use Rattle.locked_nodes.proofs.nodes.inbox_in.Goals as goal

pub returns-in-Some : goal.returns-in-Some
returns-in-Some g c =
    part_found c.args.name c.args.nodes.now (Some c.in-Some.tiered.now) (λ t. t.inbox)
    (subst (λ r. IsNodeOfName c.args.name c.args.nodes.now (option_copied r)) c.in-Some.is c.find_node.ensures)

pub returns-in-None : goal.returns-in-None
returns-in-None g c =
    part_found c.args.name c.args.nodes.now None (λ t. t.inbox)
    (subst (λ r. IsNodeOfName c.args.name c.args.nodes.now (option_copied r)) c.in-None.is c.find_node.ensures)
