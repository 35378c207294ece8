use Rattle.std.proofs.Common.{Some, None, ap, subst}
use Rattle.std.specs.Prelude.{option_copied}
use Rattle.core_model.specs.Fleet.{IsNodeOfName}
use Rattle.core_nodes.proofs.shown.marked_at.Goals as goal

pub returns-in_err-find_node : goal.returns-in_err-find_node
returns-in_err-find_node g c = record {
  cache = None;
  is = subst (λ o. IsNodeOfName c.args.name c.args.caches.now (option_copied o)) c.in_err-find_node.was c.find_node.ensures;
  found_is = c.from_residual.ensures;
}

pub returns : goal.returns
returns g c = record {
  cache = Some c.in_ok-find_node.field-0.now;
  is = subst (λ o. IsNodeOfName c.args.name c.args.caches.now (option_copied o)) c.in_ok-find_node.was c.find_node.ensures;
  found_is = ap Some c.mark.ensures.value;
}
