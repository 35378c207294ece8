use Rattle.std.proofs.Common.{[], ◌≡◌, ◌∷◌, ◌∙◌, ap, subst, sym}
use Rattle.graph_model.specs.Edges.{without_edge}
use Rattle.list_index.specs.AtKeys.{times_to}
use Rattle.list_index.proofs.KeyLemmas.{taken_at_keys, at_keys_again, at_keys_values}
use Rattle.list_index.proofs.edges.EdgesInOrder.remove.Goals as goal

pub invariant_of-self : goal.invariant_of-self
invariant_of-self c =
    at_keys_again c.remove.new.self _
    (taken_at_keys c.self.inside.edges c.remove.new.self c.args.time c.args.id2 c.at.result c.self.invariant c.at.ensures.time c.at.ensures.id2
    (subst (λ edges. times_to c.args.id2 edges ≡ c.args.time ∷ []) (sym c.self.view_is) c.requires) c.remove.ensures.entries)

pub returns : goal.returns
returns c =
    at_keys_values c.remove.new.self _
    (taken_at_keys c.self.inside.edges c.remove.new.self c.args.time c.args.id2 c.at.result c.self.invariant c.at.ensures.time c.at.ensures.id2
    (subst (λ edges. times_to c.args.id2 edges ≡ c.args.time ∷ []) (sym c.self.view_is) c.requires) c.remove.ensures.entries)
    ∙ ap (without_edge c.args.id2) c.self.view_is
