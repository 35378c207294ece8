use Rattle.std.proofs.Common.{[], ◌≡◌, ◌∷◌, ◌∙◌, ap, subst, sym}
use Rattle.graph_model.specs.Edges.{edges_to}
use Rattle.list_index.specs.AtKeys.{times_to}
use Rattle.list_index.proofs.KeyLemmas.{got_at_keys}
use Rattle.list_index.proofs.edges.EdgesInOrder.get.Goals as goal

pub returns : goal.returns
returns c =
    got_at_keys c.self.inside.edges c.args.time c.args.id2 c.at.result _ c.self.invariant c.at.ensures.time c.at.ensures.id2
    (subst (λ edges. times_to c.args.id2 edges ≡ c.args.time ∷ []) (sym c.self.view_is) c.requires) c.get.ensures.value
    ∙ ap (edges_to c.args.id2) c.self.view_is
