use Rattle.std.proofs.Common.{◌∙◌, ap, subst, sym}
use Rattle.graph_model.specs.Edges.{Without, insert_edge}
use Rattle.list_index.proofs.KeyLemmas.{put_at_keys, at_keys_again, at_keys_values}
use Rattle.list_index.proofs.edges.EdgesInOrder.insert.Goals as goal

pub invariant_of-self-2 : goal.invariant_of-self-2
invariant_of-self-2 c =
    at_keys_again c.insert.new.self _
    (put_at_keys c.self.inside.edges c.insert.new.self c.args.edge c.of.result c.self.invariant c.of.ensures
    (subst (Without c.args.edge.id2) (sym c.self.view_is) c.requires) c.in_ok-insert.ensures.entries)

pub returns : goal.returns
returns c =
    at_keys_values c.insert.new.self _
    (put_at_keys c.self.inside.edges c.insert.new.self c.args.edge c.of.result c.self.invariant c.of.ensures
    (subst (Without c.args.edge.id2) (sym c.self.view_is) c.requires) c.in_ok-insert.ensures.entries)
    ∙ ap (insert_edge c.args.edge) c.self.view_is
