use Rattle.std.proofs.Common.{◌∙◌, subst, sym}
use Rattle.std.proofs.lemmas.List.{map-id}
use Rattle.tao_base.specs.declared.id.Key.TheVariants.{List as Assocs}
use Rattle.graph_model.proofs.Lists.{in_order_list}
use Rattle.graph_model.specs.Edges.{IsInListOrder}
use Rattle.graph_model.specs.Log.{changes_of}
use Rattle.plain_graph.proofs.answering.of_list.Goals as goal

pub answer_of-requires : goal.answer_of-requires
answer_of-requires c =
    let is = map-id c.as_slice-edges.result.now ∙ c.as_slice-edges.ensures ∙ c.in_ok-list.ensures in
    subst IsInListOrder (sym is) (in_order_list (changes_of c.args.entries.now (Assocs c.args.id1 c.args.atype)))
