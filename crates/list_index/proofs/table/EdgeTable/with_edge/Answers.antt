use Rattle.std.proofs.Common.{◌∙◌, ◌≡◌, subst, sym}
use Rattle.graph_model.proofs.Lists.{without_none}
use Rattle.graph_model.specs.Edges.{Without, insert_edge, without_edge}
use Rattle.tao_base.specs.declared.edge.Edge.{Edge}
use Rattle.tao_base.specs.declared.entry.Change.TheVariants.{SetEdge}
use Rattle.list_index.specs.ListState.{ListIsAfter, StandAsListed}
use Rattle.list_index.proofs.StandingLemmas.{set_after, set_listed}
use Rattle.list_index.proofs.table.EdgeTable.with_edge.Goals as goal

pub insert-requires : goal.insert-requires
insert-requires c =
    subst (λ (e : Edge). Without e.id2 c.cut.new.edges) (sym c.in_ok-copy.ensures)
    (subst (Without c.args.edge.now.id2) (sym c.cut.ensures) (without_none c.args.edge.now.id2 c.self.inside.edges))

pub invariant_of-result : goal.invariant_of-result
invariant_of-result c =
    let is : c.insert.new.self ≡ insert_edge c.args.edge.now (without_edge c.args.edge.now.id2 c.self.inside.edges) =
    c.in_ok-insert.ensures ∙ (λ i. insert_edge (c.in_ok-copy.ensures i) (c.cut.ensures i)) in
    subst (λ es. StandAsListed es c.stand.new.standings.entries) (sym is)
    (set_listed c.args.edge.now c.self.inside.edges c.self.inside.standings.entries c.stand.new.standings.entries c.self.invariant c.in_ok-stand.ensures)

pub returns : goal.returns
returns c = λ was.
    let is : c.insert.new.self ≡ insert_edge c.args.edge.now (without_edge c.args.edge.now.id2 c.self.inside.edges) =
    c.in_ok-insert.ensures ∙ (λ i. insert_edge (c.in_ok-copy.ensures i) (c.cut.ensures i)) in
    subst (λ old. ListIsAfter (SetEdge c.args.edge.now was) old (record { edges = c.insert.new.self; standings = c.stand.new.standings.entries }))
    c.self.view_is
    (subst (λ es. ListIsAfter (SetEdge c.args.edge.now was) (record { edges = c.self.inside.edges; standings = c.self.inside.standings.entries })
    (record { edges = es; standings = c.stand.new.standings.entries }))
    (sym is)
    (set_after c.args.edge.now was c.self.inside.edges c.self.inside.standings.entries c.stand.new.standings.entries c.in_ok-stand.ensures))
