use Rattle.std.proofs.Common.{subst, sym}
use Rattle.tao_base.specs.declared.entry.Change.TheVariants.{CutEdge}
use Rattle.list_index.specs.ListState.{ListIsAfter, StandAsListed}
use Rattle.list_index.proofs.StandingLemmas.{cut_after, cut_listed}
use Rattle.list_index.proofs.table.EdgeTable.with_cut.Goals as goal

pub invariant_of-result : goal.invariant_of-result
invariant_of-result c =
    subst (λ es. StandAsListed es c.stand.new.standings.entries) (sym c.cut.ensures)
    (cut_listed c.args.id2 c.args.stamp c.self.inside.edges c.self.inside.standings.entries c.stand.new.standings.entries c.self.invariant
    c.in_ok-stand.ensures)

pub returns : goal.returns
returns c = λ was.
    subst (λ old. ListIsAfter (CutEdge c.args.id2 c.args.stamp was) old (record { edges = c.cut.new.edges; standings = c.stand.new.standings.entries }))
    c.self.view_is
    (subst (λ es. ListIsAfter (CutEdge c.args.id2 c.args.stamp was) (record { edges = c.self.inside.edges; standings = c.self.inside.standings.entries })
    (record { edges = es; standings = c.stand.new.standings.entries }))
    (sym c.cut.ensures)
    (cut_after c.args.id2 c.args.stamp was c.self.inside.edges c.self.inside.standings.entries c.stand.new.standings.entries c.in_ok-stand.ensures))
