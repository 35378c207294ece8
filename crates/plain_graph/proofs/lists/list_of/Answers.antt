use Rattle.std.proofs.Common.{◌≡◌, ◌∙◌, ap, arith, length, subst, take, IfOk}
use Rattle.std.proofs.lemmas.List.{take_all}
use Rattle.plain_graph.proofs.lists.list_of.Goals as goal

pub returns : goal.returns
returns c =
    let edges = c.in_ok-table.table.edges in
    let whole = ap (λ n. take n edges) c.count.ensures ∙ take_all (length edges) edges (omega arith) ∙ c.in_ok-table.ensures in
    subst (λ given. IfOk c.stretch.result (λ all. all ≡ given)) whole c.stretch.ensures
