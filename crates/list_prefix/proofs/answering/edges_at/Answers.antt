use Rattle.std.proofs.Common.{◌≡◌, ◌∙◌, IfOk, ap, drop, map, subst, sym, take}
use Rattle.std.proofs.lemmas.List.{drop-map, take-map}
use Rattle.list_prefix.proofs.answering.edges_at.Goals as goal

pub returns : goal.returns
returns g c =
    let edge = g.E.AsEdge.edge in
    let part = sym (ap (take c.args.most) (drop-map edge c.args.pos c.args.edges.now) ∙ take-map edge c.args.most (drop c.args.pos c.args.edges.now)) in
    subst (λ given. IfOk c.copies_of.result (λ copies. copies ≡ given)) (ap (map edge) c.part.ensures ∙ part) c.copies_of.ensures
