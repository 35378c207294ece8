use Rattle.std.proofs.Common.{◌≡◌, ◌∙◌, ◌++◌, ◌∷◌, [], ap, map, sym, take}
use Rattle.std.proofs.lemmas.List.{map_more, take_all}
use Rattle.std.proofs.lemmas.List.Elements.{filter-append}
use Rattle.std.specs.Prelude.{filter}
use Rattle.list_prefix.specs.Spans.{is_wanted}
use Rattle.list_prefix.proofs.Verdicts.{got_is}
use Rattle.list_prefix.proofs.answering.get.Goals as goal

pub loop-item-preserved : goal.loop-item-preserved
loop-item-preserved g c =
    let edge = g.E.AsEdge.edge in
    let wanted = filter (is_wanted c.args.ids.now c.args.low c.args.high) in
    let before = map edge (take c.loop-item.item-index c.args.edges.now) in
    c.in_ok-push_wanted.ensures
    ∙ ap (λ given. given ++ wanted (c.as_edge.result.now ∷ [])) c.loop-item.invariant
    ∙ ap (λ e. wanted before ++ wanted (e ∷ [])) (c.as_edge.ensures ∙ ap edge c.item-item.is)
    ∙ sym (ap wanted (map_more edge c.args.edges.now c.loop-item.item-index c.item-item.result c.loop-item-test.true) ∙ filter-append _ before (edge _ ∷ []))

pub returns : goal.returns
returns g c =
    let edge = g.E.AsEdge.edge in
    let wanted = filter (is_wanted c.args.ids.now c.args.low c.args.high) in
    let all : take c.loop-item.item-index c.args.edges.now ≡ c.args.edges.now = take_all c.loop-item.item-index c.args.edges.now c.loop-item-test.false in
    c.of.ensures ∙ c.loop-item.invariant ∙ ap (λ items. wanted (map edge items)) all ∙ got_is c.args.ids.now c.args.low c.args.high (map edge c.args.edges.now)
