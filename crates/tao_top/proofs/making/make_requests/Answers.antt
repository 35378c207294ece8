use Rattle.std.proofs.Common.{OnErr, refl, subst}
use Rattle.core_nodes.specs.Outside.{outside}
use Rattle.first_line.specs.Interrupts.{AppendsPart}
use Rattle.tao_top.proofs.GoingOn.{still_refl}
use Rattle.tao_top.proofs.MakingLemmas.{made_all_of, made_part_none}
use Rattle.tao_top.proofs.OneLine.{OnErr-any}
use Rattle.tao_top.specs.Making.{MadeInPart, Workload, way_of}
use Rattle.tao_top.specs.Served.{serves}
use Rattle.tao_top.proofs.making.make_requests.Goals as goal

pub returns-in_err-making-clause-err : goal.returns-in_err-making-clause-err
returns-in_err-making-clause-err g c =
    let before = outside (g.K.Keeper.state c.args.keepers.now) (g.L.Link.shown c.args.link.now) in
    OnErr-any _ _ (made_part_none g.K.Keeper.TELLS (serves c.args.serving.now before) before _ _
    (still_refl g.K.Keeper.TELLS before (serves c.args.serving.now before) refl))

pub returns-clause-ok : goal.returns-clause-ok
returns-clause-ok g c =
    made_all_of g.K.Keeper.TELLS c.make_all-made.result _ _ (way_of c.in_ok-making.making) (way_of c.make_all-made.new.self) _ _ _
    c.in_ok-making.ensures.made c.make_all-made.ensures.ok c.make_all-made.ensures.end

pub returns-clause-err : goal.returns-clause-err
returns-clause-err g c =
    let before = outside (g.K.Keeper.state c.args.keepers.now) (g.L.Link.shown c.args.link.now) in
    let after = outside (g.K.Keeper.state c.make_all-made.new.keepers) (g.L.Link.shown c.make_all-made.new.link) in
    subst (λ (w : Workload). OnErr c.make_all-made.result (MadeInPart g.K.Keeper.TELLS (serves c.args.serving.now before) after w
    (AppendsPart (g.S.Sink.taken c.args.output.now) (g.S.Sink.taken c.make_all-made.new.output))))
    c.in_ok-making.ensures.made c.make_all-made.ensures.err
