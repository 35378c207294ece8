use Rattle.tao_top.proofs.Growing.{call_answers, call_leaves, call_serves_on}
use Rattle.core_nodes.specs.Outside.{outside}
use Rattle.tao_top.proofs.serving.Serving.call.Goals as goal

pub returns-clause-does : goal.returns-clause-does
returns-clause-does g c =
    let state = g.K.Keeper.state in
    let shown = g.L.Link.shown in
    call_answers g.K.Keeper.TELLS c.args.self.now c.self.inside.core c.call.new.self
    (outside (state c.args.keepers.now) (shown c.args.link.now))
    (outside (state c.call.new.keepers) (shown c.call.new.link)) c.self.view_is c.call.ensures.usable.settings
    c.args.request.now c.call.result c.requires.serving.of_core c.call.ensures.does c.call.ensures.usable

pub returns-clause-serving : goal.returns-clause-serving
returns-clause-serving g c =
    let state = g.K.Keeper.state in
    let shown = g.L.Link.shown in
    call_serves_on g.K.Keeper.TELLS c.args.self.now c.self.inside.core c.call.new.self
    (outside (state c.args.keepers.now) (shown c.args.link.now))
    (outside (state c.call.new.keepers) (shown c.call.new.link)) c.self.view_is c.call.ensures.usable.settings
    c.requires.serving c.call.ensures.usable.grows c.call.ensures.usable.keepers

pub returns-clause-tables : goal.returns-clause-tables
returns-clause-tables g c =
    let state = g.K.Keeper.state in
    let shown = g.L.Link.shown in
    call_leaves g.K.Keeper.TELLS c.args.self.now c.self.inside.core c.call.new.self
    (outside (state c.args.keepers.now) (shown c.args.link.now))
    (outside (state c.call.new.keepers) (shown c.call.new.link)) c.self.view_is c.call.ensures.usable.settings
    c.requires.serving c.call.ensures.usable.grows c.call.ensures.usable.keepers
