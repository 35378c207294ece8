use Rattle.std.proofs.Common.{◌∙◌, sym}
use Rattle.core_model.specs.Pens.{pens_of}
use Rattle.core_nodes.specs.Dues.{log_ends}
use Rattle.core_nodes.specs.Settling.{is_turn}
use Rattle.core_nodes.proofs.CachesLemmas.{turn_caught, turn_goes, turn_none, turn_region, turn_same}
use Rattle.core_nodes.proofs.DueNodes.{misses_turn, takes_turn}
use Rattle.core_nodes.proofs.catching.Turn.catch_up_turn.Goals as goal

pub returns-then-not-is_turn-clause-goes : goal.returns-then-not-is_turn-clause-goes
returns-then-not-is_turn-clause-goes g c =
    turn_same g.C.Cache.node g.C.Cache.refills g.K.Keeper.TELLS c.args.self.now.config.now (g.K.Keeper.state c.args.keepers.now).told (pens_of
    c.args.stores.now)
    (is_turn c.args.self.now.topology.now c.args.self.now.region c.args.cache.now.name) c.args.cache.now c.requires.may

pub returns-then-not-is_turn-clause-caught : goal.returns-then-not-is_turn-clause-caught
returns-then-not-is_turn-clause-caught g c told =
    turn_none g.C.Cache.node c.args.self.now.config.now (g.K.Keeper.state c.args.keepers.now).told
    (is_turn c.args.self.now.topology.now c.args.self.now.region c.args.cache.now.name) c.args.cache.now (sym c.is_turn.ensures ∙ c.if-not-is_turn.true)

pub catch_up_node-requires-clause-region : goal.catch_up_node-requires-clause-region
catch_up_node-requires-clause-region g c =
    turn_region c.args.self.now.topology.now c.args.self.now.region c.args.cache.now.name (sym c.is_turn.ensures ∙ c.if-not-is_turn.false)

pub returns-clause-goes : goal.returns-clause-goes
returns-clause-goes g c =
    turn_goes g.C.Cache.node g.C.Cache.refills g.K.Keeper.TELLS c.args.self.now.config.now (g.K.Keeper.state c.args.keepers.now).told (pens_of
    c.args.stores.now)
    (is_turn c.args.self.now.topology.now c.args.self.now.region c.args.cache.now.name) c.args.cache.now c.catch_up_node.new.cache
    (sym c.is_turn.ensures ∙ c.if-not-is_turn.false) c.catch_up_node.ensures.goes

pub returns-clause-caught : goal.returns-clause-caught
returns-clause-caught g c told =
    turn_caught g.C.Cache.node c.args.self.now.config.now (g.K.Keeper.state c.args.keepers.now).told c.args.self.now.topology.now
    c.args.self.now.region c.args.cache.now
    c.catch_up_node.new.cache c.catch_up_node.result (sym c.is_turn.ensures ∙ c.if-not-is_turn.false) (c.catch_up_node.ensures.caught told)

pub returns-then-not-is_turn-clause-meets : goal.returns-then-not-is_turn-clause-meets
returns-then-not-is_turn-clause-meets g c =
    misses_turn g.C.Cache.node (log_ends g.K.Keeper.TELLS c.args.self.now.config.now c.args.self.now.lengths.now)
    (is_turn c.args.self.now.topology.now c.args.self.now.region) c.args.cache.now tt (g.L.Link.shown c.args.link.now)
    (sym c.is_turn.ensures ∙ c.if-not-is_turn.true)

pub returns-clause-meets : goal.returns-clause-meets
returns-clause-meets g c =
    takes_turn g.C.Cache.node (log_ends g.K.Keeper.TELLS c.args.self.now.config.now c.args.self.now.lengths.now)
    (is_turn c.args.self.now.topology.now c.args.self.now.region) c.args.cache.now c.catch_up_node.new.cache c.catch_up_node.result
    (g.L.Link.shown c.args.link.now) (g.L.Link.shown c.catch_up_node.new.link) (sym c.is_turn.ensures ∙ c.if-not-is_turn.false)
    c.catch_up_node.ensures.meets
