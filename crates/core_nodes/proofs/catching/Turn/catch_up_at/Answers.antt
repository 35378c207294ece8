use Rattle.std.proofs.Common.{◌∙◌, ap}
use Rattle.core_model.specs.Pens.{pens_of}
use Rattle.core_nodes.specs.Beginning.{length_at}
use Rattle.core_nodes.specs.Dues.{log_ends}
use Rattle.core_nodes.proofs.CatchLemmas.{caught_same, serves_there}
use Rattle.core_nodes.proofs.CatchSteps.{cache_same, ends_there}
use Rattle.core_nodes.proofs.DueNodes.{due_is, meets_shard, skips_shard}
use Rattle.core_nodes.proofs.catching.Turn.catch_up_at.Goals as goal

pub returns-then-not-lies_behind-clause-goes : goal.returns-then-not-lies_behind-clause-goes
returns-then-not-lies_behind-clause-goes g c =
    cache_same g.C.Cache.node g.C.Cache.refills g.K.Keeper.TELLS c.args.self.now.config.now (g.K.Keeper.state c.args.keepers.now).told
    (pens_of c.args.stores.now) c.args.cache.now c.requires.may

pub returns-then-not-lies_behind-clause-reaches : goal.returns-then-not-lies_behind-clause-reaches
returns-then-not-lies_behind-clause-reaches g c =
    (caught_same g.K.Keeper.TELLS c.args.self.now.config.now (g.K.Keeper.state c.args.keepers.now).told c.args.stores.now c.args.cache.now.name
    c.requires.stores c.args.at c.requires.here c.requires.region (g.C.Cache.node c.args.cache.now.node) c.requires.may c.mark-low.result
    c.length_at-until.result c.mark-low.ensures.value c.mark-low.ensures.marks
    (λ told. c.length_at-until.ensures ∙ ap (length_at c.args.self.now.lengths.now) c.store_place.ensures
    ∙ c.requires.lengths.each c.args.at c.requires.here told)
    c.lies_behind.result c.lies_behind.ensures c.if-not-lies_behind.true).reaches

pub returns-then-not-lies_behind-clause-meets : goal.returns-then-not-lies_behind-clause-meets
returns-then-not-lies_behind-clause-meets g c =
    let ends = log_ends g.K.Keeper.TELLS c.args.self.now.config.now c.args.self.now.lengths.now in
    let cache = c.args.cache.now in
    let due = due_is ends cache.name (g.C.Cache.node cache.node) c.args.at c.mark-low.result c.length_at-until.result c.lies_behind.result
    c.requires.region c.mark-low.ensures.value (c.length_at-until.ensures ∙ ap (length_at c.args.self.now.lengths.now) c.store_place.ensures)
    c.lies_behind.ensures in
    skips_shard g.C.Cache.node ends c.args.at.shard cache tt (g.L.Link.shown c.args.link.now) (due ∙ c.if-not-lies_behind.true)

pub catch_up_behind-requires-clause-serves : goal.catch_up_behind-requires-clause-serves
catch_up_behind-requires-clause-serves g c =
    serves_there c.args.self.now.config.now c.args.cache.now.name c.args.at.shard c.mark-low.result c.length_at-until.result c.lies_behind.result
    c.lies_behind.ensures c.if-not-lies_behind.false

pub returns-clause-meets : goal.returns-clause-meets
returns-clause-meets g c =
    let s = c.args.self.now.config.now in
    let ends = log_ends g.K.Keeper.TELLS s c.args.self.now.lengths.now in
    let cache = c.args.cache.now in
    let done = c.catch_up_behind.ensures in
    let due = due_is ends cache.name (g.C.Cache.node cache.node) c.args.at c.mark-low.result c.length_at-until.result c.lies_behind.result
    c.requires.region c.mark-low.ensures.value (c.length_at-until.ensures ∙ ap (length_at c.args.self.now.lengths.now) c.store_place.ensures)
    c.lies_behind.ensures in
    meets_shard g.C.Cache.node ends c.args.at.shard cache c.catch_up_behind.new.cache c.catch_up_behind.result (g.L.Link.shown c.args.link.now)
    (g.L.Link.shown c.catch_up_behind.new.link) done.goes.name_is (due ∙ c.if-not-lies_behind.false) done.meets done.others done.rests
    (λ told. ends_there g.C.Cache.node g.C.Cache.refills (g.K.Keeper.state c.args.keepers.now).told (pens_of c.args.stores.now) ends c.args.at
    cache c.catch_up_behind.new.cache c.catch_up_behind.result told c.requires.lengths c.requires.here c.requires.region done.goes (done.reaches told))
