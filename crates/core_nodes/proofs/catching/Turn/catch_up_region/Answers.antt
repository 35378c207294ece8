use Rattle.std.proofs.Common.{Err, subst, sym}
use Rattle.std.proofs.lemmas.Result.{err_from_is_err_and}
use Rattle.core_model.specs.Pens.{pens_of}
use Rattle.node_stages.specs.Caches.{follower_node, follower_refills}
use Rattle.core_nodes.specs.Dues.{all_caches, dues_in_region, log_ends}
use Rattle.core_nodes.specs.Settling.{is_turn}
use Rattle.core_nodes.proofs.CachesLemmas.{none_goes}
use Rattle.core_nodes.proofs.CatchSteps.{caches_now, lengths_now, on_then, stores_now}
use Rattle.core_nodes.proofs.DueLists.{CachesMeet, stops_at_leaders, then_followers}
use Rattle.core_nodes.proofs.catching.Turn.catch_up_region.Goals as goal

pub returns-in_err-catch_up_all-clause-followers : goal.returns-in_err-catch_up_all-clause-followers
returns-in_err-catch_up_all-clause-followers g c =
    none_goes follower_node follower_refills g.K.Keeper.TELLS c.args.self.now.config.now (g.K.Keeper.state c.args.keepers.now).told (pens_of c.args.stores.now)
    (is_turn c.args.self.now.topology.now c.args.self.now.region) c.args.followers.now c.requires.followers

pub catch_up_all-requires-2 : goal.catch_up_all-requires-2
catch_up_all-requires-2 g c =
    let tells = g.K.Keeper.TELLS in
    let s = c.args.self.now.config.now in
    let state = g.K.Keeper.state in
    let before = (state c.args.keepers.now).told in
    let now = (state c.catch_up_all.new.keepers).told in
    let done = c.in_ok-catch_up_all.ensures in
    record {
      stores = stores_now tells s before now c.args.stores.now c.catch_up_all.new.stores done.same done.reads.tables c.requires.stores;
      caches =
          caches_now tells s before now c.args.stores.now c.catch_up_all.new.stores done.same done.reads.tables follower_node follower_refills
          c.args.followers.now c.requires.followers;
      here = c.requires.here;
      lengths =
          lengths_now tells s before now c.args.stores.now c.catch_up_all.new.stores done.same done.reads.tables c.args.self.now.lengths.now c.requires.lengths;
    }

pub returns-in_err-catch_up_all-clause-meets : goal.returns-in_err-catch_up_all-clause-meets
returns-in_err-catch_up_all-clause-meets g c =
    let shown = g.L.Link.shown in
    let ends = log_ends g.K.Keeper.TELLS c.args.self.now.config.now c.args.self.now.lengths.now in
    let states = c.args.self.now.topology.now in
    let region = c.args.self.now.region in
    let failed = c.in_err-catch_up_all in
    let new = c.catch_up_all.new in
    let fs = c.args.followers.now in
    let stop = stops_at_leaders ends states region c.args.leaders.now new.caches fs failed.field-0.0 (shown c.args.link.now) (shown new.link)
    failed.ensures.meets in
    let p = err_from_is_err_and c.from_residual.result c.from_residual.ensures.1 in
    rw p.1 (subst (λ e. CachesMeet ends.tells (dues_in_region ends states region) (all_caches c.args.leaders.now fs) (all_caches new.caches fs) (Err e)
    (shown c.args.link.now) (shown new.link)) (sym p.2) stop)

pub returns-clause-meets : goal.returns-clause-meets
returns-clause-meets g c =
    let shown = g.L.Link.shown in
    then_followers (log_ends g.K.Keeper.TELLS c.args.self.now.config.now c.args.self.now.lengths.now) c.args.self.now.topology.now
    c.args.self.now.region c.args.leaders.now c.catch_up_all.new.caches c.args.followers.now c.catch_up_all-2.new.caches tt c.catch_up_all-2.result
    (shown c.args.link.now) (shown c.catch_up_all.new.link) (shown c.catch_up_all-2.new.link) c.in_ok-catch_up_all.ensures.meets
    c.catch_up_all-2.ensures.meets

pub returns-clause-followers : goal.returns-clause-followers
returns-clause-followers g c =
    let state = g.K.Keeper.state in
    let done = c.in_ok-catch_up_all.ensures in
    on_then g.K.Keeper.TELLS c.args.self.now.config.now (state c.args.keepers.now).told (state c.catch_up_all.new.keepers).told c.args.stores.now
    c.catch_up_all.new.stores done.same done.reads.tables follower_node follower_refills
    (is_turn c.args.self.now.topology.now c.args.self.now.region) c.args.followers.now c.catch_up_all-2.new.caches c.catch_up_all-2.ensures.on
