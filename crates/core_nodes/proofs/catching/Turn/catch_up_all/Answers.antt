use Rattle.std.proofs.Common.{Err, refl, subst, sym, ◌∙◌, arith}
use Rattle.std.proofs.lemmas.Option.{slice_get-get_or}
use Rattle.std.proofs.lemmas.Result.{err_from_is_err_and}
use Rattle.std.specs.Prelude.{slice_index_or, slice_set}
use Rattle.core_model.specs.Pens.{pens_of}
use Rattle.core_nodes.specs.Dues.{log_ends}
use Rattle.core_nodes.specs.Outside.{outside}
use Rattle.core_nodes.specs.Settling.{CatchesInTurn, StopsCatchUp, is_turn}
use Rattle.core_nodes.proofs.CachesLemmas.{all_caught, first_none, one_goes_on, one_more, still_caches}
use Rattle.core_nodes.proofs.CatchLemmas.{so_before}
use Rattle.core_nodes.proofs.CatchSteps.{caches_now, lengths_now, stores_now, turn_then}
use Rattle.core_nodes.proofs.DueLists.{ListMeets, first_met_next, first_met_none, list_met, stops_in_list}
use Rattle.core_nodes.proofs.SettleLemmas.{reads_none, reads_on, stops_later}
use Rattle.core_nodes.proofs.catching.Turn.catch_up_all.Goals as goal

pub loop-cache-init : goal.loop-cache-init
loop-cache-init g c =
    let state = g.K.Keeper.state in
    record {
      first = first_none g.C.Cache.node g.C.Cache.refills g.K.Keeper.TELLS c.args.self.now.config.now (state c.args.keepers.now).told (pens_of
          c.args.stores.now)
          (is_turn c.args.self.now.topology.now c.args.self.now.region) c.args.caches.now c.requires.caches;
      met = first_met_none g.C.Cache.node (log_ends g.K.Keeper.TELLS c.args.self.now.config.now c.args.self.now.lengths.now)
          (is_turn c.args.self.now.topology.now c.args.self.now.region) c.args.caches.now (g.L.Link.shown c.args.link.now);
      same = refl;
      reads = reads_none g.K.Keeper.TELLS (outside (state c.args.keepers.now) (g.L.Link.shown c.args.link.now));
    }

pub catch_up_turn-requires : goal.catch_up_turn-requires
catch_up_turn-requires g c =
    let tells = g.K.Keeper.TELLS in
    let s = c.args.self.now.config.now in
    let was = c.loop-cache.invariant in
    let state = g.K.Keeper.state in
    let before = (state c.args.keepers.now).told in
    let now = (state c.loop-cache.keepers).told in
    let at = slice_get-get_or c.loop-cache.caches c.loop-cache.cache-index c.cache-item.result
    (omega (arith, c.loop-cache-test.true, c.loop-cache.auto.caches)) in
    let cache = slice_index_or c.loop-cache.caches c.loop-cache.cache-index c.cache-item.result in
    let still = still_caches g.C.Cache.node g.C.Cache.refills tells s before (pens_of c.args.stores.now) (is_turn c.args.self.now.topology.now
    c.args.self.now.region)
    c.args.caches.now c.loop-cache.caches was.first.on in
    record {
      stores = stores_now tells s before now c.args.stores.now c.loop-cache.stores was.same was.reads.tables c.requires.stores;
      may =
          caches_now tells s before now c.args.stores.now c.loop-cache.stores was.same was.reads.tables g.C.Cache.node g.C.Cache.refills c.loop-cache.caches
          still c.loop-cache.cache-index cache at;
      here = c.requires.here;
      lengths =
          lengths_now tells s before now c.args.stores.now c.loop-cache.stores was.same was.reads.tables c.args.self.now.lengths.now c.requires.lengths;
    }

pub loop-cache-preserved : goal.loop-cache-preserved
loop-cache-preserved g c =
    let tells = g.K.Keeper.TELLS in
    let s = c.args.self.now.config.now in
    let was = c.loop-cache.invariant in
    let state = g.K.Keeper.state in
    let shown = g.L.Link.shown in
    let done = c.in_ok-catch_up_turn.ensures in
    let before = (state c.args.keepers.now).told in
    let now = (state c.loop-cache.keepers).told in
    let turn = is_turn c.args.self.now.topology.now c.args.self.now.region in
    let at = slice_get-get_or c.loop-cache.caches c.loop-cache.cache-index c.cache-item.result
    (omega (arith, c.loop-cache-test.true, c.loop-cache.auto.caches)) in
    let cache = slice_index_or c.loop-cache.caches c.loop-cache.cache-index c.cache-item.result in
    let goes = turn_then tells s before now c.args.stores.now c.loop-cache.stores was.same was.reads.tables g.C.Cache.node g.C.Cache.refills
    (turn cache.name) cache c.catch_up_turn.new.cache done.goes in
    record {
      first =
          one_more g.C.Cache.node g.C.Cache.refills tells s before (pens_of c.args.stores.now) turn c.loop-cache.cache-index c.args.caches.now
          c.loop-cache.caches cache c.catch_up_turn.new.cache was.first at goes
          (λ told. so_before (λ t. CatchesInTurn g.C.Cache.node s t (turn cache.name) cache c.catch_up_turn.new.cache) before now (was.reads.tables told)
          (done.caught told));
      met = first_met_next g.C.Cache.node (log_ends tells s c.args.self.now.lengths.now) turn c.loop-cache.cache-index c.args.caches.now
          c.loop-cache.caches cache c.catch_up_turn.new.cache (shown c.args.link.now) (shown c.loop-cache.link) (shown c.catch_up_turn.new.link) was.met
          at (was.first.rest c.loop-cache.cache-index cache (omega arith) at) tt done.meets;
      same = done.same ∙ was.same;
      reads =
          reads_on tells (outside (state c.args.keepers.now) (shown c.args.link.now)) (outside (state c.loop-cache.keepers) (shown c.loop-cache.link))
          (outside (state c.catch_up_turn.new.keepers) (shown c.catch_up_turn.new.link)) was.reads done.reads;
    }

pub returns-in_err-catch_up_turn-clause-on : goal.returns-in_err-catch_up_turn-clause-on
returns-in_err-catch_up_turn-clause-on g c =
    let tells = g.K.Keeper.TELLS in
    let s = c.args.self.now.config.now in
    let was = c.loop-cache.invariant in
    let state = g.K.Keeper.state in
    let before = (state c.args.keepers.now).told in
    let turn = is_turn c.args.self.now.topology.now c.args.self.now.region in
    let at = slice_get-get_or c.loop-cache.caches c.loop-cache.cache-index c.cache-item.result
    (omega (arith, c.loop-cache-test.true, c.loop-cache.auto.caches)) in
    let cache = slice_index_or c.loop-cache.caches c.loop-cache.cache-index c.cache-item.result in
    one_goes_on g.C.Cache.node g.C.Cache.refills tells s before (pens_of c.args.stores.now) turn c.loop-cache.cache-index c.args.caches.now
    c.loop-cache.caches cache c.catch_up_turn.new.cache was.first at
    (turn_then tells s before (state c.loop-cache.keepers).told c.args.stores.now c.loop-cache.stores was.same was.reads.tables g.C.Cache.node
    g.C.Cache.refills (turn cache.name) cache c.catch_up_turn.new.cache c.in_err-catch_up_turn.ensures.goes)

pub returns-in_err-catch_up_turn-clause-meets : goal.returns-in_err-catch_up_turn-clause-meets
returns-in_err-catch_up_turn-clause-meets g c =
    let shown = g.L.Link.shown in
    let was = c.loop-cache.invariant in
    let ends = log_ends g.K.Keeper.TELLS c.args.self.now.config.now c.args.self.now.lengths.now in
    let turn = is_turn c.args.self.now.topology.now c.args.self.now.region in
    let at = slice_get-get_or c.loop-cache.caches c.loop-cache.cache-index c.cache-item.result
    (omega (arith, c.loop-cache-test.true, c.loop-cache.auto.caches)) in
    let cache = slice_index_or c.loop-cache.caches c.loop-cache.cache-index c.cache-item.result in
    let failed = c.in_err-catch_up_turn in
    let new = c.catch_up_turn.new in
    let stop = stops_in_list g.C.Cache.node ends turn c.loop-cache.cache-index c.args.caches.now c.loop-cache.caches cache new.cache
    (shown c.args.link.now) (shown c.loop-cache.link) (shown new.link) was.met at
    (was.first.rest c.loop-cache.cache-index cache (omega arith) at) failed.field-0.0 failed.ensures.meets in
    let p = err_from_is_err_and c.from_residual.result c.from_residual.ensures.1 in
    rw p.1 (subst (λ e. ListMeets g.C.Cache.node ends turn c.args.caches.now (slice_set c.loop-cache.caches c.loop-cache.cache-index new.cache) (Err e)
    (shown c.args.link.now) (shown new.link)) (sym p.2) stop)

pub returns-in_err-catch_up_turn-clause-stop : goal.returns-in_err-catch_up_turn-clause-stop
returns-in_err-catch_up_turn-clause-stop g c =
    let state = g.K.Keeper.state in
    let shown = g.L.Link.shown in
    let start = outside (state c.args.keepers.now) (shown c.args.link.now) in
    let new = outside (state c.catch_up_turn.new.keepers) (shown c.catch_up_turn.new.link) in
    let stop = stops_later g.K.Keeper.TELLS c.args.self.now.config.now start (outside (state c.loop-cache.keepers) (shown c.loop-cache.link)) new
    c.in_err-catch_up_turn.field-0.0 c.loop-cache.invariant.reads c.in_err-catch_up_turn.ensures.stop in
    let p = err_from_is_err_and c.from_residual.result c.from_residual.ensures.1 in
    rw p.1 (subst (StopsCatchUp c.args.self.now.config.now start new) (sym p.2) stop)

pub returns-in_err-catch_up_turn-clause-reads : goal.returns-in_err-catch_up_turn-clause-reads
returns-in_err-catch_up_turn-clause-reads g c =
    let state = g.K.Keeper.state in
    let shown = g.L.Link.shown in
    reads_on g.K.Keeper.TELLS (outside (state c.args.keepers.now) (shown c.args.link.now)) (outside (state c.loop-cache.keepers) (shown c.loop-cache.link))
    (outside (state c.catch_up_turn.new.keepers) (shown c.catch_up_turn.new.link)) c.loop-cache.invariant.reads c.in_err-catch_up_turn.ensures.reads

pub returns-clause-meets : goal.returns-clause-meets
returns-clause-meets g c =
    list_met g.C.Cache.node (log_ends g.K.Keeper.TELLS c.args.self.now.config.now c.args.self.now.lengths.now)
    (is_turn c.args.self.now.topology.now c.args.self.now.region) c.loop-cache.cache-index c.args.caches.now c.loop-cache.caches tt
    (g.L.Link.shown c.args.link.now) (g.L.Link.shown c.loop-cache.link) (omega (arith, c.loop-cache-test.false, c.loop-cache.auto.caches))
    (omega (arith, c.loop-cache-test.false, c.loop-cache.auto.caches)) c.loop-cache.invariant.met

pub returns-clause-caught : goal.returns-clause-caught
returns-clause-caught g c =
    all_caught g.C.Cache.node g.C.Cache.refills g.K.Keeper.TELLS c.args.self.now.config.now (g.K.Keeper.state c.args.keepers.now).told (pens_of
    c.args.stores.now)
    (is_turn c.args.self.now.topology.now c.args.self.now.region) c.loop-cache.cache-index c.args.caches.now c.loop-cache.caches c.loop-cache.invariant.first
    (omega (arith, c.loop-cache-test.false, c.loop-cache.auto.caches))
