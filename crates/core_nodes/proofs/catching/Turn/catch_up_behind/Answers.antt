use Rattle.std.proofs.Common.{ap, length, subst, sym, ◌∙◌}
use Rattle.std.proofs.lemmas.Result.{IfErr-weaker, err_from_is_err_and, on_err_weaker}
use Rattle.std.specs.Prelude.{slice_index_or}
use Rattle.shard_tables.specs.StoreView.{Store}
use Rattle.tao_base.specs.declared.id.StoreName.{StoreName}
use Rattle.core_model.specs.Pens.{pens_of}
use Rattle.core_nodes.specs.Beginning.{length_at}
use Rattle.core_nodes.specs.Dues.{StopsAtDue, due_at}
use Rattle.core_nodes.specs.Outside.{outside}
use Rattle.core_nodes.specs.Settling.{StopsCatchUp}
use Rattle.core_nodes.proofs.CatchLemmas.{log_there, past_there, touches_there}
use Rattle.core_nodes.proofs.CatchSteps.{cache_same, caught_with}
use Rattle.core_nodes.proofs.SettleLemmas.{carry_stops, carry_stops_here, meets_here, read_stops}
use Rattle.core_nodes.proofs.StoreLemmas.{put_back, read_store}
use Rattle.core_nodes.proofs.catching.Turn.catch_up_behind.Goals as goal

pub process_rest-requires : goal.process_rest-requires
process_rest-requires g c =
    let tells = g.K.Keeper.TELLS in
    let s = c.args.self.now.config.now in
    let tables = (g.K.Keeper.state c.args.keepers.now).told in
    let store : Store = slice_index_or c.args.stores.now c.store_place-place.result c.index-stores-place.result in
    let is = read_store tells s tables c.args.stores.now c.requires.stores c.args.at c.store_place-place.result c.index-stores-place.result
    c.requires.here c.store_place-place.ensures in
    let node = g.C.Cache.node c.args.cache.now.node in
    record {
      log = log_there tells s tables c.args.stores.now c.args.cache.now.name c.requires.stores c.args.at c.requires.here c.requires.region node
          c.requires.may store is c.requires.serves;
      keeper = is.keeper;
      all = λ told. c.length_at-until.ensures ∙ ap (length_at c.args.self.now.lengths.now) c.store_place-place.ensures
          ∙ c.requires.lengths.each c.args.at c.requires.here told ∙ ap (λ (n : StoreName). length (tables n).log) (sym is.found.name_is);
      here = touches_there tells s tables c.args.stores.now c.args.cache.now.name c.requires.stores c.args.at c.requires.here c.requires.region node
          c.requires.may store is c.requires.serves;
      live = past_there tells s tables c.args.stores.now c.args.cache.now.name c.requires.stores c.args.at c.requires.here c.requires.region node
          c.requires.may store is c.requires.serves;
    }

pub returns-in_err-carry_to-clause-goes : goal.returns-in_err-carry_to-clause-goes
returns-in_err-carry_to-clause-goes g c =
    cache_same g.C.Cache.node g.C.Cache.refills g.K.Keeper.TELLS c.args.self.now.config.now (g.K.Keeper.state c.args.keepers.now).told
    (pens_of c.args.stores.now) c.args.cache.now c.requires.may

pub returns-in_err-carry_to-clause-meets : goal.returns-in_err-carry_to-clause-meets
returns-in_err-carry_to-clause-meets g c =
    let old = g.L.Link.shown c.args.link.now in
    let new = g.L.Link.shown c.carry_to.new.link in
    let store : Store = slice_index_or c.args.stores.now c.store_place-place.result c.index-stores-place.result in
    let is = read_store g.K.Keeper.TELLS c.args.self.now.config.now (g.K.Keeper.state c.args.keepers.now).told c.args.stores.now c.requires.stores
    c.args.at c.store_place-place.result c.index-stores-place.result c.requires.here c.store_place-place.ensures in
    let stop = carry_stops_here c.args.at store.name c.args.cache.now.name old new c.in_err-carry_to.field-0.0 c.requires.region is.found.name_is
    c.in_err-carry_to.ensures.stop in
    let p = err_from_is_err_and c.from_residual.result c.from_residual.ensures.1 in
    rw p.1 (subst (λ e. StopsAtDue e (due_at c.args.cache.now.name c.args.at.shard) old new) (sym p.2) stop)

pub returns-in_err-carry_to-clause-stop : goal.returns-in_err-carry_to-clause-stop
returns-in_err-carry_to-clause-stop g c =
    let s = c.args.self.now.config.now in
    let keepers = g.K.Keeper.state c.args.keepers.now in
    let old = g.L.Link.shown c.args.link.now in
    let new = g.L.Link.shown c.carry_to.new.link in
    let store : Store = slice_index_or c.args.stores.now c.store_place-place.result c.index-stores-place.result in
    let is = read_store g.K.Keeper.TELLS s keepers.told c.args.stores.now c.requires.stores c.args.at c.store_place-place.result
    c.index-stores-place.result c.requires.here c.store_place-place.ensures in
    let stop = carry_stops s c.args.at store.name c.args.cache.now.name keepers old new c.in_err-carry_to.field-0.0
    c.requires.may.configured c.requires.region c.requires.here.shard is.found.name_is c.in_err-carry_to.ensures.stop in
    let p = err_from_is_err_and c.from_residual.result c.from_residual.ensures.1 in
    rw p.1 (subst (StopsCatchUp s (outside keepers old) (outside keepers new)) (sym p.2) stop)

pub returns : goal.returns
returns g c =
    let tells = g.K.Keeper.TELLS in
    let s = c.args.self.now.config.now in
    let at = c.args.at in
    let cache = c.args.cache.now in
    let old = g.K.Keeper.state c.args.keepers.now in
    let new = g.K.Keeper.state c.process_rest.new.keepers in
    let link = g.L.Link.shown c.args.link.now in
    let after = g.L.Link.shown c.carry_to.new.link in
    let place = c.store_place-place.result in
    let store : Store = slice_index_or c.args.stores.now place c.index-stores-place.result in
    let is = read_store tells s old.told c.args.stores.now c.requires.stores at place c.index-stores-place.result c.requires.here
    c.store_place-place.ensures in
    let caught = caught_with g.C.Cache.node g.C.Cache.refills tells s old.told c.args.stores.now c.requires.stores at c.requires.here cache
    c.requires.region c.requires.may store is c.requires.serves c.process_rest.result c.process_rest.new.cache c.process_rest.ensures.does
    c.process_rest.ensures.err in
    record {
      goes = caught.goes;
      reaches = caught.reaches;
      meets = meets_here at store.name cache.name old new link after c.process_rest.result is.found.name_is c.in_ok-carry_to.ensures.ok
          c.process_rest.ensures.stop;
      others = caught.others;
      rests = on_err_weaker c.process_rest.result (ap (λ n. record cache { node = n })) c.process_rest.ensures.err;
      same = put_back tells s old.told c.args.stores.now c.requires.stores at place c.index-stores-place.result c.process_rest.new.store c.requires.here
          c.store_place-place.ensures c.process_rest.ensures.same;
      stop = IfErr-weaker c.process_rest.result _ _
          (λ stop stops. read_stops s at store.name old new link after stop c.requires.here.shard is.found.name_is stops) c.process_rest.ensures.stop;
      reads = record { tables = c.process_rest.ensures.tables; keepers = c.process_rest.ensures.later; link = c.carry_to.ensures.later };
    }
