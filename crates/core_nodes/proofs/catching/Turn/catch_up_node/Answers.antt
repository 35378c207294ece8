use Rattle.std.proofs.Common.{◌≡◌, ◌<◌, Err, Ok, ap, length, refl, subst, sym, ◌∙◌, arith}
use Rattle.std.proofs.lemmas.Result.{err_from_is_err_and}
use Rattle.node_name.specs.declared.NodeName.{NodeName}
use Rattle.topology.specs.Config.{Settings}
use Rattle.core_model.specs.Fleet.{region_of}
use Rattle.core_model.specs.Pens.{pens_of}
use Rattle.core_model.specs.Stores.{IsConfiguredStore}
use Rattle.core_nodes.specs.Dues.{log_ends}
use Rattle.core_nodes.specs.Outside.{outside}
use Rattle.core_nodes.specs.Settling.{CatchesUp, IsAtFirstStores, MayCatchUp, StopsCatchUp, seen_logs}
use Rattle.core_nodes.proofs.CatchLemmas.{catches_up}
use Rattle.core_nodes.proofs.CatchSteps.{cache_goes_on, cache_same, cache_then, ends_next, lengths_now, may_now, stores_now}
use Rattle.core_nodes.proofs.DueNodes.{NodeMeets, met_shard, shards_all, shards_next, shards_none, shards_stop}
use Rattle.core_nodes.proofs.SettleLemmas.{reads_none, reads_on, stops_later}
use Rattle.core_nodes.proofs.catching.Turn.catch_up_node.Goals as goal

pub loop-shard-init : goal.loop-shard-init
loop-shard-init g c =
    let state = g.K.Keeper.state in
    record {
      goes = cache_same g.C.Cache.node g.C.Cache.refills g.K.Keeper.TELLS c.args.self.now.config.now (state c.args.keepers.now).told (pens_of c.args.stores.now)
          c.args.cache.now c.requires.may;
      ends = λ told. record { ends = λ shard served lt at. absurd (omega (arith, lt)) };
      met = shards_none g.C.Cache.node (log_ends g.K.Keeper.TELLS c.args.self.now.config.now c.args.self.now.lengths.now) c.args.cache.now
          (g.L.Link.shown c.args.link.now);
      same = refl;
      reads = reads_none g.K.Keeper.TELLS (outside (state c.args.keepers.now) (g.L.Link.shown c.args.link.now));
    }

pub catch_up_at-requires : goal.catch_up_at-requires
catch_up_at-requires g c =
    let tells = g.K.Keeper.TELLS in
    let s = c.args.self.now.config.now in
    let was = c.loop-shard.invariant in
    let state = g.K.Keeper.state in
    let before = (state c.args.keepers.now).told in
    let now = (state c.loop-shard.keepers).told in
    let shards : c.config.inside.shards ≡ s.shards = ap (λ (x : Settings). x.shards) c.config.view_is in
    let here : c.loop-shard.shard < s.shards = omega (arith, shards, c.loop-shard-test.true) in
    let configured : IsConfiguredStore s c.region_store-at.result =
    subst (IsConfiguredStore s) (sym c.region_store-at.ensures) (record { region = c.requires.here; shard = here }) in
    record {
      stores = stores_now tells s before now c.args.stores.now c.loop-shard.stores was.same was.reads.tables c.requires.stores;
      may =
          subst (λ (n : NodeName). MayCatchUp (seen_logs tells s now (pens_of c.loop-shard.stores)) n (g.C.Cache.node c.loop-shard.cache.node))
          (sym was.goes.name_is)
          (may_now tells s before now c.args.stores.now c.loop-shard.stores was.same was.reads.tables c.args.cache.now.name
          (g.C.Cache.node c.loop-shard.cache.node) was.goes.goes.may);
      here = configured;
      region = ap region_of was.goes.name_is ∙ c.requires.region ∙ ap (λ at. at.region) (sym c.region_store-at.ensures);
      lengths =
          lengths_now tells s before now c.args.stores.now c.loop-shard.stores was.same was.reads.tables c.args.self.now.lengths.now c.requires.lengths;
    }

pub loop-shard-preserved : goal.loop-shard-preserved
loop-shard-preserved g c =
    let tells = g.K.Keeper.TELLS in
    let s = c.args.self.now.config.now in
    let was = c.loop-shard.invariant in
    let state = g.K.Keeper.state in
    let shown = g.L.Link.shown in
    let before = (state c.args.keepers.now).told in
    let now = (state c.loop-shard.keepers).told in
    let done = c.in_ok-catch_up_at.ensures in
    record {
      goes =
          cache_goes_on g.C.Cache.node g.C.Cache.refills tells s before (pens_of c.args.stores.now) c.args.cache.now c.loop-shard.cache
          c.catch_up_at.new.cache was.goes
          (cache_then tells s before now c.args.stores.now c.loop-shard.stores was.same was.reads.tables g.C.Cache.node g.C.Cache.refills
          c.loop-shard.cache c.catch_up_at.new.cache done.goes);
      ends =
          ends_next tells before now c.args.self.now.region c.loop-shard.shard c.region_store-at.result (g.C.Cache.node c.loop-shard.cache.node)
          (g.C.Cache.node c.catch_up_at.new.cache.node) was.reads.tables c.region_store-at.ensures was.ends done.reaches;
      met = shards_next g.C.Cache.node (log_ends tells s c.args.self.now.lengths.now) c.loop-shard.shard c.args.cache.now c.loop-shard.cache
          c.catch_up_at.new.cache (shown c.args.link.now) (shown c.loop-shard.link) (shown c.catch_up_at.new.link) was.met tt
          (met_shard g.C.Cache.node (log_ends tells s c.args.self.now.lengths.now) c.args.self.now.region c.loop-shard.shard c.region_store-at.result
          c.loop-shard.cache c.catch_up_at.new.cache (Ok tt) (shown c.loop-shard.link) (shown c.catch_up_at.new.link) c.region_store-at.ensures
          done.meets);
      same = done.same ∙ was.same;
      reads =
          reads_on tells (outside (state c.args.keepers.now) (shown c.args.link.now)) (outside (state c.loop-shard.keepers) (shown c.loop-shard.link))
          (outside (state c.catch_up_at.new.keepers) (shown c.catch_up_at.new.link)) was.reads done.reads;
    }

pub returns-in_err-catch_up_at-clause-goes : goal.returns-in_err-catch_up_at-clause-goes
returns-in_err-catch_up_at-clause-goes g c =
    let tells = g.K.Keeper.TELLS in
    let s = c.args.self.now.config.now in
    let was = c.loop-shard.invariant in
    let state = g.K.Keeper.state in
    let before = (state c.args.keepers.now).told in
    cache_goes_on g.C.Cache.node g.C.Cache.refills tells s before (pens_of c.args.stores.now) c.args.cache.now c.loop-shard.cache
    c.catch_up_at.new.cache was.goes
    (cache_then tells s before (state c.loop-shard.keepers).told c.args.stores.now c.loop-shard.stores was.same was.reads.tables g.C.Cache.node
    g.C.Cache.refills c.loop-shard.cache c.catch_up_at.new.cache c.in_err-catch_up_at.ensures.goes)

pub returns-in_err-catch_up_at-clause-meets : goal.returns-in_err-catch_up_at-clause-meets
returns-in_err-catch_up_at-clause-meets g c =
    let shown = g.L.Link.shown in
    let s = c.args.self.now.config.now in
    let ends = log_ends g.K.Keeper.TELLS s c.args.self.now.lengths.now in
    let shards : c.config.inside.shards ≡ s.shards = ap (λ (x : Settings). x.shards) c.config.view_is in
    let here : c.loop-shard.shard < s.shards = omega (arith, shards, c.loop-shard-test.true) in
    let failed = c.in_err-catch_up_at in
    let new = c.catch_up_at.new in
    let at = met_shard g.C.Cache.node ends c.args.self.now.region c.loop-shard.shard c.region_store-at.result c.loop-shard.cache new.cache
    (Err failed.field-0.0) (shown c.loop-shard.link) (shown new.link) c.region_store-at.ensures failed.ensures.meets in
    let stop = shards_stop g.C.Cache.node ends c.loop-shard.shard c.args.cache.now c.loop-shard.cache new.cache (shown c.args.link.now)
    (shown c.loop-shard.link) (shown new.link) c.loop-shard.invariant.met s.shards failed.field-0.0 here failed.ensures.rests at in
    let p = err_from_is_err_and c.from_residual.result c.from_residual.ensures.1 in
    rw p.1 (subst (λ e. NodeMeets g.C.Cache.node ends c.args.cache.now new.cache (Err e) (shown c.args.link.now) (shown new.link)) (sym p.2) stop)

pub returns-in_err-catch_up_at-clause-stop : goal.returns-in_err-catch_up_at-clause-stop
returns-in_err-catch_up_at-clause-stop g c =
    let state = g.K.Keeper.state in
    let shown = g.L.Link.shown in
    let start = outside (state c.args.keepers.now) (shown c.args.link.now) in
    let new = outside (state c.catch_up_at.new.keepers) (shown c.catch_up_at.new.link) in
    let stop = stops_later g.K.Keeper.TELLS c.args.self.now.config.now start (outside (state c.loop-shard.keepers) (shown c.loop-shard.link)) new
    c.in_err-catch_up_at.field-0.0 c.loop-shard.invariant.reads c.in_err-catch_up_at.ensures.stop in
    let p = err_from_is_err_and c.from_residual.result c.from_residual.ensures.1 in
    rw p.1 (subst (StopsCatchUp c.args.self.now.config.now start new) (sym p.2) stop)

pub returns-in_err-catch_up_at-clause-reads : goal.returns-in_err-catch_up_at-clause-reads
returns-in_err-catch_up_at-clause-reads g c =
    let state = g.K.Keeper.state in
    let shown = g.L.Link.shown in
    reads_on g.K.Keeper.TELLS (outside (state c.args.keepers.now) (shown c.args.link.now)) (outside (state c.loop-shard.keepers) (shown c.loop-shard.link))
    (outside (state c.catch_up_at.new.keepers) (shown c.catch_up_at.new.link)) c.loop-shard.invariant.reads c.in_err-catch_up_at.ensures.reads

pub returns-clause-meets : goal.returns-clause-meets
returns-clause-meets g c =
    let s = c.args.self.now.config.now in
    let shards : c.config.inside.shards ≡ s.shards = ap (λ (x : Settings). x.shards) c.config.view_is in
    let all : c.loop-shard.shard ≡ s.shards = omega (arith, shards, c.loop-shard-test.false) in
    shards_all g.C.Cache.node (log_ends g.K.Keeper.TELLS s c.args.self.now.lengths.now) c.loop-shard.shard c.args.cache.now c.loop-shard.cache tt
    (g.L.Link.shown c.args.link.now) (g.L.Link.shown c.loop-shard.link) all c.loop-shard.invariant.met

pub returns-clause-caught : goal.returns-clause-caught
returns-clause-caught g c told =
    let s = c.args.self.now.config.now in
    let before = (g.K.Keeper.state c.args.keepers.now).told in
    let shards : c.config.inside.shards ≡ s.shards = ap (λ (x : Settings). x.shards) c.config.view_is in
    let all : c.loop-shard.shard ≡ s.shards = omega (arith, shards, c.loop-shard-test.false) in
    let was = c.loop-shard.invariant in
    let name = c.args.cache.now.name in
    let now = g.C.Cache.node c.loop-shard.cache.node in
    let there : region_of name < length s.regions = omega (arith, c.requires.here, c.requires.region) in
    let ends : IsAtFirstStores before (region_of name) s.shards now =
    subst (λ r. IsAtFirstStores before r s.shards now) (sym c.requires.region)
    (subst (λ n. IsAtFirstStores before c.args.self.now.region n now) all (was.ends told)) in
    subst (λ r. CatchesUp s before r (g.C.Cache.node c.args.cache.now.node) now) c.requires.region
    (catches_up g.K.Keeper.TELLS s before c.args.stores.now name c.requires.stores there (g.C.Cache.node c.args.cache.now.node) now told
    c.is_true.ensures.apart was.goes.goes ends)
