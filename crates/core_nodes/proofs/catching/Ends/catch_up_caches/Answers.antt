use Rattle.std.proofs.Common.{◌≡◌, ◌+◌, ◌<◌, ◌≤◌, Err, length, refl, subst, sym, ◌∙◌, arith}
use Rattle.std.proofs.lemmas.Result.{err_from_is_err_and}
use Rattle.core_model.specs.Pens.{pens_of}
use Rattle.node_stages.specs.Caches.{follower_node, follower_refills, leader_node, leader_refills}
use Rattle.core_nodes.specs.Dues.{all_caches, dues_of_all, log_ends}
use Rattle.core_nodes.specs.Outside.{outside}
use Rattle.core_nodes.specs.Settling.{StopsCatchUp, is_turn}
use Rattle.core_nodes.proofs.CachesLemmas.{all_up_caught, had_turn, no_region, none_goes, region_caught, region_on, some_on, still_caches}
use Rattle.core_nodes.proofs.CatchSteps.{caches_now, caught_then, lengths_now, on_then, stores_now}
use Rattle.core_nodes.proofs.DueLists.{CachesMeet, both_unturned, regions_all, regions_next, regions_none, stops_in_region}
use Rattle.core_nodes.proofs.SettleLemmas.{reads_none, reads_on, stops_later}
use Rattle.core_nodes.proofs.catching.Ends.catch_up_caches.Goals as goal

pub loop-region-init : goal.loop-region-init
loop-region-init g c =
    let tells = g.K.Keeper.TELLS in
    let s = c.args.self.now.config.now in
    let state = g.K.Keeper.state in
    let before = (state c.args.keepers.now).told in
    let pens = pens_of c.args.stores.now in
    let turn = had_turn c.args.self.now.topology.now 0 in
    record {
      leaders = none_goes leader_node leader_refills tells s before pens turn c.args.leaders.now c.requires.leaders;
      followers = none_goes follower_node follower_refills tells s before pens turn c.args.followers.now c.requires.followers;
      caught = λ told. no_region leader_node leader_refills tells s before pens c.args.self.now.topology.now c.args.leaders.now;
      also = λ told. no_region follower_node follower_refills tells s before pens c.args.self.now.topology.now c.args.followers.now;
      met = regions_none (log_ends tells s c.args.self.now.lengths.now) c.args.self.now.topology.now
          (all_caches c.args.leaders.now c.args.followers.now) (g.L.Link.shown c.args.link.now);
      same = refl;
      reads = reads_none tells (outside (state c.args.keepers.now) (g.L.Link.shown c.args.link.now));
    }

pub catch_up_region-requires : goal.catch_up_region-requires
catch_up_region-requires g c =
    let tells = g.K.Keeper.TELLS in
    let s = c.args.self.now.config.now in
    let was = c.loop-region.invariant in
    let state = g.K.Keeper.state in
    let before = (state c.args.keepers.now).told in
    let now = (state c.loop-region.keepers).told in
    let turn = had_turn c.args.self.now.topology.now c.loop-region.region in
    let here : c.loop-region.region < length s.regions = omega (arith, c.loop-region-test.true, c.region_count-region-end.ensures) in
    record {
      stores = stores_now tells s before now c.args.stores.now c.loop-region.stores was.same was.reads.tables c.requires.stores;
      leaders =
          caches_now tells s before now c.args.stores.now c.loop-region.stores was.same was.reads.tables leader_node leader_refills c.loop-region.leaders
          (still_caches leader_node leader_refills tells s before (pens_of c.args.stores.now) turn c.args.leaders.now c.loop-region.leaders was.leaders);
      followers =
          caches_now tells s before now c.args.stores.now c.loop-region.stores was.same was.reads.tables follower_node follower_refills
          c.loop-region.followers
          (still_caches follower_node follower_refills tells s before (pens_of c.args.stores.now) turn c.args.followers.now c.loop-region.followers
          was.followers);
      here = here;
      lengths =
          lengths_now tells s before now c.args.stores.now c.loop-region.stores was.same was.reads.tables c.args.self.now.lengths.now c.requires.lengths;
    }

pub loop-region-preserved : goal.loop-region-preserved
loop-region-preserved g c =
    let tells = g.K.Keeper.TELLS in
    let s = c.args.self.now.config.now in
    let was = c.loop-region.invariant in
    let state = g.K.Keeper.state in
    let shown = g.L.Link.shown in
    let before = (state c.args.keepers.now).told in
    let now = (state c.loop-region.keepers).told in
    let pens = pens_of c.args.stores.now in
    let states = c.args.self.now.topology.now in
    let region = c.loop-region.region in
    let done = c.in_ok-catch_up_region.ensures in
    let leaders = on_then tells s before now c.args.stores.now c.loop-region.stores was.same was.reads.tables leader_node leader_refills
    (is_turn states region) c.loop-region.leaders c.catch_up_region.new.leaders done.leaders in
    let followers = on_then tells s before now c.args.stores.now c.loop-region.stores was.same was.reads.tables follower_node follower_refills
    (is_turn states region) c.loop-region.followers c.catch_up_region.new.followers done.followers in
    record {
      leaders =
          region_on leader_node leader_refills tells s before pens states region c.args.leaders.now c.loop-region.leaders c.catch_up_region.new.leaders
          was.leaders leaders;
      followers =
          region_on follower_node follower_refills tells s before pens states region c.args.followers.now c.loop-region.followers
          c.catch_up_region.new.followers was.followers followers;
      caught = λ told.
          region_caught leader_node leader_refills tells s before pens states region c.args.leaders.now c.loop-region.leaders
          c.catch_up_region.new.leaders was.leaders leaders (was.caught told)
          (caught_then tells s before now c.args.stores.now c.loop-region.stores was.same was.reads.tables leader_node leader_refills
          (is_turn states region) c.loop-region.leaders c.catch_up_region.new.leaders done.caught told);
      also = λ told.
          region_caught follower_node follower_refills tells s before pens states region c.args.followers.now c.loop-region.followers
          c.catch_up_region.new.followers was.followers followers (was.also told)
          (caught_then tells s before now c.args.stores.now c.loop-region.stores was.same was.reads.tables follower_node follower_refills
          (is_turn states region) c.loop-region.followers c.catch_up_region.new.followers done.also told);
      met = regions_next (log_ends tells s c.args.self.now.lengths.now) states region (all_caches c.args.leaders.now c.args.followers.now)
          (all_caches c.loop-region.leaders c.loop-region.followers) (all_caches c.catch_up_region.new.leaders c.catch_up_region.new.followers)
          (shown c.args.link.now) (shown c.loop-region.link) (shown c.catch_up_region.new.link) was.met
          (both_unturned tells s before pens (had_turn states region) c.args.leaders.now c.loop-region.leaders c.args.followers.now
          c.loop-region.followers was.leaders was.followers)
          (both_unturned tells s before pens (is_turn states region) c.loop-region.leaders c.catch_up_region.new.leaders c.loop-region.followers
          c.catch_up_region.new.followers leaders followers)
          (λ place to at. let was_there = leaders.each place to at in (was_there.0, was_there.1))
          (λ place to at. let was_there = followers.each place to at in (was_there.0, was_there.1)) tt done.meets;
      same = done.same ∙ was.same;
      reads =
          reads_on tells (outside (state c.args.keepers.now) (shown c.args.link.now)) (outside (state c.loop-region.keepers) (shown c.loop-region.link))
          (outside (state c.catch_up_region.new.keepers) (shown c.catch_up_region.new.link)) was.reads done.reads;
    }

pub returns-in_err-catch_up_region-clause-leaders : goal.returns-in_err-catch_up_region-clause-leaders
returns-in_err-catch_up_region-clause-leaders g c =
    let tells = g.K.Keeper.TELLS in
    let s = c.args.self.now.config.now in
    let was = c.loop-region.invariant in
    let state = g.K.Keeper.state in
    let before = (state c.args.keepers.now).told in
    let pens = pens_of c.args.stores.now in
    let region = c.loop-region.region in
    some_on leader_node leader_refills tells s before pens c.args.self.now.topology.now (region + 1) c.args.leaders.now c.catch_up_region.new.leaders
    (region_on leader_node leader_refills tells s before pens c.args.self.now.topology.now region c.args.leaders.now c.loop-region.leaders
    c.catch_up_region.new.leaders was.leaders
    (on_then tells s before (state c.loop-region.keepers).told c.args.stores.now c.loop-region.stores was.same was.reads.tables leader_node
    leader_refills (is_turn c.args.self.now.topology.now region) c.loop-region.leaders c.catch_up_region.new.leaders c.in_err-catch_up_region.ensures.leaders))

pub returns-in_err-catch_up_region-clause-followers : goal.returns-in_err-catch_up_region-clause-followers
returns-in_err-catch_up_region-clause-followers g c =
    let tells = g.K.Keeper.TELLS in
    let s = c.args.self.now.config.now in
    let was = c.loop-region.invariant in
    let state = g.K.Keeper.state in
    let before = (state c.args.keepers.now).told in
    let pens = pens_of c.args.stores.now in
    let region = c.loop-region.region in
    some_on follower_node follower_refills tells s before pens c.args.self.now.topology.now (region + 1) c.args.followers.now c.catch_up_region.new.followers
    (region_on follower_node follower_refills tells s before pens c.args.self.now.topology.now region c.args.followers.now c.loop-region.followers
    c.catch_up_region.new.followers was.followers
    (on_then tells s before (state c.loop-region.keepers).told c.args.stores.now c.loop-region.stores was.same was.reads.tables follower_node
    follower_refills (is_turn c.args.self.now.topology.now region) c.loop-region.followers c.catch_up_region.new.followers
    c.in_err-catch_up_region.ensures.followers))

pub returns-in_err-catch_up_region-clause-meets : goal.returns-in_err-catch_up_region-clause-meets
returns-in_err-catch_up_region-clause-meets g c =
    let tells = g.K.Keeper.TELLS in
    let s = c.args.self.now.config.now in
    let was = c.loop-region.invariant in
    let state = g.K.Keeper.state in
    let shown = g.L.Link.shown in
    let before = (state c.args.keepers.now).told in
    let now = (state c.loop-region.keepers).told in
    let pens = pens_of c.args.stores.now in
    let states = c.args.self.now.topology.now in
    let region = c.loop-region.region in
    let ends = log_ends tells s c.args.self.now.lengths.now in
    let failed = c.in_err-catch_up_region in
    let new = c.catch_up_region.new in
    let here : region < length s.regions = omega (arith, c.loop-region-test.true, c.region_count-region-end.ensures) in
    let leaders = on_then tells s before now c.args.stores.now c.loop-region.stores was.same was.reads.tables leader_node leader_refills
    (is_turn states region) c.loop-region.leaders new.leaders failed.ensures.leaders in
    let followers = on_then tells s before now c.args.stores.now c.loop-region.stores was.same was.reads.tables follower_node follower_refills
    (is_turn states region) c.loop-region.followers new.followers failed.ensures.followers in
    let start = all_caches c.args.leaders.now c.args.followers.now in
    let last = all_caches new.leaders new.followers in
    let stop = stops_in_region ends states region start (all_caches c.loop-region.leaders c.loop-region.followers) last
    (shown c.args.link.now) (shown c.loop-region.link) (shown new.link) was.met
    (both_unturned tells s before pens (had_turn states region) c.args.leaders.now c.loop-region.leaders c.args.followers.now
    c.loop-region.followers was.leaders was.followers)
    (both_unturned tells s before pens (is_turn states region) c.loop-region.leaders new.leaders c.loop-region.followers new.followers leaders followers)
    (λ place to at. let was_there = leaders.each place to at in (was_there.0, was_there.1))
    (λ place to at. let was_there = followers.each place to at in (was_there.0, was_there.1)) (length s.regions) failed.field-0.0 here
    (both_unturned tells s before pens (had_turn states (region + 1)) c.args.leaders.now new.leaders c.args.followers.now new.followers
    (region_on leader_node leader_refills tells s before pens states region c.args.leaders.now c.loop-region.leaders new.leaders was.leaders leaders)
    (region_on follower_node follower_refills tells s before pens states region c.args.followers.now c.loop-region.followers new.followers
    was.followers followers)) failed.ensures.meets in
    let p = err_from_is_err_and c.from_residual.result c.from_residual.ensures.1 in
    rw p.1 (subst (λ e. CachesMeet tells (dues_of_all ends states) start last (Err e) (shown c.args.link.now) (shown new.link)) (sym p.2) stop)

pub returns-in_err-catch_up_region-clause-stop : goal.returns-in_err-catch_up_region-clause-stop
returns-in_err-catch_up_region-clause-stop g c =
    let state = g.K.Keeper.state in
    let shown = g.L.Link.shown in
    let start = outside (state c.args.keepers.now) (shown c.args.link.now) in
    let new = outside (state c.catch_up_region.new.keepers) (shown c.catch_up_region.new.link) in
    let stop = stops_later g.K.Keeper.TELLS c.args.self.now.config.now start (outside (state c.loop-region.keepers) (shown c.loop-region.link)) new
    c.in_err-catch_up_region.field-0.0 c.loop-region.invariant.reads c.in_err-catch_up_region.ensures.stop in
    let p = err_from_is_err_and c.from_residual.result c.from_residual.ensures.1 in
    rw p.1 (subst (StopsCatchUp c.args.self.now.config.now start new) (sym p.2) stop)

pub returns-in_err-catch_up_region-clause-reads : goal.returns-in_err-catch_up_region-clause-reads
returns-in_err-catch_up_region-clause-reads g c =
    let state = g.K.Keeper.state in
    let shown = g.L.Link.shown in
    reads_on g.K.Keeper.TELLS (outside (state c.args.keepers.now) (shown c.args.link.now)) (outside (state c.loop-region.keepers) (shown c.loop-region.link))
    (outside (state c.catch_up_region.new.keepers) (shown c.catch_up_region.new.link)) c.loop-region.invariant.reads
    c.in_err-catch_up_region.ensures.reads

pub returns-clause-leaders : goal.returns-clause-leaders
returns-clause-leaders g c =
    some_on leader_node leader_refills g.K.Keeper.TELLS c.args.self.now.config.now (g.K.Keeper.state c.args.keepers.now).told (pens_of c.args.stores.now)
    c.args.self.now.topology.now c.loop-region.region c.args.leaders.now c.loop-region.leaders c.loop-region.invariant.leaders

pub returns-clause-followers : goal.returns-clause-followers
returns-clause-followers g c =
    some_on follower_node follower_refills g.K.Keeper.TELLS c.args.self.now.config.now (g.K.Keeper.state c.args.keepers.now).told (pens_of c.args.stores.now)
    c.args.self.now.topology.now c.loop-region.region c.args.followers.now c.loop-region.followers c.loop-region.invariant.followers

pub returns-clause-meets : goal.returns-clause-meets
returns-clause-meets g c =
    let s = c.args.self.now.config.now in
    let all : c.loop-region.region ≡ length s.regions =
    omega (arith, c.loop-region-test.false, c.region_count-region-end.ensures) in
    regions_all (log_ends g.K.Keeper.TELLS s c.args.self.now.lengths.now) c.args.self.now.topology.now c.loop-region.region
    (all_caches c.args.leaders.now c.args.followers.now) (all_caches c.loop-region.leaders c.loop-region.followers) tt
    (g.L.Link.shown c.args.link.now) (g.L.Link.shown c.loop-region.link) all c.loop-region.invariant.met

pub returns-clause-caught : goal.returns-clause-caught
returns-clause-caught g c told =
    let all : length c.args.self.now.config.now.regions ≤ c.loop-region.region = omega (arith, c.loop-region-test.false, c.region_count-region-end.ensures) in
    all_up_caught leader_node leader_refills g.K.Keeper.TELLS c.args.self.now.config.now (g.K.Keeper.state c.args.keepers.now).told (pens_of c.args.stores.now)
    c.args.self.now.topology.now c.loop-region.region c.args.leaders.now c.loop-region.leaders all c.requires.leaders (c.loop-region.invariant.caught told)

pub returns-clause-also : goal.returns-clause-also
returns-clause-also g c told =
    let all : length c.args.self.now.config.now.regions ≤ c.loop-region.region = omega (arith, c.loop-region-test.false, c.region_count-region-end.ensures) in
    all_up_caught follower_node follower_refills g.K.Keeper.TELLS c.args.self.now.config.now (g.K.Keeper.state c.args.keepers.now).told (pens_of
    c.args.stores.now)
    c.args.self.now.topology.now c.loop-region.region c.args.followers.now c.loop-region.followers all c.requires.followers (c.loop-region.invariant.also told)
