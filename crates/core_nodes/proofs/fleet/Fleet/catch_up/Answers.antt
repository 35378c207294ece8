use Rattle.std.proofs.Common.{List, ap, arith, ◌∙◌, subst, sym}
use Rattle.cache_items.specs.Node.{Node}
use Rattle.follower_cache.specs.Seen.{FollowerState}
use Rattle.shard_tables.specs.StoreView.{Store}
use Rattle.tao_keeper.proofs.Growing.{stays_grow}
use Rattle.topology.specs.States.{is_up}
use Rattle.core_model.specs.Fleet.{Fleet}
use Rattle.core_model.specs.Pens.{pens_of}
use Rattle.core_model.specs.Stores.{AreStoresOf}
use Rattle.core_model.specs.declared.named.Named.{Named}
use Rattle.node_stages.specs.Caches.{follower_node, follower_refills, leader_node, leader_refills}
use Rattle.core_nodes.specs.Dues.{all_caches, dues_of_all, log_ends}
use Rattle.core_nodes.specs.Settling.{AllCatchUp, AreCaches, CachesGoOn, HaveCaughtUp, seen_logs}
use Rattle.core_nodes.proofs.DueLists.{CachesMeet}
use Rattle.core_nodes.proofs.FleetSettles.{LendsAll, SettleStep, after_both_ok, all_after, followers_are, leaders_are, settle_catches, settle_step}
use Rattle.core_nodes.proofs.fleet.Fleet.catch_up.Goals as goal

pub catch_up_caches-requires : goal.catch_up_caches-requires
catch_up_caches-requires g c =
    let s = c.args.ends.now.config.now in
    let leaders = c.deref_mut.ensures.value ∙ ap (λ (f : Fleet). f.leaders) c.self.view_is in
    let followers = c.deref_mut-2.ensures.value ∙ ap (λ (f : Fleet). f.followers) c.self.view_is in
    let stores = c.deref_mut-3.ensures.value ∙ ap (λ (f : Fleet). f.stores) c.self.view_is in
    let tells = g.K.Keeper.TELLS in
    let tables = (g.K.Keeper.state c.args.keepers.now).told in
    let old = c.args.self.now in
    record {
      stores = subst (AreStoresOf tells s tables) (sym stores) c.requires.consistent.stores;
      leaders =
          subst (λ (ms : List Store). AreCaches leader_node (seen_logs tells s tables (pens_of ms)) c.deref_mut.result.now) (sym stores)
          (subst (AreCaches leader_node (seen_logs tells s tables (pens_of old.stores))) (sym leaders)
          (leaders_are tells s tables old c.requires.consistent c.requires.past));
      followers =
          subst (λ (ms : List Store). AreCaches follower_node (seen_logs tells s tables (pens_of ms)) c.deref_mut-2.result.now) (sym stores)
          (subst (AreCaches follower_node (seen_logs tells s tables (pens_of old.stores))) (sym followers)
          (followers_are tells s tables old c.requires.consistent c.requires.past));
      lengths = c.requires.lengths;
    }

pub returns : goal.returns
returns g c =
    let tells = g.K.Keeper.TELLS in
    let s = c.args.ends.now.config.now in
    let old = c.args.self.now in
    let before = (g.K.Keeper.state c.args.keepers.now).told in
    let tables = (g.K.Keeper.state c.catch_up_caches.new.keepers).told in
    let ls = c.catch_up_caches.new.leaders in
    let fs = c.catch_up_caches.new.followers in
    let given = c.catch_up_caches.ensures in
    let leaders = c.deref_mut.ensures.value ∙ ap (λ (f : Fleet). f.leaders) c.self.view_is in
    let followers = c.deref_mut-2.ensures.value ∙ ap (λ (f : Fleet). f.followers) c.self.view_is in
    let stores = c.deref_mut-3.ensures.value ∙ ap (λ (f : Fleet). f.stores) c.self.view_is in
    let lends : LendsAll c.self.inside old ls fs c.deref_mut-3.result.now c.catch_up_caches.new.stores =
    record { view = c.self.view_is; long_leaders = omega arith; long_followers = omega arith; long = omega arith; own = stores; is = given.same } in
    let is = all_after c.self.inside old ls fs c.deref_mut-3.result.now c.catch_up_caches.new.stores lends in
    let states = c.args.ends.now.topology.now in
    let up = is_up states in
    let ends = log_ends tells s c.args.ends.now.lengths.now in
    let from = g.L.Link.shown c.args.link.now in
    let to = g.L.Link.shown c.catch_up_caches.new.link in
    let on_leaders =
    subst (λ (xs : List (Named Node)). CachesGoOn leader_node leader_refills (seen_logs tells s before (pens_of old.stores)) up xs ls) leaders
    (subst (λ (ms : List Store). CachesGoOn leader_node leader_refills (seen_logs tells s before (pens_of ms)) up c.deref_mut.result.now ls) stores
    given.leaders) in
    let on_followers =
    subst (λ (xs : List (Named FollowerState)). CachesGoOn follower_node follower_refills (seen_logs tells s before (pens_of old.stores)) up xs fs) followers
    (subst (λ (ms : List Store). CachesGoOn follower_node follower_refills (seen_logs tells s before (pens_of ms)) up c.deref_mut-2.result.now fs) stores
    given.followers) in
    let step = subst (SettleStep tells s states tables old) (sym is)
    (settle_step tells s states before tables old ls fs c.requires.consistent given.reads.tables on_leaders on_followers) in
    record {
      caught = λ told.
          after_both_ok c.catch_up_caches.result
          (λ first second. subst (AllCatchUp s states tables old) (sym is)
          (settle_catches tells s states before tables old ls fs c.requires.consistent given.reads.tables on_leaders on_followers told
          (subst (λ (xs : List (Named Node)). HaveCaughtUp leader_node s before up xs ls) leaders first)
          (subst (λ (xs : List (Named FollowerState)). HaveCaughtUp follower_node s before up xs fs) followers second)))
          (given.caught told) (given.also told);
      on = step.on;
      meets = subst (λ (f : Fleet). CachesMeet tells (dues_of_all ends states) (all_caches old.leaders old.followers)
          (all_caches f.leaders f.followers) c.catch_up_caches.result from to) (sym is)
          (subst (λ (xs : List (Named FollowerState)). CachesMeet tells (dues_of_all ends states) (all_caches old.leaders xs) (all_caches ls fs)
          c.catch_up_caches.result from to) followers
          (subst (λ (xs : List (Named Node)). CachesMeet tells (dues_of_all ends states) (all_caches xs c.deref_mut-2.result.now) (all_caches ls fs)
          c.catch_up_caches.result from to) leaders given.meets));
      stop = given.stop;
      stores = step.stores;
      consistent = step.consistent;
      goes = step.goes;
      reads = given.reads;
      logs = stays_grow tells before tables given.reads.tables;
    }
