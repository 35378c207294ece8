use Rattle.std.proofs.Common.{subst, sym, ◌∙◌}
use Rattle.std.specs.Prelude.{List}
use Rattle.cache_items.specs.Node.{Node}
use Rattle.core_model.specs.Consistent.{AreSeen}
use Rattle.core_model.specs.Fleet.{EachIs}
use Rattle.core_model.specs.Pens.{pens_of}
use Rattle.core_model.specs.Stores.{AreStores, store_count}
use Rattle.follower_cache.specs.Seen.{FollowerState}
use Rattle.shard_tables.specs.StoreView.{Store}
use Rattle.unlocked_nodes.proofs.Configured.{may_meet}
use Rattle.unlocked_nodes.proofs.MeetLemmas.{long_over, notes_over, on_ok}
use Rattle.unlocked_nodes.specs.Looking.{NodeIsOfLogs, NotedAreOfLogs}
use Rattle.unlocked_nodes.specs.Unlocked.{fleet_with, notes_of}
use Rattle.unlocked_nodes.proofs.looking.meet_all.Goals as goal

pub meet_stores-requires : goal.meet_stores-requires
meet_stores-requires g c =
    let meets = may_meet c.args.around.now.config.now g.J.Sharing.making g.J.Logs.log
    (fleet_with c.args.leaders.now c.args.followers.now c.args.stores.now) (notes_of c.args.noted.now) c.requires.made c.requires.cluster
    (c.in_ok-are_configured.ensures c.if-not-branch.false) c.masters_are_regions.ensures in
    record { stores = meets.configured; logs = meets.logs }

pub meet_noted-requires : goal.meet_noted-requires
meet_noted-requires g c =
    let meets = may_meet c.args.around.now.config.now g.J.Sharing.making g.J.Logs.log
    (fleet_with c.args.leaders.now c.args.followers.now c.args.stores.now) (notes_of c.args.noted.now) c.requires.made c.requires.cluster
    (c.in_ok-are_configured.ensures c.if-not-branch.false) c.masters_are_regions.ensures in
    let same = c.in_ok-meet_stores.ensures.same in
    let s = c.args.around.now.config.now in
    record {
      stores = subst (AreStores s (store_count s)) (sym same) meets.configured;
      long = long_over c.args.noted.now c.meet_stores.new.stores c.args.stores.now same meets.noted_long;
      logs = subst (λ (xs : List Store). NotedAreOfLogs (pens_of xs) s.shards (notes_of c.args.noted.now)) (sym same) meets.notes;
    }

pub meet_caches-requires : goal.meet_caches-requires
meet_caches-requires g c =
    let meets = may_meet c.args.around.now.config.now g.J.Sharing.making g.J.Logs.log
    (fleet_with c.args.leaders.now c.args.followers.now c.args.stores.now) (notes_of c.args.noted.now) c.requires.made c.requires.cluster
    (c.in_ok-are_configured.ensures c.if-not-branch.false) c.masters_are_regions.ensures in
    let same = c.in_ok-meet_noted.ensures.same ∙ c.in_ok-meet_stores.ensures.same in
    let s = c.args.around.now.config.now in
    record {
      stores = subst (AreStores s (store_count s)) (sym same) meets.configured;
      logs = subst (λ (xs : List Store). EachIs (λ name node. NodeIsOfLogs s (pens_of xs) name node) c.args.leaders.now) (sym same) meets.leaders;
    }

pub meet_caches-requires-2 : goal.meet_caches-requires-2
meet_caches-requires-2 g c =
    let meets = may_meet c.args.around.now.config.now g.J.Sharing.making g.J.Logs.log
    (fleet_with c.args.leaders.now c.args.followers.now c.args.stores.now) (notes_of c.args.noted.now) c.requires.made c.requires.cluster
    (c.in_ok-are_configured.ensures c.if-not-branch.false) c.masters_are_regions.ensures in
    let same = c.in_ok-meet_caches.ensures.same ∙ (c.in_ok-meet_noted.ensures.same ∙ c.in_ok-meet_stores.ensures.same) in
    let s = c.args.around.now.config.now in
    record {
      stores = subst (AreStores s (store_count s)) (sym same) meets.configured;
      logs = subst (λ (xs : List Store). EachIs (λ name (follower : FollowerState). NodeIsOfLogs s (pens_of xs) name follower.node) c.args.followers.now)
          (sym same) meets.followers;
    }

pub returns-clause-met : goal.returns-clause-met
returns-clause-met g c =
    let meets = may_meet c.args.around.now.config.now g.J.Sharing.making g.J.Logs.log
    (fleet_with c.args.leaders.now c.args.followers.now c.args.stores.now) (notes_of c.args.noted.now) c.requires.made c.requires.cluster
    (c.in_ok-are_configured.ensures c.if-not-branch.false) c.masters_are_regions.ensures in
    let s = c.args.around.now.config.now in
    let noted = c.in_ok-meet_noted.ensures.same ∙ c.in_ok-meet_stores.ensures.same in
    let met = c.in_ok-meet_caches.ensures.same ∙ noted in
    let conf = c.in_ok-are_configured.ensures c.if-not-branch.false in
    on_ok _ _ c.meet_caches-2.result (λ seen. record {
      configured = meets.configured;
      follow = c.in_ok-meet_stores.ensures.follow;
      notes = notes_over s.shards c.meet_stores.new.stores c.args.stores.now (notes_of c.args.noted.now) c.in_ok-meet_stores.ensures.same
          c.in_ok-meet_noted.ensures.met;
      leader_names_are = conf.leaders;
      follower_names_are = conf.followers;
      leaders = subst (λ (xs : List Store). EachIs (λ name (node : Node). AreSeen (pens_of xs) node.served) c.args.leaders.now) noted
          c.in_ok-meet_caches.ensures.seen;
      followers = subst (λ (xs : List Store). EachIs (λ name (follower : FollowerState). AreSeen (pens_of xs) follower.node.served) c.args.followers.now) met
          seen;
    }) c.meet_caches-2.ensures.seen
