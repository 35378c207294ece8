use Rattle.std.proofs.Common.{ap, arith, ◌∙◌}
use Rattle.core_model.specs.Fleet.{Fleet}
use Rattle.core_nodes.proofs.EvictLemmas.{evicted, follower_evicts, leader_evicts}
use Rattle.core_nodes.proofs.FleetLemmas.{the_followers, the_leaders}
use Rattle.core_nodes.proofs.ViewLemmas.{LendsFollowers, LendsLeaders, after_followers, after_leaders, lent_followers, lent_leaders}
use Rattle.core_nodes.proofs.fleet.Fleet.evict.Goals as goal

pub returns-in-Leader : goal.returns-in-Leader
returns-in-Leader c =
    let own = c.deref_mut.ensures.value ∙ ap (λ (f : Fleet). f.leaders) c.self.view_is in
    let lends : LendsLeaders c.self.inside c.args.self.now c.deref_mut.result.now c.evict_at.new.caches =
    record { view = c.self.view_is; own = own; long = omega arith } in
    let new : Fleet = after_leaders c.self.inside c.evict_at.new.caches in
    let left = evicted the_leaders c.args.config.now c.args.key c.evict_at.result c.args.self.now new c.args.node c.deref_mut.result.now
    c.evict_at.new.caches (lent_leaders c.self.inside c.args.self.now c.deref_mut.result.now c.evict_at.new.caches lends) c.requires.fleet
    c.evict_at.ensures in
    record {
      evicts = leader_evicts c.args.config.now c.args.key c.evict_at.result c.args.self.now new c.args.node c.in-Leader.region c.in-Leader.index
          c.in-Leader.is left;
      fleet = left.step.fleet;
      goes = left.step.goes;
    }

pub returns-in-Follower : goal.returns-in-Follower
returns-in-Follower c =
    let own = c.deref_mut-in-Follower.ensures.value ∙ ap (λ (f : Fleet). f.followers) c.self.view_is in
    let lends : LendsFollowers c.self.inside c.args.self.now c.deref_mut-in-Follower.result.now c.evict_at-in-Follower.new.caches =
    record { view = c.self.view_is; own = own; long = omega arith } in
    let new : Fleet = after_followers c.self.inside c.evict_at-in-Follower.new.caches in
    let left = evicted the_followers c.args.config.now c.args.key c.evict_at-in-Follower.result c.args.self.now new c.args.node
    c.deref_mut-in-Follower.result.now c.evict_at-in-Follower.new.caches
    (lent_followers c.self.inside c.args.self.now c.deref_mut-in-Follower.result.now c.evict_at-in-Follower.new.caches lends) c.requires.fleet
    c.evict_at-in-Follower.ensures in
    record {
      evicts = follower_evicts c.args.config.now c.args.key c.evict_at-in-Follower.result c.args.self.now new c.args.node c.in-Follower.region
          c.in-Follower.tier c.in-Follower.index c.in-Follower.is left;
      fleet = left.step.fleet;
      goes = left.step.goes;
    }
