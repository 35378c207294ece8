use Rattle.std.proofs.Common.{Some, ap, arith, sym, ◌∙◌}
use Rattle.std.proofs.lemmas.List.{with_items_is}
use Rattle.topology.specs.Config.{Settings}
use Rattle.core_model.specs.Fleet.{Fleet}
use Rattle.core_nodes.proofs.DeliverLemmas.{delivered, follower_delivers, kind_for, leader_delivers}
use Rattle.core_nodes.proofs.FleetLemmas.{the_followers, the_leaders}
use Rattle.core_nodes.proofs.ShownLemmas.{follower_mark, leader_mark}
use Rattle.core_nodes.proofs.ViewLemmas.{LendsFollowers, LendsLeaders, after_followers, after_leaders, lent_followers, lent_leaders}
use Rattle.core_nodes.proofs.fleet.Fleet.deliver.Goals as goal

pub deliver_at-requires-clause-log : goal.deliver_at-requires-clause-log
deliver_at-requires-clause-log c =
    let own = c.deref_mut.ensures.value ∙ ap (λ (f : Fleet). f.leaders) c.self.view_is in
    kind_for the_leaders c.args.config.now c.args.self.now c.args.node c.args.message c.deref_mut.result.now own c.requires.fleet c.requires.message

pub deliver_at-requires-in-Follower-clause-log : goal.deliver_at-requires-in-Follower-clause-log
deliver_at-requires-in-Follower-clause-log c =
    let own = c.deref_mut-in-Follower.ensures.value ∙ ap (λ (f : Fleet). f.followers) c.self.view_is in
    kind_for the_followers c.args.config.now c.args.self.now c.args.node c.args.message c.deref_mut-in-Follower.result.now own c.requires.fleet
    c.requires.message

pub returns-in-Leader : goal.returns-in-Leader
returns-in-Leader c =
    let own = c.deref_mut.ensures.value ∙ ap (λ (f : Fleet). f.leaders) c.self.view_is in
    let lends : LendsLeaders c.self.inside c.args.self.now c.deref_mut.result.now c.deliver_at.new.caches =
    record { view = c.self.view_is; own = own; long = omega arith } in
    let new : Fleet = after_leaders c.self.inside c.deliver_at.new.caches in
    let left = delivered the_leaders c.args.config.now c.args.message c.deliver_at.result.dropped c.args.self.now new c.args.node c.config.inside.schema
    c.deref_mut.result.now c.deliver_at.new.caches
    (lent_leaders c.self.inside c.args.self.now c.deref_mut.result.now c.deliver_at.new.caches lends)
    (ap (λ (s : Settings). s.schema) c.config.view_is) c.requires.fleet c.requires.message c.deliver_at.ensures.does in
    record {
      delivers = leader_delivers c.args.config.now c.args.message c.deliver_at.result.dropped c.args.self.now new c.args.node c.in-Leader.region c.in-Leader.index
          c.in-Leader.is left;
      mark = leader_mark new c.args.node c.in-Leader.region c.in-Leader.index c.args.message.shard c.deliver_at.new.caches (Some c.deliver_at.result.mark)
          c.in-Leader.is (sym (with_items_is c.self.inside.leaders c.deliver_at.new.caches lends.long)) c.deliver_at.ensures.mark;
      fleet = left.step.fleet;
      goes = left.step.goes;
    }

pub returns-in-Follower : goal.returns-in-Follower
returns-in-Follower c =
    let own = c.deref_mut-in-Follower.ensures.value ∙ ap (λ (f : Fleet). f.followers) c.self.view_is in
    let lends : LendsFollowers c.self.inside c.args.self.now c.deref_mut-in-Follower.result.now c.deliver_at-in-Follower.new.caches =
    record { view = c.self.view_is; own = own; long = omega arith } in
    let new : Fleet = after_followers c.self.inside c.deliver_at-in-Follower.new.caches in
    let left = delivered the_followers c.args.config.now c.args.message c.deliver_at-in-Follower.result.dropped c.args.self.now new c.args.node
    c.config.inside.schema c.deref_mut-in-Follower.result.now c.deliver_at-in-Follower.new.caches
    (lent_followers c.self.inside c.args.self.now c.deref_mut-in-Follower.result.now c.deliver_at-in-Follower.new.caches lends)
    (ap (λ (s : Settings). s.schema) c.config.view_is) c.requires.fleet c.requires.message c.deliver_at-in-Follower.ensures.does in
    record {
      delivers = follower_delivers c.args.config.now c.args.message c.deliver_at-in-Follower.result.dropped c.args.self.now new c.args.node c.in-Follower.region
          c.in-Follower.tier c.in-Follower.index c.in-Follower.is left;
      mark = follower_mark new c.args.node c.in-Follower.region c.in-Follower.tier c.in-Follower.index c.args.message.shard
          c.deliver_at-in-Follower.new.caches (Some c.deliver_at-in-Follower.result.mark) c.in-Follower.is
          (sym (with_items_is c.self.inside.followers c.deliver_at-in-Follower.new.caches lends.long)) c.deliver_at-in-Follower.ensures.mark;
      fleet = left.step.fleet;
      goes = left.step.goes;
    }
