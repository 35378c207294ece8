use Rattle.std.proofs.Common.{ap, arith, ◌∙◌, subst, sym}
use Rattle.cache_items.specs.Node.{Node}
use Rattle.follower_cache.specs.Seen.{FollowerState}
use Rattle.served_shards.specs.Begun.{AreNotesOf}
use Rattle.core_model.specs.Fleet.{Fleet}
use Rattle.core_nodes.specs.Stages.{NodeIs}
use Rattle.core_nodes.proofs.EmptyLemmas.{emptied_out, follower_empties, follower_such, leader_empties, leader_such}
use Rattle.core_nodes.proofs.FleetLemmas.{the_followers, the_leaders}
use Rattle.core_nodes.proofs.ViewLemmas.{LendsFollowers, LendsLeaders, after_followers, after_leaders, lent_followers, lent_leaders}
use Rattle.core_nodes.proofs.fleet.Fleet.empty.Goals as goal

pub empty_at-requires-clause-logs : goal.empty_at-requires-clause-logs
empty_at-requires-clause-logs c =
    let own = c.deref_mut.ensures.value ∙ ap (λ (f : Fleet). f.leaders) c.self.view_is in
    subst (NodeIs c.args.node (λ (n : Node). AreNotesOf n.served c.args.notes.items)) (sym own)
    (leader_such (λ (n : Node). AreNotesOf n.served c.args.notes.items) c.args.node c.in-Leader.region c.in-Leader.index c.args.self.now c.in-Leader.is
    c.requires.logs)

pub empty_at-requires-in-Follower-clause-logs : goal.empty_at-requires-in-Follower-clause-logs
empty_at-requires-in-Follower-clause-logs c =
    let own = c.deref_mut-in-Follower.ensures.value ∙ ap (λ (f : Fleet). f.followers) c.self.view_is in
    subst (NodeIs c.args.node (λ (f : FollowerState). AreNotesOf f.node.served c.args.notes.items)) (sym own)
    (follower_such (λ (n : Node). AreNotesOf n.served c.args.notes.items) c.args.node c.in-Follower.region c.in-Follower.tier c.in-Follower.index
    c.args.self.now c.in-Follower.is c.requires.logs)

pub returns-in-Leader : goal.returns-in-Leader
returns-in-Leader c at may =
    let own = c.deref_mut.ensures.value ∙ ap (λ (f : Fleet). f.leaders) c.self.view_is in
    let lends : LendsLeaders c.self.inside c.args.self.now c.deref_mut.result.now c.empty_at.new.caches =
    record { view = c.self.view_is; own = own; long = omega arith } in
    let new : Fleet = after_leaders c.self.inside c.empty_at.new.caches in
    leader_empties c.args.config.now c.args.node at c.args.lows.now c.args.notes.items c.args.self.now new c.in-Leader.region c.in-Leader.index
    c.in-Leader.is
    (λ is. emptied_out the_leaders c.args.config.now c.args.node at c.args.lows.now c.args.notes.items c.args.self.now new c.deref_mut.result.now
    c.empty_at.new.caches (lent_leaders c.self.inside c.args.self.now c.deref_mut.result.now c.empty_at.new.caches lends) c.requires.fleet is
    c.empty_at.ensures) may

pub returns-in-Follower : goal.returns-in-Follower
returns-in-Follower c at may =
    let own = c.deref_mut-in-Follower.ensures.value ∙ ap (λ (f : Fleet). f.followers) c.self.view_is in
    let lends : LendsFollowers c.self.inside c.args.self.now c.deref_mut-in-Follower.result.now c.empty_at-in-Follower.new.caches =
    record { view = c.self.view_is; own = own; long = omega arith } in
    let new : Fleet = after_followers c.self.inside c.empty_at-in-Follower.new.caches in
    follower_empties c.args.config.now c.args.node at c.args.lows.now c.args.notes.items c.args.self.now new c.in-Follower.region c.in-Follower.tier
    c.in-Follower.index c.in-Follower.is
    (λ is. emptied_out the_followers c.args.config.now c.args.node at c.args.lows.now c.args.notes.items c.args.self.now new
    c.deref_mut-in-Follower.result.now c.empty_at-in-Follower.new.caches
    (lent_followers c.self.inside c.args.self.now c.deref_mut-in-Follower.result.now c.empty_at-in-Follower.new.caches lends) c.requires.fleet is
    c.empty_at-in-Follower.ensures) may
