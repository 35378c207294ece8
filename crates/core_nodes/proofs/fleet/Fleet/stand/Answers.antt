use Rattle.std.proofs.Common.{ap, ◌∙◌}
use Rattle.core_model.specs.Fleet.{Fleet}
use Rattle.core_nodes.proofs.FailLemmas.{follower_stands, kind_truly, leader_stands}
use Rattle.core_nodes.proofs.FleetLemmas.{the_followers, the_leaders}
use Rattle.core_nodes.proofs.fleet.Fleet.stand.Goals as goal

pub stand_at-requires-clause-truth : goal.stand_at-requires-clause-truth
stand_at-requires-clause-truth c =
    let own = c.deref_mut.ensures.value ∙ ap (λ (f : Fleet). f.leaders) c.self.view_is in
    kind_truly the_leaders c.args.config.now c.args.self.now c.args.node c.deref_mut.result.now own c.requires.fleet

pub stand_at-requires-in-Follower-clause-truth : goal.stand_at-requires-in-Follower-clause-truth
stand_at-requires-in-Follower-clause-truth c =
    let own = c.deref_mut-in-Follower.ensures.value ∙ ap (λ (f : Fleet). f.followers) c.self.view_is in
    kind_truly the_followers c.args.config.now c.args.self.now c.args.node c.deref_mut-in-Follower.result.now own c.requires.fleet

pub returns-in-Leader-clause-stands : goal.returns-in-Leader-clause-stands
returns-in-Leader-clause-stands c =
    let own = c.deref_mut.ensures.value ∙ ap (λ (f : Fleet). f.leaders) c.self.view_is in
    leader_stands c.args.self.now c.args.node c.in-Leader.region c.in-Leader.index c.deref_mut.result.now c.stand_at.result c.in-Leader.is own
    c.stand_at.ensures.stands

pub returns-in-Follower-clause-stands : goal.returns-in-Follower-clause-stands
returns-in-Follower-clause-stands c =
    let own = c.deref_mut-in-Follower.ensures.value ∙ ap (λ (f : Fleet). f.followers) c.self.view_is in
    follower_stands c.args.self.now c.args.node c.in-Follower.region c.in-Follower.tier c.in-Follower.index c.deref_mut-in-Follower.result.now
    c.stand_at-in-Follower.result c.in-Follower.is own c.stand_at-in-Follower.ensures.stands
