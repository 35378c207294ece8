use Rattle.std.proofs.Common.{ap, ◌∙◌}
use Rattle.core_model.specs.Fleet.{Fleet}
use Rattle.core_nodes.proofs.ShownLemmas.{follower_mark, leader_mark}
use Rattle.core_nodes.proofs.fleet.Fleet.mark.Goals as goal

pub returns-in-Leader : goal.returns-in-Leader
returns-in-Leader c =
    leader_mark c.args.self.now c.args.node c.in-Leader.region c.in-Leader.index c.args.shard c.deref.result.now c.marked_at.result c.in-Leader.is
    (c.deref.ensures.value ∙ ap (λ (f : Fleet). f.leaders) c.self.view_is) c.marked_at.ensures

pub returns-in-Follower : goal.returns-in-Follower
returns-in-Follower c =
    follower_mark c.args.self.now c.args.node c.in-Follower.region c.in-Follower.tier c.in-Follower.index c.args.shard c.deref-in-Follower.result.now
    c.marked_at-in-Follower.result c.in-Follower.is (c.deref-in-Follower.ensures.value ∙ ap (λ (f : Fleet). f.followers) c.self.view_is)
    c.marked_at-in-Follower.ensures
