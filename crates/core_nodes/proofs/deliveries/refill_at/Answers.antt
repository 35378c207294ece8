use Rattle.core_model.specs.Messages.{TakesRefill}
use Rattle.node_stages.specs.Stages.{FollowerDoes}
use Rattle.core_model.proofs.NamedNodes.{changes_at}
use Rattle.core_nodes.proofs.deliveries.refill_at.Goals as goal

pub returns : goal.returns
returns c =
    changes_at (FollowerDoes (TakesRefill c.take_refill.result)) c.args.followers.now c.args.name c.named_place-place.result c.index-followers-place.result
    c.take_refill.new.follower c.named_place-place.ensures c.take_refill.ensures
