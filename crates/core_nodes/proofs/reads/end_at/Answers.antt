use Rattle.core_model.specs.Reads.{EndsAsk}
use Rattle.node_stages.specs.Stages.{FollowerDoes}
use Rattle.core_model.proofs.NamedNodes.{changes_at}
use Rattle.core_nodes.proofs.reads.end_at.Goals as goal

pub returns : goal.returns
returns c =
    changes_at (FollowerDoes (EndsAsk c.args.ask)) c.args.followers.now c.args.name c.named_place-place.result c.index-followers-place.result
    c.end_open_ask.new.follower c.named_place-place.ensures
    c.end_open_ask.ensures
