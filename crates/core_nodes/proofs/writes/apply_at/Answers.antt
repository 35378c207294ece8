use Rattle.std.proofs.Common.{◌≡◌, Some}
use Rattle.follower_cache.specs.Seen.{FollowerState}
use Rattle.served_shards.specs.Served.{log_at}
use Rattle.tao_schema.specs.Schema.{types_of}
use Rattle.core_model.specs.Writes.{AppliesTo}
use Rattle.node_stages.specs.Stages.{FollowerDoes}
use Rattle.core_model.proofs.NamedNodes.{changes_at}
use Rattle.core_nodes.proofs.NodesOfNames.{holds_at}
use Rattle.core_nodes.proofs.writes.apply_at.Goals as goal

pub apply_of-requires-clause-log : goal.apply_of-requires-clause-log
apply_of-requires-clause-log c =
    holds_at (λ (f : FollowerState). log_at c.args.shard f.node.served ≡ Some c.args.note.log) c.args.followers.now c.args.name
    c.named_place-place.result c.index-followers-place.result
    c.named_place-place.ensures c.requires.log

pub returns : goal.returns
returns c =
    changes_at (FollowerDoes (AppliesTo (types_of c.args.schema.now) c.args.shard c.args.entry.now c.args.note)) c.args.followers.now c.args.name
    c.named_place-place.result c.index-followers-place.result
    c.apply_of.new.follower c.named_place-place.ensures c.apply_of.ensures
