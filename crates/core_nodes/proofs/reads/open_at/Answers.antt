use Rattle.std.proofs.Common.{IsSome, get_or, subst, sym}
use Rattle.follower_cache.specs.Seen.{FollowerState}
use Rattle.served_shards.specs.Served.{served_at}
use Rattle.tao_base.specs.Keys.{key_shard}
use Rattle.tao_base.specs.Queries.{query_key, query_shard}
use Rattle.core_model.specs.Reads.{AsksAtOnce}
use Rattle.node_stages.specs.Stages.{FollowerDoes}
use Rattle.core_model.proofs.NamedNodes.{changes_at}
use Rattle.core_nodes.proofs.NodesOfNames.{holds_at}
use Rattle.core_nodes.proofs.reads.open_at.Goals as goal

pub open_true-requires : goal.open_true-requires
open_true-requires c =
    subst (λ k. IsSome (served_at (key_shard k) (get_or c.args.followers.now c.named_place-place.result c.index-followers-place.result).node.node.served))
    (sym c.key.ensures)
    (holds_at (λ (f : FollowerState). IsSome (served_at (query_shard c.args.query.now) f.node.served)) c.args.followers.now c.args.name
    c.named_place-place.result c.index-followers-place.result
    c.named_place-place.ensures c.requires.serves)

pub returns : goal.returns
returns c =
    changes_at (FollowerDoes (AsksAtOnce (query_key c.args.query.now) c.open_true.result)) c.args.followers.now c.args.name
    c.named_place-place.result c.index-followers-place.result c.open_true.new.follower c.named_place-place.ensures
    (subst (λ k. FollowerDoes (AsksAtOnce k c.open_true.result)
    (get_or c.args.followers.now c.named_place-place.result c.index-followers-place.result).node c.open_true.new.follower) c.key.ensures c.open_true.ensures)
