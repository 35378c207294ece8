use Rattle.std.specs.Prelude.{IsSome}
use Rattle.follower_cache.specs.Seen.{FollowerState}
use Rattle.served_shards.specs.Served.{served_at}
use Rattle.tao_base.specs.Queries.{query_shard}
use Rattle.tao_schema.specs.Schema.{types_of}
use Rattle.core_model.specs.Reads.{wanted}
use Rattle.node_stages.specs.Stages.{FollowerDoes, LooksTrue}
use Rattle.node_stages.specs.declared.reads.FirstLook.{FirstLook}
use Rattle.core_model.proofs.NamedNodes.{changes_ok, rests_err}
use Rattle.core_nodes.proofs.NodesOfNames.{holds_at}
use Rattle.core_nodes.proofs.reads.look_at.Goals as goal

pub look_first-requires : goal.look_first-requires
look_first-requires c =
    holds_at (λ (f : FollowerState). IsSome (served_at (query_shard c.args.query.now) f.node.served)) c.args.followers.now c.args.name
    c.named_place-place.result c.index-followers-place.result
    c.named_place-place.ensures c.requires.serves

pub returns-clause-looks : goal.returns-clause-looks
returns-clause-looks c =
    changes_ok (λ (first : FirstLook). FollowerDoes (LooksTrue (types_of c.args.schema.now) (wanted c.args.query.now c.args.floor) first.look first.ask))
    c.args.followers.now c.args.name
    c.named_place-place.result c.index-followers-place.result c.look_first.new.follower c.look_first.result
    c.named_place-place.ensures c.look_first.ensures.looks

pub returns-clause-err : goal.returns-clause-err
returns-clause-err c =
    rests_err c.args.followers.now c.args.name c.named_place-place.result c.index-followers-place.result c.look_first.new.follower c.look_first.result
    c.named_place-place.ensures c.look_first.ensures.err
