use Rattle.std.specs.Prelude.{◌≡◌, IfSome, Some}
use Rattle.cache_items.specs.Kept.{ask_at}
use Rattle.cache_items.specs.declared.look.Kept.{Kept}
use Rattle.follower_cache.specs.Seen.{FollowerState}
use Rattle.served_shards.specs.Served.{log_at}
use Rattle.tao_base.specs.Queries.{query_key, query_shard}
use Rattle.tao_base.specs.declared.query.Answer.{Answer}
use Rattle.tao_schema.specs.Schema.{types_of}
use Rattle.core_model.specs.Reads.{EndsAsk, KeepsFill, taken_fill}
use Rattle.node_stages.specs.Stages.{FollowerDoes}
use Rattle.core_model.proofs.NamedNodes.{changes_err, changes_ok}
use Rattle.core_nodes.proofs.NodesOfNames.{holds_at}
use Rattle.core_nodes.proofs.reads.keep_at.Goals as goal

pub keep_fill-requires-clause-log : goal.keep_fill-requires-clause-log
keep_fill-requires-clause-log c =
    holds_at (λ (f : FollowerState). log_at (query_shard c.args.query.now) f.node.served ≡ Some c.args.fill.note.log) c.args.followers.now c.args.name
    c.named_place-place.result
    c.index-followers-place.result c.named_place-place.ensures c.requires.log

pub keep_fill-requires-clause-ask : goal.keep_fill-requires-clause-ask
keep_fill-requires-clause-ask c =
    holds_at (λ (f : FollowerState). IfSome c.args.ask (λ number. IfSome (ask_at number f.node.asks) (λ a. a.key ≡ query_key c.args.query.now)))
    c.args.followers.now c.args.name
    c.named_place-place.result c.index-followers-place.result c.named_place-place.ensures c.requires.ask

pub returns-clause-keeps : goal.returns-clause-keeps
returns-clause-keeps c =
    changes_ok (λ (r : Answer × Kept). FollowerDoes (KeepsFill (types_of c.args.schema.now) c.args.query.now (taken_fill c.args.ask c.args.fill r.0 r.1)))
    c.args.followers.now c.args.name
    c.named_place-place.result c.index-followers-place.result c.keep_fill.new.follower c.keep_fill.result c.named_place-place.ensures c.keep_fill.ensures.keeps

pub returns-clause-err : goal.returns-clause-err
returns-clause-err c =
    changes_err (FollowerDoes (EndsAsk c.args.ask)) c.args.followers.now c.args.name c.named_place-place.result c.index-followers-place.result
    c.keep_fill.new.follower c.keep_fill.result
    c.named_place-place.ensures c.keep_fill.ensures.err
