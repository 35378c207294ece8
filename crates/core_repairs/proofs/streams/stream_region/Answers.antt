use Rattle.std.proofs.Common.{◌≡◌, ◌+◌, Ok, Err, refl, sym, ap, ◌∙◌, subst, arith}
use Rattle.std.proofs.lemmas.Result.{err_from_is_err_and}
use Rattle.topology.specs.Config.{Settings}
use Rattle.core_model.specs.Stores.{region_store}
use Rattle.core_steps.specs.World.{world}
use Rattle.core_repairs.specs.Streams.{StreamsFrom}
use Rattle.core_steps.proofs.PostsLemmas.{can_post_on, posts_none, posts_trans}
use Rattle.core_repairs.proofs.StreamEnds.{from_here, from_trans, region_ends, stops_before}
use Rattle.core_repairs.proofs.streams.stream_region.Goals as goal

pub loop-shard-init : goal.loop-shard-init
loop-shard-init g c =
    let tells = g.K.Keeper.TELLS in
    let start = world c.args.nodes.now (g.K.Keeper.state c.args.keepers.now) (g.L.Link.shown c.args.link.now) in
    record {
      runs = from_here tells c.args.config.now (region_store c.args.region 0) start;
      followers = refl;
      on = posts_none tells c.args.config.now start c.requires.ready;
    }

pub stream_shard-requires-clause-ready : goal.stream_shard-requires-clause-ready
stream_shard-requires-clause-ready g c =
    can_post_on g.K.Keeper.TELLS c.args.config.now _ _ c.requires.ready c.loop-shard.invariant.on

pub loop-shard-preserved : goal.loop-shard-preserved
loop-shard-preserved g c =
    let tells = g.K.Keeper.TELLS in
    let state = g.K.Keeper.state in
    let shown = g.L.Link.shown in
    let s = c.args.config.now in
    let region = c.args.region in
    let shard = c.loop-shard.shard in
    let was = c.loop-shard.invariant in
    let done = c.in_ok-stream_shard.ensures in
    let start = world c.args.nodes.now (state c.args.keepers.now) (shown c.args.link.now) in
    let now = world c.loop-shard.nodes (state c.loop-shard.keepers) (shown c.loop-shard.link) in
    let new = world c.stream_shard.new.nodes (state c.stream_shard.new.keepers) (shown c.stream_shard.new.link) in
    record {
      runs = from_trans tells s (region_store region 0) (region_store region shard) (region_store region (shard + 1)) (Ok tt) start now new was.runs done.runs;
      followers = done.followers ∙ was.followers;
      on = posts_trans tells s start now new was.on done.on;
    }

pub returns-in_err-stream_shard-clause-runs : goal.returns-in_err-stream_shard-clause-runs
returns-in_err-stream_shard-clause-runs g c =
    let tells = g.K.Keeper.TELLS in
    let state = g.K.Keeper.state in
    let shown = g.L.Link.shown in
    let s = c.args.config.now in
    let region = c.args.region in
    let shard = c.loop-shard.shard in
    let begin = region_store region 0 in
    let at = region_store region shard in
    let next = region_store region (shard + 1) in
    let end = region_store (region + 1) 0 in
    let start = world c.args.nodes.now (state c.args.keepers.now) (shown c.args.link.now) in
    let now = world c.loop-shard.nodes (state c.loop-shard.keepers) (shown c.loop-shard.link) in
    let new = world c.stream_shard.new.nodes (state c.stream_shard.new.keepers) (shown c.stream_shard.new.link) in
    let given = c.in_err-stream_shard.field-0.0 in
    let stop = from_trans tells s begin at end (Err given) start now new c.loop-shard.invariant.runs
    (stops_before tells s at next end given now new c.in_err-stream_shard.ensures.runs) in
    let p = err_from_is_err_and c.from_residual.result c.from_residual.ensures.1 in
    rw p.1 (subst (λ e. StreamsFrom tells s begin end (Err e) start new) (sym p.2) stop)

pub returns-in_err-stream_shard-clause-followers : goal.returns-in_err-stream_shard-clause-followers
returns-in_err-stream_shard-clause-followers g c = c.stream_shard.ensures.followers ∙ c.loop-shard.invariant.followers

pub returns-in_err-stream_shard-clause-on : goal.returns-in_err-stream_shard-clause-on
returns-in_err-stream_shard-clause-on g c =
    posts_trans g.K.Keeper.TELLS c.args.config.now _ _ _ c.loop-shard.invariant.on c.stream_shard.ensures.on

pub returns-clause-runs : goal.returns-clause-runs
returns-clause-runs g c =
    let tells = g.K.Keeper.TELLS in
    let state = g.K.Keeper.state in
    let shown = g.L.Link.shown in
    let s = c.args.config.now in
    let region = c.args.region in
    let was = c.loop-shard.invariant in
    let start = world c.args.nodes.now (state c.args.keepers.now) (shown c.args.link.now) in
    let now = world c.loop-shard.nodes (state c.loop-shard.keepers) (shown c.loop-shard.link) in
    let shards : c.config.inside.shards ≡ s.shards = ap (λ (x : Settings). x.shards) c.config.view_is in
    let all : c.loop-shard.shard ≡ s.shards = omega (arith, shards, c.loop-shard-test.false) in
    region_ends tells s region start now
    (subst (λ n. StreamsFrom tells s (region_store region 0) (region_store region n) (Ok tt) start now) all was.runs)
