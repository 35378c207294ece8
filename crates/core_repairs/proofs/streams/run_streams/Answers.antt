use Rattle.std.proofs.Common.{◌≡◌, ◌<◌, length, refl, sym, ◌∙◌, subst, arith}
use Rattle.std.proofs.lemmas.Result.{err_from_is_err_and}
use Rattle.core_model.specs.Stores.{region_store}
use Rattle.core_steps.specs.World.{world}
use Rattle.core_repairs.specs.Streams.{StopsStreams, StreamsTill}
use Rattle.core_steps.proofs.PostsLemmas.{can_post_on, posts_none, posts_trans}
use Rattle.core_repairs.proofs.StreamEnds.{streams_all, streams_none}
use Rattle.core_repairs.proofs.streams.run_streams.Goals as goal

pub loop-region-init : goal.loop-region-init
loop-region-init g c =
    let tells = g.K.Keeper.TELLS in
    let start = world c.args.nodes.now (g.K.Keeper.state c.args.keepers.now) (g.L.Link.shown c.args.link.now) in
    record {
      runs = streams_none tells c.args.config.now start;
      followers = refl;
      on = posts_none tells c.args.config.now start c.requires.ready;
    }

pub stream_region-requires : goal.stream_region-requires
stream_region-requires g c =
    let s = c.args.config.now in
    let here : c.loop-region.region < length s.regions = omega (arith, c.loop-region-test.true, c.region_count-region-end.ensures) in
    record { ready = can_post_on g.K.Keeper.TELLS s _ _ c.requires.ready c.loop-region.invariant.on; here = here }

pub loop-region-preserved : goal.loop-region-preserved
loop-region-preserved g c =
    let tells = g.K.Keeper.TELLS in
    let state = g.K.Keeper.state in
    let shown = g.L.Link.shown in
    let was = c.loop-region.invariant in
    let done = c.in_ok-stream_region.ensures in
    let start = world c.args.nodes.now (state c.args.keepers.now) (shown c.args.link.now) in
    let now = world c.loop-region.nodes (state c.loop-region.keepers) (shown c.loop-region.link) in
    let new = world c.stream_region.new.nodes (state c.stream_region.new.keepers) (shown c.stream_region.new.link) in
    record {
      runs = done.runs.on start was.runs;
      followers = done.followers ∙ was.followers;
      on = posts_trans tells c.args.config.now start now new was.on done.on;
    }

pub returns-in_err-stream_region-clause-runs : goal.returns-in_err-stream_region-clause-runs
returns-in_err-stream_region-clause-runs g c =
    let state = g.K.Keeper.state in
    let shown = g.L.Link.shown in
    let start = world c.args.nodes.now (state c.args.keepers.now) (shown c.args.link.now) in
    let new = world c.stream_region.new.nodes (state c.stream_region.new.keepers) (shown c.stream_region.new.link) in
    let stop = c.in_err-stream_region.ensures.runs.on start c.loop-region.invariant.runs in
    let p = err_from_is_err_and c.from_residual.result c.from_residual.ensures.1 in
    rw p.1 (subst (λ given. StopsStreams g.K.Keeper.TELLS c.args.config.now given start new) (sym p.2) stop)

pub returns-in_err-stream_region-clause-followers : goal.returns-in_err-stream_region-clause-followers
returns-in_err-stream_region-clause-followers g c = c.stream_region.ensures.followers ∙ c.loop-region.invariant.followers

pub returns-in_err-stream_region-clause-on : goal.returns-in_err-stream_region-clause-on
returns-in_err-stream_region-clause-on g c =
    posts_trans g.K.Keeper.TELLS c.args.config.now _ _ _ c.loop-region.invariant.on c.stream_region.ensures.on

pub returns-clause-runs : goal.returns-clause-runs
returns-clause-runs g c =
    let tells = g.K.Keeper.TELLS in
    let state = g.K.Keeper.state in
    let shown = g.L.Link.shown in
    let s = c.args.config.now in
    let was = c.loop-region.invariant in
    let start = world c.args.nodes.now (state c.args.keepers.now) (shown c.args.link.now) in
    let now = world c.loop-region.nodes (state c.loop-region.keepers) (shown c.loop-region.link) in
    let all : c.loop-region.region ≡ length s.regions = omega (arith, c.region_count-region-end.ensures, c.loop-region-test.false) in
    streams_all tells s start now (subst (λ n. StreamsTill tells s (region_store n 0) start now) all was.runs)
