use Rattle.std.proofs.Common.{Ok, Err, refl, sym, ◌∙◌, ◌+◌, subst, arith}
use Rattle.std.proofs.lemmas.Result.{err_from_is_err_and}
use Rattle.core_model.specs.Stores.{region_store}
use Rattle.core_steps.specs.World.{world}
use Rattle.core_repairs.specs.Streams.{StreamsFrom}
use Rattle.core_steps.proofs.PostsLemmas.{can_post_on, posts_none, posts_trans}
use Rattle.core_repairs.proofs.StreamEnds.{comes_to_end, from_here, from_trans, goes_more, stops_stream}
use Rattle.core_repairs.proofs.streams.stream_to_end.Goals as goal

pub loop-streamed-init : goal.loop-streamed-init
loop-streamed-init g c =
    let tells = g.K.Keeper.TELLS in
    let start = world c.args.nodes.now (g.K.Keeper.state c.args.keepers.now) (g.L.Link.shown c.args.link.now) in
    record {
      runs = from_here tells c.args.config.now c.args.at start;
      next = λ told. omega arith;
      followers = refl;
      on = posts_none tells c.args.config.now start c.requires.ready;
    }

pub stream_once-requires-clause-ready : goal.stream_once-requires-clause-ready
stream_once-requires-clause-ready g c =
    can_post_on g.K.Keeper.TELLS c.args.config.now _ _ c.requires.ready c.loop-streamed.invariant.on

pub loop-streamed-preserved : goal.loop-streamed-preserved
loop-streamed-preserved g c =
    let tells = g.K.Keeper.TELLS in
    let state = g.K.Keeper.state in
    let shown = g.L.Link.shown in
    let s = c.args.config.now in
    let at = c.args.at in
    let was = c.loop-streamed.invariant in
    let done = c.stream_once in
    let start = world c.args.nodes.now (state c.args.keepers.now) (shown c.args.link.now) in
    let now = world c.loop-streamed.nodes (state c.loop-streamed.keepers) (shown c.loop-streamed.link) in
    let new = world done.new.nodes (state done.new.keepers) (shown done.new.link) in
    let more = goes_more tells s at now new c.requires.slave done.ensures.on.later c.loop-streamed.last c.in_ok-streamed.streamed
    c.goes_further.result c.in_ok-streamed.ensures.streams c.goes_further.ensures c.if-not-goes_further.false in
    record {
      runs = from_trans tells s at at at (Ok tt) start now new was.runs more.0;
      next = more.1;
      followers = done.ensures.followers ∙ was.followers;
      on = posts_trans tells s start now new was.on done.ensures.on;
    }

pub returns-in_err-streamed-clause-runs : goal.returns-in_err-streamed-clause-runs
returns-in_err-streamed-clause-runs g c =
    let tells = g.K.Keeper.TELLS in
    let state = g.K.Keeper.state in
    let shown = g.L.Link.shown in
    let s = c.args.config.now in
    let at = c.args.at in
    let next = region_store at.region (at.shard + 1) in
    let done = c.stream_once in
    let start = world c.args.nodes.now (state c.args.keepers.now) (shown c.args.link.now) in
    let now = world c.loop-streamed.nodes (state c.loop-streamed.keepers) (shown c.loop-streamed.link) in
    let new = world done.new.nodes (state done.new.keepers) (shown done.new.link) in
    let given = c.in_err-streamed.field-0.0 in
    let stop = from_trans tells s at at next (Err given) start now new c.loop-streamed.invariant.runs
    (stops_stream tells s at now new c.requires.slave done.ensures.on.later given c.in_err-streamed.ensures.streams) in
    let p = err_from_is_err_and c.from_residual.result c.from_residual.ensures.1 in
    rw p.1 (subst (λ e. StreamsFrom tells s at next (Err e) start new) (sym p.2) stop)

pub returns-in_err-streamed-clause-followers : goal.returns-in_err-streamed-clause-followers
returns-in_err-streamed-clause-followers g c = c.stream_once.ensures.followers ∙ c.loop-streamed.invariant.followers

pub returns-in_err-streamed-clause-on : goal.returns-in_err-streamed-clause-on
returns-in_err-streamed-clause-on g c = posts_trans g.K.Keeper.TELLS c.args.config.now _ _ _ c.loop-streamed.invariant.on c.stream_once.ensures.on

pub returns-then-not-goes_further-clause-runs : goal.returns-then-not-goes_further-clause-runs
returns-then-not-goes_further-clause-runs g c =
    let tells = g.K.Keeper.TELLS in
    let state = g.K.Keeper.state in
    let shown = g.L.Link.shown in
    let s = c.args.config.now in
    let at = c.args.at in
    let was = c.loop-streamed.invariant in
    let done = c.stream_once in
    let start = world c.args.nodes.now (state c.args.keepers.now) (shown c.args.link.now) in
    let now = world c.loop-streamed.nodes (state c.loop-streamed.keepers) (shown c.loop-streamed.link) in
    let new = world done.new.nodes (state done.new.keepers) (shown done.new.link) in
    from_trans tells s at at (region_store at.region (at.shard + 1)) (Ok tt) start now new was.runs
    (comes_to_end tells s at now new c.requires.slave done.ensures.on.later c.loop-streamed.last c.in_ok-streamed.streamed
    c.goes_further.result c.in_ok-streamed.ensures.streams was.next c.goes_further.ensures c.if-not-goes_further.true)

pub returns-then-not-goes_further-clause-followers : goal.returns-then-not-goes_further-clause-followers
returns-then-not-goes_further-clause-followers g c = c.stream_once.ensures.followers ∙ c.loop-streamed.invariant.followers

pub returns-then-not-goes_further-clause-on : goal.returns-then-not-goes_further-clause-on
returns-then-not-goes_further-clause-on g c = posts_trans g.K.Keeper.TELLS c.args.config.now _ _ _ c.loop-streamed.invariant.on c.stream_once.ensures.on
