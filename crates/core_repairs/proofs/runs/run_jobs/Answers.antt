use Rattle.std.proofs.Common.{◌≡◌, refl, sym, ap, subst, arith}
use Rattle.std.proofs.lemmas.Result.{err_from_is_err_and}
use Rattle.topology.specs.Config.{Settings}
use Rattle.core_steps.specs.World.{world}
use Rattle.core_repairs.specs.Repairs.{RunsTo, StopsRun}
use Rattle.core_steps.proofs.PostsLemmas.{can_post_on, posts_none, posts_trans}
use Rattle.core_repairs.proofs.RunLemmas.{rest_trans, runs_all, runs_none}
use Rattle.core_repairs.proofs.runs.run_jobs.Goals as goal

pub loop-shard-init : goal.loop-shard-init
loop-shard-init g c =
    let state = g.K.Keeper.state in
    let shown = g.L.Link.shown in
    let start = world c.args.nodes.now (state c.args.keepers.now) (shown c.args.link.now) in
    record {
      runs = runs_none g.K.Keeper.TELLS c.args.config.now start;
      rest = refl;
      on = posts_none g.K.Keeper.TELLS c.args.config.now start c.requires.ready;
    }

pub run_shard-requires-clause-ready : goal.run_shard-requires-clause-ready
run_shard-requires-clause-ready g c =
    can_post_on g.K.Keeper.TELLS c.args.config.now _ _ c.requires.ready c.loop-shard.invariant.on

pub loop-shard-preserved : goal.loop-shard-preserved
loop-shard-preserved g c =
    let tells = g.K.Keeper.TELLS in
    let state = g.K.Keeper.state in
    let shown = g.L.Link.shown in
    let was = c.loop-shard.invariant in
    let done = c.in_ok-run_shard.ensures in
    let start = world c.args.nodes.now (state c.args.keepers.now) (shown c.args.link.now) in
    let now = world c.loop-shard.nodes (state c.loop-shard.keepers) (shown c.loop-shard.link) in
    let new = world c.run_shard.new.nodes (state c.run_shard.new.keepers) (shown c.run_shard.new.link) in
    record {
      runs = done.runs.on start was.runs;
      rest = rest_trans c.args.nodes.now.fleet c.loop-shard.nodes.fleet c.run_shard.new.nodes.fleet was.rest done.rest;
      on = posts_trans tells c.args.config.now start now new was.on done.on;
    }

pub returns-in_err-run_shard-clause-runs : goal.returns-in_err-run_shard-clause-runs
returns-in_err-run_shard-clause-runs g c =
    let state = g.K.Keeper.state in
    let shown = g.L.Link.shown in
    let start = world c.args.nodes.now (state c.args.keepers.now) (shown c.args.link.now) in
    let new = world c.run_shard.new.nodes (state c.run_shard.new.keepers) (shown c.run_shard.new.link) in
    let stop = c.in_err-run_shard.ensures.runs.on start c.loop-shard.invariant.runs in
    let p = err_from_is_err_and c.from_residual.result c.from_residual.ensures.1 in
    rw p.1 (subst (λ given. StopsRun g.K.Keeper.TELLS c.args.config.now given start new) (sym p.2) stop)

pub returns-in_err-run_shard-clause-rest : goal.returns-in_err-run_shard-clause-rest
returns-in_err-run_shard-clause-rest g c =
    rest_trans c.args.nodes.now.fleet c.loop-shard.nodes.fleet c.run_shard.new.nodes.fleet c.loop-shard.invariant.rest c.run_shard.ensures.rest

pub returns-in_err-run_shard-clause-on : goal.returns-in_err-run_shard-clause-on
returns-in_err-run_shard-clause-on g c = posts_trans g.K.Keeper.TELLS c.args.config.now _ _ _ c.loop-shard.invariant.on c.run_shard.ensures.on

pub returns-clause-runs : goal.returns-clause-runs
returns-clause-runs g c =
    let tells = g.K.Keeper.TELLS in
    let state = g.K.Keeper.state in
    let shown = g.L.Link.shown in
    let s = c.args.config.now in
    let was = c.loop-shard.invariant in
    let start = world c.args.nodes.now (state c.args.keepers.now) (shown c.args.link.now) in
    let now = world c.loop-shard.nodes (state c.loop-shard.keepers) (shown c.loop-shard.link) in
    let shards : c.config.inside.shards ≡ s.shards = ap (λ (x : Settings). x.shards) c.config.view_is in
    let all : c.loop-shard.shard ≡ s.shards = omega (arith, shards, c.loop-shard-test.false) in
    runs_all tells s start now was.on.consistent.stores.kept (subst (λ n. RunsTo tells s n start now) all was.runs)
