use Rattle.std.proofs.Common.{Err, ap, subst, sym}
use Rattle.std.proofs.lemmas.Result.{err_from_is_err_and}
use Rattle.core_model.specs.Pens.{pens_of}
use Rattle.core_nodes.specs.Beginning.{AreLengths}
use Rattle.core_nodes.specs.Dues.{LeavesFleet, MeetsDues, dues_of_fleet, log_ends}
use Rattle.core_nodes.specs.Outside.{outside}
use Rattle.core_nodes.specs.Settling.{StopsCatchUp, StopsLengths}
use Rattle.core_repairs.specs.Repairs.{StopsRun}
use Rattle.core_repairs.specs.Streams.{StopsStreams}
use Rattle.core_steps.proofs.PostsLemmas.{can_post_on}
use Rattle.core_steps.specs.World.{world}
use Rattle.tao_core.specs.Calls.{world_at}
use Rattle.tao_base.specs.EdgeTypes.{InversesMatch}
use Rattle.tao_schema.specs.Schema.{types_of}
use Rattle.topology.specs.Config.{Settings}
use Rattle.tao_core.specs.Core.{IsConsistentCore, core_state}
use Rattle.tao_core.proofs.Keeping.{core_can_post}
use Rattle.tao_core.proofs.Settled.{read_past, settles_core, stops_at_jobs, stops_at_lengths, stops_at_node, stops_at_stream}
use Rattle.tao_core.proofs.serving.Core.settle_all.Goals as goal

pub run_jobs-requires : goal.run_jobs-requires
run_jobs-requires g c =
    let keepers = g.K.Keeper.state c.args.keepers.now in
    record {
      ready = core_can_post g.K.Keeper.TELLS (core_state c.self.inside) keepers (g.L.Link.shown c.args.link.now)
          (subst (IsConsistentCore g.K.Keeper.TELLS keepers.told) (sym c.self.view_is) c.requires.keepers);
    }

pub run_streams-requires : goal.run_streams-requires
run_streams-requires g c =
    let tells = g.K.Keeper.TELLS in
    let core = core_state c.self.inside in
    let keepers = g.K.Keeper.state c.args.keepers.now in
    let link = g.L.Link.shown c.args.link.now in
    let ran = c.run_jobs in
    record {
      ready = can_post_on tells core.settings (world_at core keepers link)
          (world ran.new.nodes (g.K.Keeper.state ran.new.keepers) (g.L.Link.shown ran.new.link))
          (core_can_post tells core keepers link (subst (IsConsistentCore tells keepers.told) (sym c.self.view_is) c.requires.keepers)) ran.ensures.on;
    }

pub catch_up-requires-clause-past : goal.catch_up-requires-clause-past
catch_up-requires-clause-past g c =
    let state = g.K.Keeper.state in
    let shown = g.L.Link.shown in
    let core = core_state c.self.inside in
    let ran = c.run_jobs in
    let moved = c.run_streams in
    let read = c.measure in
    read_past g.K.Keeper.TELLS core c.args.self.now c.self.view_is (state c.args.keepers.now) (shown c.args.link.now) c.requires.keepers
    ran.new.nodes (state ran.new.keepers) (shown ran.new.link) ran.ensures.on ran.ensures.rest c.in_ok-run_jobs.ensures.runs
    moved.new.nodes (state moved.new.keepers) (shown moved.new.link) moved.ensures.on moved.ensures.followers c.in_ok-run_streams.ensures.runs
    (state read.new.keepers) read.new.fleet read.ensures.same read.ensures.consistent read.ensures.tables read.ensures.later c.requires.past

pub returns-in_err-run_jobs : goal.returns-in_err-run_jobs
returns-in_err-run_jobs g c =
    let state = g.K.Keeper.state in
    let shown = g.L.Link.shown in
    let core = core_state c.self.inside in
    let ran = c.run_jobs in
    let p = err_from_is_err_and c.from_residual.result c.from_residual.ensures.1 in
    let stops =
    subst (λ e. StopsRun g.K.Keeper.TELLS core.settings e
    (world_at core (state c.args.keepers.now) (shown c.args.link.now))
    (world ran.new.nodes (state ran.new.keepers) (shown ran.new.link))) (sym p.2) c.in_err-run_jobs.ensures.runs in
    let done =
    stops_at_jobs g.K.Keeper.TELLS core c.args.self.now c.self.view_is (state c.args.keepers.now) (shown c.args.link.now) c.requires.keepers
    ran.new.nodes (state ran.new.keepers) (shown ran.new.link) ran.ensures.on ran.ensures.rest p.0 stops in
    record {
      settles = rw p.1 tt;
      empty = rw p.1 tt;
      stops = rw p.1 done.says;
      leaves = done.leaves;
      rest = done.rest;
    }

pub returns-in_err-run_streams : goal.returns-in_err-run_streams
returns-in_err-run_streams g c =
    let state = g.K.Keeper.state in
    let shown = g.L.Link.shown in
    let core = core_state c.self.inside in
    let ran = c.run_jobs in
    let moved = c.run_streams in
    let p = err_from_is_err_and c.from_residual-in_err-run_streams.result c.from_residual-in_err-run_streams.ensures.1 in
    let stops =
    subst (λ e. StopsStreams g.K.Keeper.TELLS core.settings e
    (world ran.new.nodes (state ran.new.keepers) (shown ran.new.link))
    (world moved.new.nodes (state moved.new.keepers) (shown moved.new.link))) (sym p.2) c.in_err-run_streams.ensures.runs in
    let done =
    stops_at_stream g.K.Keeper.TELLS core c.args.self.now c.self.view_is (state c.args.keepers.now) (shown c.args.link.now) c.requires.keepers
    ran.new.nodes (state ran.new.keepers) (shown ran.new.link) ran.ensures.on ran.ensures.rest c.in_ok-run_jobs.ensures.runs
    moved.new.nodes (state moved.new.keepers) (shown moved.new.link) moved.ensures.on moved.ensures.followers p.0 stops in
    record {
      settles = rw p.1 tt;
      empty = rw p.1 tt;
      stops = rw p.1 done.says;
      leaves = done.leaves;
      rest = done.rest;
    }

pub returns-in_err-measured : goal.returns-in_err-measured
returns-in_err-measured g c =
    let state = g.K.Keeper.state in
    let shown = g.L.Link.shown in
    let core = core_state c.self.inside in
    let ran = c.run_jobs in
    let moved = c.run_streams in
    let read = c.measure in
    let p = err_from_is_err_and c.from_residual-in_err-measured.result c.from_residual-in_err-measured.ensures.1 in
    let done =
    stops_at_lengths g.K.Keeper.TELLS core c.args.self.now c.self.view_is (state c.args.keepers.now) (shown c.args.link.now) c.requires.keepers
    ran.new.nodes (state ran.new.keepers) (shown ran.new.link) ran.ensures.on ran.ensures.rest c.in_ok-run_jobs.ensures.runs
    moved.new.nodes (state moved.new.keepers) (shown moved.new.link) moved.ensures.on moved.ensures.followers c.in_ok-run_streams.ensures.runs
    (state read.new.keepers) read.new.fleet read.ensures.same read.ensures.consistent read.ensures.tables read.ensures.later p.0
    (subst (StopsLengths core.settings (state moved.new.keepers) (state read.new.keepers)) (sym p.2) c.in_err-measured.ensures.stop) in
    record {
      settles = rw p.1 tt;
      empty = rw p.1 tt;
      stops = rw p.1 done.says;
      leaves = done.leaves;
      rest = done.rest;
    }

pub returns-in_err-catch_up : goal.returns-in_err-catch_up
returns-in_err-catch_up g c =
    let state = g.K.Keeper.state in
    let shown = g.L.Link.shown in
    let core = core_state c.self.inside in
    let ran = c.run_jobs in
    let moved = c.run_streams in
    let read = c.measure in
    let caught = c.catch_up in
    let p = err_from_is_err_and c.from_residual-in_err-catch_up.result c.from_residual-in_err-catch_up.ensures.1 in
    let states = moved.new.nodes.topology in
    let lengths = c.as_slice-lengths.result.now in
    let measured = subst (AreLengths g.K.Keeper.TELLS core.settings (state read.new.keepers).told) (sym c.as_slice-lengths.ensures.value)
    c.in_ok-measured.ensures.stores in
    let ends = log_ends g.K.Keeper.TELLS core.settings lengths in
    let done =
    stops_at_node g.K.Keeper.TELLS core c.args.self.now c.self.view_is (state c.args.keepers.now) (shown c.args.link.now) c.requires.keepers
    ran.new.nodes (state ran.new.keepers) (shown ran.new.link) ran.ensures.on ran.ensures.rest c.in_ok-run_jobs.ensures.runs
    moved.new.nodes (state moved.new.keepers) (shown moved.new.link) moved.ensures.on moved.ensures.followers c.in_ok-run_streams.ensures.runs
    (state read.new.keepers) read.new.fleet read.ensures.same read.ensures.consistent read.ensures.tables read.ensures.later
    (state caught.new.keepers) (shown caught.new.link) caught.new.self
    caught.ensures.stores caught.ensures.consistent caught.ensures.goes caught.ensures.on caught.ensures.reads p.0
    lengths measured
    (subst (λ e. MeetsDues (dues_of_fleet ends states read.new.fleet) (Err e) (shown moved.new.link) (shown caught.new.link)
    (LeavesFleet ends states read.new.fleet caught.new.self)) (sym p.2) c.in_err-catch_up.ensures.meets)
    (subst (StopsCatchUp core.settings (outside (state read.new.keepers) (shown moved.new.link)) (outside (state caught.new.keepers) (shown caught.new.link)))
    (sym p.2) c.in_err-catch_up.ensures.stop) in
    record {
      settles = rw p.1 tt;
      empty = rw p.1 tt;
      stops = rw p.1 done.says;
      leaves = done.leaves;
      rest = done.rest;
    }

pub returns : goal.returns
returns g c =
    let state = g.K.Keeper.state in
    let shown = g.L.Link.shown in
    let core = core_state c.self.inside in
    let ran = c.run_jobs in
    let moved = c.run_streams in
    let read = c.measure in
    let caught = c.catch_up in
    let lengths = c.as_slice-lengths.result.now in
    let measured = subst (AreLengths g.K.Keeper.TELLS core.settings (state read.new.keepers).told) (sym c.as_slice-lengths.ensures.value)
    c.in_ok-measured.ensures.stores in
    let match = subst (λ k. InversesMatch (types_of k)) (ap (λ (s : Settings). s.schema) c.config.view_is) c.inverses_match.ensures in
    let done =
    settles_core g.K.Keeper.TELLS core c.args.self.now c.self.view_is (state c.args.keepers.now) (shown c.args.link.now) c.requires.keepers
    ran.new.nodes (state ran.new.keepers) (shown ran.new.link) ran.ensures.on ran.ensures.rest c.in_ok-run_jobs.ensures.runs
    moved.new.nodes (state moved.new.keepers) (shown moved.new.link) moved.ensures.on moved.ensures.followers c.in_ok-run_streams.ensures.runs
    (state read.new.keepers) read.new.fleet read.ensures.same read.ensures.consistent read.ensures.tables read.ensures.later
    (state caught.new.keepers) (shown caught.new.link) caught.new.self
    caught.ensures.stores caught.ensures.consistent caught.ensures.goes caught.ensures.on caught.ensures.reads c.in_ok-measured.measured.shards.items
    lengths c.clear.new.self tt measured c.in_ok-catch_up.ensures.meets
    c.in_ok-measured.ensures.shards c.clear.ensures.empty (c.clear.ensures.of core.settings (pens_of moved.new.nodes.fleet.stores))
    c.in_ok-catch_up.ensures.caught match in
    record {
      settles = done.says;
      empty = c.clear.ensures.empty;
      stops = tt;
      leaves = done.leaves;
      rest = done.rest;
    }
