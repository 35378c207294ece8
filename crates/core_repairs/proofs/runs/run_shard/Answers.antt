use Rattle.std.proofs.Common.{Ok, refl, ap, subst}
use Rattle.tao_base.specs.EdgeTypes.{InversesMatch}
use Rattle.tao_schema.specs.Schema.{types_of}
use Rattle.core_steps.specs.World.{world}
use Rattle.core_repairs.specs.Repairs.{FindsNoJob, IsRepaired, RepairsFirst}
use Rattle.core_steps.proofs.PostsLemmas.{can_post_on, posts_none, posts_trans}
use Rattle.core_repairs.proofs.RunLemmas.{first_leaves, given_again, no_more, none_at_zero, none_left, not_again}
use Rattle.core_repairs.proofs.RunLemmas.{of_repair, rest_trans, runs_one, stops_run}
use Rattle.core_repairs.proofs.runs.run_shard.Goals as goal

pub loop-found-init : goal.loop-found-init
loop-found-init g c =
    let state = g.K.Keeper.state in
    let shown = g.L.Link.shown in
    let start = world c.args.nodes.now (state c.args.keepers.now) (shown c.args.link.now) in
    record {
      runs = record { more = λ begin so. so };
      none =
          none_at_zero g.K.Keeper.TELLS c.args.config.now (state c.args.keepers.now).told c.args.shard c.requires.ready.consistent.stores.kept;
      rest = refl;
      on = posts_none g.K.Keeper.TELLS c.args.config.now start c.requires.ready;
    }

pub repair_first-requires-clause-ready : goal.repair_first-requires-clause-ready
repair_first-requires-clause-ready g c =
    can_post_on g.K.Keeper.TELLS c.args.config.now _ _ c.requires.ready c.loop-found.invariant.on

pub loop-found-preserved : goal.loop-found-preserved
loop-found-preserved g c =
    let tells = g.K.Keeper.TELLS in
    let state = g.K.Keeper.state in
    let shown = g.L.Link.shown in
    let s = c.args.config.now in
    let shard = c.args.shard in
    let was = c.loop-found.invariant in
    let start = world c.args.nodes.now (state c.args.keepers.now) (shown c.args.link.now) in
    let now = world c.loop-found.nodes (state c.loop-found.keepers) (shown c.loop-found.link) in
    let new = world c.repair_first.new.nodes (state c.repair_first.new.keepers) (shown c.repair_first.new.link) in
    let ran = c.in-Some.ran in
    let is : IsRepaired tells s shard ran now new =
    subst (λ f. RepairsFirst tells s shard (Ok f) now new) c.in-Some.is c.in-Ok.ensures.repairs in
    let match = subst (λ k. InversesMatch (types_of k)) (ap (λ s. s.schema) c.config.view_is) c.inverses_match.ensures in
    record {
      runs = record {
        more = λ begin so.
            runs_one tells s shard now new ran match was.on.consistent.stores.kept is c.repair_first.ensures.on.later begin (was.runs.more begin so);
      };
      none = none_left tells s shard now new ran match was.on.consistent.stores.kept is;
      rest = rest_trans start.fleet now.fleet new.fleet was.rest
          (first_leaves tells s shard now new c.repair_first.result c.repair_first.ensures.repairs);
      on = posts_trans tells s start now new was.on c.repair_first.ensures.on;
    }

pub stop_of-stop-requires : goal.stop_of-stop-requires
stop_of-stop-requires g c =
    let state = g.K.Keeper.state in
    let shown = g.L.Link.shown in
    of_repair g.K.Keeper.TELLS c.args.config.now c.args.shard
    (world c.loop-found.nodes (state c.loop-found.keepers) (shown c.loop-found.link))
    (world c.repair_first.new.nodes (state c.repair_first.new.keepers) (shown c.repair_first.new.link)) c.in-Err.refusal c.in-Err.ensures.repairs

pub returns-in-Err-clause-runs : goal.returns-in-Err-clause-runs
returns-in-Err-clause-runs g c =
    let state = g.K.Keeper.state in
    let shown = g.L.Link.shown in
    let now = world c.loop-found.nodes (state c.loop-found.keepers) (shown c.loop-found.link) in
    let new = world c.repair_first.new.nodes (state c.repair_first.new.keepers) (shown c.repair_first.new.link) in
    record {
      on = λ begin so.
          stops_run g.K.Keeper.TELLS c.args.config.now c.args.shard now new c.in-Err.refusal c.stop_of-stop.result c.requires.here c.stop_of-stop.ensures
          c.in-Err.ensures.repairs begin (c.loop-found.invariant.runs.more begin so);
    }

pub returns-in-Err-clause-on : goal.returns-in-Err-clause-on
returns-in-Err-clause-on g c = posts_trans g.K.Keeper.TELLS c.args.config.now _ _ _ c.loop-found.invariant.on c.repair_first.ensures.on

pub returns-in_default-clause-runs : goal.returns-in_default-clause-runs
returns-in_default-clause-runs g c =
    let tells = g.K.Keeper.TELLS in
    let state = g.K.Keeper.state in
    let shown = g.L.Link.shown in
    let s = c.args.config.now in
    let now = world c.loop-found.nodes (state c.loop-found.keepers) (shown c.loop-found.link) in
    let new = world c.repair_first.new.nodes (state c.repair_first.new.keepers) (shown c.repair_first.new.link) in
    let finds : FindsNoJob tells s c.args.shard now new =
    subst (λ f. RepairsFirst tells s c.args.shard (Ok f) now new) c.in_default.is c.in-Ok.ensures.repairs in
    record {
      on = λ begin so.
          no_more tells s c.args.shard now new c.requires.here finds c.repair_first.ensures.on.later begin (c.loop-found.invariant.runs.more begin so);
    }

pub returns-then-position-last-clause-runs : goal.returns-then-position-last-clause-runs
returns-then-position-last-clause-runs g c =
    let tells = g.K.Keeper.TELLS in
    let state = g.K.Keeper.state in
    let shown = g.L.Link.shown in
    let s = c.args.config.now in
    let shard = c.args.shard in
    let was = c.loop-found.invariant in
    let now = world c.loop-found.nodes (state c.loop-found.keepers) (shown c.loop-found.link) in
    let new = world c.repair_first.new.nodes (state c.repair_first.new.keepers) (shown c.repair_first.new.link) in
    let ran = c.in-Some.ran in
    let is : IsRepaired tells s shard ran now new =
    subst (λ f. RepairsFirst tells s shard (Ok f) now new) c.in-Some.is c.in-Ok.ensures.repairs in
    let match = subst (λ k. InversesMatch (types_of k)) (ap (λ s. s.schema) c.config.view_is) c.inverses_match.ensures in
    let kept = was.on.consistent.stores.kept in
    let untold = not_again tells s shard now new ran match kept is c.loop-found.last was.none c.if-position-last.true in
    record {
      on = λ begin so.
          given_again tells s shard begin new untold
          (runs_one tells s shard now new ran match kept is c.repair_first.ensures.on.later begin (was.runs.more begin so));
    }

pub returns-in_default-clause-on : goal.returns-in_default-clause-on
returns-in_default-clause-on g c = posts_trans g.K.Keeper.TELLS c.args.config.now _ _ _ c.loop-found.invariant.on c.repair_first.ensures.on

pub returns-then-position-last-clause-on : goal.returns-then-position-last-clause-on
returns-then-position-last-clause-on g c = posts_trans g.K.Keeper.TELLS c.args.config.now _ _ _ c.loop-found.invariant.on c.repair_first.ensures.on
