use Rattle.std.proofs.Common.{◌∙◌, sym}
use Rattle.core_model.specs.Pens.{pens_of}
use Rattle.core_model.specs.Reads.{wanted}
use Rattle.core_steps.proofs.ReachLemmas.{end_reaches, keep_reaches}
use Rattle.core_plans.proofs.HeldReadStages.{given_fill, hands_done, keeps_done, keeps_lost}
use Rattle.core_plans.proofs.reads.keep_stage.Goals as goal
use Rattle.tao_schema.specs.Schema.{types_of}

pub keep-requires-clause-given : goal.keep-requires-clause-given
keep-requires-clause-given g c =
    given_fill (types_of c.args.config.now.schema) (pens_of c.args.nodes.now.fleet.stores) c.args.plan.now c.fill.new.self c.in-Some.fill
    c.follower-follower.result c.query-query.result.now c.floor.result c.requires.read.stands (sym c.fill.ensures.fill ∙ c.in-Some.is)
    c.fill.ensures.handed
    (record { follower_is = c.follower-follower.ensures; query_is = c.query-query.ensures; floor_is = c.floor.ensures })

pub returns-in-Ok : goal.returns-in-Ok
returns-in-Ok g c =
    let here = c.keep.ensures in
    let done = c.in-Ok.ensures in
    let found = c.in-Ok.found in
    keeps_done g.K.Keeper.TELLS c.args.config.now c.args.plan.now c.take.new.self c.args.nodes.now
    (g.K.Keeper.state c.args.keepers.now) (g.L.Link.shown c.args.link.now) c.args.nodes.now.fleet c.keep.new.self
    (record {
      masters = c.masters_are_regions.ensures;
      consistent = c.requires.consistent;
      read = c.requires.read;
      rest = here.rest;
      fleet = here.fleet;
      goes = here.goes;
      reaches = keep_reaches (g.K.Keeper.state c.args.keepers.now).told c.follower-follower.result c.args.nodes.now.fleet c.keep.new.self here.rest
          (types_of c.args.config.now.schema) (wanted c.query-query.result.now c.floor.result) c.ask.result c.in-Some.fill found.0 found.1 done.keeps;
    })
    c.fill.new.self c.in-Some.fill found.0 found.1 c.follower-follower.result c.query-query.result.now c.floor.result c.ask.result
    (sym c.fill.ensures.fill ∙ c.in-Some.is) c.fills_are_sealed.ensures c.fill.ensures.handed
    (record { follower_is = c.follower-follower.ensures; query_is = c.query-query.ensures; floor_is = c.floor.ensures }) c.ask.ensures
    done.keeps done.legal c.take.ensures

pub returns-in-Err : goal.returns-in-Err
returns-in-Err g c =
    let here = c.keep.ensures in
    keeps_lost g.K.Keeper.TELLS c.args.config.now c.args.plan.now c.take-in-Err.new.self c.args.nodes.now
    (g.K.Keeper.state c.args.keepers.now) (g.L.Link.shown c.args.link.now) c.args.nodes.now.fleet c.keep.new.self
    (record {
      masters = c.masters_are_regions.ensures;
      consistent = c.requires.consistent;
      read = c.requires.read;
      rest = here.rest;
      fleet = here.fleet;
      goes = here.goes;
      reaches = end_reaches (g.K.Keeper.state c.args.keepers.now).told c.follower-follower.result c.args.nodes.now.fleet c.keep.new.self here.rest
          c.ask.result c.in-Err.ensures.err;
    })
    c.fill.new.self c.in-Some.fill c.out_of_memory.result c.follower-follower.result c.ask.result (sym c.fill.ensures.fill ∙ c.in-Some.is)
    c.fill.ensures.handed c.follower-follower.ensures c.ask.ensures c.in-Err.ensures.err c.out_of_memory.ensures c.take-in-Err.ensures

pub returns-in-None : goal.returns-in-None
returns-in-None g c =
    hands_done g.K.Keeper.TELLS c.args.config.now c.args.plan.now c.take-in-None.new.self c.args.nodes.now
    (g.K.Keeper.state c.args.keepers.now) (g.L.Link.shown c.args.link.now) c.args.nodes.now.fleet c.end_ask_of.new.fleet c.fill.new.self
    c.masters_are_regions.ensures c.requires.consistent c.requires.read
    (sym c.fill.ensures.fill ∙ c.in-None.is) c.requires.stage c.fill.ensures.handed c.end_ask_of.ensures c.take-in-None.ensures
