use Rattle.std.proofs.Common.{subst, sym}
use Rattle.core_model.specs.Consistent.{HaveReached}
use Rattle.core_model.specs.Reads.{wanted}
use Rattle.core_steps.proofs.ReachLemmas.{look_reaches}
use Rattle.core_plans.proofs.HeldReadStages.{looks_done, looks_lost}
use Rattle.core_plans.proofs.reads.look_first.Goals as goal
use Rattle.tao_schema.specs.Schema.{types_of}

pub returns-in-Ok : goal.returns-in-Ok
returns-in-Ok g c =
    let first = c.in-Ok.field-0 in
    let here = c.look.ensures in
    let done = c.in-Ok.ensures in
    looks_done g.K.Keeper.TELLS c.args.config.now c.args.plan.now c.take.new.self c.args.nodes.now
    (g.K.Keeper.state c.args.keepers.now) (g.L.Link.shown c.args.link.now) c.args.nodes.now.fleet c.look.new.self
    (record {
      masters = c.masters_are_regions.ensures;
      consistent = c.requires.consistent;
      read = c.requires.read;
      rest = here.rest;
      fleet = here.fleet;
      goes = here.goes;
      reaches = look_reaches (g.K.Keeper.state c.args.keepers.now).told c.follower.result c.args.nodes.now.fleet c.look.new.self here.rest
          (types_of c.args.config.now.schema) (wanted c.query.result.now c.floor.result) first.look first.ask done.looks;
    })
    c.set_ask.new.self first.look first.ask c.follower.result c.query.result.now c.floor.result c.requires.stage c.requires.plain
    (record { follower_is = c.follower.ensures; query_is = c.query.ensures; floor_is = c.floor.ensures })
    done.looks done.legal done.ask c.set_ask.ensures c.take.ensures

pub returns-in-Err : goal.returns-in-Err
returns-in-Err g c =
    let here = c.look.ensures in
    looks_lost g.K.Keeper.TELLS c.args.config.now c.args.plan.now c.take-in-Err.new.self c.args.nodes.now
    (g.K.Keeper.state c.args.keepers.now) (g.L.Link.shown c.args.link.now) c.args.nodes.now.fleet c.look.new.self
    (record {
      masters = c.masters_are_regions.ensures;
      consistent = c.requires.consistent;
      read = c.requires.read;
      rest = here.rest;
      fleet = here.fleet;
      goes = here.goes;
      reaches = subst (HaveReached (g.K.Keeper.state c.args.keepers.now).told) (sym c.in-Err.ensures.err);
    })
    c.out_of_memory.result c.requires.stage c.requires.plain c.in-Err.ensures.err c.out_of_memory.ensures c.take-in-Err.ensures
