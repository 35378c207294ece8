use Rattle.std.proofs.Common.{refl}
use Rattle.core_steps.proofs.ReachLemmas.{ask_reaches}
use Rattle.core_plans.proofs.HeldReadStages.{asks_at_once}
use Rattle.core_plans.proofs.reads.look_past.Goals as goal
use Rattle.tao_schema.specs.Schema.{types_of}

pub returns : goal.returns
returns g c =
    let done = c.ask_at_once-ask.ensures in
    asks_at_once g.K.Keeper.TELLS c.args.config.now c.args.plan.now c.take.new.self c.args.nodes.now
    (g.K.Keeper.state c.args.keepers.now) (g.L.Link.shown c.args.link.now) c.args.nodes.now.fleet c.ask_at_once-ask.new.self
    (record {
      masters = c.masters_are_regions.ensures;
      consistent = c.requires.consistent;
      read = c.requires.read;
      rest = done.rest;
      fleet = done.fleet;
      goes = done.goes;
      reaches = ask_reaches (g.K.Keeper.state c.args.keepers.now).told c.follower.result c.args.nodes.now.fleet c.ask_at_once-ask.new.self done.rest
          (types_of c.args.config.now.schema) c.query.result.now c.ask_at_once-ask.result done.asks;
    })
    c.set_ask.new.self c.ask_at_once-ask.result c.follower.result c.query.result.now c.args.plan.now.floor c.requires.stage c.requires.critical
    (record { follower_is = c.follower.ensures; query_is = c.query.ensures; floor_is = refl })
    done.asks done.ask c.set_ask.ensures c.take.ensures
