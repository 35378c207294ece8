use Rattle.std.specs.Prelude.{Err, Ok}
use Rattle.std.proofs.Common.{subst, sym}
use Rattle.core_plans.proofs.Choosing.{asked_may_be}
use Rattle.core_steps.specs.Reads.{MayBeAsked}
use Rattle.core_steps.specs.World.{World, world}
use Rattle.replies.specs.declared.reply.Reply.TheVariants.{Refused}
use Rattle.core_plans.proofs.HeldReadStages.{asks_done, asks_lost, taken_by, taken_since}
use Rattle.core_plans.proofs.reads.ask_stage.Goals as goal
use Rattle.tao_base.specs.Queries.{query_shard}
use Rattle.read_plan.specs.declared.stages.ReadResult.TheVariants as came

pub ask_over-requires-clause-leader : goal.ask_over-requires-clause-leader
ask_over-requires-clause-leader g c =
    let s = c.args.config.now in
    let p = c.args.plan.now in
    subst (λ q. MayBeAsked s (query_shard q) c.asked_of_read-node.result) (sym c.query-query.ensures)
    (subst (MayBeAsked s (query_shard p.query)) (sym c.asked_of_read-node.ensures)
    (asked_may_be g.K.Keeper.TELLS s (g.K.Keeper.state c.args.keepers.now).told c.args.nodes.now.fleet c.args.nodes.now.topology p
    c.requires.states c.requires.read))

pub returns-in-Ok : goal.returns-in-Ok
returns-in-Ok g c =
    let end = c.ask_over.new in
    let old : World = world c.args.nodes.now (g.K.Keeper.state c.args.keepers.now) (g.L.Link.shown c.args.link.now) in
    let new : World = world end.self (g.K.Keeper.state end.keepers) (g.L.Link.shown end.link) in
    asks_done g.K.Keeper.TELLS c.args.config.now c.asked_of_read-node.result c.args.plan.now c.take_since.new.plan old new c.requires.read
    c.ask_over.ensures.on c.in-Ok.given c.follower.result c.query-query.result.now c.floor-floor.result c.requires.stage c.asked_of_read-node.ensures
    (record { follower_is = c.follower.ensures; query_is = c.query-query.ensures; floor_is = c.floor-floor.ensures }) c.in-Ok.ensures.given
    (taken_by c.asked_of_read-node.result c.args.plan.now c.set_by.new.self c.take_since.new.plan (came.Ask (Ok c.in-Ok.given)) c.so_far-since.result
    old new c.set_by.ensures c.so_far-since.ensures c.take_since.ensures)

pub returns-in-Err : goal.returns-in-Err
returns-in-Err g c =
    let end = c.ask_over.new in
    let old : World = world c.args.nodes.now (g.K.Keeper.state c.args.keepers.now) (g.L.Link.shown c.args.link.now) in
    let mid : World = world end.self (g.K.Keeper.state end.keepers) (g.L.Link.shown end.link) in
    asks_lost g.K.Keeper.TELLS c.args.config.now c.args.plan.now c.take_since-in-Err.new.plan old mid c.end_ask_of.new.fleet
    c.requires.read c.ask_over.ensures.on c.end_ask_of.ensures c.in-Err.refusal c.asked_of_read-node.result c.follower.result
    c.query-query.result.now c.floor-floor.result c.requires.stage c.asked_of_read-node.ensures
    (record { follower_is = c.follower.ensures; query_is = c.query-query.ensures; floor_is = c.floor-floor.ensures }) c.in-Err.ensures.err
    (taken_since c.args.plan.now c.take_since-in-Err.new.plan (came.Ask (Err (Refused c.in-Err.refusal))) c.so_far-since.result old mid c.so_far-since.ensures
    c.take_since-in-Err.ensures)
