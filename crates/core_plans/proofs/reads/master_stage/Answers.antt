use Rattle.std.proofs.Common.{refl}
use Rattle.std.specs.Prelude.{Err, Ok}
use Rattle.core_steps.specs.World.{World, world}
use Rattle.node_name.specs.declared.NodeName.{NodeName}
use Rattle.node_name.specs.declared.NodeName.TheVariants.{Store as StoreName_}
use Rattle.replies.specs.declared.reply.Reply.TheVariants.{Refused}
use Rattle.core_plans.proofs.HeldReadStages.{master_is, masters_done, masters_lost, taken_by, taken_since}
use Rattle.core_plans.proofs.reads.master_stage.Goals as goal
use Rattle.read_plan.specs.declared.stages.ReadResult.TheVariants as came

pub returns-in-Ok : goal.returns-in-Ok
returns-in-Ok g c =
    let end = c.read_over.new in
    let old : World = world c.args.nodes.now (g.K.Keeper.state c.args.keepers.now) (g.L.Link.shown c.args.link.now) in
    let new : World = world end.self (g.K.Keeper.state end.keepers) (g.L.Link.shown end.link) in
    let s = c.args.config.now in
    let node : NodeName = StoreName_ c.master_store.result in
    let master = master_is s c.args.plan.now c.master_store.result c.shard.result c.query-query.result.now c.master_store.ensures c.shard.ensures
    c.query-query.ensures in
    masters_done g.K.Keeper.TELLS c.args.config.now node c.args.plan.now c.take_since.new.plan old new c.requires.read c.read_over.ensures.on
    c.in-Ok.out c.query-query.result.now c.requires.stage c.requires.consistent.stores master c.query-query.ensures c.in-Ok.ensures.read
    (taken_by node c.args.plan.now c.set_by.new.self c.take_since.new.plan (came.Master (Ok c.in-Ok.out)) c.so_far-since.result old new c.set_by.ensures
    c.so_far-since.ensures c.take_since.ensures)

pub returns-in-Err : goal.returns-in-Err
returns-in-Err g c =
    let end = c.read_over.new in
    let old : World = world c.args.nodes.now (g.K.Keeper.state c.args.keepers.now) (g.L.Link.shown c.args.link.now) in
    let mid : World = world end.self (g.K.Keeper.state end.keepers) (g.L.Link.shown end.link) in
    masters_lost g.K.Keeper.TELLS c.args.config.now c.args.plan.now c.take_since-in-Err.new.plan old mid c.end_ask_of.new.fleet
    c.requires.read c.read_over.ensures.on c.end_ask_of.ensures c.in-Err.refusal c.follower-follower.result c.query-query.result.now c.args.plan.now.floor
    c.requires.stage (record { follower_is = c.follower-follower.ensures; query_is = c.query-query.ensures; floor_is = refl }) c.in-Err.ensures.err
    (taken_since c.args.plan.now c.take_since-in-Err.new.plan (came.Master (Err (Refused c.in-Err.refusal))) c.so_far-since.result old mid
    c.so_far-since.ensures c.take_since-in-Err.ensures)
