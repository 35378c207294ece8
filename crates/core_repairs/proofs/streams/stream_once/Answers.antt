use Rattle.core_steps.specs.World.{world}
use Rattle.core_repairs.proofs.StreamEnds.{of_next_step, step_followers}
use Rattle.core_repairs.proofs.streams.stream_once.Goals as goal

pub stop_of-stop-requires : goal.stop_of-stop-requires
stop_of-stop-requires g c =
    let state = g.K.Keeper.state in
    let shown = g.L.Link.shown in
    let done = c.stream_over in
    of_next_step g.K.Keeper.TELLS c.args.config.now c.args.at (world c.args.nodes.now (state c.args.keepers.now) (shown c.args.link.now))
    (world done.new.self (state done.new.keepers) (shown done.new.link)) c.in-Err.refusal c.in-Err.ensures.streams

pub returns-in-Ok-clause-followers : goal.returns-in-Ok-clause-followers
returns-in-Ok-clause-followers g c =
    let state = g.K.Keeper.state in
    let shown = g.L.Link.shown in
    let done = c.stream_over in
    step_followers g.K.Keeper.TELLS c.args.config.now c.args.at (world c.args.nodes.now (state c.args.keepers.now) (shown c.args.link.now))
    (world done.new.self (state done.new.keepers) (shown done.new.link)) done.result done.ensures.streams

pub returns-in-Err-clause-followers : goal.returns-in-Err-clause-followers
returns-in-Err-clause-followers g c =
    let state = g.K.Keeper.state in
    let shown = g.L.Link.shown in
    let done = c.stream_over in
    step_followers g.K.Keeper.TELLS c.args.config.now c.args.at (world c.args.nodes.now (state c.args.keepers.now) (shown c.args.link.now))
    (world done.new.self (state done.new.keepers) (shown done.new.link)) done.result done.ensures.streams

pub returns-in-Err-clause-streams : goal.returns-in-Err-clause-streams
returns-in-Err-clause-streams g c = record { refusal = c.in-Err.refusal; given_is = c.stop_of-stop.ensures; refuses = c.in-Err.ensures.streams }
