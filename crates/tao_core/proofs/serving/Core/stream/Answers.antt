use Rattle.std.proofs.Common.{subst, sym}
use Rattle.core_steps.specs.World.{world}
use Rattle.tao_core.specs.Calls.{world_at}
use Rattle.tao_core.specs.Core.{CoreState, IsConsistentCore, LeavesCore, core_state}
use Rattle.tao_core.proofs.Keeping.{core_can_post}
use Rattle.tao_core.proofs.Settled.{left_core}
use Rattle.tao_core.proofs.Streamed.{posted_leaves, streamed_same}
use Rattle.tao_core.proofs.serving.Core.stream.Goals as goal

pub stream_over-outcome-requires-clause-ready : goal.stream_over-outcome-requires-clause-ready
stream_over-outcome-requires-clause-ready g c =
    let keepers = g.K.Keeper.state c.args.keepers.now in
    core_can_post g.K.Keeper.TELLS (core_state c.self.inside) keepers (g.L.Link.shown c.args.link.now)
    (subst (IsConsistentCore g.K.Keeper.TELLS keepers.told) (sym c.self.view_is) c.requires.keepers)

pub returns-clause-leaves : goal.returns-clause-leaves
returns-clause-leaves g c =
    let tells = g.K.Keeper.TELLS in
    let before = g.K.Keeper.state c.args.keepers.now in
    let from = g.L.Link.shown c.args.link.now in
    let core = core_state c.self.inside in
    let done = c.stream_over-outcome in
    let now = g.K.Keeper.state done.new.keepers in
    let to = g.L.Link.shown done.new.link in
    let end = done.new.self in
    subst (λ (x : CoreState). LeavesCore tells before now x (left_core core end.topology end.fleet end.mail)) c.self.view_is
    (posted_leaves tells core before now from to end (subst (IsConsistentCore tells before.told) (sym c.self.view_is) c.requires.keepers) done.ensures.on
    (streamed_same tells core.settings c.args.asked done.result (world_at core before from) (world end now to) done.ensures.streams))
