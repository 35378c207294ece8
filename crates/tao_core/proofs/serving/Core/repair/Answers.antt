use Rattle.std.proofs.Common.{subst, sym}
use Rattle.core_steps.specs.World.{world}
use Rattle.tao_core.specs.Calls.{world_at}
use Rattle.tao_core.specs.Core.{CoreState, IsConsistentCore, LeavesCore, core_state}
use Rattle.tao_core.proofs.HeldOn.{none_come}
use Rattle.tao_core.proofs.Keeping.{core_can_post, written_core}
use Rattle.tao_core.proofs.Settled.{left_core, stores_held, repaired_same}
use Rattle.tao_core.proofs.serving.Core.repair.Goals as goal

pub repair_first-outcome-requires-clause-ready : goal.repair_first-outcome-requires-clause-ready
repair_first-outcome-requires-clause-ready g c =
    let keepers = g.K.Keeper.state c.args.keepers.now in
    core_can_post g.K.Keeper.TELLS (core_state c.self.inside) keepers (g.L.Link.shown c.args.link.now)
    (subst (IsConsistentCore g.K.Keeper.TELLS keepers.told) (sym c.self.view_is) c.requires.keepers)

pub returns-clause-leaves : goal.returns-clause-leaves
returns-clause-leaves g c =
    let tells = g.K.Keeper.TELLS in
    let before = g.K.Keeper.state c.args.keepers.now in
    let core = core_state c.self.inside in
    let done = c.repair_first-outcome in
    let now = g.K.Keeper.state done.new.keepers in
    let on = done.ensures.on in
    let of = subst (IsConsistentCore tells before.told) (sym c.self.view_is) c.requires.keepers in
    let end = done.new.nodes in
    subst (λ (x : CoreState). LeavesCore tells before now x (left_core core end.topology end.fleet end.mail)) c.self.view_is (record {
      is_consistent = written_core tells before.told core of now.told end.topology end.fleet end.mail on.states on.consistent on.inboxes on.arrived
          on.goes on.grows.on.logs;
      on = stores_held core.fleet end.fleet on.goes
          (repaired_same tells core.settings c.args.shard (world_at core before (g.L.Link.shown c.args.link.now))
          (world end now (g.L.Link.shown done.new.link)) done.result done.ensures.repairs);
      comes = none_come tells now.told core (left_core core end.topology end.fleet end.mail) on.states;
      grows = on.grows;
      later = on.later;
    })
