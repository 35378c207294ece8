use Rattle.std.proofs.Common.{◌≡◌, ◌≤◌, ap, sym, ◌∙◌}
use Rattle.load_audit.specs.Listed.{missing_adds}
use Rattle.shared_tiers.specs.locked_nodes.Cluster.{on_cluster}
use Rattle.tao_busy.proofs.Ends.{so_over}
use Rattle.tao_busy.proofs.ending.end_settled.Goals as goal
use Rattle.tao_busy.specs.Refusing.{HaveClearWay}

pub summed-requires-clause-few : goal.summed-requires-clause-few
summed-requires-clause-few g c κs within = λ told.
    so_over g.M.Keeper.state (λ logs requests. missing_adds logs requests ≤ c.in-Ok.refused) c.args.config.now g.J.Sharing.making.settings
    c.args.closed.keepers.items c.keepers-keepers.result.items c.as_slice.result.now c.as_slice-in-Ok.result.now c.requires.config
    (c.keepers-keepers.ensures ∙ ap (λ v. v.items) c.meet_shares.ensures.keepers) (c.as_slice-in-Ok.ensures.value ∙ sym c.as_slice.ensures.value)
    (c.in-Ok.ensures.few told)

pub summed-requires-clause-none : goal.summed-requires-clause-none
summed-requires-clause-none g c κs within = λ told.
    let on = on_cluster g.M.Keeper.TELLS g.M.Keeper.state g.J.Sharing.making g.J.Logs.log in
    so_over g.M.Keeper.state (λ logs requests. HaveClearWay on logs requests → c.in-Ok.refused ≡ 0) c.args.config.now g.J.Sharing.making.settings
    c.args.closed.keepers.items c.keepers-keepers.result.items c.as_slice.result.now c.as_slice-in-Ok.result.now c.requires.config
    (c.keepers-keepers.ensures ∙ ap (λ v. v.items) c.meet_shares.ensures.keepers) (c.as_slice-in-Ok.ensures.value ∙ sym c.as_slice.ensures.value)
    (c.in-Ok.ensures.none told)
