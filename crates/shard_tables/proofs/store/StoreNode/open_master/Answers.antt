use Rattle.std.proofs.Common.{sym, ◌∙◌, subst}
use Rattle.graph_model.specs.Soundness.{IsSound}
use Rattle.shard_tables.proofs.store.StoreNode.open_master.Goals as goal

-- each log that is told is sound
pub over_log-requires-clause-sound : goal.over_log-requires-clause-sound
over_log-requires-clause-sound g c = λ told.
    let tells = sym c.TELLS.ensures ∙ told in
    subst IsSound (sym (c.in_ok-log.ensures.entries tells)) (g.met.M.Keeper.sound c.args.keeper.now c.args.name tells)
