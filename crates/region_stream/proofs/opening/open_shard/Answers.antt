use Rattle.std.proofs.Common.{sym, ap, ◌∙◌, subst}
use Rattle.graph_model.specs.Soundness.{IsSound}
use Rattle.region_stream.proofs.OpenLemmas.{slaves_kept}
use Rattle.region_stream.proofs.opening.open_shard.Goals as goal

-- each log that is told is sound
pub over_log-requires-clause-sound : goal.over_log-requires-clause-sound
over_log-requires-clause-sound g c = λ told.
    let tells = sym c.TELLS.ensures ∙ told in
    subst IsSound (sym (c.in_ok-log.ensures.entries tells)) (g.met.M.Keeper.sound c.args.keeper.now c.args.master tells)

pub returns-clause-keeper : goal.returns-clause-keeper
returns-clause-keeper g c =
    let same = c.in_ok-slaves.ensures.same in
    slaves_kept g.M.Keeper.TELLS (g.M.Keeper.state c.whole_log.new.keeper).told (g.M.Keeper.state c.all_agree.new.keeper).told c.make_slaves.new.master
    c.deref.result.now c.args.slaves.now (ap (λ s. s.role) same ∙ c.in_ok-store.ensures.master)
    (ap (λ s. s.view.log.told) same ∙ c.in_ok-store.ensures.told ∙ c.TELLS.ensures)
    (ap (λ s. s.view.entries) same ∙ c.in_ok-store.ensures.entries ∙ sym c.deref.ensures.value)
    c.in_ok-all_agree.ensures.agree c.in_ok-all_agree.ensures.stays
