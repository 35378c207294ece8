use Rattle.std.proofs.Common.{◌≡◌, ◌≤◌, ◌∙◌, [], ◌∷◌, refl, subst, sym}
use Rattle.load_audit.specs.Listed.{missing_adds}
use Rattle.shared_tiers.specs.locked_nodes.Cluster.{on_cluster}
use Rattle.tao_busy.proofs.CallCounts.{call_counts}
use Rattle.tao_busy.proofs.Unrefused.{unrefused}
use Rattle.tao_busy.proofs.taking.ask_by.Goals as goal

pub returns-clause-few : goal.returns-clause-few
returns-clause-few g c = λ told logs begin.
    subst (λ n. missing_adds logs (c.args.request.now ∷ []) ≤ n) (sym c.tally_of-came.ensures.refused)
    (call_counts (on_cluster g.K.Keeper.TELLS g.K.Keeper.state g.J.Sharing.making g.J.Logs.log) _ _ told logs begin c.args.request.now c.call-said.result
    c.call-said.ensures.replies)

pub returns-clause-none : goal.returns-clause-none
returns-clause-none g c = λ told mine logs begin way well.
    subst (λ n. n ≡ 0) (sym c.tally_of-came.ensures.refused)
    (unrefused (on_cluster g.K.Keeper.TELLS g.K.Keeper.state g.J.Sharing.making g.J.Logs.log) _ _ told logs begin c.call-said.ensures.pass.long refl refl
    c.args.request.now c.call-said.result mine way c.call-said.ensures.replies (sym c.tally_of-came.ensures.short ∙ well))
