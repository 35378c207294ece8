use Rattle.std.proofs.Common.{sym, subst}
use Rattle.core_model.specs.Cuts.{ArePastCuts}
use Rattle.core_nodes.proofs.CatchLemmas.{so_before}
use Rattle.unlocked_nodes.proofs.settling.catch_up_all.Goals as goal

pub catch_up-requires-clause-past : goal.catch_up-requires-clause-past
catch_up-requires-clause-past g c told =
    subst (ArePastCuts (g.K.Keeper.state c.lengths.new.keepers).told) (sym c.in_ok-stores.ensures.same)
    (so_before (λ t. ArePastCuts t c.args.fleet.now) (g.K.Keeper.state c.lengths.new.keepers).told (g.K.Keeper.state c.args.keepers.now).told
    (λ at. sym (c.in_ok-stores.ensures.tables told at)) (c.requires.past told))
