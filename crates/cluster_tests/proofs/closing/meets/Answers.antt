use Rattle.std.proofs.Common.{sym, subst}
use Rattle.keepers.specs.Shown.{told_in}
use Rattle.shared_tiers.specs.cluster_closing.unlocked_nodes.Unlocked.{MaySettle}
use Rattle.cluster_tests.proofs.closing.meets.Goals as goal

pub returns : goal.returns
returns g c =
    let m = g.J.Sharing.making in
    let state = g.K.Keeper.state in
    subst (λ u. MaySettle g.K.Keeper.TELLS m g.J.Logs.log (told_in state m.settings.shards c.meet.new.self.keepers.items) u) (sym c.meet.ensures.unlocked)
    (subst (λ ks. MaySettle g.K.Keeper.TELLS m g.J.Logs.log (told_in state m.settings.shards ks.items) c.args.closed.now.unlocked) (sym c.meet.ensures.keepers)
    c.requires.ready)
