use Rattle.std.proofs.Common.{ap, ◌∙◌}
use Rattle.unlocked_nodes.specs.core_repairs.Stops.{unsettled_as}
use Rattle.unlocked_nodes.specs.declared.unlocked.Unlocked.{Unlocked}
use Rattle.cluster_closing.proofs.FreedKeepers.{answers_logs, answers_stop, over_so}
use Rattle.cluster_closing.proofs.closed.Closed.settle.Goals as goal

pub returns-in-Ok-clause-does : goal.returns-in-Ok-clause-does
returns-in-Ok-clause-does g c =
    let s = g.J.Sharing.making.settings in
    let over =
    over_so g.K.Keeper.TELLS g.K.Keeper.state s.shards s c.args.self.now.config.now _ _ _ _ _ _ _ _ _ (g.L.Link.shown c.args.link.now)
    (g.L.Link.shown c.settle_with-settled.new.link) c.args.self.now.made (ap (λ (u : Unlocked). u.fleet) c.replace-unlocked.ensures.value)
    (ap (λ (u : Unlocked). u.fleet) c.replace.ensures.after) (ap (λ ks. ks.items) c.replace-keepers.ensures.value)
    (ap (λ ks. ks.items) c.replace-2.ensures.after) c.settle_with-settled.ensures.comes in
    answers_logs g.K.Keeper.TELLS s _ _ _ c.in-Ok.logs c.of.result c.of.ensures c.in-Ok.is over

pub returns-in-Err-clause-does : goal.returns-in-Err-clause-does
returns-in-Err-clause-does g c =
    let s = g.J.Sharing.making.settings in
    let over =
    over_so g.K.Keeper.TELLS g.K.Keeper.state s.shards s c.args.self.now.config.now _ _ _ _ _ _ _ _ _ (g.L.Link.shown c.args.link.now)
    (g.L.Link.shown c.settle_with-settled.new.link) c.args.self.now.made (ap (λ (u : Unlocked). u.fleet) c.replace-unlocked.ensures.value)
    (ap (λ (u : Unlocked). u.fleet) c.replace.ensures.after) (ap (λ ks. ks.items) c.replace-keepers.ensures.value)
    (ap (λ ks. ks.items) c.replace-2.ensures.after) c.settle_with-settled.ensures.comes in
    answers_stop g.K.Keeper.TELLS s _ _ _ c.in-Err.stop c.unsettled_as.result
    (c.unsettled_as.ensures ∙ ap (λ x. unsettled_as x c.in-Err.stop) c.args.self.now.up) c.in-Err.is over
