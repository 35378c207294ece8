use Rattle.std.proofs.Common.{ap, refl, sym, ◌∙◌}
use Rattle.core_nodes.specs.Outside.{outside}
use Rattle.keepers.specs.Shown.{strays_of, total}
use Rattle.cluster_opening.specs.Opening.{shown_in}
use Rattle.unlocked_nodes.specs.Settling.{closed_now}
use Rattle.cluster_closing.proofs.FreedKeepers.{comes_over, comes_shown, shown_so}
use Rattle.cluster_closing.proofs.settling.settle_with.Goals as goal

pub returns-clause-comes : goal.returns-clause-comes
returns-clause-comes g c =
    let tells = g.K.Keeper.TELLS in
    let state = g.K.Keeper.state in
    let shards = g.J.Sharing.making.settings.shards in
    let s = c.args.around.now.config.now in
    let first = c.of-placed.result.keepers in
    let last = c.settle_unlocked-unlocked.new.keepers.keepers in
    let link = g.L.Link.shown c.args.link.now in
    let later = g.L.Link.shown c.settle_unlocked-unlocked.new.link in
    let left = c.settle_unlocked-unlocked.result.unlocked.fleet in
    comes_over tells s (closed_now c.args.unlocked.fleet (outside (shown_in state shards 0 c.args.keepers.items) link))
    (λ strays. closed_now left (outside (shown_in state shards strays c.into_keepers-keepers.result.items) later)) (strays_of last) _ _ _ _
    (c.faults_of-before.ensures ∙ ap (total (λ keeper. (state keeper).faults) 0) c.deref.ensures.value)
    (c.faults_of-now.ensures ∙ ap (total (λ keeper. (state keeper).faults) 0) c.deref-2.ensures.value) c.said_as.ensures
    (comes_shown tells s c.settle_unlocked-unlocked.result.outcome c.args.unlocked.fleet left _ _ (shown_in state shards 0 c.args.keepers.items)
    (shown_in state shards (strays_of last) c.into_keepers-keepers.result.items) link later
    (shown_so state first shards 0 c.args.keepers.items (c.of-placed.result.shards ∙ c.requires.shards) c.of-placed.ensures.strays c.of-placed.ensures.kept)
    (shown_so state last shards (strays_of last) c.into_keepers-keepers.result.items (c.settle_unlocked-unlocked.new.keepers.shards ∙ c.requires.shards) refl
    (sym c.into_keepers-keepers.ensures.kept)) c.settle_unlocked-unlocked.ensures.comes)
