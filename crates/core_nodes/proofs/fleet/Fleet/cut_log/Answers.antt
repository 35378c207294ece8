use Rattle.std.proofs.Common.{ap, arith, ◌∙◌, subst, sym}
use Rattle.core_model.specs.Consistent.{IsConsistent}
use Rattle.core_model.specs.Fleet.{Fleet}
use Rattle.core_nodes.proofs.TrimLemmas.{cut_leaves}
use Rattle.core_nodes.proofs.ViewLemmas.{LendsStores, stores_after}
use Rattle.core_nodes.proofs.fleet.Fleet.cut_log.Goals as goal

pub returns : goal.returns
returns g c =
    let tells = g.K.Keeper.TELLS in
    let s = c.args.config.now in
    let state = g.K.Keeper.state in
    let before = (state c.args.keepers.now).told in
    let after = (state c.cut_at.new.keepers).told in
    let given = c.cut_at.ensures in
    let own = c.deref_mut.ensures.value ∙ ap (λ (f : Fleet). f.stores) c.self.view_is in
    let lends : LendsStores c.self.inside c.args.self.now c.deref_mut.result.now c.cut_at.new.stores =
    record { view = c.self.view_is; own = own; long = omega arith; is = given.same } in
    let same = stores_after c.self.inside c.args.self.now c.deref_mut.result.now c.cut_at.new.stores lends in
    let left = cut_leaves tells s before after c.args.at c.args.position c.args.self.now c.requires.consistent c.requires.here c.requires.come
    c.cut_at.result given.cut given.changes given.logs in
    record {
      cut = left.cut;
      changes = left.changes;
      same = same;
      consistent = subst (IsConsistent tells s after) (sym same) left.consistent;
      on = left.on;
      refused = given.refused;
      calls = given.calls;
    }
