use Rattle.std.proofs.Common.{ap, arith, ◌∙◌, subst, sym}
use Rattle.core_model.specs.Consistent.{IsConsistent}
use Rattle.core_model.specs.Fleet.{Fleet}
use Rattle.core_nodes.proofs.AskLemmas.{still_consistent}
use Rattle.core_nodes.proofs.TrimLemmas.{least_comes}
use Rattle.core_nodes.proofs.ViewLemmas.{LendsStores, stores_after}
use Rattle.core_nodes.proofs.fleet.Fleet.least_mark.Goals as goal

pub returns : goal.returns
returns g c =
    let tells = g.K.Keeper.TELLS in
    let s = c.args.config.now in
    let state = g.K.Keeper.state in
    let before = (state c.args.keepers.now).told in
    let after = (state c.least_among.new.keepers).told in
    let given = c.least_among.ensures in
    let own = c.deref_mut.ensures.value ∙ ap (λ (f : Fleet). f.stores) c.self.view_is in
    let lends : LendsStores c.self.inside c.args.self.now c.deref_mut.result.now c.least_among.new.stores =
    record { view = c.self.view_is; own = own; long = omega arith; is = given.same } in
    let same = stores_after c.self.inside c.args.self.now c.deref_mut.result.now c.least_among.new.stores lends in
    record {
      least = given.least;
      come = least_comes tells s before c.args.shard c.args.position c.least_among.result given.least;
      same = same;
      consistent = subst (IsConsistent tells s after) (sym same) (still_consistent tells s before after c.args.self.now c.requires.consistent given.tables);
      refused = given.refused;
      tables = given.tables;
      calls = given.calls;
    }
