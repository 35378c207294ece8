use Rattle.std.proofs.Common.{IfOk, List, ap, arith, ◌∙◌, subst, sym}
use Rattle.shard_tables.specs.StoreView.{Store}
use Rattle.core_model.specs.Consistent.{IsConsistent}
use Rattle.core_model.specs.Emptied.{region_tables}
use Rattle.core_model.specs.Fleet.{Fleet, region_of}
use Rattle.core_model.specs.Pens.{pens_of}
use Rattle.core_model.specs.Stores.{AreStoresOf}
use Rattle.core_nodes.specs.Emptying.{IsRestart}
use Rattle.core_nodes.proofs.AskLemmas.{still_consistent}
use Rattle.core_nodes.proofs.ViewLemmas.{LendsStores, stores_after}
use Rattle.core_nodes.proofs.fleet.Fleet.restart.Goals as goal

pub restart_for-requires-clause-stores : goal.restart_for-requires-clause-stores
restart_for-requires-clause-stores g c =
    let own = c.deref_mut.ensures.value ∙ ap (λ (f : Fleet). f.stores) c.self.view_is in
    subst (AreStoresOf g.K.Keeper.TELLS c.args.config.now (g.K.Keeper.state c.args.keepers.now).told) (sym own) c.requires.consistent.stores

pub returns : goal.returns
returns g c =
    let tells = g.K.Keeper.TELLS in
    let s = c.args.config.now in
    let state = g.K.Keeper.state in
    let before = (state c.args.keepers.now).told in
    let after = (state c.restart_for.new.keepers).told in
    let given = c.restart_for.ensures in
    let own = c.deref_mut.ensures.value ∙ ap (λ (f : Fleet). f.stores) c.self.view_is in
    let lends : LendsStores c.self.inside c.args.self.now c.deref_mut.result.now c.restart_for.new.stores =
    record { view = c.self.view_is; own = own; long = omega arith; is = given.same } in
    let same = stores_after c.self.inside c.args.self.now c.deref_mut.result.now c.restart_for.new.stores lends in
    record {
      restart = subst (λ (xs : List Store). IfOk c.restart_for.result
          (IsRestart s (pens_of xs) (region_tables tells before (region_of c.args.node)) c.args.node)) own given.restart;
      same = same;
      consistent = subst (IsConsistent tells s after) (sym same) (still_consistent tells s before after c.args.self.now c.requires.consistent given.tables);
      refused = given.refused;
      tables = given.tables;
      calls = given.calls;
    }
