use Rattle.std.proofs.Common.{ap, arith, ◌∙◌, subst, sym}
use Rattle.core_model.specs.Fleet.{Fleet}
use Rattle.core_model.specs.Stores.{AreStoresOf}
use Rattle.core_nodes.proofs.StoresLent.{same_lent}
use Rattle.core_nodes.proofs.ViewLemmas.{LendsStores, stores_after}
use Rattle.core_nodes.proofs.fleet.Fleet.first_job.Goals as goal

pub first_at-requires-clause-stores : goal.first_at-requires-clause-stores
first_at-requires-clause-stores g c =
    let own = c.deref_mut.ensures.value ∙ ap (λ (f : Fleet). f.stores) c.self.view_is in
    subst (AreStoresOf g.K.Keeper.TELLS c.args.config.now (g.K.Keeper.state c.args.keepers.now).told) (sym own) c.requires.consistent.stores

pub returns : goal.returns
returns g c =
    let given = c.first_at.ensures in
    let own = c.deref_mut.ensures.value ∙ ap (λ (f : Fleet). f.stores) c.self.view_is in
    let lends : LendsStores c.self.inside c.args.self.now c.deref_mut.result.now c.first_at.new.stores =
    record { view = c.self.view_is; own = own; long = omega arith; is = given.same } in
    record {
      answer = given.answer;
      first = given.first;
      given = given.given;
      same = stores_after c.self.inside c.args.self.now c.deref_mut.result.now c.first_at.new.stores lends;
      consistent = same_lent g.K.Keeper.TELLS c.args.config.now (g.K.Keeper.state c.args.keepers.now).told
          (g.K.Keeper.state c.first_at.new.keepers).told c.self.inside c.args.self.now
          c.deref_mut.result.now c.first_at.new.stores lends c.requires.consistent given.logs given.stores;
      refusals = given.refusals;
      tables = given.tables;
      logs = given.logs;
      calls = given.calls;
    }
