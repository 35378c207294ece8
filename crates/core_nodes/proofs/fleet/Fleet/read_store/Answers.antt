use Rattle.std.proofs.Common.{ap, arith, ◌∙◌, subst, sym}
use Rattle.core_model.specs.Fleet.{Fleet}
use Rattle.core_model.specs.Stores.{AreStoresOf}
use Rattle.core_nodes.proofs.MasterLemmas.{store_lent}
use Rattle.core_nodes.proofs.ViewLemmas.{LendsStores}
use Rattle.core_nodes.proofs.fleet.Fleet.read_store.Goals as goal

pub read_at-requires-clause-stores : goal.read_at-requires-clause-stores
read_at-requires-clause-stores g c =
    let own = c.deref_mut.ensures.value ∙ ap (λ (f : Fleet). f.stores) c.self.view_is in
    subst (AreStoresOf g.K.Keeper.TELLS c.args.config.now (g.K.Keeper.state c.args.keepers.now).told) (sym own) c.requires.consistent.stores

pub returns : goal.returns
returns g c =
    let state = g.K.Keeper.state in
    let own = c.deref_mut.ensures.value ∙ ap (λ (f : Fleet). f.stores) c.self.view_is in
    let given = c.read_at.ensures in
    let lends : LendsStores c.self.inside c.args.self.now c.deref_mut.result.now c.read_at.new.stores =
    record { view = c.self.view_is; own = own; long = omega arith; is = given.same } in
    let done = store_lent g.K.Keeper.TELLS c.args.config.now c.args.region c.args.query.now (state c.args.keepers.now) (state c.read_at.new.keepers)
    c.self.inside c.args.self.now c.deref_mut.result.now c.read_at.new.stores c.read_at.result lends c.requires.consistent given.reads given.given
    given.tables in
    record {
      reads = done.reads;
      given = done.given;
      same = done.same;
      consistent = done.consistent;
      refused = given.refused;
      tables = given.tables;
      logs = given.logs;
      calls = given.calls;
    }
