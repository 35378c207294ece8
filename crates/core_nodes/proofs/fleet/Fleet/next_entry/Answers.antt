use Rattle.std.proofs.Common.{IfOk, IfSome, ap, arith, ◌∙◌, subst, sym}
use Rattle.shard_tables.specs.Written.{LiesOn, StandsIn}
use Rattle.tao_keeper.proofs.Growing.{stays_grow}
use Rattle.topology.specs.Config.{Settings}
use Rattle.core_model.specs.Consistent.{IsConsistent}
use Rattle.core_model.specs.Fleet.{Fleet}
use Rattle.core_model.specs.Pens.{pens_of}
use Rattle.core_model.specs.Stores.{AreStoresOf}
use Rattle.core_nodes.proofs.AskLemmas.{still_consistent}
use Rattle.core_nodes.proofs.StreamReads.{found_lies, found_stands}
use Rattle.core_nodes.proofs.ViewLemmas.{LendsStores, stores_after}
use Rattle.core_nodes.specs.Streams.{entry_found}
use Rattle.core_nodes.proofs.fleet.Fleet.next_entry.Goals as goal

pub next_at-requires-clause-stores : goal.next_at-requires-clause-stores
next_at-requires-clause-stores g c =
    let own = c.deref_mut.ensures.value ∙ ap (λ (f : Fleet). f.stores) c.self.view_is in
    subst (AreStoresOf g.K.Keeper.TELLS c.args.config.now (g.K.Keeper.state c.args.keepers.now).told) (sym own) c.requires.consistent.stores

pub returns : goal.returns
returns g c =
    let state = g.K.Keeper.state in
    let tells = g.K.Keeper.TELLS in
    let s : Settings = c.args.config.now in
    let old : Fleet = c.args.self.now in
    let own = c.deref_mut.ensures.value ∙ ap (λ (f : Fleet). f.stores) c.self.view_is in
    let given = c.next_at.ensures in
    let r = c.next_at.result in
    let lends : LendsStores c.self.inside old c.deref_mut.result.now c.next_at.new.stores =
    record { view = c.self.view_is; own = own; long = omega arith; is = given.same } in
    let same = stores_after c.self.inside old c.deref_mut.result.now c.next_at.new.stores lends in
    let regions = c.masters_are_regions.ensures in
    let stores = c.requires.consistent.stores in
    let before = (state c.args.keepers.now).told in
    let stands = found_stands tells s before old.stores regions stores c.args.at c.requires.here c.args.position r given.finds in
    let lies = found_lies tells s before old.stores regions stores c.args.at c.requires.here c.args.position r given.finds in
    record {
      finds = given.finds;
      asked = given.asked;
      few = given.few;
      given = given.given;
      stands = subst (λ (f : Fleet). IfOk r (λ found. IfSome (entry_found found) (StandsIn (pens_of f.stores c.args.at.shard)))) (sym same) stands;
      lies = subst (λ (f : Fleet). IfOk r (λ found. IfSome (entry_found found) (LiesOn (pens_of f.stores c.args.at.shard) c.args.at.shard))) (sym same) lies;
      same = same;
      consistent = subst (λ f. IsConsistent tells s (state c.next_at.new.keepers).told f) (sym same)
          (still_consistent tells s before (state c.next_at.new.keepers).told old c.requires.consistent given.tables);
      refused = given.refused;
      tables = given.tables;
      logs = stays_grow tells before (state c.next_at.new.keepers).told given.tables;
      calls = given.calls;
    }
