use Rattle.std.proofs.Common.{ap, arith, ◌∙◌, subst, sym}
use Rattle.std.proofs.lemmas.Result.{IfOk-weaker}
use Rattle.tao_keeper.proofs.Growing.{stays_grow}
use Rattle.core_model.specs.Consistent.{IsConsistent}
use Rattle.core_model.specs.Fleet.{Fleet}
use Rattle.core_model.specs.Stores.{AreStores, HaveSeen, store_count}
use Rattle.core_nodes.proofs.AskLemmas.{still_consistent}
use Rattle.core_nodes.proofs.CatchSteps.{lengths_stay}
use Rattle.core_nodes.proofs.ViewLemmas.{LendsStores, stores_after}
use Rattle.core_nodes.proofs.fleet.Fleet.lengths.Goals as goal

pub log_lengths-requires : goal.log_lengths-requires
log_lengths-requires g c =
    let own = c.deref_mut.ensures.value ∙ ap (λ (f : Fleet). f.stores) c.self.view_is in
    record {
      stores = subst (AreStores c.args.config.now (store_count c.args.config.now)) (sym own) c.requires.consistent.stores.configured;
      seen = subst (HaveSeen g.K.Keeper.TELLS (g.K.Keeper.state c.args.keepers.now).told) (sym own) c.requires.consistent.stores.seen;
    }

pub returns : goal.returns
returns g c =
    let tells = g.K.Keeper.TELLS in
    let s = c.args.config.now in
    let state = g.K.Keeper.state in
    let old = (state c.args.keepers.now).told in
    let new = (state c.log_lengths.new.keepers).told in
    let given = c.log_lengths.ensures in
    let own = c.deref_mut.ensures.value ∙ ap (λ (f : Fleet). f.stores) c.self.view_is in
    let lends : LendsStores c.self.inside c.args.self.now c.deref_mut.result.now c.log_lengths.new.stores =
    record { view = c.self.view_is; own = own; long = omega arith; is = given.same } in
    let same = stores_after c.self.inside c.args.self.now c.deref_mut.result.now c.log_lengths.new.stores lends in
    record {
      lengths = IfOk-weaker c.log_lengths.result _ _ (λ lengths are. lengths_stay tells s old new lengths.items given.stays are) given.lengths;
      stop = given.stop;
      same = same;
      consistent = subst (IsConsistent tells s new) (sym same) (still_consistent tells s old new c.args.self.now c.requires.consistent given.stays);
      tables = given.stays;
      logs = stays_grow tells old new given.stays;
      later = given.later;
    }
