use Rattle.std.proofs.Common.{◌≡◌, IfOk, IfSome, length, ap, arith, ◌∙◌, subst, sym}
use Rattle.core_model.specs.Fleet.{Fleet}
use Rattle.core_model.specs.Jobs.{far_shard}
use Rattle.core_model.specs.Pens.{pens_of}
use Rattle.core_model.specs.Stores.{AreStoresOf}
use Rattle.shard_tables.specs.Written.{LiesOn, StandsIn}
use Rattle.core_nodes.proofs.StoresLent.{grown_lent}
use Rattle.core_nodes.proofs.fleet.Fleet.merge_far.Goals as goal

pub merge_over-requires-clause-stores : goal.merge_over-requires-clause-stores
merge_over-requires-clause-stores g c =
    let own = c.deref_mut.ensures.value ∙ ap (λ (f : Fleet). f.stores) c.self.view_is in
    subst (AreStoresOf g.K.Keeper.TELLS c.args.config.now (g.K.Keeper.state c.args.keepers.now).told) (sym own) c.requires.consistent.stores

pub returns : goal.returns
returns g c =
    let given = c.merge_over.ensures in
    let own = c.deref_mut.ensures.value ∙ ap (λ (f : Fleet). f.stores) c.self.view_is in
    let long : length c.merge_over.new.stores ≡ c.self.inside.stores.len = omega arith in
    let done = grown_lent g.K.Keeper.TELLS c.args.config.now (g.K.Keeper.state c.args.keepers.now).told (g.K.Keeper.state c.merge_over.new.keepers).told
    c.self.inside c.args.self.now c.deref_mut.result.now c.merge_over.new.stores c.self.view_is own long c.requires.consistent given.grows.on.logs given.stores
    given.rise in
    let shard = far_shard c.args.job.now.job.now in
    let r = c.merge_over.result in
    record {
      merges = given.merges;
      stands = subst (λ xs. IfOk r (λ repaired. IfSome repaired.wrote (StandsIn (pens_of xs shard)))) (sym done.stores_are) given.stands;
      lies = subst (λ xs. IfOk r (λ repaired. IfSome repaired.wrote (LiesOn (pens_of xs shard) shard))) (sym done.stores_are) given.lies;
      rest = done.rest;
      consistent = done.consistent;
      goes = done.goes;
      grows = given.grows;
      calls = given.calls;
    }
