use Rattle.std.proofs.Common.{◌≡◌, length, ap, arith, ◌∙◌, subst, sym}
use Rattle.topology.specs.Config.{Settings}
use Rattle.core_model.specs.Fleet.{Fleet}
use Rattle.core_model.specs.Pens.{Rise, pens_of}
use Rattle.core_model.specs.Stores.{AreStoresOf}
use Rattle.core_model.specs.Writes.{IsSeenEntry}
use Rattle.core_nodes.proofs.FleetLemmas.{rise_self}
use Rattle.core_nodes.proofs.StoresLent.{grown_lent}
use Rattle.core_nodes.proofs.StreamLemmas.{rested_lent}
use Rattle.core_nodes.proofs.fleet.Fleet.take_streamed.Goals as goal

pub take_at-requires-clause-stores : goal.take_at-requires-clause-stores
take_at-requires-clause-stores g c =
    let own = c.deref_mut.ensures.value ∙ ap (λ (f : Fleet). f.stores) c.self.view_is in
    subst (AreStoresOf g.K.Keeper.TELLS c.args.config.now (g.K.Keeper.state c.args.keepers.now).told) (sym own) c.requires.consistent.stores

pub take_at-requires-clause-seen : goal.take_at-requires-clause-seen
take_at-requires-clause-seen g c =
    let own = c.deref_mut.ensures.value ∙ ap (λ (f : Fleet). f.stores) c.self.view_is in
    subst (λ (xs : _). IsSeenEntry (pens_of xs) c.args.at.shard c.args.note c.args.entry.now) (sym own) c.requires.seen

pub returns : goal.returns
returns g c =
    let state = g.K.Keeper.state in
    let tells = g.K.Keeper.TELLS in
    let s : Settings = c.args.config.now in
    let old : Fleet = c.args.self.now in
    let given = c.take_at.ensures in
    let own = c.deref_mut.ensures.value ∙ ap (λ (f : Fleet). f.stores) c.self.view_is in
    let ys = c.take_at.new.stores in
    let lent = c.deref_mut.result.now in
    let long : length ys ≡ c.self.inside.stores.len = omega arith in
    let rise : Rise (pens_of lent) (pens_of ys) = subst (Rise (pens_of lent)) (sym given.pens) (rise_self lent) in
    let done = grown_lent tells s (state c.args.keepers.now).told (state c.take_at.new.keepers).told c.self.inside old lent ys c.self.view_is own long
    c.requires.consistent given.grows.on.logs given.stores rise in
    record {
      streams = given.streams;
      pens = ap pens_of done.stores_are ∙ given.pens ∙ ap pens_of own;
      rests = rested_lent c.self.inside old lent ys c.take_at.result c.self.view_is own long given.rests;
      rest = done.rest;
      consistent = done.consistent;
      goes = done.goes;
      grows = given.grows;
      refused = given.refused;
      calls = given.calls;
    }
