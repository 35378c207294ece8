use Rattle.std.proofs.Common.{◌≤◌, ◌<◌, ap, length, subst, sym, ◌∙◌}
use Rattle.graph_model.specs.Log.{version}
use Rattle.graph_model.specs.Told.{WhereTold}
use Rattle.tao_base.specs.Queries.{query_key, query_shard}
use Rattle.tao_schema.specs.Schema.{types_of}
use Rattle.core_model.specs.Pens.{pens_of}
use Rattle.core_model.specs.Reads.{IsGivenAnswer, StoreReads, given_of, store_calls, wanted}
use Rattle.core_model.specs.Stores.{master_of, region_store}
use Rattle.core_steps.proofs.nodes.Nodes.mastered.Goals as goal

pub read_store-requires-clause-here : goal.read_store-requires-clause-here
read_store-requires-clause-here g c =
    let s = c.args.config.now in
    let region = c.master_of-region.ensures ∙ ap (master_of s) c.shard.ensures in
    record {
      region = subst (λ r. r < length s.regions) (sym region) (c.masters_are_regions.ensures (query_shard c.args.query.now));
      shard = c.requires.here;
    }

pub returns-in-Ok-clause-reads : goal.returns-in-Ok-clause-reads
returns-in-Ok-clause-reads g c =
    let s = c.args.config.now in
    let region = c.master_of-region.ensures ∙ ap (master_of s) c.shard.ensures in
    subst (λ r. StoreReads (types_of s.schema) c.args.query.now c.in-Ok.out
    (store_calls r c.args.self.now.fleet.stores (g.K.Keeper.state c.args.keepers.now) (g.K.Keeper.state c.read_store.new.keepers))) region c.in-Ok.ensures.reads

pub returns-in-Ok-clause-given : goal.returns-in-Ok-clause-given
returns-in-Ok-clause-given g c =
    let s = c.args.config.now in
    let shard = query_shard c.args.query.now in
    let region = c.master_of-region.ensures ∙ ap (master_of s) c.shard.ensures in
    subst (λ r. (floor : _) → WhereTold g.K.Keeper.TELLS
    (floor ≤ version ((g.K.Keeper.state c.args.keepers.now).told (region_store r shard)).log (query_key c.args.query.now))
    → IsGivenAnswer (types_of s.schema) (pens_of c.read_store.new.self.stores) (wanted c.args.query.now floor) (given_of c.in-Ok.out)) region
    c.in-Ok.ensures.given
