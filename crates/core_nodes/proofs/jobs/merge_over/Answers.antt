use Rattle.std.proofs.Common.{ap, subst}
use Rattle.std.specs.Prelude.{slice_index_or}
use Rattle.edge_repair.specs.JobBetween.{job_between}
use Rattle.shard_tables.specs.StoreView.{Store}
use Rattle.tao_base.specs.EdgeTypes.{InversesMatch}
use Rattle.tao_schema.specs.Schema.{types_of}
use Rattle.topology.specs.Config.{Settings}
use Rattle.core_model.specs.Jobs.{far_shard, job_on}
use Rattle.core_nodes.proofs.FarMerges.{TakesJob, far_merged, may_take_job}
use Rattle.core_nodes.proofs.MasterStores.{IsMasterRead, master_read}
use Rattle.core_nodes.specs.Outside.{outside}
use Rattle.core_nodes.proofs.jobs.merge_over.Goals as goal

pub merge_far-requires : goal.merge_far-requires
merge_far-requires g c =
    let tells = g.K.Keeper.TELLS in
    let s : Settings = c.args.config.now in
    let tables = (g.K.Keeper.state c.args.keepers.now).told in
    let xs = c.args.stores.now in
    let store : Store = slice_index_or xs c.store_place-place.result c.index-stores-place.result in
    let is : IsMasterRead tells s tables xs (far_shard c.args.job.now.job.now) c.store_place-place.result store =
    master_read tells s tables xs c.requires.stores c.masters_are_regions.ensures (far_shard c.args.job.now.job.now) c.requires.there _ _ _ _
    c.index-stores-place.result c.store_place-place.ensures c.region_store-at.ensures c.master_of.ensures c.far_shard-shard.ensures in
    let match = subst (λ k. InversesMatch (types_of k)) (ap (λ s. s.schema) c.config.view_is) c.inverses_match.ensures in
    may_take_job tells s tables (job_on c.args.job.now.shard c.args.job.now.job.now) c.master_store-from.result store c.master_store-from.ensures is.named
    is.role is.keeper
    c.requires.there match c.requires.stores.kept c.requires.given c.requires.owed

pub returns : goal.returns
returns g c =
    let tells = g.K.Keeper.TELLS in
    let s : Settings = c.args.config.now in
    let j = job_on c.args.job.now.shard c.args.job.now.job.now in
    let old = outside (g.K.Keeper.state c.args.keepers.now) (g.L.Link.shown c.args.link.now) in
    let new = outside (g.K.Keeper.state c.merge_far.new.keeper) (g.L.Link.shown c.merge_far.new.link) in
    let r = c.merge_far.result in
    let xs = c.args.stores.now in
    let place = c.store_place-place.result in
    let store : Store = slice_index_or xs place c.index-stores-place.result in
    let made = c.merge_far.new.to in
    let is : IsMasterRead tells s old.keepers.told xs (far_shard c.args.job.now.job.now) place store =
    master_read tells s old.keepers.told xs c.requires.stores c.masters_are_regions.ensures (far_shard c.args.job.now.job.now) c.requires.there _ _ _ _
    c.index-stores-place.result c.store_place-place.ensures c.region_store-at.ensures c.master_of.ensures c.far_shard-shard.ensures in
    let match = subst (λ k. InversesMatch (types_of k)) (ap (λ s. s.schema) c.config.view_is) c.inverses_match.ensures in
    let took : TakesJob tells (job_between c.master_store-from.result store c.args.job.now.job.now) old new made r = record {
      merges = c.merge_far.ensures.merges;
      to = c.merge_far.ensures.to;
      grows = c.merge_far.ensures.grows;
      keeper = c.merge_far.ensures.keeper;
      carries = c.merge_far.ensures.carries;
      logs = c.merge_far.ensures.logs;
    } in
    let left = far_merged tells s j c.master_store-from.result xs place store made old new r c.requires.stores c.requires.there c.master_store-from.ensures
    is match c.requires.owed c.requires.given.some took in
    record {
      merges = left.merges;
      stands = left.stands;
      lies = left.lies;
      stores = left.stores;
      rise = left.rise;
      grows = left.grows;
      calls = c.merge_far.ensures.calls;
    }
