use Rattle.std.proofs.Common.{refl, subst}
use Rattle.std.specs.Prelude.{slice_index_or}
use Rattle.graph_model.specs.Told.{WhereTold}
use Rattle.shard_tables.specs.StoreView.{Store}
use Rattle.tao_keeper.specs.Table.{Changes, after_end}
use Rattle.topology.specs.Config.{Settings}
use Rattle.core_model.specs.Jobs.{job_on}
use Rattle.core_nodes.proofs.JobCalls.{ended_after}
use Rattle.core_nodes.proofs.MasterStores.{IsMasterRead, master_read, set_again}
use Rattle.core_nodes.proofs.jobs.end_at.Goals as goal

pub end_job-requires : goal.end_job-requires
end_job-requires g c =
    let is = master_read g.K.Keeper.TELLS c.args.config.now (g.K.Keeper.state c.args.keepers.now).told c.args.stores.now c.requires.stores
    c.masters_are_regions.ensures c.args.shard c.requires.here _ _ _ _ c.index-stores-place.result c.store_place-place.ensures
    c.region_store-at.ensures c.master_of.ensures refl in
    record { keeper = is.keeper }

pub returns : goal.returns
returns g c =
    let tells = g.K.Keeper.TELLS in
    let s : Settings = c.args.config.now in
    let j = job_on c.args.shard c.args.job.now in
    let before = (g.K.Keeper.state c.args.keepers.now).told in
    let after = (g.K.Keeper.state c.end_job.new.keeper).told in
    let r = c.end_job.result in
    let xs = c.args.stores.now in
    let place = c.store_place-place.result in
    let store : Store = slice_index_or xs place c.index-stores-place.result in
    let is : IsMasterRead tells s before xs c.args.shard place store =
    master_read tells s before xs c.requires.stores c.masters_are_regions.ensures c.args.shard c.requires.here _ _ _ _ c.index-stores-place.result
    c.store_place-place.ensures c.region_store-at.ensures c.master_of.ensures refl in
    let ends = subst (λ at. WhereTold tells (Changes r before after at (after_end (before at) c.args.job.now.position))) is.named c.end_job.ensures.ends in
    let left = ended_after tells s before after xs place j store c.end_job.new.self c.requires.stores is c.end_job.ensures.same c.requires.here
    c.requires.merged r ends c.end_job.ensures.keeper in
    record {
      same = set_again xs place store c.end_job.new.self is.stands c.end_job.ensures.same;
      stores = left.stores;
      ends = ends;
      step = left.step;
      refusals = c.end_job.ensures.refusals;
      logs = c.end_job.ensures.logs;
      calls = c.end_job.ensures.calls;
    }
