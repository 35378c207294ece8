use Rattle.std.proofs.Common.{IfOk, refl, sym, subst}
use Rattle.std.specs.Prelude.{slice_index_or}
use Rattle.graph_model.specs.Told.{WhereTold}
use Rattle.shard_tables.specs.StoreView.{Store}
use Rattle.tao_keeper.specs.Table.{IsLeastJob}
use Rattle.topology.specs.Config.{Settings}
use Rattle.core_model.specs.Stores.{AreStoresOf}
use Rattle.core_nodes.proofs.AskLemmas.{stores_here}
use Rattle.core_nodes.proofs.JobCalls.{first_found}
use Rattle.core_nodes.proofs.MasterStores.{IsMasterRead, master_read, set_again}
use Rattle.core_nodes.proofs.jobs.first_at.Goals as goal

pub first_job-requires : goal.first_job-requires
first_job-requires g c =
    let is = master_read g.K.Keeper.TELLS c.args.config.now (g.K.Keeper.state c.args.keepers.now).told c.args.stores.now c.requires.stores
    c.masters_are_regions.ensures c.args.shard c.requires.here _ _ _ _ c.index-stores-place.result c.store_place-place.ensures
    c.region_store-at.ensures c.master_of.ensures refl in
    record { keeper = is.keeper }

pub returns : goal.returns
returns g c =
    let tells = g.K.Keeper.TELLS in
    let s : Settings = c.args.config.now in
    let shard = c.args.shard in
    let before = (g.K.Keeper.state c.args.keepers.now).told in
    let after = (g.K.Keeper.state c.first_job.new.keeper).told in
    let r = c.first_job.result in
    let xs = c.args.stores.now in
    let place = c.store_place-place.result in
    let store : Store = slice_index_or xs place c.index-stores-place.result in
    let is : IsMasterRead tells s before xs shard place store =
    master_read tells s before xs c.requires.stores c.masters_are_regions.ensures shard c.requires.here _ _ _ _ c.index-stores-place.result
    c.store_place-place.ensures c.region_store-at.ensures c.master_of.ensures refl in
    let same = set_again xs place store c.first_job.new.self is.stands c.first_job.ensures.same in
    let least = subst (λ at. WhereTold tells (IfOk r (IsLeastJob (before at).jobs))) is.named c.first_job.ensures.answer in
    record {
      answer = least;
      first = λ told. first_found s before after shard r c.requires.here (c.requires.stores.kept told) (c.first_job.ensures.stays told)
          c.first_job.ensures.given (least told);
      given = c.first_job.ensures.given;
      same = same;
      stores = subst (AreStoresOf tells s after) (sym same) (stores_here tells s before after xs c.requires.stores c.first_job.ensures.stays);
      refusals = c.first_job.ensures.refusals;
      tables = c.first_job.ensures.stays;
      logs = c.first_job.ensures.logs;
      calls = c.first_job.ensures.calls;
    }
