use Rattle.std.proofs.Common.{◌≡◌, None, Some, IfOk, refl, ap, sym, subst, ◌∙◌}
use Rattle.std.specs.Bool.{OnTrue}
use Rattle.std.specs.Prelude.{slice_index_or, slice_set}
use Rattle.core_model.specs.leader_tier.TakenWrites.{TakesWritten, taken_entry}
use Rattle.served_shards.specs.Served.{log_at}
use Rattle.shard_log.specs.View.{as_note}
use Rattle.shard_tables.specs.Jobs.{asked_merge}
use Rattle.shard_tables.specs.StoreView.{Store}
use Rattle.shard_tables.specs.WriteDone.{MergeDone}
use Rattle.shard_tables.specs.Written.{added_entry}
use Rattle.tao_base.specs.EdgeTypes.{InversesMatch}
use Rattle.tao_base.specs.declared.id.StoreName.{StoreName}
use Rattle.tao_schema.specs.Schema.{types_of}
use Rattle.topology.specs.Config.{Settings}
use Rattle.write_model.specs.MergeLaws.{MayBeMerged}
use Rattle.core_model.proofs.NamedNodes.{changes_at}
use Rattle.core_model.specs.Fleet.{serves}
use Rattle.core_model.specs.Jobs.{far_shard, job_on}
use Rattle.core_model.specs.Stores.{IsConfiguredStore, master_store}
use Rattle.node_stages.specs.Stages.{LeaderDoes}
use Rattle.core_nodes.proofs.CommitLemmas.{Written, of_master}
use Rattle.core_nodes.proofs.GrowingLemmas.{gains_stores, in_order_on}
use Rattle.core_nodes.proofs.JobLemmas.{may_be_merged}
use Rattle.core_nodes.proofs.MasterStores.{IsMasterRead, master_read, pen_is, pens_rise, rest_again, stores_left}
use Rattle.core_nodes.proofs.MergeLemmas.{merge_left}
use Rattle.core_nodes.proofs.StoreLemmas.{found_log, goes_with, others_stay}
use Rattle.core_nodes.proofs.jobs.merge_at.Goals as goal

pub merge_of-requires-clause-log : goal.merge_of-requires-clause-log
merge_of-requires-clause-log g c =
    let s : Settings = c.args.around.now.config.now in
    let shard = far_shard c.args.job.now.job.now in
    let store : Store = slice_index_or c.args.stores.now c.store_place-place.result c.index-stores-place.result in
    let told = (g.K.Keeper.state c.args.keepers.now).told in
    let is : IsMasterRead g.K.Keeper.TELLS s told c.args.stores.now shard c.store_place-place.result store =
    master_read g.K.Keeper.TELLS s told c.args.stores.now c.requires.stores c.masters_are_regions.ensures shard c.requires.shard _ _ _ _
    c.index-stores-place.result c.store_place-place.ensures c.region_store-at.ensures c.master_of.ensures c.far_shard-shard.ensures in
    let leader = (slice_index_or c.args.leaders.now c.named_place-spot.result c.index-leaders-spot.result).node in
    let turn = c.serves_in_turn-preferred.ensures ∙ ap (serves s c.args.name) c.far_shard-shard.ensures in
    subst (λ on. OnTrue on (log_at store.name.shard leader.served ≡ Some store.view.log)) (sym turn)
    (found_log (serves s c.args.name shard) c.args.stores.now (master_store s shard) store shard c.args.leaders.now c.args.name c.named_place-spot.result
    c.index-leaders-spot.result c.named_place-spot.ensures is.found (sym (ap (λ (n : StoreName). n.shard) is.named)) c.requires.logs)

pub merge_of-requires-clause-master : goal.merge_of-requires-clause-master
merge_of-requires-clause-master g c =
    let is = master_read g.K.Keeper.TELLS c.args.around.now.config.now (g.K.Keeper.state c.args.keepers.now).told c.args.stores.now c.requires.stores
    c.masters_are_regions.ensures (far_shard c.args.job.now.job.now) c.requires.shard _ _ _ _ c.index-stores-place.result c.store_place-place.ensures
    c.region_store-at.ensures c.master_of.ensures c.far_shard-shard.ensures in
    is.role

pub merge_of-requires-clause-keeper : goal.merge_of-requires-clause-keeper
merge_of-requires-clause-keeper g c =
    let is = master_read g.K.Keeper.TELLS c.args.around.now.config.now (g.K.Keeper.state c.args.keepers.now).told c.args.stores.now c.requires.stores
    c.masters_are_regions.ensures (far_shard c.args.job.now.job.now) c.requires.shard _ _ _ _ c.index-stores-place.result c.store_place-place.ensures
    c.region_store-at.ensures c.master_of.ensures c.far_shard-shard.ensures in
    is.keeper

pub merge_of-requires-clause-may : goal.merge_of-requires-clause-may
merge_of-requires-clause-may g c = λ told.
    let s : Settings = c.args.around.now.config.now in
    let tables = (g.K.Keeper.state c.args.keepers.now).told in
    let j = job_on c.args.job.now.shard c.args.job.now.job.now in
    let is = master_read g.K.Keeper.TELLS s tables c.args.stores.now c.requires.stores c.masters_are_regions.ensures (far_shard c.args.job.now.job.now)
    c.requires.shard _ _ _ _ c.index-stores-place.result c.store_place-place.ensures c.region_store-at.ensures c.master_of.ensures c.far_shard-shard.ensures in
    let match = subst (λ k. InversesMatch (types_of k)) (ap (λ s. s.schema) c.config.view_is) c.inverses_match.ensures in
    let may = may_be_merged s tables j c.requires.shard match (c.requires.stores.kept told) c.requires.given.some (c.requires.owed told) in
    subst (λ at. MayBeMerged at.shard (tables at).log j.shard j.job.position j.job.edges) (sym is.named) may

pub returns : goal.returns
returns g c =
    let tells = g.K.Keeper.TELLS in
    let s : Settings = c.args.around.now.config.now in
    let shard = far_shard c.args.job.now.job.now in
    let j = job_on c.args.job.now.shard c.args.job.now.job.now in
    let xs = c.args.stores.now in
    let place = c.store_place-place.result in
    let store : Store = slice_index_or xs place c.index-stores-place.result in
    let made = c.merge_of.ensures in
    let after : Store = c.merge_of.new.store in
    let r = c.merge_of.result in
    let old = g.K.Keeper.state c.args.keepers.now in
    let new = g.K.Keeper.state c.merge_of.new.keepers in
    let is : IsMasterRead tells s old.told xs shard place store =
    master_read tells s old.told xs c.requires.stores c.masters_are_regions.ensures shard c.requires.shard _ _ _ _ c.index-stores-place.result
    c.store_place-place.ensures c.region_store-at.ensures c.master_of.ensures c.far_shard-shard.ensures in
    let goes = goes_with store after (added_entry r) made.store.log made.store.grows in
    let pen = sym (pen_is tells s old.told new.told xs shard place store after c.requires.stores is goes) in
    let from = (slice_index_or c.args.leaders.now c.named_place-spot.result c.index-leaders-spot.result).node in
    let words = of_master s s.schema refl store shard is.named is.limit in
    let turn = c.serves_in_turn-preferred.ensures ∙ ap (serves s c.args.name) c.far_shard-shard.ensures in
    let node = words (λ types most name. LeaderDoes (TakesWritten types name.shard (taken_entry (serves s c.args.name shard) r) (as_note after.view))
    from c.merge_of.new.leader) (subst (λ on. LeaderDoes (TakesWritten (types_of s.schema) store.name.shard (taken_entry on r) (as_note after.view))
    from c.merge_of.new.leader) turn made.node) in
    let done = words (λ types most name. MergeDone tells name (asked_merge most (old.told name).log c.args.job.now.shard c.args.job.now.job.now) old new r)
    made.done in
    let left = merge_left tells s old new j r c.requires.shard (subst (λ k. InversesMatch (types_of k)) (ap (λ s. s.schema) c.config.view_is)
    c.inverses_match.ensures)
    c.requires.stores.kept c.requires.owed done in
    record {
      node = changes_at (Written s shard (serves s c.args.name shard) (slice_set xs place after) r) c.args.leaders.now c.args.name c.named_place-spot.result
          c.index-leaders-spot.result c.merge_of.new.leader c.named_place-spot.ensures
          (subst (λ v. LeaderDoes (TakesWritten (types_of s.schema) shard (taken_entry (serves s c.args.name shard) r) (as_note v))
          from c.merge_of.new.leader) pen node);
      rest = rest_again xs place store after r is.stands made.store.log;
      stores = stores_left tells s old.told new.told xs shard place store after c.requires.stores is goes made.store.keeper
          (λ is_told. others_stay old.told new.told store.name (added_entry r) None (made.done.tables is_told))
          (in_order_on tells s old.told new.told c.requires.stores.cuts (λ is_told. (left is_told).kept)
          (gains_stores tells s old new store.name (added_entry r) None (subst (IsConfiguredStore s) (sym is.named) is.configured) made.done.tables));
      rise = pens_rise tells s old.told new.told xs shard place store after c.requires.stores is goes;
      note = subst (λ v. IfOk r (λ wrote. wrote.note ≡ as_note v)) pen made.store.note;
      done = done;
      step = λ is_told. (left is_told).step;
      merged = λ is_told. (left is_told).merged;
    }
