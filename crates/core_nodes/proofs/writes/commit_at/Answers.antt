use Rattle.std.proofs.Common.{◌≡◌, IfOk, Some, refl, ap, sym, subst, ◌∙◌}
use Rattle.std.specs.Bool.{OnTrue}
use Rattle.std.specs.Prelude.{slice_index_or, slice_set}
use Rattle.core_model.specs.leader_tier.TakenWrites.{TakesWritten, taken_entry}
use Rattle.served_shards.specs.Served.{log_at}
use Rattle.shard_log.specs.View.{as_note}
use Rattle.shard_tables.specs.Jobs.{job_with}
use Rattle.shard_tables.specs.StoreView.{Store}
use Rattle.shard_tables.specs.WriteDone.{WriteDone}
use Rattle.shard_tables.specs.Written.{added_entry, asked_write}
use Rattle.tao_base.specs.EdgeTypes.{InversesMatch}
use Rattle.tao_base.specs.Writes.{write_shard}
use Rattle.tao_base.specs.declared.id.StoreName.{StoreName}
use Rattle.tao_schema.specs.Schema.{types_of}
use Rattle.topology.specs.Config.{Settings}
use Rattle.core_model.proofs.NamedNodes.{changes_at}
use Rattle.core_model.specs.Fleet.{serves}
use Rattle.core_model.specs.Stores.{IsConfiguredStore, master_store}
use Rattle.node_stages.specs.Stages.{LeaderDoes}
use Rattle.core_nodes.proofs.CommitLemmas.{Written, of_master}
use Rattle.core_nodes.proofs.GrowingLemmas.{gains_stores, in_order_on}
use Rattle.core_nodes.proofs.KeptCommits.{commit_keeps}
use Rattle.core_nodes.proofs.MasterStores.{IsMasterRead, master_read, pen_is, pens_rise, rest_again, stores_left}
use Rattle.core_nodes.proofs.StoreLemmas.{found_log, goes_with, others_stay, sound_at}
use Rattle.core_nodes.proofs.writes.commit_at.Goals as goal

pub commit_of-requires-clause-log : goal.commit_of-requires-clause-log
commit_of-requires-clause-log g c =
    let s : Settings = c.args.around.now.config.now in
    let shard = write_shard c.args.call.now.write.now in
    let store : Store = slice_index_or c.args.stores.now c.store_place-place.result c.index-stores-place.result in
    let told = (g.K.Keeper.state c.args.keepers.now).told in
    let is : IsMasterRead g.K.Keeper.TELLS s told c.args.stores.now shard c.store_place-place.result store =
    master_read g.K.Keeper.TELLS s told c.args.stores.now c.requires.stores c.masters_are_regions.ensures shard c.requires.shard _ _ _ _
    c.index-stores-place.result c.store_place-place.ensures c.region_store-at.ensures c.master_of.ensures c.shard-shard.ensures in
    let leader = (slice_index_or c.args.leaders.now c.named_place-spot.result c.index-leaders-spot.result).node in
    let turn = c.serves_in_turn-preferred.ensures ∙ ap (serves s c.args.name) c.shard-shard.ensures in
    subst (λ on. OnTrue on (log_at store.name.shard leader.served ≡ Some store.view.log)) (sym turn)
    (found_log (serves s c.args.name shard) c.args.stores.now (master_store s shard) store shard c.args.leaders.now c.args.name c.named_place-spot.result
    c.index-leaders-spot.result c.named_place-spot.ensures is.found (sym (ap (λ (n : StoreName). n.shard) is.named)) c.requires.logs)

pub commit_of-requires-clause-master : goal.commit_of-requires-clause-master
commit_of-requires-clause-master g c =
    let is = master_read g.K.Keeper.TELLS c.args.around.now.config.now (g.K.Keeper.state c.args.keepers.now).told c.args.stores.now c.requires.stores
    c.masters_are_regions.ensures (write_shard c.args.call.now.write.now) c.requires.shard _ _ _ _ c.index-stores-place.result c.store_place-place.ensures
    c.region_store-at.ensures c.master_of.ensures c.shard-shard.ensures in
    is.role

pub commit_of-requires-clause-keeper : goal.commit_of-requires-clause-keeper
commit_of-requires-clause-keeper g c =
    let is = master_read g.K.Keeper.TELLS c.args.around.now.config.now (g.K.Keeper.state c.args.keepers.now).told c.args.stores.now c.requires.stores
    c.masters_are_regions.ensures (write_shard c.args.call.now.write.now) c.requires.shard _ _ _ _ c.index-stores-place.result c.store_place-place.ensures
    c.region_store-at.ensures c.master_of.ensures c.shard-shard.ensures in
    is.keeper

pub commit_of-requires-clause-here : goal.commit_of-requires-clause-here
commit_of-requires-clause-here g c =
    let is = master_read g.K.Keeper.TELLS c.args.around.now.config.now (g.K.Keeper.state c.args.keepers.now).told c.args.stores.now c.requires.stores
    c.masters_are_regions.ensures (write_shard c.args.call.now.write.now) c.requires.shard _ _ _ _ c.index-stores-place.result c.store_place-place.ensures
    c.region_store-at.ensures c.master_of.ensures c.shard-shard.ensures in
    sym (ap (λ (n : StoreName). n.shard) is.named)

pub commit_of-requires-clause-sound : goal.commit_of-requires-clause-sound
commit_of-requires-clause-sound g c =
    let s : Settings = c.args.around.now.config.now in
    let shard = write_shard c.args.call.now.write.now in
    let told = (g.K.Keeper.state c.args.keepers.now).told in
    let is = master_read g.K.Keeper.TELLS s told c.args.stores.now c.requires.stores
    c.masters_are_regions.ensures shard c.requires.shard _ _ _ _ c.index-stores-place.result c.store_place-place.ensures
    c.region_store-at.ensures c.master_of.ensures c.shard-shard.ensures in
    sound_at g.K.Keeper.TELLS s told c.args.stores.now c.requires.stores s.schema shard
    (slice_index_or c.args.stores.now c.store_place-place.result c.index-stores-place.result) refl is.named c.requires.shard

pub returns : goal.returns
returns g c =
    let tells = g.K.Keeper.TELLS in
    let s : Settings = c.args.around.now.config.now in
    let shard = write_shard c.args.call.now.write.now in
    let xs = c.args.stores.now in
    let place = c.store_place-place.result in
    let store : Store = slice_index_or xs place c.index-stores-place.result in
    let made = c.commit_of.ensures in
    let after : Store = c.commit_of.new.store in
    let r = c.commit_of.result in
    let old = g.K.Keeper.state c.args.keepers.now in
    let new = g.K.Keeper.state c.commit_of.new.keepers in
    let is : IsMasterRead tells s old.told xs shard place store =
    master_read tells s old.told xs c.requires.stores c.masters_are_regions.ensures shard c.requires.shard _ _ _ _ c.index-stores-place.result
    c.store_place-place.ensures c.region_store-at.ensures c.master_of.ensures c.shard-shard.ensures in
    let goes = goes_with store after (added_entry r) made.store.log made.store.grows in
    let pen = sym (pen_is tells s old.told new.told xs shard place store after c.requires.stores is goes) in
    let from = (slice_index_or c.args.leaders.now c.named_place-spot.result c.index-leaders-spot.result).node in
    let words = of_master s s.schema refl store shard is.named is.limit in
    let turn = c.serves_in_turn-preferred.ensures ∙ ap (serves s c.args.name) c.shard-shard.ensures in
    let node = words (λ types most name. LeaderDoes (TakesWritten types name.shard (taken_entry (serves s c.args.name shard) r) (as_note after.view))
    from c.commit_of.new.leader) (subst (λ on. LeaderDoes (TakesWritten (types_of s.schema) store.name.shard (taken_entry on r) (as_note after.view))
    from c.commit_of.new.leader) turn made.node) in
    let first = subst (λ epoch. WriteDone tells store.name (asked_write (types_of s.schema) store.log_max epoch
    (old.told store.name) c.args.call.now.origin c.args.call.now.write.now) old new r) is.epoch made.done in
    let done = words (λ types most name. WriteDone tells name (asked_write types most 0 (old.told name) c.args.call.now.origin c.args.call.now.write.now)
    old new r)
    first in
    let keeps = commit_keeps tells s c.args.call.now.origin c.args.call.now.write.now old new c.requires.shard
    (subst (λ k. InversesMatch (types_of k)) (ap (λ s. s.schema) c.config.view_is) c.inverses_match.ensures) c.requires.client c.requires.changes
    c.requires.stores.kept
    (g.met.K.Keeper.of_entries c.args.keepers.now (master_store s shard)) r done in
    record {
      node = changes_at (Written s shard (serves s c.args.name shard) (slice_set xs place after) r) c.args.leaders.now c.args.name c.named_place-spot.result
          c.index-leaders-spot.result c.commit_of.new.leader c.named_place-spot.ensures
          (subst (λ v. LeaderDoes (TakesWritten (types_of s.schema) shard (taken_entry (serves s c.args.name shard) r) (as_note v))
          from c.commit_of.new.leader) pen node);
      rest = rest_again xs place store after r is.stands made.store.log;
      stores = stores_left tells s old.told new.told xs shard place store after c.requires.stores is goes made.store.keeper
          (λ is_told. others_stay old.told new.told store.name (added_entry r) (job_with (types_of s.schema) (added_entry r))
          (made.done.tables is_told))
          (in_order_on tells s old.told new.told c.requires.stores.cuts keeps.kept
          (gains_stores tells s old new store.name (added_entry r) (job_with (types_of s.schema) (added_entry r))
          (subst (IsConfiguredStore s) (sym is.named) is.configured) made.done.tables));
      rise = pens_rise tells s old.told new.told xs shard place store after c.requires.stores is goes;
      note = subst (λ v. IfOk r (λ wrote. wrote.note ≡ as_note v)) pen made.store.note;
      done = done;
      owes = keeps.owes;
    }
