-- A critical read misses nothing that it didn't before.
use Rattle.std.proofs.Common.{◌≡◌, ◌∙◌, ℕ, ◌≤◌, true, Bool, List, length, drop, sym, ap, subst, arith}
use Rattle.core_model.proofs.FoundStores.{found_at, is_called_so}
use Rattle.core_model.specs.Pens.{is_called}
use Rattle.core_model.specs.Reads.{StoreReads}
use Rattle.core_model.specs.Stores.{AreStoresOf, master_log, master_store}
use Rattle.core_steps.specs.Reads.{master_calls}
use Rattle.graph_model.proofs.Versions.{version-append}
use Rattle.graph_model.specs.Log.{version}
use Rattle.read_plan.specs.Readings.{Reading}
use Rattle.read_plan.specs.Standings.{after_master}
use Rattle.read_plan.specs.declared.end.ReadEnd.TheVariants as ended
use Rattle.read_plan.specs.declared.standing.Standing.{Standing}
use Rattle.read_plan.specs.declared.standing.Standing.TheVariants.{Looking, Asking, Mastering, Keeping, Ended}
use Rattle.shard_log.proofs.Beginnings.{begins-rest}
use Rattle.shard_tables.specs.ReadOuts.{IsReadOutOf}
use Rattle.shard_tables.specs.StoreView.{Store}
use Rattle.shard_tables.specs.declared.read_out.ReadOut.{ReadOut}
use Rattle.shard_tables.specs.declared.read_out.ReadOut.TheVariants as out
use Rattle.tao_base.specs.EdgeTypes.{EdgeTypes}
use Rattle.tao_base.specs.Queries.{query_key, query_shard}
use Rattle.tao_base.specs.declared.entry.Entry.{Entry}
use Rattle.tao_base.specs.declared.id.Key.{Key}
use Rattle.tao_base.specs.declared.query.Query.{Query}
use Rattle.tao_keeper.specs.Growing.{LogsGrow}
use Rattle.tao_keeper.specs.KeeperState.{KeeperState}
use Rattle.tao_keeper.specs.Table.{Tables}
use Rattle.tao_schema.specs.Schema.{types_of}
use Rattle.topology.specs.Config.{Settings}
use Rattle.core_plans.specs.HeldLaws.{NothingIsMissedLater}
use Rattle.core_plans.specs.HeldReads.{HasComeTo, version_now}

-- a log that grew is no less far
pub version_later : (tells : Bool) (s : Settings) (tables later : Tables) (key : Key) (shard : ℕ) → LogsGrow tells tables later → tells ≡ true
    → version (master_log s tables shard) key ≤ version (master_log s later shard) key
version_later tells s tables later key shard grows told =
    let old = master_log s tables shard in
    let new = master_log s later shard in
    let split = version-append old (drop (length old) new) key in
    let whole = ap (λ log. version log key) (begins-rest old new (grows.begins told (master_store s shard))) in
    omega arith

come_later : (least now later : ℕ) (at : Standing) → now ≤ later → HasComeTo least now at → HasComeTo least later at
come_later least now later Looking le come = omega (arith, le, come)
come_later least now later Asking le come = omega (arith, le, come)
come_later least now later Mastering le come = omega (arith, le, come)
come_later least now later (Keeping given) le come = come
come_later least now later (Ended (ended.Answered answer version held)) le come = come
come_later least now later (Ended (ended.Refused reply)) le come = tt

pub nothing_is_missed_later : NothingIsMissedLater
nothing_is_missed_later = record {
  later = λ tells s least p old new grows was told critical.
      come_later least (version_now s p old) (version_now s p new) p.at
      (version_later tells s old.told new.told (query_key p.query) (query_shard p.query) grows told) (was told critical);
  begun = λ tells s least p keepers at le told critical. subst (HasComeTo least (version_now s p keepers)) (sym at) le;
}

-- ---- what the master's store read

out_comes : (types : EdgeTypes) (log : List Entry) (query : Query) (read : ReadOut) (least now : ℕ) → IsReadOutOf types log query read
    → least ≤ version log (query_key query) → HasComeTo least now (after_master read)
out_comes types log query (out.Filled fill) least now is le = subst (λ v. least ≤ v) (sym is.version_is) le
out_comes types log query (out.Past answer v total note) least now is le = subst (λ n. least ≤ n) (sym is.0.version_is) le

-- it read the whole log
pub store_comes : (tells : Bool) (s : Settings) (p : Reading) (old new : KeeperState) (stores : List Store) (read : ReadOut) (least now : ℕ)
    → AreStoresOf tells s old.told stores → StoreReads (types_of s.schema) p.query read (master_calls s p.query stores old new) → tells ≡ true
    → least ≤ version_now s p old → HasComeTo least now (after_master read)
store_comes tells s p old new stores read least now are reads told le =
    let types = types_of s.schema in
    let shard = query_shard p.query in
    let at = master_store s shard in
    let found = found_at (is_called at) stores reads.store reads.stands in
    let told_is = (are.seen found.0 reads.store found.1).told_is in
    let name_is = is_called_so at reads.store found.2 in
    let is = subst (λ n. IsReadOutOf types (old.told n).log p.query read) name_is (reads.reads (told_is ∙ told)) in
    out_comes types (master_log s old.told shard) p.query read least now is le
