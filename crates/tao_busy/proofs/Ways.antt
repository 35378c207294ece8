-- Nothing was in the way of a load's requests, once the logs were audited.
use Rattle.std.proofs.Common.{◌≡◌, ◌∙◌, ℕ, zero, suc, ◌≤◌, ◌<◌, List, Some, sym, subst, refl, arith}
use Rattle.std.specs.Prelude.{All, IsTrue}
use Rattle.std.proofs.lemmas.List.FromFn.{length-map-range_with_len}
use Rattle.std.proofs.lemmas.Option.{get_or_from_slice_get, slice_get_within}
use Rattle.core_model.specs.Stores.{master_log}
use Rattle.graph_model.proofs.Members.{All-from_in, IsIn, contains_filter_map, contains_from_in}
use Rattle.graph_model.specs.Log.{entry_at}
use Rattle.graph_model.specs.Soundness.{is_client}
use Rattle.load_audit.specs.Audits.{AreListedBelow, logs_in}
use Rattle.load_audit.specs.Listed.{IsKnown, IsWorkload, origin_of, write_in, writes_of}
use Rattle.load_shares.proofs.WorkloadCalls.{workload_laws}
use Rattle.load_shares.specs.Workloads.{HasChoices, IsConfiguredRequest}
use Rattle.request_check.specs.declared.checked.CheckedWrite.{CheckedWrite}
use Rattle.requests.specs.declared.request.Request.{Request}
use Rattle.shared_tiers.specs.locked_nodes.Cluster.{OnCluster}
use Rattle.tao_base.specs.declared.entry.Entry.{Entry}
use Rattle.tao_base.specs.declared.entry.Origin.{Origin}
use Rattle.tao_keeper.specs.Table.{Tables}
use Rattle.topology.specs.Config.{Settings}
use Rattle.write_model.specs.Writes.{FitsWrite}
use Rattle.tao_busy.proofs.Meets.{logs_at}
use Rattle.tao_busy.specs.Refusing.{EachLog, HasOwnEntries, HasRoomToWrite, HaveClearWay, HaveNoCuts, IsWayClear}

-- what is so of each shard's log is so of each of the logs
each_log : (s : Settings) (tables : Tables) (P : List Entry → Type 0) → ((shard : ℕ) → shard < s.shards → P (master_log s tables shard))
    → EachLog P (logs_in s tables)
each_log s tables P each shard log at =
    let within = slice_get_within (logs_in s tables) shard log at in
    let many = length-map-range_with_len (master_log s tables) 0 s.shards in
    let inside : shard < s.shards = omega (arith, within, many) in
    let same : Some (master_log s tables shard) ≡ Some log = sym (logs_at s tables shard inside) ∙ at in
    let one : master_log s tables shard ≡ log = cc in
    subst P one (each shard inside)

entry_of : (P : Entry → Type 0) (log : List Entry) (position : ℕ) (e : Entry) → All P log → entry_at log position ≡ Some e → P e
entry_of P log zero e all at = absurd (cc)
entry_of P log (suc place) e all at = subst P (get_or_from_slice_get log place e e at) (all place e (slice_get_within log place e at))

module _ (s : Settings) (tables : Tables) (requests : List Request) (workload : IsWorkload s requests) (listed : AreListedBelow s tables requests s.shards) where
  -- an entry that has the origin of one of the writes is that write's
  own_entries : (request : Request) → IsIn request requests → EachLog (HasOwnEntries s request) (logs_in s tables)
  own_entries request here = each_log s tables (HasOwnEntries s request) (λ shard inside write position e is stands origin.
      let known : IsKnown (writes_of s requests) e = entry_of (IsKnown (writes_of s requests)) (master_log s tables shard) position e (listed shard inside) stands in
      let one = known (subst (λ (o : Origin). IsTrue (is_client o)) (sym origin) refl) in
      let both : origin_of one.write ≡ origin_of write = sym one.origin_is ∙ origin in
      let number : one.write.seq ≡ write.seq = cc in
      let has = contains_filter_map (write_in s) requests request write (contains_from_in requests request here) is in
      let same : one.write ≡ write = workload_laws.alone s requests write one.write workload has one.listed number in
      subst (λ (w : CheckedWrite). FitsWrite e w.write) same one.fits)

pub clear_way : {M : Type 0} (on : OnCluster M) (s : Settings) (tables : Tables) (requests : List Request) → s ≡ on.making.settings → HasChoices s
    → IsWorkload s requests → AreListedBelow s tables requests s.shards → IsWayClear on.state s on.making.cut tables → HaveClearWay on (logs_in s tables) requests
clear_way on s tables requests made choices workload listed clear = record {
  steady = clear.steady;
  uncut = subst (λ (t : Settings). HaveNoCuts t on.making.cut) made clear.uncut;
  limit = subst (λ (t : Settings). t.log_max ≤ 65536) made choices.entries;
  room = subst (λ (t : Settings). EachLog (HasRoomToWrite t) (logs_in s tables)) made (each_log s tables (HasRoomToWrite s) clear.room);
  configured = subst (λ (t : Settings). All (IsConfiguredRequest t) requests) made (workload_laws.configured s requests choices workload);
  own = subst (λ (t : Settings). All (λ request. EachLog (HasOwnEntries t request) (logs_in s tables)) requests) made
      (All-from_in (λ request. EachLog (HasOwnEntries s request) (logs_in s tables)) requests (own_entries s tables requests workload listed));
}
