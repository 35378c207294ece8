-- What the shard's store gives to a read, whatever floor its log has come to.
use Rattle.std.proofs.Common.{◌≡◌, ℕ, ◌≤◌, Bool, true, List, IfOk, Result, Ok, Err, refl, ap, sym, ◌∙◌, subst}
use Rattle.counts.specs.Count.{Rose}
use Rattle.graph_model.specs.Log.{version as version_of}
use Rattle.graph_model.specs.Told.{WhereTold}
use Rattle.core_model.proofs.leader_tier_lemmas.LegalReads.{read_is_seen, read_log}
use Rattle.shard_log.proofs.GrowthLemmas.{grows-self}
use Rattle.shard_log.specs.View.{Grows, LogName, View}
use Rattle.shard_tables.specs.ReadOuts.{IsFor, IsReadOutOf, read_note}
use Rattle.shard_tables.specs.StoreView.{Store}
use Rattle.shard_tables.specs.Stores.{note_of, seen_by}
use Rattle.shard_tables.specs.declared.store.StoreRole.{StoreRole}
use Rattle.shard_tables.specs.declared.store.StoreRole.TheVariants.{Master, Slave}
use Rattle.shard_tables.specs.declared.read_out.ReadOut.{ReadOut}
use Rattle.shard_tables.specs.declared.read_out.ReadOut.TheVariants as out
use Rattle.shard_tables.specs.declared.refusal.StoreRefusal.{StoreRefusal}
use Rattle.tao_base.specs.EdgeTypes.{EdgeTypes}
use Rattle.tao_base.specs.Queries.{query_key, query_shard}
use Rattle.tao_base.specs.declared.id.StoreName.{StoreName}
use Rattle.tao_base.specs.declared.query.Query.{Query}
use Rattle.tao_keeper.specs.KeeperState.{KeeperState, KeepsTables}
use Rattle.tao_schema.specs.Schema.{types_of}
use Rattle.topology.specs.Config.{Settings}
use Rattle.core_model.proofs.Legal.{reads_are_legal}
use Rattle.core_model.specs.Consistent.{IsConsistent}
use Rattle.core_model.specs.Fleet.{Fleet}
use Rattle.core_model.specs.Pens.{IsSeen, pens_of}
use Rattle.core_model.specs.Reads.{IsGivenAnswer, StoreCalls, StoreReads, given_of, store_calls, wanted}
use Rattle.core_model.specs.Stores.{region_store}
use Rattle.core_nodes.specs.declared.fleet.Fleet.TheInside.{Inside}
use Rattle.core_nodes.proofs.AskLemmas.{NodesCall, nodes_call, still_consistent}
use Rattle.core_nodes.proofs.StoreLemmas.{IsReadStore}
use Rattle.core_nodes.proofs.ViewLemmas.{LendsStores, after_stores, stores_after}

-- what a region's store had of the query's key before the call
abbrev pub store_version : ℕ → KeeperState → Query → ℕ
store_version region before query = version_of (before.told (region_store region (query_shard query))).log (query_key query)

-- what is given of a read at the floors that the region's store has come to
abbrev pub GivesAtFloors : Bool → Settings → StoreCalls → Query → ReadOut → Type 0
GivesAtFloors tells s calls query read = (floor : ℕ) → WhereTold tells (floor ≤ store_version calls.region calls.before query)
    → IsGivenAnswer (types_of s.schema) (pens_of calls.stores) (wanted query floor) (given_of read)

-- what was read of a store, by these types
pub record ReadOfStore (tells : Bool) (types : EdgeTypes) (query : Query) (store : Store) (before : KeeperState) (r : Result ReadOut StoreRefusal)
    : Type 0 where
  pub found : WhereTold tells (IfOk r (IsReadOutOf types (before.told store.name).log query))
  pub fits : IfOk r (IsFor types query)
  pub note : IfOk r (λ read. read_note read ≡ note_of store)

-- what a store's note has seen
pub note_seen_by : (role : StoreRole) (v w : View) → Grows v w → Grows (seen_by role v) w
note_seen_by Master v w grows = record { log_is = grows.log_is; begins = grows.begins }
note_seen_by Slave v w grows = grows

module _ (tells : Bool) (s : Settings) (calls : StoreCalls) (query : Query) (store : Store)
    (is : IsReadStore tells s calls.before.told calls.stores (region_store calls.region (query_shard query)) store) where
  -- the note of what was read is told where the tables are
  note_told : (read : ReadOut) → read_note read ≡ note_of store → (read_note read).log.told ≡ true → tells ≡ true
  note_told read note told =
      sym is.keeper.told_is ∙ (ap (λ (l : LogName). l.told) (sym (read_log store read note)) ∙ told)

  floor_here : (floor : ℕ) → floor ≤ store_version calls.region calls.before query → floor ≤ version_of (calls.before.told store.name).log (query_key query)
  floor_here floor le = subst (λ (at : StoreName). floor ≤ version_of (calls.before.told at).log (query_key query)) (sym is.found.name_is) le

  pub note_seen : (read : ReadOut) → read_note read ≡ note_of store → IsSeen (pens_of calls.stores) (query_shard query) (read_note read)
  note_seen read note =
      subst (IsSeen (pens_of calls.stores) (query_shard query)) (sym note)
      (note_seen_by store.role store.view (pens_of calls.stores (query_shard query)) is.follow)

  read_given : (read : ReadOut) → read_note read ≡ note_of store → IsFor (types_of s.schema) query read
      → WhereTold tells (IsReadOutOf (types_of s.schema) (calls.before.told store.name).log query read) → GivesAtFloors tells s calls query read
  read_given (out.Filled fill) note for found floor reaches = record {
    key_is = for.key_is;
    decides = for.decided;
    within = for.within;
    reaches = λ told.
        let there = note_told (out.Filled fill) note told in
        subst (λ v. floor ≤ v) (sym (found there).version_is) (floor_here floor (reaches there));
    seen = note_seen (out.Filled fill) note;
  }
  read_given (out.Past answer version total own) note for found floor reaches =
      let read = out.Past answer version total own in (
        (reads_are_legal (types_of s.schema) (λ shard. own) (wanted query floor)).given own answer version
            (read_is_seen tells calls.before.told (types_of s.schema) query store read is.keeper note found)
            (λ told.
            let there = note_told read note told in
            subst (λ v. floor ≤ v) (sym (found there).0.version_is) (floor_here floor (reaches there))) (grows-self own),
        note_seen read note,
      )

  pub gives_at_floors : (r : Result ReadOut StoreRefusal) → ReadOfStore tells (types_of s.schema) query store calls.before r
      → IfOk r (GivesAtFloors tells s calls query)
  gives_at_floors (Ok read) was = read_given read was.note was.fits was.found
  gives_at_floors (Err e) was = tt

  pub store_reads : (r : Result ReadOut StoreRefusal) → ReadOfStore tells (types_of s.schema) query store calls.before r
      → IfOk r (λ read. Rose calls.before.calls calls.after.calls) → IfOk r (λ read. StoreReads (types_of s.schema) query read calls)
  store_reads (Ok read) was called = record {
    store = store;
    stands = is.found.found;
    reads = λ told. was.found (sym is.keeper.told_is ∙ told);
    note_is = was.note;
    called = called;
  }
  store_reads (Err e) was called = tt

-- ---- the nodes of a core

-- the calls of a region's store, of a core's nodes before them
abbrev pub calls_of : ℕ → NodesCall → StoreCalls
calls_of region call = store_calls region call.old.stores call.before call.after

pub record StoreStep (tells : Bool) (s : Settings) (region : ℕ) (query : Query) (call : NodesCall) (r : Result ReadOut StoreRefusal) : Type 0 where
  pub reads : IfOk r (λ read. StoreReads (types_of s.schema) query read (calls_of region call))
  pub given : IfOk r (GivesAtFloors tells s (store_calls region call.new.stores call.before call.after) query)
  pub same : call.new ≡ call.old
  pub consistent : IsConsistent tells s call.after.told call.new

-- the stores were lent as a slice
pub store_lent : (tells : Bool) (s : Settings) (region : ℕ) (query : Query) (before after : KeeperState) (inside : Inside) (old : Fleet)
    (lent same : List Store) (r : Result ReadOut StoreRefusal) → LendsStores inside old lent same → IsConsistent tells s before.told old
    → IfOk r (λ read. StoreReads (types_of s.schema) query read (store_calls region lent before after))
    → IfOk r (GivesAtFloors tells s (store_calls region lent before after) query)
    → KeepsTables tells before after → StoreStep tells s region query (nodes_call before after old (after_stores inside same)) r
store_lent tells s region query before after inside old lent same r lends is reads given stays =
    let there : StoreStep tells s region query (nodes_call before after old old) r = record {
      reads = subst (λ xs. IfOk r (λ read. StoreReads (types_of s.schema) query read (store_calls region xs before after))) lends.own reads;
      given = subst (λ xs. IfOk r (GivesAtFloors tells s (store_calls region xs before after) query)) lends.own given;
      same = refl;
      consistent = still_consistent tells s before.told after.told old is stays;
    } in
    subst (λ n. StoreStep tells s region query (nodes_call before after old n) r) (sym (stores_after inside old lent same lends)) there
