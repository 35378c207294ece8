-- A slave's store that takes an entry of its shard's log.
use Rattle.std.proofs.Common.{◌≡◌, ◌≢◌, ◌⊎◌, ℕ, Bool, true, false, List, length, Some, None, Result, Ok, Err, refl, sym, ap, ◌∙◌, subst}
use Rattle.std.proofs.Common.{IfErr, IfOk, arith, drop, inl, inr}
use Rattle.std.proofs.lemmas.Bool.{cases_Bool, eqb-true}
use Rattle.std.specs.Prelude.{◌==◌, IsErrOf, slice_get, slice_set}
use Rattle.counts.specs.Count.{Rose}
use Rattle.graph_model.specs.Log.{entry_at}
use Rattle.graph_model.specs.Told.{WhereTold}
use Rattle.region_stream.specs.Applying.{IsVerdict, entry_applied, store_applied}
use Rattle.region_stream.specs.declared.applying.Applied.{Applied}
use Rattle.region_stream.specs.declared.applying.Applied.TheVariants as applied
use Rattle.shard_log.proofs.Beginnings.{begins-rest}
use Rattle.shard_log.specs.View.{Begins, Grows, LogName, View}
use Rattle.shard_tables.specs.StoreView.{Store}
use Rattle.shard_tables.specs.Stores.{IsStoreOf}
use Rattle.shard_tables.specs.Written.{TableGains}
use Rattle.shard_tables.specs.Refusals.{IsOfReads}
use Rattle.shard_tables.specs.declared.refusal.StoreRefusal.{StoreRefusal}
use Rattle.shard_tables.specs.declared.refusal.StoreRefusal.TheVariants.{KeeperFault}
use Rattle.replies.specs.declared.nodes.StreamVerdict.{StreamVerdict}
use Rattle.replies.specs.declared.nodes.StreamVerdict.TheVariants as verdict
use Rattle.shard_tables.specs.declared.store.StoreRole.TheVariants.{Slave}
use Rattle.tao_base.specs.declared.entry.Entry.{Entry}
use Rattle.tao_base.specs.declared.id.StoreName.{StoreName}
use Rattle.tao_keeper.specs.KeeperState.{CallsKeeper, KeeperState}
use Rattle.tao_keeper.specs.Table.{Table, Tables}
use Rattle.topology.specs.Config.{Settings}
use Rattle.write_model.proofs.Growing.{entry_at-more}
use Rattle.core_model.proofs.FoundStores.{stores_go_on}
use Rattle.core_model.proofs.KeptStores.{kept_within}
use Rattle.core_model.proofs.Places.{set_same}
use Rattle.core_model.specs.Fleet.{Fleet}
use Rattle.core_model.specs.Growing.{StoresGrow}
use Rattle.core_model.specs.Pens.{IsSeen, pens_of}
use Rattle.core_model.specs.StoreLaws.{StoreGoesOn}
use Rattle.core_model.specs.Stores.{AreKeptIn, AreStoresOf, master_log, master_of, master_store, role_in}
use Rattle.core_model.specs.Writes.{IsSeenEntry}
use Rattle.core_nodes.proofs.GrowingLemmas.{gains_stores, in_order_on}
use Rattle.core_nodes.proofs.KnownStores.{known_store}
use Rattle.core_nodes.proofs.StoreLemmas.{IsReadStore, OthersStay, others_stay, stores_changed}
use Rattle.core_nodes.proofs.ViewLemmas.{after_stores, stores_after}
use Rattle.core_nodes.specs.FleetView.{fleet_seen}
use Rattle.core_nodes.specs.Opening.{IsSlaveStore}
use Rattle.core_nodes.specs.declared.fleet.Fleet.TheInside.{Inside}
use Rattle.core_nodes.specs.Streams.{StreamsTo, UnlessApplied, streamed_as}

-- ---- the store

-- a store of another region than the master's takes its entries
pub slave_role : (s : Settings) (at : StoreName) → IsSlaveStore s at → role_in s at ≡ Slave
slave_role s at slave = by_test (cases_Bool (at.region == master_of s at.shard))
  where
    by_test : ((at.region == master_of s at.shard) ≡ true) ⊎ ((at.region == master_of s at.shard) ≡ false) → role_in s at ≡ Slave
    by_test (inl same) = absurd (slave.apart (eqb-true at.region (master_of s at.shard) same))
    by_test (inr other) = rw other refl

-- a store that an entry came to has at most seen more
view_alone : (note : View) (r : Result Applied StoreRefusal) (x : Store) → store_applied note r x ≡ record x { view = (store_applied note r x).view }
view_alone note (Ok applied.Applied) x = refl
view_alone note (Ok applied.Old) x = refl
view_alone note (Ok (applied.Gap position)) x = refl
view_alone note (Err refusal) x = refl

-- so it goes on
goes_on : (note : View) (r : Result Applied StoreRefusal) (x y : Store) → y ≡ store_applied note r x → Grows x.view y.view → StoreGoesOn x y
goes_on note r x y is grows =
    let same : y ≡ record x { view = (store_applied note r x).view } = is ∙ view_alone note r x in
    record {
      name_is = ap (λ (z : Store). z.name) same;
      limit_is = ap (λ (z : Store). z.log_max) same;
      epoch_is = ap (λ (z : Store). z.epoch) same;
      role_is = ap (λ (z : Store). z.role) same;
      grows = grows;
    }

-- what `apply` says of a slave's store and its table
pub record TakesIt (tells : Bool) (old new : KeeperState) (entry : Entry) (note : View) (r : Result Applied StoreRefusal) (x y : Store) : Type 0 where
  pub is : y ≡ store_applied note r x
  pub grows : Grows x.view y.view
  pub follows : (whole : View) → Grows x.view whole → Grows note whole → Grows y.view whole
  pub keeper : IsStoreOf tells new.told y
  pub gains : WhereTold tells (TableGains old.told new.told x.name (entry_applied entry r) None)
  pub verdict : WhereTold tells (IfOk r (IsVerdict (length (old.told x.name).log) entry.position))
  pub refused : IfErr r IsOfReads
  pub calls : CallsKeeper KeeperFault old new r

-- and stays as it was, unless it took the entry
unless_applied : (note : View) (r : Result Applied StoreRefusal) (x y : Store) (P : Type 0) → y ≡ store_applied note r x → (y ≡ x → P)
    → UnlessApplied (streamed_as r) P
unless_applied note (Ok applied.Applied) x y P is back = tt
unless_applied note (Ok applied.Old) x y P is back = back is
unless_applied note (Ok (applied.Gap position)) x y P is back = back is
unless_applied note (Err refusal) x y P is back = back is

-- its refusal is that of the call
refused_as : (r : Result Applied StoreRefusal) → IfErr r IsOfReads → IfErr (streamed_as r) IsOfReads
refused_as (Ok applied.Applied) is = tt
refused_as (Ok applied.Old) is = tt
refused_as (Ok (applied.Gap position)) is = tt
refused_as (Err refusal) is = is

calls_as : (old new : KeeperState) (r : Result Applied StoreRefusal) → CallsKeeper KeeperFault old new r → CallsKeeper KeeperFault old new (streamed_as r)
calls_as old new r is = record { calls = is.calls; faults = is.faults; failed = failed r is.failed }
  where
    failed : (r : Result Applied StoreRefusal) → (IsErrOf r KeeperFault → Rose old.faults new.faults) → IsErrOf (streamed_as r) KeeperFault
        → Rose old.faults new.faults
    failed (Ok applied.Applied) rose is = absurd (cc)
    failed (Ok applied.Old) rose is = absurd (cc)
    failed (Ok (applied.Gap position)) rose is = absurd (cc)
    failed (Err refusal) rose is = (let one : refusal ≡ KeeperFault = cc in rose (ap (λ e. Err e) one))

-- ---- the tables

-- what stands in a beginning of a log stands in the log
stands_on : (log whole : List Entry) (position : ℕ) (e : Entry) → Begins log whole → entry_at log position ≡ Some e → entry_at whole position ≡ Some e
stands_on log whole position e begins stands =
    subst (λ xs. entry_at xs position ≡ Some e) (begins-rest log whole begins)
    (entry_at-more log (drop (length log) whole) position e stands)

-- what was applied is a step of the stream
streams_by : (s : Settings) (old new : Tables) (at : StoreName) (e : Entry) (r : Result Applied StoreRefusal) → at.region ≢ master_of s at.shard
    → entry_at (master_log s old at.shard) e.position ≡ Some e → IfOk r (IsVerdict (length (old at).log) e.position)
    → TableGains old new at (entry_applied e r) None → StreamsTo s at e (streamed_as r) old new
streams_by s old new at e (Ok applied.Applied) apart stands verdict gains = (
  verdict,
  record { slave = apart; next = subst (λ n. entry_at (master_log s old at.shard) n ≡ Some e) verdict stands; gains = gains },
)
streams_by s old new at e (Ok applied.Old) apart stands verdict gains = ((omega (arith, verdict)), gains)
streams_by s old new at e (Ok (applied.Gap position)) apart stands verdict gains = (
  (let is = verdict.0 in let before = verdict.1 in omega (arith, is, before)),
  gains,
)
streams_by s old new at e (Err refusal) apart stands verdict gains = gains

-- ---- the stores

module _ (tells : Bool) (s : Settings) (tables : Tables) (xs : List Store) (at : StoreName) (x : Store) (is : IsReadStore tells s tables xs at x)
    (slave : IsSlaveStore s at) where
  pub role_read : x.role ≡ Slave
  role_read = is.is.role_is ∙ ap (role_in s) is.found.name_is ∙ slave_role s at slave

  -- its note and its shard's are of one log
  pub one_log : (note : View) → IsSeen (pens_of xs) at.shard note → x.view.log ≡ note.log
  one_log note seen = sym is.follow.log_is ∙ seen.log_is

-- the stores, the tables and the answer, once one of them was to take the entry
pub record TookAt (tells : Bool) (s : Settings) (old new : KeeperState) (entry : Entry) (at : StoreName) (xs ys : List Store)
    (r : Result StreamVerdict StoreRefusal) : Type 0 where
  pub streams : WhereTold tells (StreamsTo s at entry r old.told new.told)
  pub pens : pens_of ys ≡ pens_of xs
  pub rests : UnlessApplied r (ys ≡ xs)
  pub stores : AreStoresOf tells s new.told ys
  pub grows : StoresGrow tells s old.told new.told
  pub refused : IfErr r IsOfReads
  pub calls : CallsKeeper KeeperFault old new r

module _ (tells : Bool) (s : Settings) (old new : KeeperState) (xs : List Store) (at : StoreName) (place : ℕ) (x : Store)
    (is : IsReadStore tells s old.told xs at x) (slave : IsSlaveStore s at) where
  module _ (entry : Entry) (note : View) (r : Result Applied StoreRefusal) (y : Store) (stands : slice_get xs place ≡ Some x)
      (takes : TakesIt tells old new entry note r x y) where
    goes : StoreGoesOn x y
    goes = goes_on note r x y takes.is takes.grows

    -- no pen changes
    pens_same : pens_of (slice_set xs place y) ≡ pens_of xs
    pens_same = (stores_go_on xs place x y stands goes).slave (goes.role_is ∙ role_read tells s old.told xs at x is slave)

    gains_at : WhereTold tells (TableGains old.told new.told at (entry_applied entry r) None)
    gains_at = subst (λ n. WhereTold tells (TableGains old.told new.told n (entry_applied entry r) None)) is.found.name_is takes.gains

    -- no master's table changes
    kept_after : WhereTold tells (AreKeptIn s old.told) → WhereTold tells (AreKeptIn s new.told)
    kept_after kept told =
        let others : OthersStay old.told new.told at = others_stay old.told new.told at (entry_applied entry r) None (gains_at told) in
        let apart : (shard : ℕ) → master_store s shard ≢ at = λ shard same.
        slave.apart (sym (ap (λ (n : StoreName). n.region) same) ∙ ap (λ (n : StoreName). master_of s n.shard) same) in
        kept_within s old.told new.told
        (record {
          logs = λ shard within. ap (λ (t : Table). t.log) (others (master_store s shard) (apart shard));
          jobs = λ shard within. ap (λ (t : Table). t.jobs) (others (master_store s shard) (apart shard));
        })
        (kept told)

    grown_after : StoresGrow tells s old.told new.told
    grown_after = gains_stores tells s old new at (entry_applied entry r) None slave.here gains_at

    stores_taken : AreStoresOf tells s old.told xs → IsSeen (pens_of xs) at.shard note → AreStoresOf tells s new.told (slice_set xs place y)
    stores_taken are seen =
        let shard_is : y.name.shard ≡ at.shard = ap (λ (n : StoreName). n.shard) (goes.name_is ∙ is.found.name_is) in
        let follow : IsSeen (pens_of xs) at.shard y.view = takes.follows (pens_of xs at.shard) is.follow seen in
        stores_changed tells s old.told new.told xs place x y are stands goes takes.keeper
        (λ told. others_stay old.told new.told x.name (entry_applied entry r) None (takes.gains told))
        (in_order_on tells s old.told new.told are.cuts (kept_after are.kept) grown_after)
        (subst (λ k. IsSeen (pens_of (slice_set xs place y)) k y.view) (sym shard_is)
        (subst (λ (pens : ℕ → View). Grows y.view (pens at.shard)) (sym pens_same) follow))

    -- the store stays as it was, unless it took the entry
    rests : UnlessApplied (streamed_as r) (slice_set xs place y ≡ xs)
    rests = unless_applied note r x y (slice_set xs place y ≡ xs) takes.is (λ back. ap (slice_set xs place) back ∙ set_same xs place x stands)

    -- its table takes a step of the stream
    streams : AreStoresOf tells s old.told xs → IsSeenEntry (pens_of xs) at.shard note entry
        → WhereTold tells (StreamsTo s at entry (streamed_as r) old.told new.told)
    streams are seen told =
        let known = known_store s old.told xs (subst (λ t. AreStoresOf t s old.told xs) told are) at slave.here in
        streams_by s old.told new.told at entry r slave.apart
        (in_master known.whole known.told)
        (subst (λ (n : StoreName). IfOk r (IsVerdict (length (old.told n).log) entry.position)) is.found.name_is (takes.verdict told)) (gains_at told)
      where
        -- what stands in a note stands in the whole log
        in_master : (pens_of xs at.shard).entries ≡ master_log s old.told at.shard → (pens_of xs at.shard).log.told ≡ true
            → entry_at (master_log s old.told at.shard) entry.position ≡ Some entry
        in_master whole heard =
            let in_note = seen.stands (ap (λ (l : LogName). l.told) (sym seen.seen.log_is) ∙ heard) in
            subst (λ log. entry_at log entry.position ≡ Some entry) whole
            (stands_on note.entries (pens_of xs at.shard).entries entry.position entry seen.seen.begins in_note)

    pub took_at : (said : Result StreamVerdict StoreRefusal) → said ≡ streamed_as r → AreStoresOf tells s old.told xs
        → IsSeenEntry (pens_of xs) at.shard note entry → TookAt tells s old new entry at xs (slice_set xs place y) said
    took_at said is_said are seen =
        subst (TookAt tells s old new entry at xs (slice_set xs place y)) (sym is_said)
        (record {
          streams = streams are seen;
          pens = pens_same;
          rests = rests;
          stores = stores_taken are seen.seen;
          grows = grown_after;
          refused = refused_as r takes.refused;
          calls = calls_as old new r takes.calls;
        })

-- ---- the nodes of a core

-- where the stores were lent as a slice, and stay as they were unless one took the entry
pub rested_lent : (inside : Inside) (old : Fleet) (lent ys : List Store) (r : Result StreamVerdict StoreRefusal) → fleet_seen inside ≡ old
    → lent ≡ old.stores → length ys ≡ inside.stores.len → UnlessApplied r (ys ≡ lent) → UnlessApplied r (after_stores inside ys ≡ old)
rested_lent inside old lent ys r view own long rests = by_answer r rests
  where
    back : ys ≡ lent → after_stores inside ys ≡ old
    back same = stores_after inside old lent ys (record { view = view; own = own; long = long; is = same })

    by_answer : (r : Result StreamVerdict StoreRefusal) → UnlessApplied r (ys ≡ lent) → UnlessApplied r (after_stores inside ys ≡ old)
    by_answer (Ok verdict.Applied) rests = tt
    by_answer (Ok verdict.Old) rests = back rests
    by_answer (Ok verdict.Gap) rests = back rests
    by_answer (Ok verdict.None) rests = back rests
    by_answer (Err refusal) rests = back rests
