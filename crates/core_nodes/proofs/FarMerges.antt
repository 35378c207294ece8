-- What the merge of a job from store to store leaves of the stores, the tables and the link.
use Rattle.std.proofs.Common.{◌≡◌, ◌⊎◌, ◌≢◌, ℕ, ◌≤◌, ◌<◌, ◌+◌, Bool, true, false, List, [], ◌∷◌, ◌++◌, length, Option, Some, None, Result, Ok, Err}
use Rattle.std.proofs.Common.{IfOk, IfSome, refl, sym, ap, ◌∙◌, subst, inl, inr}
use Rattle.std.specs.Prelude.{All, IsSome, slice_set}
use Rattle.std.proofs.lemmas.Option.{get_or_from_slice_get, slice_get_within}
use Rattle.core_model.proofs.KeptStores.{kept_stays, sound_logs}
use Rattle.core_model.specs.Growing.{StoresGrow}
use Rattle.core_model.specs.Pens.{Rise, pens_of}
use Rattle.core_model.specs.StoreLaws.{StoreGoesOn}
use Rattle.core_model.specs.Jobs.{IsOwedJob, MergesOwed, ShardJob, far_shard}
use Rattle.core_model.specs.Stores.{AreKeptIn, AreStoresOf, IsConfiguredStore, master_log, master_store}
use Rattle.core_nodes.proofs.GrowingLemmas.{gains_stores, in_order_on, stays_stores}
use Rattle.core_nodes.proofs.JobLemmas.{due, is_merged, may_be_merged, merge_keeps, merges_owed}
use Rattle.core_nodes.proofs.MasterStores.{IsMasterRead, goes_same, pen_is, pens_rise, stores_left}
use Rattle.core_nodes.proofs.StoreLemmas.{OthersStay, goes_with, others_stay}
use Rattle.core_nodes.specs.Repairs.{ComesBack, FindsNoRoom, MergesOrRests, MergesFar, WritesDueEntry, carry_back, carry_there}
use Rattle.core_nodes.specs.Outside.{Outside, outside}
use Rattle.edge_repair.specs.Calls.{MayTakeJob}
use Rattle.edge_repair.specs.Carries.{CarriesBack, CarriesBy, FailsAt}
use Rattle.edge_repair.specs.JobBetween.{JobBetween, job_between, way_back, way_there}
use Rattle.edge_repair.specs.Merging.{GainsBy, LacksRoom, MergesBy, MergesDue, WritesDue, due_entry}
use Rattle.edge_repair.specs.declared.refusal.RepairRefusal.{RepairRefusal}
use Rattle.edge_repair.specs.declared.refusal.RepairRefusal.TheVariants.{KeeperFault, LinkFault, LogFull, OutOfMemory}
use Rattle.edge_repair.specs.declared.repairs.RepairOutcome.{RepairOutcome}
use Rattle.graph_model.specs.Log.{entry_at}
use Rattle.graph_model.specs.Soundness.{IsSoundOf, KeepsEnds}
use Rattle.graph_model.specs.Told.{WhereTold}
use Rattle.node_name.specs.declared.NodeName.TheVariants.{Store as StoreName_}
use Rattle.shard_tables.proofs.WriteLemmas.{has_all}
use Rattle.shard_tables.specs.StoreView.{Store}
use Rattle.shard_tables.specs.Stores.{IsStoreOf, store_with}
use Rattle.shard_tables.specs.Written.{LiesOn, StandsIn, TableGains}
use Rattle.shard_tables.specs.declared.store.StoreRole.TheVariants.{Master}
use Rattle.shard_log.specs.View.{Grows}
use Rattle.tao_base.specs.EdgeTypes.{EdgeTypes, InversesMatch}
use Rattle.tao_base.specs.Keys.{key_shard}
use Rattle.tao_base.specs.declared.entry.Entry.{Entry}
use Rattle.tao_base.specs.declared.id.StoreName.{StoreName}
use Rattle.tao_keeper.specs.Given.{IsGivenJob}
use Rattle.tao_keeper.specs.Growing.{LogsGrow}
use Rattle.tao_keeper.specs.KeeperState.{KeeperState}
use Rattle.tao_keeper.specs.Table.{Stays, Tables}
use Rattle.tao_link.specs.Cuts.{between}
use Rattle.tao_link.specs.Shown.{LinkShown, after_carry}
use Rattle.tao_link.specs.declared.link.Carry.{Carry}
use Rattle.tao_schema.specs.Schema.{types_of}
use Rattle.topology.specs.Config.{Settings}
use Rattle.write_model.proofs.Covered.{at_place}
use Rattle.write_model.proofs.Growing.{entry_at-last}
use Rattle.write_model.specs.MergeLaws.{MayBeMerged}
use Rattle.write_model.specs.Merges.{merge_of}

one_store : (a b : StoreName) → StoreName_ a ≡ StoreName_ b → a ≡ b
one_store a b h = cc

one_carry : (a b : Carry) → Some a ≡ Some b → a ≡ b
one_carry a b h = cc

-- ---- the last entry of a log

module _ (types : EdgeTypes) (shard : ℕ) (log : List Entry) (e : Entry) (sound : IsSoundOf types shard (log ++ e ∷ [])) where
  last_stands : entry_at (log ++ e ∷ []) e.position ≡ Some e
  last_stands =
      let at = at_place types shard (log ++ e ∷ []) (length log + 1) e sound (entry_at-last log e) in
      subst (λ p. entry_at (log ++ e ∷ []) p ≡ Some e) (sym at.2) (entry_at-last log e)

  last_lies : All (λ t. key_shard t.key ≡ shard) e.touches
  last_lies =
      let whole = log ++ e ∷ [] in
      let at = at_place types shard whole (length log + 1) e sound (entry_at-last log e) in
      let ends : KeepsEnds types shard e =
      subst (KeepsEnds types shard) (get_or_from_slice_get whole at.0 e e at.1) (sound.ends at.0 e (slice_get_within whole at.0 e at.1)) in
      ends.here

-- ---- what was written

-- it stands in what the store has seen, and lies on its shard
module _ (tells : Bool) (s : Settings) (shard : ℕ) (tables : Tables) (x y : Store) (here : shard < s.shards) (named : x.name ≡ master_store s shard)
    (role : x.role ≡ Master) (of : IsStoreOf tells tables y) (kept : WhereTold tells (AreKeptIn s tables)) where
  sound_seen : (e : Entry) → y ≡ store_with x (Some e) → y.view.log.told ≡ true → IsSoundOf (types_of s.schema) shard (x.view.entries ++ e ∷ [])
  sound_seen e grown heard =
      let told : tells ≡ true = sym of.told_is ∙ heard in
      let log_is : y.view.entries ≡ (tables (master_store s shard)).log =
      has_all tells tables y (ap (λ (z : Store). z.role) grown ∙ role) of told ∙ ap (λ at. (tables at).log) (ap (λ (z : Store). z.name) grown ∙ named) in
      let own = subst (IsSoundOf (types_of s.schema) shard) (sym log_is) (sound_logs s tables (kept told) shard here) in
      subst (λ (z : Store). IsSoundOf (types_of s.schema) shard z.view.entries) grown own

  wrote_stands : (wrote : Option Entry) → y ≡ store_with x wrote → IfSome wrote (StandsIn y.view)
  wrote_stands None grown = tt
  wrote_stands (Some e) grown = λ heard.
      subst (λ (z : Store). entry_at z.view.entries e.position ≡ Some e) (sym grown)
      (last_stands (types_of s.schema) shard x.view.entries e (sound_seen e grown heard))

  wrote_lies : (wrote : Option Entry) → y ≡ store_with x wrote → IfSome wrote (LiesOn y.view shard)
  wrote_lies None grown = tt
  wrote_lies (Some e) grown = λ heard. last_lies (types_of s.schema) shard x.view.entries e (sound_seen e grown heard)

  stands_by : (r : Result RepairOutcome RepairRefusal) → GainsBy x y r → IfOk r (λ repaired. IfSome repaired.wrote (StandsIn y.view))
  stands_by (Ok repaired) grown = wrote_stands repaired.wrote grown
  stands_by (Err e) grown = tt

  lies_by : (r : Result RepairOutcome RepairRefusal) → GainsBy x y r → IfOk r (λ repaired. IfSome repaired.wrote (LiesOn y.view shard))
  lies_by (Ok repaired) grown = wrote_lies repaired.wrote grown
  lies_by (Err e) grown = tt

-- the store goes on, by the answer
pub gained : (x y : Store) (r : Result RepairOutcome RepairRefusal) → Grows x.view y.view → GainsBy x y r → StoreGoesOn x y
gained x y (Ok repaired) grows grown = goes_with x y repaired.wrote grown grows
gained x y (Err (LogFull count)) grows same = goes_same x y same
gained x y (Err LinkFault) grows may = goes_with x y may.0 may.1 grows
gained x y (Err KeeperFault) grows may = goes_with x y may.0 may.1 grows
gained x y (Err OutOfMemory) grows may = goes_with x y may.0 may.1 grows

-- ---- the tables

-- a job between the stores of its two shards
module _ (s : Settings) (j : ShardJob) (from : StoreName) (x : Store) (from_is : from ≡ master_store s j.shard)
    (named : x.name ≡ master_store s (far_shard j.job)) (limit : x.log_max ≡ s.log_max) where
  abbrev taken : JobBetween
  taken = job_between from x j.job

  due_is : (tables : Tables) → due_entry taken tables ≡ due s tables j
  due_is tables =
      ap (λ at. merge_of (tables at).log from.shard j.job.position j.job.edges) named
      ∙ ap (λ (at : StoreName). merge_of (master_log s tables (far_shard j.job)) at.shard j.job.position j.job.edges) from_is

  -- the two carries differ
  ways_differ : j.shard ≢ far_shard j.job → way_there taken ≢ way_back taken
  ways_differ apart same =
      let names : from ≡ x.name = one_store from x.name (ap (λ (c : Carry). c.from) same) in
      apart (ap (λ (at : StoreName). at.shard) (sym from_is ∙ names ∙ named))

  there_is : way_there taken ≡ carry_there s j
  there_is = ap (λ at. between (StoreName_ from) (StoreName_ at)) named
      ∙ ap (λ at. between (StoreName_ at) (StoreName_ (master_store s (far_shard j.job)))) from_is

  back_is : way_back taken ≡ carry_back s j
  back_is = ap (λ at. between (StoreName_ at) (StoreName_ from)) named
      ∙ ap (λ at. between (StoreName_ (master_store s (far_shard j.job))) (StoreName_ at)) from_is

  comes_back : (old new : LinkShown) → CarriesBack taken old new → ComesBack s j old new
  comes_back old new (inl whole) = inl whole
  comes_back old new (inr fails) = inr (subst (λ c. FailsAt c (after_carry old) new) back_is fails)

  -- by the carry that failed, the job was merged or nothing changed
  stays_there : (failed : Option Carry) (old new : Tables) → j.shard ≢ far_shard j.job → failed ≡ Some (way_there taken)
      → MergesBy taken failed old new (Err LinkFault) → Stays old new
  stays_there failed old new apart at (inl there) = there.1
  stays_there failed old new apart at (inr back) = absurd (ways_differ apart (one_carry (way_there taken) (way_back taken) (sym at ∙ back.0)))

  merges_back : (failed : Option Carry) (old new : Tables) → j.shard ≢ far_shard j.job → failed ≡ Some (way_back taken)
      → MergesBy taken failed old new (Err LinkFault) → MergesDue taken old new
  merges_back failed old new apart at (inl there) = absurd (ways_differ apart (one_carry (way_there taken) (way_back taken) (sym there.0 ∙ at)))
  merges_back failed old new apart at (inr back) = back.1

  stays_or_merges : (failed : Option Carry) (old new : Tables) (r : Result RepairOutcome RepairRefusal) → MergesBy taken failed old new r
      → Stays old new ⊎ MergesDue taken old new
  stays_or_merges failed old new (Ok repaired) merges = inr merges.merges
  stays_or_merges failed old new (Err (LogFull count)) merges = inl merges.stays
  stays_or_merges failed old new (Err LinkFault) (inl there) = inl there.1
  stays_or_merges failed old new (Err LinkFault) (inr back) = inr back.1
  stays_or_merges failed old new (Err KeeperFault) merges = merges
  stays_or_merges failed old new (Err OutOfMemory) merges = merges

  gains_due : (old new : Tables) → MergesDue taken old new → TableGains old new (master_store s (far_shard j.job)) (due_entry taken old) None
  gains_due old new merges = subst (λ at. TableGains old new at (due_entry taken old) None) named merges

  others : (old new : Tables) → Stays old new ⊎ MergesDue taken old new → OthersStay old new (master_store s (far_shard j.job))
  others old new (inl stays) other differs = stays other
  others old new (inr merges) other differs =
      others_stay old new (master_store s (far_shard j.job)) (due_entry taken old) None (gains_due old new merges) other differs

  -- no log of another shard grows, and no line changes
  grown_there : (tells : Bool) (old new : KeeperState) → IsConfiguredStore s (master_store s (far_shard j.job)) → LogsGrow tells old.told new.told
      → (told : Bool) → tells ≡ told → WhereTold tells (Stays old.told new.told ⊎ MergesDue taken old.told new.told)
      → StoresGrow tells s old.told new.told
  grown_there tells old new configured logs true heard ways = elim (ways heard) [
    | inl stays ↦ stays_stores tells s old new (λ told. stays)
    | inr merges ↦ gains_stores tells s old new (master_store s (far_shard j.job)) (due_entry taken old.told) None configured
        (λ told. gains_due old.told new.told merges)
  ]
  grown_there tells old new configured logs false unheard ways = record {
    on = record { logs = logs; lines = λ told. absurd (cc); others = λ told. absurd (cc) };
    cuts = record { cuts = λ told. absurd (cc) };
  }

  -- ---- what was answered

  module _ (tells : Bool) (old new : KeeperState) (far : far_shard j.job < s.shards) (owed : WhereTold tells (IsOwedJob s old.told j))
      (match : InversesMatch (types_of s.schema)) (kept : WhereTold tells (AreKeptIn s old.told)) (some : 0 < length j.job.edges) where
    apart : tells ≡ true → j.shard ≢ far_shard j.job
    apart told = (may_be_merged s old.told j far match (kept told) some (owed told)).away

    step : tells ≡ true → MergesDue taken old.told new.told → MergesOwed s old.told new.told j
    step told merges =
        merges_owed s old.told j far new.told (due_entry taken old.told) (owed told) (due_is old.told) (gains_due old.told new.told merges)

    kept_after : tells ≡ true → Stays old.told new.told ⊎ MergesDue taken old.told new.told → AreKeptIn s new.told
    kept_after told (inl stays) = kept_stays s old.told new.told stays (kept told)
    kept_after told (inr merges) = merge_keeps s old.told new.told j match (kept told) (step told merges)

    wrote_due : tells ≡ true → (wrote : Option Entry) → WritesDue taken old.told new.told wrote → WritesDueEntry s j wrote old new
    wrote_due told wrote writes =
        let merges = step told writes.merges in
        record {
          wrote_is = writes.wrote_is ∙ due_is old.told;
          room = subst (λ most. IfSome wrote (λ e. length (master_log s old.told (far_shard j.job)) < most)) limit
              (subst (λ at. IfSome wrote (λ e. length (old.told at).log < x.log_max)) named writes.room);
          merges = merges;
          merged = is_merged s old.told new.told j match (kept told) merges;
        }

    no_room : (count : ℕ) → LacksRoom taken old.told new.told count → FindsNoRoom s j count old
    no_room count lacks = record {
      due = subst IsSome (due_is old.told) lacks.due;
      full = subst (λ most. most ≤ length (master_log s old.told (far_shard j.job))) limit
          (subst (λ at. x.log_max ≤ length (old.told at).log) named lacks.full);
      count_is = lacks.count_is ∙ ap (λ at. length (old.told at).log) named;
    }

    may_merge : (told : Bool) → tells ≡ told → WhereTold tells (Stays old.told new.told ⊎ MergesDue taken old.told new.told) → MergesOrRests tells s j old new
    may_merge true heard h = elim (h heard) [
      | inl stays ↦ inl (λ told. stays)
      | inr merges ↦ inr (λ told. step told merges)
    ]
    may_merge false unheard h = inl (λ told. absurd (cc))

    merges_there : (before after : LinkShown) (r : Result RepairOutcome RepairRefusal)
        → WhereTold tells (MergesBy taken after.failed old.told new.told r) → CarriesBy taken before after r
        → MergesFar tells s j r (outside old before) (outside new after)
    merges_there before after (Ok repaired) merges carries = (λ told. wrote_due told repaired.wrote (merges told), carries)
    merges_there before after (Err (LogFull count)) merges carries =
        (λ told. no_room count (merges told), λ told. (merges told).stays, comes_back before after carries)
    merges_there before after (Err LinkFault) merges (inl there) = inl (
      subst (λ c. FailsAt c before after) there_is there,
      λ told. stays_there after.failed old.told new.told (apart told) there.failed (merges told),
    )
    merges_there before after (Err LinkFault) merges (inr back) = inr (
      subst (λ c. FailsAt c (after_carry before) after) back_is back,
      λ told. step told (merges_back after.failed old.told new.told (apart told) back.failed (merges told)),
    )
    merges_there before after (Err KeeperFault) merges carries = (may_merge tells refl merges, comes_back before after carries)
    merges_there before after (Err OutOfMemory) merges carries = (may_merge tells refl merges, comes_back before after carries)

-- ---- the store of the shard where the job is owed

-- it may take the job
pub may_take_job : (tells : Bool) (s : Settings) (tables : Tables) (j : ShardJob) (from : StoreName) (x : Store) → from ≡ master_store s j.shard
    → x.name ≡ master_store s (far_shard j.job) → x.role ≡ Master → IsStoreOf tells tables x → far_shard j.job < s.shards → InversesMatch (types_of s.schema)
    → WhereTold tells (AreKeptIn s tables) → IsGivenJob j.job → WhereTold tells (IsOwedJob s tables j) → MayTakeJob tells tables (job_between from x j.job)
may_take_job tells s tables j from x from_is named role of far match kept given owed = record {
  master = role;
  store = of;
  position = given.position.0;
  stamps = given.stamps;
  may = λ told.
      let may = may_be_merged s tables j far match (kept told) given.some (owed told) in
      let there = subst (λ (at : StoreName). MayBeMerged at.shard (tables at).log j.shard j.job.position j.job.edges) (sym named) may in
      subst (λ n. MayBeMerged x.name.shard (tables x.name).log n j.job.position j.job.edges) (sym (ap (λ (at : StoreName). at.shard) from_is)) there;
}

-- what the store was asked, and what it answered
pub record TakesJob (tells : Bool) (b : JobBetween) (old new : Outside) (y : Store) (r : Result RepairOutcome RepairRefusal) : Type 0 where
  pub merges : WhereTold tells (MergesBy b new.link.failed old.keepers.told new.keepers.told r)
  pub to : GainsBy b.to y r
  pub grows : Grows b.to.view y.view
  pub keeper : IsStoreOf tells new.keepers.told y
  pub carries : CarriesBy b old.link new.link r
  pub logs : LogsGrow tells old.keepers.told new.keepers.told

module _ (tells : Bool) (s : Settings) (j : ShardJob) where
  pub record FarMerged (old new : Outside) (before after : List Store) (r : Result RepairOutcome RepairRefusal) : Type 0 where
    pub merges : MergesFar tells s j r old new
    pub stands : IfOk r (λ repaired. IfSome repaired.wrote (StandsIn (pens_of after (far_shard j.job))))
    pub lies : IfOk r (λ repaired. IfSome repaired.wrote (LiesOn (pens_of after (far_shard j.job)) (far_shard j.job)))
    pub stores : AreStoresOf tells s new.keepers.told after
    pub rise : Rise (pens_of before) (pens_of after)
    pub grows : StoresGrow tells s old.keepers.told new.keepers.told

  pub far_merged : (from : StoreName) (xs : List Store) (place : ℕ) (x y : Store) (old new : Outside) (r : Result RepairOutcome RepairRefusal)
      → AreStoresOf tells s old.keepers.told xs → far_shard j.job < s.shards → from ≡ master_store s j.shard
      → IsMasterRead tells s old.keepers.told xs (far_shard j.job) place x → InversesMatch (types_of s.schema)
      → WhereTold tells (IsOwedJob s old.keepers.told j) → 0 < length j.job.edges → TakesJob tells (job_between from x j.job) old new y r
      → FarMerged old new xs (slice_set xs place y) r
  far_merged from xs place x y old new r are far from_is is match owed some took =
      let far_at = far_shard j.job in
      let before = old.keepers.told in
      let after = new.keepers.told in
      let goes = gained x y r took.grows took.to in
      let pen = pen_is tells s before after xs far_at place x y are is goes in
      let ways : WhereTold tells (Stays before after ⊎ MergesDue (job_between from x j.job) before after) =
      λ told. stays_or_merges s j from x from_is is.named is.limit new.link.failed before after r (took.merges told) in
      let kept : WhereTold tells (AreKeptIn s after) =
      λ told. kept_after s j from x from_is is.named is.limit tells old.keepers new.keepers far owed match are.kept some told (ways told) in
      let grown : StoresGrow tells s before after =
      grown_there s j from x from_is is.named is.limit tells old.keepers new.keepers is.configured took.logs tells refl ways in
      record {
        merges = merges_there s j from x from_is is.named is.limit tells old.keepers new.keepers far owed match are.kept some old.link new.link r
            took.merges took.carries;
        stands = subst (λ v. IfOk r (λ repaired. IfSome repaired.wrote (StandsIn v))) (sym pen)
            (stands_by tells s far_at after x y far is.named is.role took.keeper kept r took.to);
        lies = subst (λ v. IfOk r (λ repaired. IfSome repaired.wrote (LiesOn v far_at))) (sym pen)
            (lies_by tells s far_at after x y far is.named is.role took.keeper kept r took.to);
        stores = stores_left tells s before after xs far_at place x y are is goes took.keeper
            (λ told. subst (OthersStay before after) (sym is.named)
            (others s j from x from_is is.named is.limit before after (ways told))) (in_order_on tells s before after are.cuts kept grown);
        rise = pens_rise tells s before after xs far_at place x y are is goes;
        grows = grown;
      }
