-- What is committed for a merge over a store, by the touches that were asked for.
use Rattle.std.proofs.Common.{◌≡◌, ℕ, ◌<◌, ◌≤◌, Bool, true, List, length, map, refl, sym, ap, ◌∙◌, subst}
use Rattle.std.specs.Prelude.{All, IsSome, None, Err, filter}
use Rattle.graph_model.specs.Records.{HasStamp, is_news}
use Rattle.graph_model.specs.Soundness.{EdgeUpdate}
use Rattle.graph_model.specs.Told.{WhereTold}
use Rattle.tao_base.specs.Keys.{key_shard}
use Rattle.tao_base.specs.declared.entry.Touch.{Touch}
use Rattle.tao_base.specs.declared.id.StoreName.{StoreName}
use Rattle.tao_keeper.specs.Table.{Tables}
use Rattle.tao_keeper.specs.declared.jobs.Job.{Job}
use Rattle.tao_keeper.specs.declared.keeper.Commit.{Commit}
use Rattle.write_model.proofs.MergeOf.{merges_none}
use Rattle.write_model.specs.MergeLaws.{MayBeMerged}
use Rattle.write_model.specs.Merges.{merge_of}
use Rattle.write_model.specs.Writes.{edge_touch}
use Rattle.shard_tables.proofs.DoneLemmas.{IsMergeCommit}
use Rattle.shard_tables.proofs.MergeLemmas.{made_is, merged_is, news_at, none_merged}
use Rattle.shard_tables.proofs.Standing.{news_lie}
use Rattle.shard_tables.proofs.WriteLemmas.{has_all}
use Rattle.shard_tables.specs.Jobs.{IsOfMerges, MergesAs, made_merge}
use Rattle.shard_tables.specs.StoreCommits.{HasNoCommit}
use Rattle.shard_tables.specs.StoreView.{Store}
use Rattle.shard_tables.specs.Stores.{IsStoreOf, length_of}
use Rattle.shard_tables.specs.WriteDone.{asked_merge_at}
use Rattle.shard_tables.specs.declared.refusal.StoreRefusal.{StoreRefusal}
use Rattle.shard_tables.specs.declared.refusal.StoreRefusal.TheVariants.{KeeperFault, LogFull, ShardFull, StampFull, TooOld, SeqReused, OutOfMemory}
use Rattle.shard_tables.specs.declared.store.StoreRole.TheVariants.{Master}

-- the touches that were asked for under a name and of records that are the store's and the job's
module _ (tells : Bool) (tables : Tables) (store : Store) (at : StoreName) (us : List EdgeUpdate) (ts : List Touch) (from : ℕ) (job : Job)
    (at_is : at ≡ store.name) (us_is : us ≡ job.edges)
    (asked : WhereTold tells (ts ≡ map (edge_touch (tables at).log) (filter (is_news (tables at).log) us)))
    (master : store.role ≡ Master) (of : IsStoreOf tells tables store) where
  here : tells ≡ true → ts ≡ map (edge_touch (tables store.name).log) (filter (is_news (tables store.name).log) job.edges)
  here told = news_at tables at store.name us job.edges ts at_is us_is (asked told)

  count : tells ≡ true → length_of store ≡ length (tables store.name).log
  count told = ap length (has_all tells tables store master of told)

  -- there are none, and all of the records stand there
  pub merge_finds_none : length ts ≡ 0
      → WhereTold tells (merge_of (tables store.name).log from job.position job.edges ≡ None)
      × WhereTold tells (All (HasStamp (tables store.name).log) job.edges)
  merge_finds_none none =
      let nothing : WhereTold tells (merge_of (tables store.name).log from job.position job.edges ≡ None) =
      λ told. none_merged (tables store.name).log from job.position job.edges ts (here told) none in
      (nothing, λ told. (merges_none (tables store.name).log from job.position job.edges).done (nothing told))

  -- there are some, and no room
  pub merge_is_full : 0 < length ts → (refusal : StoreRefusal) → HasNoCommit store refusal
      → IsOfMerges refusal × WhereTold tells (MergesAs store.log_max (tables store.name).log from job.position job.edges (Err refusal))
  merge_is_full some OutOfMemory wanting = (tt, λ told. tt)
  merge_is_full some (LogFull n) wanting = (
    tt,
    λ told.
        let made = merged_is (tables store.name).log from job.position job.edges ts (here told) (length_of store) some (count told) in
        let is : n ≡ length_of store = cc in
        (subst IsSome (sym made) refl, subst (λ k. store.log_max ≤ k) (count told) wanting.full, is ∙ count told),
  )
  merge_is_full some KeeperFault wanting = absurd wanting
  merge_is_full some (ShardFull serial) wanting = absurd wanting
  merge_is_full some (StampFull number) wanting = absurd wanting
  merge_is_full some (TooOld cut position) wanting = absurd wanting
  merge_is_full some (SeqReused position) wanting = absurd wanting

  -- there are some, and they may be merged
  module _ (may : WhereTold tells (MayBeMerged store.name.shard (tables store.name).log from job.position job.edges)) where
    pub merge_commit_is : (commit : Commit) → 0 < length ts → commit.entry ≡ made_merge (length_of store) from job.position ts → commit.job ≡ None
        → length_of store < store.log_max → IsMergeCommit tells (asked_merge_at tables store from job) store commit
    merge_commit_is commit some entry_is none room = record {
      position = ap (λ e. e.position) entry_is;
      none = none;
      room = λ told. subst (λ k. k < store.log_max) (count told) room;
      made = λ told.
          made_is tables at store.name us job.edges ts at_is us_is (asked told) store.name.shard from job.position (length_of store) commit.entry some
          (count told) entry_is (may told);
      here = λ told.
          subst (All (λ t. key_shard t.key ≡ store.name.shard)) (sym (ap (λ e. e.touches) entry_is ∙ here told))
          (news_lie store.name.shard (tables store.name).log job.edges (may told).here);
    }
