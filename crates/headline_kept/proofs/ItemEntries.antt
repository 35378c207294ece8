-- The entries that a write brings to nodes stand in the logs of their shards.
use Rattle.std.proofs.Common.{◌≡◌, ◌<◌, ◌≤◌, ◌∙◌, ◌+◌, ◌++◌, ◌∷◌, [], ℕ, Bool, List, Option, Some, None, length, drop, take, refl, sym, ap}
use Rattle.std.proofs.Common.{subst, inl, inr, arith}
use Rattle.std.proofs.lemmas.List.{get_or-set_same, length-take}
use Rattle.std.specs.List.{AllByRecursion}
use Rattle.std.specs.Prelude.{IfSome, option_to_list}
use Rattle.core_model.proofs.Places.{one_some}
use Rattle.core_model.specs.Jobs.{MergesOwed, ShardJob, far_shard}
use Rattle.core_model.specs.Pens.{pens_of}
use Rattle.core_model.specs.Stores.{AreStoresOf, HaveMasterRegions, master_log, master_store, masters_of, stores_in}
use Rattle.core_model.specs.Writes.{IsSeenEntry}
use Rattle.core_nodes.proofs.JobLemmas.{of_job}
use Rattle.core_nodes.specs.Repairs.{WritesDueEntry, owed_entry}
use Rattle.core_plans.specs.HeldWrites.{IsAnswerTo, call_of_plan}
use Rattle.core_steps.proofs.ReadLemmas.{log_is}
use Rattle.core_steps.proofs.WriteLemmas.{stands_in_log}
use Rattle.core_steps.specs.World.{World}
use Rattle.core_model.specs.Asked.{AuthoredWrite}
use Rattle.core_steps.specs.Writes.{CanBeApplied}
use Rattle.graph_model.specs.Log.{entry_at}
use Rattle.graph_model.specs.Told.{WhereTold}
use Rattle.headline_kept.specs.Touches.{IsOfWrite, StandsOn}
use Rattle.master_tables.proofs.Calls.{numbers_are_positions, tables_are_stores}
use Rattle.shard_log.proofs.Beginnings.{begins-rest}
use Rattle.shard_log.specs.View.{Begins, View}
use Rattle.shard_tables.specs.StoreView.{Store}
use Rattle.shard_tables.specs.declared.writes.Wrote.{Wrote}
use Rattle.tao_base.specs.Writes.{write_shard}
use Rattle.tao_base.specs.declared.entry.Entry.{Entry}
use Rattle.tao_base.specs.declared.entry.Kind.{Kind}
use Rattle.tao_base.specs.declared.entry.Origin.{Origin}
use Rattle.tao_base.specs.declared.entry.Origin.TheVariants.{Merge}
use Rattle.tao_base.specs.declared.entry.Touch.{Touch}
use Rattle.tao_keeper.specs.Growing.{LogsGrow}
use Rattle.tao_keeper.specs.Table.{Tables}
use Rattle.tao_schema.specs.Schema.{types_of}
use Rattle.topology.specs.Config.{Settings}
use Rattle.write_model.proofs.Growing.{entry_at-last, entry_at-more}
use Rattle.write_model.specs.Machine.{MergesNews}
use Rattle.write_model.specs.Merges.{Stores, job_of, log_of, merge_entry, merge_of}
use Rattle.write_model.specs.Writes.{FitsWrite, next_entry}
use Rattle.write_plan.specs.Plans.{Writing}
use Rattle.write_plan.specs.declared.committed.Committed.{Committed}

-- ---- entries that stand stay so

begins_shorter : (old new : List Entry) → old ≡ take (length old) new → length old ≤ length new
begins_shorter old new begins = (let long = ap length begins ∙ length-take (length old) new in omega (arith, long))

stands_on : (log whole : List Entry) (position : ℕ) (e : Entry) → Begins log whole → entry_at log position ≡ Some e → entry_at whole position ≡ Some e
stands_on log whole position e begins stands =
    subst (λ xs. entry_at xs position ≡ Some e) (begins-rest log whole begins) (entry_at-more log (drop (length log) whole) position e stands)

module _ (tells : Bool) (s : Settings) (old new : Tables) (grow : LogsGrow tells old new) where
  stands_later : (shard : ℕ) (e : Entry) → StandsOn tells s old shard e → StandsOn tells s new shard e
  stands_later shard e stands = λ told.
      stands_on (master_log s old shard) (master_log s new shard) e.position e (grow.begins told (master_store s shard)) (stands told)

  of_write_later : (before : Tables) (call : AuthoredWrite) (e : Entry) → IsOfWrite tells s before old call e → IsOfWrite tells s before new call e
  of_write_later before call e (inl own) =
      inl (record { fits = own.fits; own = own.own; stands = stands_later (write_shard call.write) e own.stands })
  of_write_later before call e (inr merged) = inr (record {
    shard = merged.shard;
    position = merged.position;
    gained = merged.gained;
    stands = stands_later merged.shard e merged.stands;
    origin_is = merged.origin_is;
  })

  pub all_later : (before : Tables) (call : AuthoredWrite) (es : List Entry) → AllByRecursion (IsOfWrite tells s before old call) es
      → AllByRecursion (IsOfWrite tells s before new call) es
  all_later before call [] all = tt
  all_later before call (e ∷ es) all = (of_write_later before call e all.0, all_later before call es all.1)

  -- and what a log gained since later tables it gained since the earlier ones
  of_write_since : (now : Tables) (call : AuthoredWrite) (e : Entry) → IsOfWrite tells s new now call e → IsOfWrite tells s old now call e
  of_write_since now call e (inl own) = inl own
  of_write_since now call e (inr merged) = inr (record {
    shard = merged.shard;
    position = merged.position;
    gained = λ told.
        let from = begins_shorter (master_log s old merged.shard) (master_log s new merged.shard) (grow.begins told (master_store s merged.shard)) in
        let to = merged.gained told in
        omega (arith, from, to);
    stands = merged.stands;
    origin_is = merged.origin_is;
  })

  pub all_since : (now : Tables) (call : AuthoredWrite) (es : List Entry) → AllByRecursion (IsOfWrite tells s new now call) es
      → AllByRecursion (IsOfWrite tells s old now call) es
  all_since now call [] all = tt
  all_since now call (e ∷ es) all = (of_write_since now call e all.0, all_since now call es all.1)

-- ---- the write's own entry

-- the entry, where there is one, is under the origin, where the tables are told
abbrev pub IsUnder : Bool → Origin → Option Entry → Type 0
IsUnder tells origin entry = WhereTold tells (IfSome entry (λ e. e.origin ≡ origin))

module _ (tells : Bool) (s : Settings) (tables : Tables) (stores : List Store) (regions : HaveMasterRegions s) (are : AreStoresOf tells s tables stores) where
  seen_stands : (shard : ℕ) (note : View) (e : Entry) → shard < s.shards → IsSeenEntry (pens_of stores) shard note e → StandsOn tells s tables shard e
  seen_stands shard note e here seen = λ told.
      let log = log_is tells s tables stores shard regions are here in
      let stands = stands_in_log (pens_of stores) shard note (Some e) seen in
      subst (λ l. entry_at l e.position ≡ Some e) (log.entries_is told) (stands (log.told_is ∙ told))

  own_by : (before : Tables) (call : AuthoredWrite) (wrote : Wrote) (entry : Option Entry) → wrote.entry ≡ entry → write_shard call.write < s.shards
      → IsUnder tells call.origin entry → CanBeApplied call wrote stores
      → AllByRecursion (IsOfWrite tells s before tables call) (option_to_list entry)
  own_by before call wrote None is here own can = tt
  own_by before call wrote (Some e) is here own can = (
    inl (record {
      fits = subst (λ o. IfSome o (λ x. FitsWrite x call.write)) is can.fits;
      own = own;
      stands = seen_stands (write_shard call.write) wrote.note e here
          (subst (λ o. IfSome o (IsSeenEntry (pens_of stores) (write_shard call.write) wrote.note)) is can.seen);
    }),
    tt,
  )

  -- what a commit answered is the write's own
  pub own_answered : (before : Tables) (p : Writing) (c : Committed) → write_shard p.write < s.shards → IsUnder tells p.origin c.wrote.entry
      → IsAnswerTo s stores p c
      → AllByRecursion (IsOfWrite tells s before tables (call_of_plan p)) (option_to_list c.wrote.entry)
  own_answered before p c here own is = own_by before (call_of_plan p) c.wrote c.wrote.entry refl here own is.apply

-- ---- the entry that merges at the other end

next_position : (log : List Entry) (kind : Kind) (origin : Origin) (ts : List Touch) (e : Entry) → next_entry log kind origin ts ≡ Some e
    → e.position ≡ length log + 1
next_position log kind origin [] e h = absurd (cc)
next_position log kind origin (t ∷ ts) e h = ap (λ (x : Entry). x.position) (sym (one_some _ _ h))

next_origin : (log : List Entry) (kind : Kind) (origin : Origin) (ts : List Touch) (e : Entry) → next_entry log kind origin ts ≡ Some e → e.origin ≡ origin
next_origin log kind origin [] e h = absurd (cc)
next_origin log kind origin (t ∷ ts) e h = ap (λ (x : Entry). x.origin) (sym (one_some _ _ h))

module _ (s : Settings) (old new : World) (j : ShardJob) (here : far_shard j.job < s.shards) (m : MergesOwed s old.keepers.told new.keepers.told j) where
  abbrev Was : Stores
  Was = stores_in s old.keepers.told

  abbrev Now : Stores
  Now = stores_in s new.keepers.told

  other_here : m.owed.other < s.shards
  other_here = subst (λ n. n < s.shards) (sym m.of.other_is) here

  -- the entry that merges a job is the one that is owed, and so where there is none
  owed_is : (made : Option Entry) → merge_entry (types_of s.schema) (log_of Was.logs m.owed.other) m.owed ≡ made → owed_entry s old.keepers j ≡ made
  owed_is made is =
      let types = types_of s.schema in
      let us = job_of types m.owed.entry in
      let numbered = (numbers_are_positions (masters_of s) old.keepers.told).number_is types m.owed m.merges.owes in
      let by_position : merge_of (log_of Was.logs m.owed.other) m.owed.shard m.owed.entry.position us ≡ made =
      subst (λ n. merge_of (log_of Was.logs m.owed.other) m.owed.shard n us ≡ made) numbered is in
      let in_master : merge_of (master_log s old.keepers.told m.owed.other) m.owed.shard m.owed.entry.position us ≡ made =
      subst (λ l. merge_of l m.owed.shard m.owed.entry.position us ≡ made) ((tables_are_stores (masters_of s) old.keepers.told).log_is m.owed.other other_here)
      by_position in
      of_job s j m.owed (λ other shard position us. merge_of (master_log s old.keepers.told other) shard position us ≡ made) m.of in_master

  -- it stands in the log of the shard where the job is owed
  merged_stands : (e : Entry) → owed_entry s old.keepers j ≡ Some e → MergesNews (types_of s.schema) Was.logs Now.logs m.owed
      → entry_at (master_log s new.keepers.told (far_shard j.job)) e.position ≡ Some e
  merged_stands e is (inl none) = absurd (let no : None ≡ Some e = sym (owed_is None none.0) ∙ is in cc)
  merged_stands e is (inr merges) =
      let same : merges.merged ≡ e = one_some _ _ (sym (owed_is (Some merges.merged) merges.is) ∙ is) in
      let long : log_of Now.logs m.owed.other ≡ log_of Was.logs m.owed.other ++ merges.merged ∷ [] =
      ap (λ l. log_of l m.owed.other) merges.gained.1
      ∙ get_or-set_same Was.logs m.owed.other (log_of Was.logs m.owed.other ++ merges.merged ∷ []) [] merges.gained.0 in
      let position = next_position _ _ _ _ merges.merged merges.is in
      let stands : entry_at (log_of Now.logs m.owed.other) merges.merged.position ≡ Some merges.merged =
      ap (λ l. entry_at l merges.merged.position) long
      ∙ ap (entry_at (log_of Was.logs m.owed.other ++ merges.merged ∷ [])) position ∙ entry_at-last (log_of Was.logs m.owed.other) merges.merged in
      let in_master : entry_at (master_log s new.keepers.told m.owed.other) merges.merged.position ≡ Some merges.merged =
      subst (λ l. entry_at l merges.merged.position ≡ Some merges.merged)
      ((tables_are_stores (masters_of s) new.keepers.told).log_is m.owed.other other_here) stands in
      subst (λ (x : Entry). entry_at (master_log s new.keepers.told (far_shard j.job)) x.position ≡ Some x) same
      (subst (λ n. entry_at (master_log s new.keepers.told n) merges.merged.position ≡ Some merges.merged) m.of.other_is in_master)

module _ (tells : Bool) (s : Settings) (call : AuthoredWrite) (old new : World) (j : ShardJob) (of : j.shard ≡ write_shard call.write)
    (here : far_shard j.job < s.shards) where
  pub merged_is : (entry : Option Entry) → WhereTold tells (WritesDueEntry s j entry old.keepers new.keepers)
      → AllByRecursion (IsOfWrite tells s old.keepers.told new.keepers.told call) (option_to_list entry)
  merged_is None writes = tt
  merged_is (Some e) writes = (
    inr (record {
      shard = far_shard j.job;
      position = j.job.position;
      gained = λ told.
          let due = writes told in
          let last = next_position _ _ _ _ e (sym due.wrote_is) in
          omega (arith, last);
      stands = λ told.
          let due = writes told in merged_stands s old new j here due.merges e (sym due.wrote_is) due.merges.merges.merges;
      origin_is = λ told.
          let due = writes told in
          next_origin _ _ _ _ e (sym due.wrote_is) ∙ ap (λ n. Merge n j.job.position) of;
    }),
    tt,
  )
