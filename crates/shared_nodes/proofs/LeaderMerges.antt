-- A merge at a leader: what a refusal before it leaves, what the stores have seen of each other, and by how much the log grew.
use Rattle.std.proofs.Common.{◌≡◌, ℕ, ◌+◌, Bool, false, List, [], ◌∷◌, Option, Some, None, IfOk, Result, Ok, Err, ap, arith, length, length-append}
use Rattle.std.proofs.Common.{subst, sym, ◌∙◌}
use Rattle.std.specs.Prelude.{if◌then◌else◌, is_some}
use Rattle.graph_model.specs.Log.{entry_at}
use Rattle.graph_model.specs.Told.{WhereTold}
use Rattle.shard_log.proofs.GrowthLemmas.{entries_stay}
use Rattle.shard_log.specs.View.{Grows, View}
use Rattle.shard_tables.proofs.DoneLemmas.{merge_unread}
use Rattle.shard_tables.specs.Slaves.{HasMet, met_entries}
use Rattle.shard_tables.specs.StoreView.{Store}
use Rattle.shard_tables.specs.Stores.{store_with, with_added}
use Rattle.shard_tables.specs.WriteDone.{MergeDone, asked_merge_at}
use Rattle.shard_tables.specs.Written.{StandsIn, added_entry}
use Rattle.shard_tables.specs.declared.refusal.StoreRefusal.{StoreRefusal}
use Rattle.shard_tables.specs.declared.refusal.StoreRefusal.TheVariants.{OutOfMemory}
use Rattle.shard_tables.specs.declared.store.StoreRole.{StoreRole}
use Rattle.shard_tables.specs.declared.store.StoreRole.TheVariants.{Master}
use Rattle.shard_tables.specs.declared.writes.Wrote.{Wrote}
use Rattle.shared_nodes.specs.Merges.{wrote_in}
use Rattle.shared_nodes.specs.declared.leader.SharedMerge.{SharedMerge}
use Rattle.tao_base.specs.declared.entry.Entry.{Entry}
use Rattle.tao_keeper.specs.KeeperState.{KeeperState}
use Rattle.tao_keeper.specs.declared.jobs.Job.{Job}

-- it was refused for want of memory, before anything was merged
pub refused_done : (tells : Bool) (store : Store) (from : ℕ) (job : Job) (old new : KeeperState) (r : Result SharedMerge StoreRefusal) → r ≡ Err OutOfMemory
    → new ≡ old → MergeDone tells store.name (asked_merge_at old.told store from job) old new (wrote_in r)
refused_done tells store from job old new r err same =
    merge_unread tells store.name (asked_merge_at old.told store from job) old new (wrote_in r) OutOfMemory (ap wrote_in err) tt
    (λ told at. ap (λ (k : KeeperState). k.told at) same) (record {
      calls = omega (arith, ap (λ (k : KeeperState). k.calls) same);
      faults = omega (arith, ap (λ (k : KeeperState). k.faults) same);
      failed = λ is. absurd (cc);
    })

-- a note that met a master has seen its whole log
met_whole : (role : StoreRole) (held seen entries : List Entry) → role ≡ Master → entries ≡ met_entries role held seen → entries ≡ seen
met_whole role held seen entries master met = met ∙ ap (λ (r : StoreRole). met_entries r held seen) master

-- in which an entry of the note stands
pub entry_met : (store : Store) (old new : View) (entry : Entry) → store.role ≡ Master → HasMet store old new → Grows old new → store.view.log ≡ old.log
    → StandsIn old entry → WhereTold store.view.log.told (entry_at store.view.entries entry.position ≡ Some entry)
entry_met store old new entry master met grows one_log stands = λ told.
    let in_note : entry_at new.entries entry.position ≡ Some entry =
    entries_stay.stays old new entry.position entry grows (stands (ap (λ l. l.told) (sym one_log) ∙ told)) in
    subst (λ (es : List Entry). entry_at es entry.position ≡ Some entry)
    (met_whole store.role old.entries store.view.entries new.entries master met.entries_are) in_note

-- ---- by how much the log grew

with_length : (log : List Entry) (added : Option Entry) → length (with_added log added) ≡ length log + (if is_some added then 1 else 0)
with_length log None = omega arith
with_length log (Some e) = length-append log (e ∷ [])

-- by the entry that was merged, where there is one
pub longer_by : (store after : Store) (own : List Entry) (r : Result Wrote StoreRefusal) → after ≡ store_with store (added_entry r)
    → IfOk r (λ w. w.retry ≡ false) → own ≡ store.view.entries
    → IfOk r (λ w. length after.view.entries ≡ length own + (if is_some w.entry then 1 else 0))
longer_by store after own (Ok wrote) is first seen =
    let added : added_entry (Ok wrote) ≡ wrote.entry = ap (λ again. if again then None else wrote.entry) first in
    let entries : after.view.entries ≡ with_added own wrote.entry =
    ap (λ (s : Store). s.view.entries) is ∙ ap (with_added store.view.entries) added ∙ ap (λ es. with_added es wrote.entry) (sym seen) in
    ap (λ (es : List Entry). length es) entries ∙ with_length own wrote.entry
longer_by store after own (Err refusal) is first seen = tt
