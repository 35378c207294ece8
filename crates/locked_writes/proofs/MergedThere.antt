-- What a merge wrote, said of the notes alone.
use Rattle.std.proofs.Common.{◌≡◌, ◌≤◌, ℕ, Bool, List, Ok, length, take, ap, arith, sym, ◌∙◌}
use Rattle.graph_model.specs.Told.{WhereTold}
use Rattle.log_names.specs.Names.{LogNames}
use Rattle.shard_log.proofs.Beginnings.{begins-length}
use Rattle.shard_log.specs.View.{Grows, View}
use Rattle.shard_tables.specs.Slaves.{HasMet}
use Rattle.shard_tables.specs.StoreView.{Store}
use Rattle.shard_tables.specs.WriteDone.{MergeDone, StoreGains, asked_merge_at}
use Rattle.shard_tables.specs.declared.store.StoreRole.TheVariants.{Master}
use Rattle.shard_tables.specs.declared.writes.Wrote.{Wrote}
use Rattle.shared_stores.specs.Locked.{IsSharedStore, locked}
use Rattle.shared_stores.specs.Making.{Making}
use Rattle.tao_base.specs.declared.entry.Entry.{Entry}
use Rattle.tao_keeper.specs.KeeperState.{KeeperState}
use Rattle.tao_keeper.specs.declared.jobs.Job.{Job}
use Rattle.write_model.specs.Merges.{merge_of}
use Rattle.locked_writes.proofs.LeftOpen.{met_all}
use Rattle.locked_writes.specs.Writes.{MergesSince}

-- a merge at a master that the note had met is one on a log that is no shorter than what was seen before
pub merged_since : (tells : Bool) (m : Making) (log : LogNames) (store after : Store) (notes : List View) (old new : KeeperState) (from : ℕ) (job : Job)
    (held there : View) (wrote : Wrote) → IsSharedStore tells m log (locked store old.told notes) → store.role ≡ Master → HasMet store held there
    → Grows held there → MergeDone tells store.name (asked_merge_at old.told store from job) old new (Ok wrote)
    → StoreGains tells new.told store after (Ok wrote) → WhereTold tells (MergesSince from job held.entries wrote.note.entries wrote.entry)
merged_since tells m log store after notes old new from job held there wrote kept master met grows done gains told =
    let table : List Entry = (old.told store.name).log in
    let whole : store.view.entries ≡ table = (kept.master told master).whole in
    let seen : there.entries ≡ store.view.entries = met_all store held there master met in
    let long : length held.entries ≤ length there.entries = begins-length held.entries there.entries grows.begins in
    let after_is : wrote.note.entries ≡ after.view.entries = ap (λ (v : View). v.entries) gains.note in
    let first : take (length table) wrote.note.entries ≡ table =
    ap (λ (es : List Entry). take (length table) es) after_is
    ∙ ap (λ (es : List Entry). take (length es) after.view.entries) (sym whole) ∙ sym gains.grows.begins ∙ whole in
    record {
      n = length table;
      since = omega (arith, long, ap (λ (es : List Entry). length es) seen, ap (λ (es : List Entry). length es) whole);
      entry_is = (done.answer told).0
          ∙ ap (λ (es : List Entry). merge_of es from job.position job.edges) (sym first);
    }
