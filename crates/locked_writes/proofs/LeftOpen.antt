-- Why a job stays open, by what its store answered.
use Rattle.std.proofs.Common.{◌≡◌, ◌≤◌, ℕ, Bool, true, List, Some, length, Result, Err, ap, refl, arith, subst, sym, ◌∙◌}
use Rattle.graph_model.specs.Told.{WhereTold}
use Rattle.log_names.specs.Names.{LogNames}
use Rattle.shard_log.proofs.Beginnings.{begins-length}
use Rattle.shard_log.specs.View.{Grows, View}
use Rattle.shard_tables.specs.Slaves.{HasMet, met_entries}
use Rattle.shard_tables.specs.StoreView.{Store}
use Rattle.shard_tables.specs.WriteDone.{MergeDone, asked_merge_at}
use Rattle.shard_tables.specs.declared.refusal.StoreRefusal.{StoreRefusal}
use Rattle.shard_tables.specs.declared.refusal.StoreRefusal.TheVariants.{KeeperFault, LogFull, ShardFull, StampFull, TooOld, SeqReused, OutOfMemory}
use Rattle.shard_tables.specs.declared.store.StoreRole.{StoreRole}
use Rattle.shard_tables.specs.declared.store.StoreRole.TheVariants.{Master}
use Rattle.locked_nodes.specs.shared_nodes.Merges.{wrote_in}
use Rattle.locked_nodes.specs.shared_nodes.declared.leader.SharedMerge.{SharedMerge}
use Rattle.shared_stores.specs.Locked.{IsSharedStore, Locked, locked, table_in}
use Rattle.shared_stores.specs.Making.{Making}
use Rattle.store_replies.specs.Refused.{why_left_open}
use Rattle.tao_base.specs.declared.entry.Entry.{Entry}
use Rattle.tao_keeper.specs.KeeperState.{KeeperState}
use Rattle.tao_keeper.specs.declared.jobs.Job.{Job}
use Rattle.locked_nodes.proofs.Refusing.{may_fail}
use Rattle.locked_nodes.specs.Cluster.{MayFail}
use Rattle.locked_writes.specs.Writes.{StaysOpenFor}

-- a note that met a master has seen all that the master has
pub met_all : (store : Store) (held there : View) → store.role ≡ Master → HasMet store held there → there.entries ≡ store.view.entries
met_all store held there master met = met.entries_are ∙ ap (λ (r : StoreRole). met_entries r held.entries store.view.entries) master

-- a full log of a master is full in a note that has seen all of it
far_full : (tells : Bool) (m : Making) (log : LogNames) (l : Locked) (held there after : View) → IsSharedStore tells m log l → l.store.role ≡ Master
    → HasMet l.store held there → Grows there after → WhereTold tells (l.store.log_max ≤ length (table_in l).log)
    → WhereTold after.log.told (m.settings.log_max ≤ length after.entries)
far_full tells m log l held there after kept master met grows full = λ told.
    let same : after.log ≡ l.store.view.log = grows.log_is ∙ met.grows.log_is in
    let tells_so : tells ≡ true = sym kept.told_is ∙ (ap (λ n. n.told) (sym same) ∙ told) in
    let whole : l.store.view.entries ≡ (table_in l).log = (kept.master tells_so master).whole in
    let seen : there.entries ≡ l.store.view.entries = met_all l.store held there master met in
    let long : length there.entries ≤ length after.entries = begins-length there.entries after.entries grows.begins in
    let most : l.store.log_max ≡ m.settings.log_max = kept.is.limit_is in
    let room : l.store.log_max ≤ length (table_in l).log = full tells_so in
    omega (arith, room, most, ap (λ (es : List Entry). length es) whole, ap (λ (es : List Entry). length es) seen, long)

module _ {M : Type 0} (state : M → KeeperState) (tells : Bool) (m : Making) (log : LogNames) (store : Store) (notes : List View) (before after : M) where
  merge_refused : (from : ℕ) (job : Job) (held there met : View) (refusal : StoreRefusal) → IsSharedStore tells m log (locked store (state before).told notes)
      → store.role ≡ Master → HasMet store held there → Grows there met
      → MergeDone tells store.name (asked_merge_at (state before).told store from job) (state before) (state after) (Err refusal)
      → StaysOpenFor (MayFail state) m.settings.log_max (Some met) (why_left_open refusal)
  merge_refused from job held there met KeeperFault kept master was grows done = may_fail state before after (Err KeeperFault) done.calls refl
  merge_refused from job held there met OutOfMemory kept master was grows done = tt
  merge_refused from job held there met (LogFull count) kept master was grows done =
      far_full tells m log (locked store (state before).told notes) held there met kept master was grows (λ told. (done.answer told).1)
  merge_refused from job held there met (TooOld cut position) kept master was grows done = absurd done.refusals
  merge_refused from job held there met (SeqReused position) kept master was grows done = absurd done.refusals
  merge_refused from job held there met (ShardFull serial) kept master was grows done = absurd done.refusals
  merge_refused from job held there met (StampFull number) kept master was grows done = absurd done.refusals

  pub merge_left : (from : ℕ) (job : Job) (held there met : View) (refusal : StoreRefusal) (r : Result SharedMerge StoreRefusal)
      → IsSharedStore tells m log (locked store (state before).told notes) → store.role ≡ Master → HasMet store held there → Grows there met
      → MergeDone tells store.name (asked_merge_at (state before).told store from job) (state before) (state after) (wrote_in r) → r ≡ Err refusal
      → StaysOpenFor (MayFail state) m.settings.log_max (Some met) (why_left_open refusal)
  merge_left from job held there met refusal r kept master was grows done err =
      let asked = asked_merge_at (state before).told store from job in
      merge_refused from job held there met refusal kept master was grows
      (subst (λ (x : Result SharedMerge StoreRefusal). MergeDone tells store.name asked (state before) (state after) (wrote_in x)) err done)
