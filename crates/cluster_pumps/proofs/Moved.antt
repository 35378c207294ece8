-- The entry that a step of a stream moved was seen of the shard's log, and lies on the shard.
use Rattle.std.proofs.Common.{◌≡◌, ℕ, zero, suc, ◌≤◌, Bool, true, List, drop, length, Some, Result, ap, sym, subst, ◌∙◌, inl, inr, arith}
use Rattle.std.specs.Prelude.{IsErrOf, if◌then◌else◌}
use Rattle.graph_model.specs.Log.{entry_at}
use Rattle.graph_model.specs.Soundness.{IsSoundOf}
use Rattle.graph_model.specs.Told.{WhereTold}
use Rattle.log_names.specs.Names.{LogNames}
use Rattle.region_stream.specs.Following.{CallsBoth}
use Rattle.shard_log.proofs.Beginnings.{begins-rest}
use Rattle.shard_log.specs.View.{Begins, Grows, LogName, View, as_note, most_entries}
use Rattle.shard_tables.proofs.Standing.{own_place}
use Rattle.shard_tables.specs.StoreView.{Store}
use Rattle.shard_tables.specs.Stores.{note_of, seen_by}
use Rattle.shard_tables.specs.Written.{StandsIn}
use Rattle.shard_tables.specs.declared.refusal.StoreRefusal.{StoreRefusal}
use Rattle.shard_tables.specs.declared.refusal.StoreRefusal.TheVariants.{KeeperFault}
use Rattle.shard_tables.specs.declared.store.StoreRole.TheVariants.{Master}
use Rattle.shared_stores.specs.Locked.{IsSharedStore, entries_seen, locked}
use Rattle.shared_stores.specs.Making.{Making}
use Rattle.tao_base.proofs.Tests.{eqb-self}
use Rattle.tao_base.specs.declared.entry.Entry.{Entry}
use Rattle.tao_keeper.specs.KeeperState.{KeeperState}
use Rattle.tao_keeper.specs.Table.{Tables}
use Rattle.tao_schema.specs.Schema.{types_of}
use Rattle.write_model.proofs.Growing.{entry_at-more, entry_at-within}
use Rattle.locked_nodes.specs.Cluster.{MayFail}
use Rattle.cluster_pumps.specs.Pumps.{IsPosition, IsSeenMove}
use Rattle.cluster_pumps.specs.declared.streaming.Moved.{Moved}

-- what stands in a log stands in each that it begins
stands_on : (part whole : List Entry) (position : ℕ) (e : Entry) → Begins part whole → entry_at part position ≡ Some e → entry_at whole position ≡ Some e
stands_on part whole position e begins stands =
    subst (λ xs. entry_at xs position ≡ Some e) (begins-rest part whole begins) (entry_at-more part (drop (length part) whole) position e stands)

-- a store of a shard's master, under its lock
module _ (tells : Bool) (m : Making) (log : LogNames) (master : Store) (tables : Tables) (others : List View)
    (leads : IsSharedStore tells m log (locked master tables others)) (is_master : master.role ≡ Master)
  where
    -- all that it has seen is sound
    seen_sound : tells ≡ true → IsSoundOf (types_of m.settings.schema) master.name.shard master.view.entries
    seen_sound told =
        let keeps = leads.master told is_master in
        subst (IsSoundOf (types_of m.settings.schema) master.name.shard)
        (ap (λ b. if b then (tables master.name).log else entries_seen others master.name.shard) (eqb-self master.name.shard) ∙ sym keeps.whole)
        (keeps.kept.sound master.name.shard)

    seen_move : (e : Entry) (after : View) → length master.view.entries ≤ most_entries → Grows after master.view → StandsIn after e
        → IsSeenMove log master.name.shard (record { entry = e; note = as_note master.view })
    seen_move e after few grows stands = record {
      log_is = leads.log_is;
      stands = λ told. stands_there told;
      lies = λ told. (own_place (types_of m.settings.schema) master.name.shard master.view.entries e.position e (seen_sound (sym leads.told_is ∙ told))
          (stands_there told)).1;
      few = few;
    }
      where
        stands_there : master.view.log.told ≡ true → entry_at master.view.entries e.position ≡ Some e
        stands_there told =
            stands_on after.entries master.view.entries e.position e grows.begins (stands (ap (λ (l : LogName). l.told) (sym grows.log_is) ∙ told))

    -- the entry stands in a note of the whole log, which was taken before the step
    pub moved_seen : (shard : ℕ) (e : Entry) (note after : View) → master.name.shard ≡ shard → note ≡ note_of master → length note.entries ≤ most_entries
        → Grows after master.view → StandsIn after e → IsSeenMove log shard (record { entry = e; note = note })
    moved_seen shard e note after here noted few grows stands =
        let whole : note ≡ as_note master.view = noted ∙ ap (λ role. seen_by role master.view) is_master in
        let own = seen_move e after (subst (λ (v : View). length v.entries ≤ most_entries) whole few) grows stands in
        subst (λ n. IsSeenMove log n (record { entry = e; note = note })) here
        (subst (λ (v : View). IsSeenMove log master.name.shard (record { entry = e; note = v })) (sym whole) own)

-- ---- its position

position_within : (log : List Entry) (position : ℕ) (e : Entry) → entry_at log position ≡ Some e → length log ≤ most_entries → IsPosition position
position_within log zero e at few = absurd (cc)
position_within log (suc n) e at few =
    let within = entry_at-within log (suc n) e at in
    record { some = omega arith; few = omega (arith, within, few) }

-- an entry that was seen of a log has one of the log's positions
pub moved_position : (log : LogNames) (shard : ℕ) (moved : Moved) → IsSeenMove log shard moved → WhereTold (log shard).told (IsPosition moved.entry.position)
moved_position log shard moved is told =
    position_within moved.note.entries moved.entry.position moved.entry (is.stands (ap (λ (l : LogName). l.told) is.log_is ∙ told)) is.few

-- ---- refusals

-- keepers of which one failed may fail
pub both_may_fail : {M T : Type 0} (state : M → KeeperState) (from from_new to to_new : M) (r : Result T StoreRefusal)
    → CallsBoth (state from) (state from_new) (state to) (state to_new) r → IsErrOf r KeeperFault → MayFail state
both_may_fail state from from_new to to_new r calls failed none = elim (calls.failed failed) [
  | inl rose ↦ absurd (omega (arith, rose, none from, none from_new))
  | inr rose ↦ absurd (omega (arith, rose, none to, none to_new))
]
