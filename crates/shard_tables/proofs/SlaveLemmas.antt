-- A slave's log is a beginning of its master's, and stays one with the entry that comes next.
use Rattle.std.proofs.Common.{◌≡◌, suc, ◌+◌, ◌<◌, ◌≤◌, Bool, true, List, [], ◌∷◌, ◌++◌, length, length-append, take, sym, ap, ◌∙◌, subst, arith}
use Rattle.std.proofs.lemmas.Option.{slice_get_within}
use Rattle.std.specs.Prelude.{None, Some, slice_get}
use Rattle.tao_base.specs.declared.entry.Entry.{Entry}
use Rattle.graph_model.proofs.Rising.{take_with}
use Rattle.graph_model.specs.Log.{entry_at}
use Rattle.graph_model.specs.Soundness.{CanFollow, IsSound}
use Rattle.graph_model.specs.Told.{WhereTold}
use Rattle.shard_log.proofs.Beginnings.{begins-trans}
use Rattle.shard_log.proofs.GrowthLemmas.{entry_stays}
use Rattle.shard_log.specs.View.{Begins, Grows, View}
use Rattle.tao_keeper.specs.Table.{Becomes, Tables, after_commit}
use Rattle.shard_tables.specs.Slaves.{IsNextIn}
use Rattle.shard_tables.specs.StoreView.{Store}
use Rattle.shard_tables.specs.Stores.{HasSeen, IsStoreOf, note_of, seen_by}
use Rattle.shard_tables.specs.declared.store.StoreRole.TheVariants.{Slave}

-- the log begins what was seen of its master's, and the entry stands right behind it there
module _ (log seen : List Entry) (e : Entry) (begins : Begins log seen) (next : entry_at seen (length log + 1) ≡ Some e) where
  stands : slice_get seen (length log) ≡ Some e
  stands = let is : suc (length log) ≡ length log + 1 = omega arith in ap (entry_at seen) is ∙ next

  -- so there is room for it
  pub next_has_room : length seen ≤ 65536 → length log < 65536
  next_has_room few = let within = slice_get_within seen (length log) e stands in omega (arith, within, few)

  -- it can follow
  pub next_follows : IsSound seen → CanFollow log e
  next_follows sound = subst (λ l. CanFollow l e) (sym begins) (sound (length log) e stands)

  -- and with it the log still begins what was seen
  pub next_begins : Begins (log ++ e ∷ []) seen
  next_begins =
      let long : length (log ++ e ∷ []) ≡ length log + 1 = omega (arith, length-append log (e ∷ [])) in
      ap (λ l. l ++ e ∷ []) begins ∙ sym (take_with seen (length log) e stands) ∙ ap (λ n. take n seen) (sym long)

-- a slave's store has seen a beginning of its master's log, and so has a note; what has met both has seen the entry that the note has next
module _ (tells : Bool) (tables : Tables) (store : Store) (note met : View) (e : Entry) (slave : store.role ≡ Slave) (of : IsStoreOf tells tables store)
    (grows : Grows store.view met) (other : Grows note met) (next : WhereTold tells (IsNextIn note.entries (tables store.name).log e)) where
  log_begins : tells ≡ true → Begins (tables store.name).log met.entries
  log_begins told =
      begins-trans (tables store.name).log store.view.entries met.entries
      (subst (λ r. HasSeen r (tables store.name).log store.view.entries) slave (of.seen told)) grows.begins

  next_met : tells ≡ true → IsNextIn met.entries (tables store.name).log e
  next_met told = entry_stays note met (length (tables store.name).log + 1) e other (next told)

  -- the entry can follow the slave's log
  pub taken_follows : WhereTold met.log.told (IsSound met.entries) → tells ≡ true → CanFollow (tables store.name).log e
  taken_follows sound told =
      next_follows (tables store.name).log met.entries e (log_begins told) (next_met told)
      (sound (ap (λ l. l.told) grows.log_is ∙ of.told_is ∙ told))

  -- with it the store has still seen what its keeper has
  pub taken_seen : (new : Tables) (after : Store) → WhereTold tells (Becomes tables new store.name (after_commit (tables store.name) e None))
      → after ≡ record store { view = met } → IsStoreOf tells new after
  taken_seen new after becomes is = subst (IsStoreOf tells new) (sym is) (record {
    told_is = ap (λ l. l.told) grows.log_is ∙ of.told_is;
    seen = λ told.
        let log_is = ap (λ t. t.log) (becomes told).here in
        subst (λ r. HasSeen r (new store.name).log met.entries) (sym slave)
        (subst (λ l. Begins l met.entries) (sym log_is)
        (next_begins (tables store.name).log met.entries e (log_begins told) (next_met told)));
  })

-- what a note of a slave's store has seen
pub slave_note : (store : Store) (seen : View) → store.role ≡ Slave → seen ≡ note_of store → seen ≡ store.view
slave_note store seen slave is = is ∙ ap (λ r. seen_by r store.view) slave
