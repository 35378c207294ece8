-- What a store knows of the logs, by its own and by its notes.
use Rattle.std.proofs.Common.{◌≡◌, ◌≢◌, ℕ, zero, suc, ◌+◌, ◌≤◌, List, [], ◌∷◌, ◌++◌, length, drop, inl, inr, refl, sym, ap, subst, ◌∙◌, arith}
use Rattle.std.proofs.lemmas.Bool.{cond-false, cond-true, eq-eqb, ne_eqb}
use Rattle.std.proofs.lemmas.List.{length-append, take-append-drop, take_all, with_items_is}
use Rattle.std.specs.Option.{option_map_or}
use Rattle.std.specs.Prelude.{◌==◌, Bool, IsSomeAnd, None, Option, Some, Vec, slice_get, slice_set}
use Rattle.std.specs.Vec.{with_items}
use Rattle.node_stages.proofs.core_model_lemmas.Places.{get_set, set_get}
use Rattle.log_names.specs.Names.{LogNames}
use Rattle.shard_log.specs.View.{Begins, Grows, View}
use Rattle.shard_tables.specs.Slaves.{HasMet, met_entries}
use Rattle.shard_tables.specs.StoreView.{Store}
use Rattle.shard_tables.specs.declared.store.StoreRole.{StoreRole}
use Rattle.shard_tables.specs.declared.store.StoreRole.TheVariants.{Master, Slave}
use Rattle.tao_base.specs.declared.entry.Entry.{Entry}
use Rattle.tao_keeper.specs.Table.{Tables}
use Rattle.shared_stores.specs.Locked.{AreNotesOf, HaveBegun, IsNoteOf, IsSharedStore, Locked, entries_seen, locked, log_known, shard_in}
use Rattle.shared_stores.specs.Locked.{table_in}
use Rattle.shared_stores.specs.Making.{Making}

-- ---- places of notes

-- what stands at a place, and what is so of it
pub found : (o : Option View) (P : View → Type 0) → IsSomeAnd o P → (v : View) × (o ≡ Some v) × P v
found None P h = absurd h
found (Some v) P h = (v, refl, h)

-- another place of a list of which one changes
pub set_other : {X : Type 0} (xs : List X) (k n : ℕ) (x : X) → n ≢ k → slice_get (slice_set xs k x) n ≡ slice_get xs n
set_other [] k n x apart = refl
set_other (z ∷ zs) zero zero x apart = absurd (apart refl)
set_other (z ∷ zs) zero (suc n) x apart = refl
set_other (z ∷ zs) (suc k) zero x apart = refl
set_other (z ∷ zs) (suc k) (suc n) x apart = set_other zs k n x (λ e. apart (ap suc e))

-- what the note of a shard has seen
pub seen_at : (notes : List View) (shard : ℕ) (note : View) → slice_get notes shard ≡ Some note → entries_seen notes shard ≡ note.entries
seen_at notes shard note at = ap (λ (o : Option View). option_map_or (λ v. v.entries) o []) at

-- what is seen of a shard after its note was replaced
pub seen_set : (notes : List View) (shard : ℕ) (own note : View) → slice_get notes shard ≡ Some own
    → entries_seen (slice_set notes shard note) shard ≡ note.entries
seen_set notes shard own note at = seen_at (slice_set notes shard note) shard note (set_get notes shard own note at)

-- what is then seen of another one
pub seen_elsewhere : (notes : List View) (shard other : ℕ) (note : View) → other ≢ shard
    → entries_seen (slice_set notes shard note) other ≡ entries_seen notes other
seen_elsewhere notes shard other note apart =
    ap (λ (o : Option View). option_map_or (λ v. v.entries) o []) (set_other notes shard other note apart)

-- the notes after a call, to which they were lent, replaced one
pub notes_put : {Z : Type 0} (v : Vec View Z) (lent put : List View) (place shard : ℕ) (given note : View) → length put ≡ v.len
    → put ≡ slice_set lent place given → lent ≡ v.items → place ≡ shard → given ≡ note → (with_items v put).items ≡ slice_set v.items shard note
notes_put v lent put place shard given note long is same here what =
    let whole : slice_set lent place given ≡ slice_set v.items shard note = cc in
    with_items_is v put long ∙ is ∙ whole

-- the notes after a call, to which they were lent, left them as they were
pub notes_back : {Z : Type 0} (v : Vec View Z) (lent put : List View) → length put ≡ v.len → put ≡ lent → lent ≡ v.items → (with_items v put).items ≡ v.items
notes_back v lent put long is same = with_items_is v put long ∙ is ∙ same

-- both, one call after the other
pub notes_put_again : {Z : Type 0} (v : Vec View Z) (lent back again put : List View) (place shard : ℕ) (given note : View) → length back ≡ v.len
    → back ≡ lent → lent ≡ v.items → length put ≡ v.len → put ≡ slice_set again place given → again ≡ (with_items v back).items → place ≡ shard
    → given ≡ note → (with_items (with_items v back) put).items ≡ slice_set v.items shard note
notes_put_again v lent back again put place shard given note long_back is_back same_back long is same here what =
    notes_put (with_items v back) again put place shard given note long is same here what
    ∙ ap (λ (l : List View). slice_set l shard note) (notes_back v lent back long_back is_back same_back)

-- ---- beginnings of logs

-- what came after the entries that were seen
pub seen_more : (seen log : List Entry) → Begins seen log → log ≡ seen ++ drop (length seen) log
seen_more seen log h = sym (take-append-drop (length seen) log) ∙ ap (λ front. front ++ drop (length seen) log) (sym h)

-- a log begins itself
pub seen_whole : (log : List Entry) → Begins log log
seen_whole log = sym (take_all (length log) log (omega arith))

-- a beginning is no longer than the whole
pub seen_length : (seen log : List Entry) → Begins seen log → length seen ≤ length log
seen_length seen log h =
    let long : length log ≡ length seen + length (drop (length seen) log) =
    ap length (seen_more seen log h) ∙ length-append seen (drop (length seen) log) in
    omega (arith, long)

-- ---- what a store knows

-- its own log
pub known_own : (l : Locked) → log_known l (shard_in l) ≡ (table_in l).log
known_own l = cond-true (shard_in l == shard_in l) (table_in l).log (entries_seen l.notes (shard_in l)) (eq-eqb (shard_in l) (shard_in l) refl)

-- another shard's
pub known_other : (l : Locked) (shard : ℕ) → shard ≢ shard_in l → log_known l shard ≡ entries_seen l.notes shard
known_other l shard apart = cond-false (shard == shard_in l) (table_in l).log (entries_seen l.notes shard) (ne_eqb shard (shard_in l) apart)

-- ---- notes of which one is replaced by one that has seen more

module _ (notes : List View) (shard : ℕ) (own note : View) (was : slice_get notes shard ≡ Some own) (grows : Grows own note) where
  -- they are of their logs as before
  pub notes_stay : (tells : Bool) (log : LogNames) → AreNotesOf tells log notes → AreNotesOf tells log (slice_set notes shard note)
  notes_stay tells log of other next at = elim (get_set notes shard note other next at) [
    | inl before ↦ of other next before.1
    | inr here ↦ (
        let old = of shard own was in
        let there : IsNoteOf tells log shard note =
        record { log_is = grows.log_is ∙ old.log_is; told_is = ap (λ l. l.told) grows.log_is ∙ old.told_is } in
        subst (IsNoteOf tells log other) here.1 (subst (λ (i : ℕ). IsNoteOf tells log i note) (sym here.0) there))
  ]

  -- they have seen at least what their logs began with, as before
  pub begun_stays : (m : Making) → HaveBegun m notes → HaveBegun m (slice_set notes shard note)
  begun_stays m begun other next at = elim (get_set notes shard note other next at) [
    | inl before ↦ begun other next before.1
    | inr here ↦ (
        let least = begun shard own was in
        let longer = seen_length own.entries note.entries grows.begins in
        let there : m.begun shard ≤ length note.entries = omega (arith, least, longer) in
        subst (λ (v : View). m.begun other ≤ length v.entries) here.1
        (subst (λ (i : ℕ). m.begun i ≤ length note.entries) (sym here.0) there))
  ]

-- ---- stores and notes after calls

-- a store that is the same stays one of its cluster
pub shared_as : (tells : Bool) (m : Making) (log : LogNames) (store again : Store) (told : Tables) (notes seen : List View) → again ≡ store → seen ≡ notes
    → IsSharedStore tells m log (locked store told notes) → IsSharedStore tells m log (locked again told seen)
shared_as tells m log store again told notes seen same same_notes is =
    subst (λ (x : Store). IsSharedStore tells m log (locked x told seen)) (sym same)
    (subst (λ (ns : List View). IsSharedStore tells m log (locked store told ns)) (sym same_notes) is)

-- a note that met a master has seen the whole log
met_whole : (role : StoreRole) (old held : List Entry) → role ≡ Master → met_entries role old held ≡ held
met_whole Master old held is = refl
met_whole Slave old held is = absurd (cc)

-- what it had seen before begins that
pub begins_met : (store : Store) (old new : View) → store.role ≡ Master → HasMet store old new → Grows old new → Begins old.entries store.view.entries
begins_met store old new master met grows =
    subst (Begins old.entries) (met.entries_are ∙ met_whole store.role old.entries store.view.entries master) grows.begins
