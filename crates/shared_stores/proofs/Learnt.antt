-- A master's store that learns another one's whole log stays one of its cluster.
use Rattle.std.proofs.Common.{◌≡◌, ◌≢◌, ℕ, ◌≤◌, Bool, true, List, length, inl, inr, refl, sym, subst, ◌∙◌}
use Rattle.std.proofs.lemmas.Bool.{cases_eq}
use Rattle.std.specs.Prelude.{IsSomeAnd, Some, slice_get, slice_set}
use Rattle.node_stages.proofs.core_model_lemmas.Places.{set_get}
use Rattle.graph_model.specs.Told.{WhereTold}
use Rattle.locked_model.specs.Locked.{IsSeenOf, LearnsWhole, SeeEachOther}
use Rattle.locked_model.specs.LockedLaws.{LockedLearnsKeep}
use Rattle.log_names.specs.Names.{LogNames}
use Rattle.shard_log.specs.View.{Begins, Grows, View}
use Rattle.shard_tables.specs.declared.store.StoreRole.TheVariants.{Master, Slave}
use Rattle.tao_base.specs.EdgeTypes.{InversesMatch}
use Rattle.tao_base.specs.declared.entry.Entry.{Entry}
use Rattle.tao_schema.specs.Schema.{types_of}
use Rattle.shared_stores.proofs.Seen.{begun_stays, found, known_other, known_own, notes_stay, seen_at, seen_elsewhere, seen_set}
use Rattle.shared_stores.specs.Locked.{IsSharedStore, KeepsMaster, Locked, entries_seen, known, locked, log_known, shard_in}
use Rattle.shared_stores.specs.Making.{Making}

-- the second store learns the whole log of the first, by a note in the place of its own, and the first has seen a beginning of the second one's
pub record Learns (far near : Locked) (own note : View) : Type 0 where
  pub was : slice_get near.notes (shard_in far) ≡ Some own
  pub grows : Grows own note
  pub whole : note.entries ≡ far.store.view.entries
  pub back : Begins (entries_seen far.notes (shard_in near)) near.store.view.entries

module _ (tells : Bool) (m : Making) (log : LogNames) (law : LockedLearnsKeep) (match : InversesMatch (types_of m.settings.schema)) (far near : Locked)
    (apart : shard_in far ≢ shard_in near) (far_master : far.store.role ≡ Master) (near_master : near.store.role ≡ Master)
    (of_far : IsSharedStore tells m log far) (of_near : IsSharedStore tells m log near) (own note : View) (h : Learns far near own note)
    (least : WhereTold tells (m.begun (shard_in near) ≤ length (entries_seen far.notes (shard_in near)))) where
  abbrev learnt : Locked
  learnt = locked near.store near.told (slice_set near.notes (shard_in far) note)

  module _ (told : tells ≡ true) where
    keeps_far : KeepsMaster m far
    keeps_far = of_far.master told far_master

    keeps_near : KeepsMaster m near
    keeps_near = of_near.master told near_master

    own_far : far.store.view.entries ≡ log_known far (shard_in far)
    own_far = keeps_far.whole ∙ sym (known_own far)

    own_near : near.store.view.entries ≡ log_known near (shard_in near)
    own_near = keeps_near.whole ∙ sym (known_own near)

    far_seen : log_known near (shard_in far) ≡ own.entries
    far_seen = known_other near (shard_in far) apart ∙ seen_at near.notes (shard_in far) own h.was

    near_seen : log_known far (shard_in near) ≡ entries_seen far.notes (shard_in near)
    near_seen = known_other far (shard_in near) (λ e. apart (sym e))

    sees : SeeEachOther (shard_in far) (shard_in near) (known m far) (known m near)
    sees = record {
      there = subst (λ (l : List Entry). IsSeenOf l (log_known near (shard_in near))) (sym near_seen)
          (subst (λ (l : List Entry). IsSeenOf (entries_seen far.notes (shard_in near)) l) own_near h.back);
      back = subst (λ (l : List Entry). IsSeenOf l (log_known far (shard_in far))) (sym far_seen)
          (subst (λ (l : List Entry). IsSeenOf own.entries l) (h.whole ∙ own_far) h.grows.begins);
      least_there = subst (λ (l : List Entry). m.begun (shard_in near) ≤ length l) (sym near_seen) (least told);
      least_back = subst (λ (l : List Entry). m.begun (shard_in far) ≤ length l) (sym far_seen) (keeps_near.begun (shard_in far) own h.was);
    }

    others : (i : ℕ) → i ≢ shard_in far → log_known learnt i ≡ log_known near i
    others i off = elim (cases_eq i (shard_in near)) [
      | inl same ↦ subst (λ (j : ℕ). log_known learnt j ≡ log_known near j) (sym same) (known_own learnt ∙ sym (known_own near))
      | inr elsewhere ↦ (known_other learnt i elsewhere ∙ seen_elsewhere near.notes (shard_in far) i note off ∙ sym (known_other near i elsewhere))
    ]

    learns : LearnsWhole (shard_in far) (known m far) (known m near) (known m learnt)
    learns = record {
      here = known_other learnt (shard_in far) apart ∙ seen_set near.notes (shard_in far) own note h.was ∙ h.whole ∙ own_far;
      others = others;
      epoch = refl;
      job = refl;
      begun = refl;
    }

    keeps_learnt : KeepsMaster m learnt
    keeps_learnt = record {
      whole = keeps_near.whole;
      cut_is = keeps_near.cut_is;
      kept = law.keep (types_of m.settings.schema) (shard_in far) (shard_in near) (known m far) (known m near) (known m learnt) match apart refl
          keeps_far.kept keeps_near.kept sees learns;
      begun = begun_stays near.notes (shard_in far) own note h.was h.grows m keeps_near.begun;
    }

  -- the second one stays one of its cluster
  pub stays_learning : IsSharedStore tells m log learnt
  stays_learning = record {
    is = of_near.is;
    log_is = of_near.log_is;
    told_is = of_near.told_is;
    notes = notes_stay near.notes (shard_in far) own note h.was h.grows tells log of_near.notes;
    past_cut = of_near.past_cut;
    master = λ told role. keeps_learnt told;
    slave = λ told role. (let two : Master ≡ Slave = sym near_master ∙ role in absurd (cc));
  }

-- a master has at least the entries that its log began with
pub has_begun : (m : Making) (l : Locked) → KeepsMaster m l → m.begun (shard_in l) ≤ length l.store.view.entries
has_begun m l k = subst (λ (x : List Entry). m.begun (shard_in l) ≤ length x) (known_own l ∙ sym k.whole) k.kept.fits

-- the second store has a note that grew to one of the first one's whole log
pub record SeesWhole (far near : Locked) (note : View) : Type 0 where
  pub own : IsSomeAnd (slice_get near.notes (shard_in far)) (λ own. Grows own note)
  pub whole : note.entries ≡ far.store.view.entries

module _ (tells : Bool) (m : Making) (log : LogNames) (law : LockedLearnsKeep) (match : InversesMatch (types_of m.settings.schema)) (far near : Locked)
    (apart : shard_in far ≢ shard_in near) (far_master : far.store.role ≡ Master) (near_master : near.store.role ≡ Master)
    (of_far : IsSharedStore tells m log far) (of_near : IsSharedStore tells m log near) (note back : View) (h : SeesWhole far near note)
    (k : SeesWhole near far back) where
  -- two stores see each other's whole logs, and the second one stays one of its cluster with what it then has of the first
  pub stays_meeting : IsSharedStore tells m log (locked near.store near.told (slice_set near.notes (shard_in far) note))
  stays_meeting =
      let own = found (slice_get near.notes (shard_in far)) (λ own. Grows own note) h.own in
      let other = found (slice_get far.notes (shard_in near)) (λ own. Grows own back) k.own in
      let seen : entries_seen far.notes (shard_in near) ≡ other.0.entries = seen_at far.notes (shard_in near) other.0 other.1 in
      let learns : Learns far near own.0 note = record {
        was = own.1;
        grows = own.2;
        whole = h.whole;
        back = subst (λ (x : List Entry). Begins x near.store.view.entries) (sym seen) (subst (Begins other.0.entries) k.whole other.2.begins);
      } in
      let least : WhereTold tells (m.begun (shard_in near) ≤ length (entries_seen far.notes (shard_in near))) =
      λ told. subst (λ (x : List Entry). m.begun (shard_in near) ≤ length x) (sym seen)
      ((of_far.master told far_master).begun (shard_in near) other.0 other.1) in
      stays_learning tells m log law match far near apart far_master near_master of_far of_near own.0 note learns least

-- what it then has seen of the first
pub sees_whole : (far near : Locked) (note : View) → SeesWhole far near note → entries_seen (slice_set near.notes (shard_in far) note) (shard_in far)
    ≡ far.store.view.entries
sees_whole far near note h =
    let own = found (slice_get near.notes (shard_in far)) (λ own. Grows own note) h.own in
    seen_set near.notes (shard_in far) own.0 note own.1 ∙ h.whole

-- its note is then the one that was put there
pub note_there : (far near : Locked) (note : View) → SeesWhole far near note → slice_get (slice_set near.notes (shard_in far) note) (shard_in far) ≡ Some note
note_there far near note h =
    let own = found (slice_get near.notes (shard_in far)) (λ own. Grows own note) h.own in
    set_get near.notes (shard_in far) own.0 note own.1
