-- A master's store stays one of its cluster when a job of its shard ends.
use Rattle.std.proofs.Common.{◌≡◌, ◌≢◌, ◌⊎◌, ℕ, ◌≤◌, Bool, true, List, length, drop, Result, Ok, Err, Some, None, All, inl, inr, refl, sym, ap, subst, ◌∙◌}
use Rattle.std.proofs.lemmas.Bool.{cond-false, cond-true, eq-eqb, ne_eqb}
use Rattle.std.proofs.lemmas.List.Elements.{All-weaker}
use Rattle.std.specs.Prelude.{◌==◌, IsSomeAnd, slice_get}
use Rattle.graph_model.proofs.Rising.{stamps_stay}
use Rattle.graph_model.specs.Log.{entry_at}
use Rattle.graph_model.specs.Records.{HasStamp}
use Rattle.graph_model.specs.Soundness.{EdgeUpdate, IsSound}
use Rattle.graph_model.specs.Told.{WhereTold}
use Rattle.locked_model.specs.Locked.{EndsOwn, IsKept, JobTurns}
use Rattle.locked_model.specs.LockedLaws.{LockedEndsKeep}
use Rattle.log_names.specs.Names.{LogNames}
use Rattle.shard_log.specs.View.{Begins, Grows, View}
use Rattle.shard_tables.specs.declared.store.StoreRole.TheVariants.{Master, Slave}
use Rattle.tao_base.specs.declared.entry.Entry.{Entry}
use Rattle.tao_keeper.specs.Table.{Changes, Table, Tables, after_end}
use Rattle.tao_schema.specs.Schema.{types_of}
use Rattle.write_model.proofs.Growing.{entry_at-more}
use Rattle.write_model.specs.Merges.{HasJob, JobSource, job_of}
use Rattle.shared_stores.proofs.Seen.{found, known_other, known_own, seen_at, seen_more}
use Rattle.shared_stores.specs.Locked.{IsSharedStore, KeepsMaster, Locked, known, locked, log_known, shard_in, table_in}
use Rattle.shared_stores.specs.Making.{Making}
use Rattle.shared_stores.specs.Owed.{IsDoneIn, IsOwedIn, Owed}

-- the entry at a position stays, as a log grows
entry_begun : (old new : List Entry) → Begins old new → (position : ℕ) (e : Entry) → entry_at old position ≡ Some e → entry_at new position ≡ Some e
entry_begun old new begins position e at =
    subst (λ (l : List Entry). entry_at l position ≡ Some e) (sym (seen_more old new begins)) (entry_at-more old (drop (length old) new) position e at)

-- records stay, or later ones, as a log grows that is sound
stamps_begun : (old new : List Entry) → Begins old new → IsSound new → (us : List EdgeUpdate) → All (HasStamp old) us → All (HasStamp new) us
stamps_begun old new begins sound us there =
    let whole = seen_more old new begins in
    let more : List Entry = drop (length old) new in
    All-weaker (HasStamp old) (HasStamp new)
    (λ u k. subst (λ (l : List Entry). HasStamp l u) (sym whole) ((stamps_stay old).stays more u (subst IsSound whole sound) k)) us there

-- the table of the store after a call that changes it, or fails
one_or_other : {T E : Type 0} (result : Result T E) (old new : Tables) (l : Locked) (to : Table) → Changes result old new l.store.name to
    → (new l.store.name ≡ to) ⊎ (new l.store.name ≡ old l.store.name)
one_or_other (Ok x) old new l to h = inl h.here
one_or_other (Err e) old new l to h = inr (h l.store.name)

-- a master's store keeps what it does with the tables that have such a one of it
keeps_with : (m : Making) (l : Locked) (new : Tables) (to : Table) → new l.store.name ≡ to → KeepsMaster m (locked l.store (λ s. to) l.notes)
    → KeepsMaster m (locked l.store new l.notes)
keeps_with m l new to is k = record {
  whole = k.whole ∙ ap (λ t. t.log) (sym is);
  cut_is = ap (λ t. t.cut) is ∙ k.cut_is;
  kept = subst (λ (t : Table). IsKept (types_of m.settings.schema) (shard_in l) (known m (locked l.store (λ s. t) l.notes))) (sym is) k.kept;
  begun = k.begun;
}

-- the job of an entry of the store's own log ends, all of whose records a note has seen, and the store's own note too
pub record EndsSeen (tells : Bool) (m : Making) (log : LogNames) (l : Locked) (here there : View) (owed : Owed) : Type 0 where
  pub from_is : owed.from ≡ shard_in l
  pub owed_in : IsOwedIn tells m log here owed
  pub begins : Begins here.entries l.store.view.entries
  pub done : IsDoneIn m log there owed
  pub seen : IsSomeAnd (slice_get l.notes owed.to) (Grows there)

module _ (tells : Bool) (m : Making) (log : LogNames) (law : LockedEndsKeep) (l : Locked) (master : l.store.role ≡ Master)
    (was : IsSharedStore tells m log l) (here there : View) (owed : Owed) (h : EndsSeen tells m log l here there owed) where
  abbrev ended : Table
  ended = after_end (table_in l) owed.job.position

  abbrev source : JobSource
  source = record { shard = shard_in l; epoch = 0; entry = owed.entry; other = owed.to }

  module _ (told : tells ≡ true) where
    keeps : KeepsMaster m l
    keeps = was.master told master

    here_told : here.log.told ≡ true
    here_told = ap (λ n. n.told) (h.owed_in.log_is ∙ ap log h.from_is ∙ sym was.log_is) ∙ was.told_is ∙ told

    away : shard_in l ≢ owed.to
    away = λ e. h.owed_in.owes.away (h.from_is ∙ e)

    stands : entry_at (log_known l (shard_in l)) owed.entry.position ≡ Some owed.entry
    stands = subst (λ (x : List Entry). entry_at x owed.entry.position ≡ Some owed.entry) (keeps.whole ∙ sym (known_own l))
        (entry_begun here.entries l.store.view.entries h.begins owed.entry.position owed.entry (h.owed_in.stands here_told))

    done : HasJob (types_of m.settings.schema) (log_known l owed.to) owed.entry
    done =
        let own = found (slice_get l.notes owed.to) (Grows there) h.seen in
        let of = was.notes owed.to own.0 own.1 in
        let there_told : there.log.told ≡ true = ap (λ n. n.told) (sym own.2.log_is) ∙ of.told_is ∙ told in
        let seen : log_known l owed.to ≡ own.0.entries =
        known_other l owed.to (λ e. away (sym e)) ∙ seen_at l.notes owed.to own.0 own.1 in
        let sound : IsSound own.0.entries = subst IsSound seen (keeps.kept.sound owed.to).sound in
        subst (λ (x : List Entry). HasJob (types_of m.settings.schema) x owed.entry) (sym seen)
        (stamps_begun there.entries own.0.entries own.2.begins sound (job_of (types_of m.settings.schema) owed.entry) (h.done.done there_told))

    turns : JobTurns (known m l) (known m (locked l.store (λ s. ended) l.notes)) owed.job.position None
    turns = record {
      here = cond-true (owed.job.position == owed.job.position) None ((table_in l).jobs owed.job.position)
          (eq-eqb owed.job.position owed.job.position refl);
      others = λ p apart. cond-false (p == owed.job.position) None ((table_in l).jobs p) (ne_eqb p owed.job.position apart);
    }

    ends : EndsOwn (types_of m.settings.schema) (known m l) (known m (locked l.store (λ s. ended) l.notes)) source
    ends = record {
      sees = record { epoch_is = refl; stands = stands; there = (h.owed_in.owes.owes told).there; away = away };
      done = done;
      log = refl;
      epoch = refl;
      begun = refl;
      ends = subst (λ (p : ℕ). JobTurns (known m l) (known m (locked l.store (λ s. ended) l.notes)) p None) (h.owed_in.owes.owes told).position_is turns;
    }

    keeps_ended : KeepsMaster m (locked l.store (λ s. ended) l.notes)
    keeps_ended = record {
      whole = keeps.whole;
      cut_is = keeps.cut_is;
      kept = law.keep (types_of m.settings.schema) (known m l) (known m (locked l.store (λ s. ended) l.notes)) source keeps.kept ends;
      begun = keeps.begun;
    }

    keeps_same : KeepsMaster m (locked l.store (λ s. table_in l) l.notes)
    keeps_same = record { whole = keeps.whole; cut_is = keeps.cut_is; kept = keeps.kept; begun = keeps.begun }

  -- it stays one of its cluster, whether the call ends the job or fails
  pub stays_ending : {T E : Type 0} (result : Result T E) (new : Tables) → WhereTold tells (Changes result l.told new l.store.name ended)
      → IsSharedStore tells m log (locked l.store new l.notes)
  stays_ending result new changes = record {
    is = was.is;
    log_is = was.log_is;
    told_is = was.told_is;
    notes = was.notes;
    past_cut = λ told. elim (one_or_other result l.told new l ended (changes told)) [
      | inl e ↦ subst (λ (t : Table). m.cut (shard_in l) ≤ length t.log) (sym e) (was.past_cut told)
      | inr e ↦ subst (λ (t : Table). m.cut (shard_in l) ≤ length t.log) (sym e) (was.past_cut told)
    ];
    master = λ told role. elim (one_or_other result l.told new l ended (changes told)) [
      | inl e ↦ keeps_with m l new ended e (keeps_ended told)
      | inr e ↦ keeps_with m l new (table_in l) e (keeps_same told)
    ];
    slave = λ told role. (let two : Master ≡ Slave = sym master ∙ role in absurd (cc));
  }
