-- What each call leaves a seat with.
use Rattle.std.proofs.Common.{◌≡◌, ℕ, ◌+◌, ◌<◌, ◌≤◌, [], ◌∷◌, ◌++◌, length, refl, sym, ap, subst, ◌∙◌, arith, length-append}
use Rattle.atomic_table.specs.Seated.{TableId}
use Rattle.atomic_table.specs.Table.{Me}
use Rattle.tao_base.specs.declared.entry.Entry.{Entry}
use Rattle.graph_model.specs.Soundness.{CanFollow, IsSound}
use Rattle.graph_model.proofs.Sound.{sound_grows}
use Rattle.shard_log.proofs.Beginnings.{longer_cases}
use Rattle.shard_log.specs.declared.rule.Opening.{Opening}
use Rattle.shard_log.specs.declared.rule.Seen.{Seen}
use Rattle.shard_log.specs.Rule.{IsLog, IsNote, IsPen, IsSeated, first_seen, meeting, reading}
use Rattle.graph_model.specs.Told.{WhereTold}
use Rattle.shard_log.specs.View.{most_entries}

-- a log with one more entry
pub log_grows : (v : Seen) (e : Entry) → IsLog v → length v.entries < most_entries → WhereTold v.told (CanFollow v.entries e)
    → IsLog (record v { entries = v.entries ++ e ∷ [] })
log_grows v e log room follows = record {
  few = (let more = length-append v.entries (e ∷ []) in omega arith);
  sound = λ told. (sound_grows v.entries e).grows (log.sound told) (follows told);
}

-- the longer of two views of a log
log_meets : (v w : Seen) → IsLog v → IsLog w → w.told ≡ v.told → IsLog (meeting v w)
log_meets v w mine theirs same = record {
  few = longer_cases (λ es. length es ≤ most_entries) v.entries w.entries (λ le. theirs.few) (λ le. mine.few);
  sound = λ told. longer_cases IsSound v.entries w.entries (λ le. theirs.sound (same ∙ told)) (λ le. mine.sound told);
}

module _ {S : Type 0} (table own : TableId) where
  -- the pen of a new log
  pub pen_of_new : (o : Opening) (me : Me S Seen) (len : ℕ) → own ≡ table → table.words ≡ 1 → me ≡ (first_seen o, []) → len ≡ length o.first.items
      → length o.first.items ≤ most_entries → WhereTold o.told (IsSound o.first.items) → IsPen table own me len
  pen_of_new o me len same words is len_is few sound = subst (λ m. IsPen table own m len) (sym is) record {
    seated = record { table_is = same; words_are = words; bare = refl; settled = refl; log = record { few = few; sound = sound } };
    writes = refl;
    len_is = len_is;
  }

  -- the pen has added an entry
  pub pen_adds : (later : TableId) (me new : Me S Seen) (len : ℕ) (e : Entry) → IsPen table own me len → later ≡ own
      → new ≡ (record (me.0) { entries = me.0.entries ++ e ∷ [] }, me.1)
      → length me.0.entries < most_entries → WhereTold me.0.told (CanFollow me.0.entries e) → IsPen table later new (len + 1)
  pen_adds later me new len e pen same is room follows =
      let seated = pen.seated in
      subst (λ m. IsPen table later m (len + 1)) (sym is) record {
        seated = record {
          table_is = same ∙ seated.table_is;
          words_are = seated.words_are;
          bare = seated.bare;
          settled = seated.settled;
          log = log_grows (me.0) e seated.log room follows;
        };
        writes = pen.writes;
        len_is = (let more = length-append me.0.entries (e ∷ []) in let is = pen.len_is in omega arith);
      }

  -- a new note of a seat
  pub note_of : (there theirs : TableId) (me new : Me S Seen) → IsSeated table own me → there ≡ table → theirs ≡ own → new ≡ (reading (me.0), [])
      → IsNote there theirs new
  note_of there theirs me new seated same moved is = subst (IsNote there theirs) (sym is) record {
    seated = record {
      table_is = moved ∙ seated.table_is ∙ sym same;
      words_are = ap (λ t. t.words) same ∙ seated.words_are;
      bare = refl;
      settled = seated.settled;
      log = record { few = seated.log.few; sound = seated.log.sound };
    };
    reads = refl;
    stores_nothing = refl;
  }

  -- a note has met another, and confirmed that
  pub note_meets : (later : TableId) (me joined new : Me S Seen) (w : Seen) → IsNote table own me → IsLog w → w.told ≡ me.0.told → later ≡ own
      → joined ≡ (meeting (me.0) w, me.1) → new ≡ (record (joined.0) { met = [] }, joined.1) → IsNote table later new
  note_meets later me joined new w note theirs told same joins is =
      let seated = note.seated in
      let log = log_meets (me.0) w seated.log theirs told in
      subst (IsNote table later) (sym (is ∙ ap (λ j. (record (j.0) { met = [] }, j.1)) joins)) record {
        seated = record {
          table_is = same ∙ seated.table_is;
          words_are = seated.words_are;
          bare = seated.bare;
          settled = refl;
          log = record { few = log.few; sound = log.sound };
        };
        reads = note.reads;
        stores_nothing = note.stores_nothing;
      }
