-- Each kind of step keeps the rule.
use Rattle.std.proofs.Common.{◌≡◌, ◌≢◌, ℕ, zero, suc, ◌+◌, ◌%◌, ◌^◌, ◌<◌, ◌≤◌, ⊎_elim, List, [], ◌∷◌, ◌++◌, length, set, slice_index, refl, ap, sym}
use Rattle.std.proofs.Common.{subst, ◌∙◌, arith, length-append}
use Rattle.std.proofs.Math.Nat.{mod-eq_of_lt}
use Rattle.std.proofs.lemmas.List.Elements.{All-cons, All-nil}
use mathlib.Core.Option.{some, none, some-injective, some-ne-none}
use lib.ListN.{get_elem?}
use Rattle.atomic_table.specs.Table.{State, step, Me, keeps, opening, Allows, Splits, Joins}
use Rattle.atomic_table.proofs.Lists.{at_set, set_again}
use Rattle.tao_base.specs.declared.entry.Entry.{Entry}
use Rattle.graph_model.specs.Soundness.{CanFollow, IsSound}
use Rattle.graph_model.proofs.Sound.{sound_grows}
use Rattle.shard_log.proofs.Beginnings.{begins-append, begins-self, longer_begins}
use Rattle.shard_log.proofs.KeptLemmas.{length_found, more_kept, note_kept, pen_is, pen_kept, reader_isn't_spent, reader_isn't_writer, same_words}
use Rattle.shard_log.proofs.KeptLemmas.{writer_isn't_spent}
use Rattle.shard_log.specs.declared.rule.Opening.{Opening}
use Rattle.shard_log.specs.declared.rule.Role.TheVariants.{Writes, Reads, Spent}
use Rattle.shard_log.specs.declared.rule.Seen.{Seen}
use Rattle.shard_log.specs.Rule.{Adds, AllBegin, Confirms, Fits, IsKept, IsLog, Looks, first_seen, meeting, reading, spent, taking_in}
use Rattle.graph_model.specs.Told.{WhereTold}
use Rattle.shard_log.specs.View.{Begins, most_entries}

-- few lists begin another
none_begin : (whole : List Entry) → AllBegin [] whole
none_begin whole = All-nil (λ part. Begins part whole)

one_begins : (part whole : List Entry) → Begins part whole → AllBegin (part ∷ []) whole
one_begins part whole p = All-cons (λ part. Begins part whole) part [] p (none_begin whole)

both_begin : (xs ys whole : List Entry) → Begins xs whole → Begins ys whole → AllBegin (xs ∷ ys ∷ []) whole
both_begin xs ys whole p q = All-cons (λ part. Begins part whole) xs (ys ∷ []) p (one_begins ys whole q)

-- a seat that met none
nothing_met : (v : Seen) → v.met ≡ [] → AllBegin v.met v.entries
nothing_met v none_yet = subst (λ parts. AllBegin parts v.entries) (sym none_yet) (none_begin v.entries)

module _ {S : Type 0} where
  -- a log at its start
  pub opens : (o : Opening) → length o.first.items ≤ most_entries → WhereTold o.told (IsSound o.first.items)
      → IsKept (opening {S = S} (length o.first.items ∷ []) [] (first_seen o))
  opens o few sound =
      let pen = first_seen o in record {
        pen = pen;
        log = record { few = few; sound = sound };
        words_are = refl;
        first = refl;
        writes = refl;
        alone = λ i u here on. first_alone i u here;
        fits = λ i u here on. subst (Fits pen) (first_is i u here) record {
          told_is = refl;
          pins_are = refl;
          begins = begins-self o.first.items;
          met = none_begin o.first.items;
        };
      }
    where
      first_alone : (i : ℕ) (u : Seen) → get_elem? (first_seen o ∷ []) i ≡ some u → i ≡ 0
      first_alone zero u e = refl
      first_alone (suc i) u e = absurd (some-ne-none u (sym e))

      first_is : (i : ℕ) (u : Seen) → get_elem? (first_seen o ∷ []) i ≡ some u → first_seen o ≡ u
      first_is zero u e = some-injective (first_seen o) u e
      first_is (suc i) u e = absurd (some-ne-none u (sym e))

  -- a note sees the whole log, whose length is found
  pub looks : (slots id : ℕ) (me : Me S Seen) → me.0.role ≡ Reads → me.0.met ≡ [] → Allows IsKept slots id me 0 (λ n. n) (Looks (step slots 0 0 0 none) me)
  looks slots id me reads none_yet s k homes at bound =
      let fit : Fits k.pen (me.0) = k.fits id (me.0) at (reader_isn't_spent me.0.role reads) in
      let new : Seen = record (me.0) { entries = k.pen.entries } in
      let writes_not = reader_isn't_writer me.0.role reads in (
        new,
        keeps,
        tt,
        note_kept s k (set s.words 0 (slice_index s.words 0)) id (me.0) new (same_words s k 0) at writes_not writes_not
            (λ _. record { told_is = fit.told_is; pins_are = fit.pins_are; begins = begins-self k.pen.entries; met = nothing_met new none_yet }),
        record {
          seat_is = refl;
          found_is = length_found s k;
          begins = fit.begins;
          log = record { few = k.log.few; sound = λ told. k.log.sound (sym fit.told_is ∙ told) };
        },
      )

  -- the pen adds an entry to the log, which is its view
  pub adds : (slots id : ℕ) (me : Me S Seen) (e : Entry) → me.0.role ≡ Writes → me.0.met ≡ [] → length me.0.entries < most_entries
      → WhereTold me.0.told (CanFollow me.0.entries e) → Allows IsKept slots id me 0 (λ n. (n + 1) % 2 ^ 64) (Adds e (step slots 0 1 0 none) me)
  adds slots id me e writes none_yet room follows s k homes at bound =
      let pen : k.pen ≡ me.0 = (pen_is s k id (me.0) at writes).1 in
      let new : Seen = record (me.0) { entries = me.0.entries ++ e ∷ [] } in
      let longer : length new.entries ≡ length me.0.entries + 1 = length-append me.0.entries (e ∷ []) in
      let small : length me.0.entries + 1 < 2 ^ 64 = omega arith in
      let grown : (length me.0.entries + 1) % 2 ^ 64 ≡ length new.entries = mod-eq_of_lt small ∙ sym longer in
      let words : s.words ≡ length me.0.entries ∷ me.0.stored = k.words_are ∙ ap (λ p. length p.entries ∷ p.stored) pen in
      let found : slice_index s.words 0 ≡ length me.0.entries = ap (λ ws. slice_index ws 0) words in
      let log : IsLog (me.0) = subst IsLog pen k.log in (
        new,
        keeps,
        tt,
        pen_kept s k (set s.words 0 ((slice_index s.words 0 + 1) % 2 ^ 64)) id (me.0) new at writes writes
            (ap (λ ws. set ws 0 ((slice_index ws 0 + 1) % 2 ^ 64)) words ∙ ap (λ n. n ∷ me.0.stored) grown)
            record { few = omega (arith, longer, room); sound = λ told. (sound_grows me.0.entries e).grows (log.sound told) (follows told) }
            record { told_is = refl; pins_are = refl; begins = begins-self new.entries; met = nothing_met new none_yet }
            (λ u fit. record {
              told_is = fit.told_is;
              pins_are = fit.pins_are;
              begins = begins-append u.entries me.0.entries (e ∷ []) fit.begins;
              met = fit.met;
            }),
        record { seat_is = refl; found_is = found },
      )

  -- a new note has seen what the seat has that it is split from
  pub splits : (id : ℕ) (v : Seen) → v.role ≢ Spent → Splits {S = S} IsKept id v v (reading v)
  splits id v unspent s k at =
      let fit : Fits k.pen v = k.fits id v at unspent in
      subst (λ views. IsKept record { words = s.words; homes = s.homes; views = views ++ reading v ∷ [] }) (sym (set_again s.views id v at))
      (more_kept s k (reading v) (λ e. cc (e)) record { told_is = fit.told_is; pins_are = fit.pins_are; begins = fit.begins; met = fit.met })

  -- a note that is taken in was there
  was_there : (s : State S Seen) (id other : ℕ) (new w : Seen) → ¬ (other ≡ id) → get_elem? (set s.views id new) other ≡ some w
      → get_elem? s.views other ≡ some w
  was_there s id other new w apart there =
      ⊎_elim (λ (t : (other ≡ id) × (new ≡ w)). absurd (apart t.0)) (λ (t : (other ≢ id) × (get_elem? s.views other ≡ some w)). t.1)
      (at_set s.views id other new w there)

  -- then it is spent
  takes : (s : State S Seen) → IsKept s → (other : ℕ) (w : Seen) → get_elem? s.views other ≡ some w → w.role ≡ Reads
      → IsKept record { words = s.words; homes = s.homes; views = set s.views other spent }
  takes s k other w there reads = note_kept s k s.words other w spent refl there (reader_isn't_writer w.role reads) (λ e. cc (e)) (λ on. absurd (on refl))

  -- a note meets another
  pub joins : (id other : ℕ) (v w : Seen) → v.role ≡ Reads → w.role ≡ Reads → Joins {S = S} IsKept id v other w (meeting v w) spent
  joins id other v w reads reads_too s k at apart there =
      let new : Seen = meeting v w in
      let mine : Fits k.pen v = k.fits id v at (reader_isn't_spent v.role reads) in
      let theirs : Fits k.pen w = k.fits other w (was_there s id other new w apart there) (reader_isn't_spent w.role reads_too) in
      let begun = longer_begins v.entries w.entries k.pen.entries mine.begins theirs.begins in
      let writes_not = reader_isn't_writer v.role reads in
      takes record { words = s.words; homes = s.homes; views = set s.views id new }
      (note_kept s k s.words id v new refl at writes_not writes_not
      (λ _. record { told_is = mine.told_is; pins_are = mine.pins_are; begins = begun.0; met = both_begin v.entries w.entries new.entries begun.1 begun.2 }))
      other w there reads_too

  -- the pen has the same view, beside what it met
  pen_meets : (s : State S Seen) (k : IsKept s) (words : List ℕ) (id : ℕ) (v : Seen) (met : List (List Entry)) → words ≡ s.words → get_elem? s.views id ≡ some v
      → v.role ≡ Writes
      → AllBegin met v.entries → IsKept record { words = words; homes = s.homes; views = set s.views id (record v { met = met }) }
  pen_meets s k words id v met same at writes begin =
      let pen : k.pen ≡ v = (pen_is s k id v at writes).1 in
      let log : IsLog v = subst IsLog pen k.log in
      pen_kept s k words id v (record v { met = met }) at writes writes (same ∙ k.words_are ∙ ap (λ p. length p.entries ∷ p.stored) pen)
      record { few = log.few; sound = log.sound }
      record { told_is = refl; pins_are = refl; begins = begins-self v.entries; met = begin }
      (λ u fit. record { told_is = fit.told_is; pins_are = fit.pins_are; begins = fit.begins; met = fit.met })

  -- the pen takes a note in, which begins the log
  pub takes_in : (id other : ℕ) (v w : Seen) → v.role ≡ Writes → w.role ≡ Reads → Joins {S = S} IsKept id v other w (taking_in v w) spent
  takes_in id other v w writes reads s k at apart there =
      let new : Seen = taking_in v w in
      let theirs : Fits k.pen w = k.fits other w (was_there s id other new w apart there) (reader_isn't_spent w.role reads) in
      let begins : Begins w.entries v.entries = subst (λ p. Begins w.entries p.entries) (pen_is s k id v at writes).1 theirs.begins in
      takes record { words = s.words; homes = s.homes; views = set s.views id new }
      (pen_meets s k s.words id v (w.entries ∷ []) refl at writes (one_begins w.entries v.entries begins)) other w there reads

  -- what a note met begins its view
  pub confirms : (slots id : ℕ) (me : Me S Seen) → me.0.role ≡ Reads → Allows IsKept slots id me 0 (λ n. n) (Confirms (step slots 0 0 0 none) me)
  confirms slots id me reads s k homes at bound =
      let fit : Fits k.pen (me.0) = k.fits id (me.0) at (reader_isn't_spent me.0.role reads) in
      let new : Seen = record (me.0) { met = [] } in
      let writes_not = reader_isn't_writer me.0.role reads in (
        new,
        keeps,
        tt,
        note_kept s k (set s.words 0 (slice_index s.words 0)) id (me.0) new (same_words s k 0) at writes_not writes_not
            (λ _. record { told_is = fit.told_is; pins_are = fit.pins_are; begins = fit.begins; met = none_begin me.0.entries }),
        record { seat_is = refl; begin = fit.met },
      )

  -- what the pen took in begins the log
  pub pen_confirms : (slots id : ℕ) (me : Me S Seen) → me.0.role ≡ Writes → Allows IsKept slots id me 0 (λ n. n) (Confirms (step slots 0 0 0 none) me)
  pen_confirms slots id me writes s k homes at bound = (
    record (me.0) { met = [] },
    keeps,
    tt,
    pen_meets s k (set s.words 0 (slice_index s.words 0)) id (me.0) [] (same_words s k 0) at writes (none_begin me.0.entries),
    record { seat_is = refl; begin = (k.fits id (me.0) at (writer_isn't_spent me.0.role writes)).met },
  )
