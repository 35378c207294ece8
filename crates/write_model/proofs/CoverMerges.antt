-- A merge keeps the stores sound and covered, and leaves all of its job there.
use Rattle.std.proofs.Common.{◌≡◌, ◌≢◌, ℕ, ◌+◌, List, [], ◌∷◌, ◌++◌, length, take, inl, inr, refl, sym, ap, ◌∙◌, subst, arith}
use Rattle.std.proofs.lemmas.List.{length-append, take_all}
use Rattle.std.proofs.lemmas.List.Elements.{All-contains}
use Rattle.std.specs.Prelude.{Contains, Some, None, filter, ◌≤◌}
use Rattle.tao_base.specs.EdgeTypes.{EdgeTypes, InversesMatch}
use Rattle.tao_base.specs.Ids.{shard_of}
use Rattle.tao_base.specs.Stamps.{stamp_of}
use Rattle.tao_base.specs.declared.entry.Entry.{Entry}
use Rattle.tao_base.specs.declared.entry.Origin.TheVariants.{Merge}
use Rattle.write_model.proofs.Agreeing.{agree_here, back, reached_there, written_here}
use Rattle.write_model.proofs.BothEnds.{IsOtherEnd, other_end_is}
use Rattle.write_model.proofs.CoverCommits.{stays_covered}
use Rattle.write_model.proofs.Growing.{GainsAt, Grown, IsGain, entry_stays, gained_grown, gained_sound, gains_at, grown_same, job_stays, written_stays}
use Rattle.graph_model.proofs.Members.{IsIn, All-from_in, contains_from_in, in_filter_parts, in_from_contains}
use Rattle.write_model.proofs.Merging.{merge_done, merge_origin_is, merge_stays, merge_touches, merge_updates, merges_nothing, some_news}
use Rattle.write_model.proofs.OpenJobs.{may_be_merged}
use Rattle.write_model.proofs.SameLogs.{nothing_changes}
use Rattle.write_model.proofs.WrittenRecords.{first_of, job_source}
use Rattle.write_model.specs.CoverLaws.{MergesKeep}
use Rattle.write_model.specs.Machine.{Merges}
use Rattle.write_model.specs.MergeLaws.{IsMergeable}
use Rattle.write_model.specs.Merges.{AreThere, HasJob, IsMergeAt, IsWritten, JobSource, Stores, entries_ever, job_of, log_of, merge_entry, number_in, source_number}
use Rattle.graph_model.specs.Log.{entry_at}
use Rattle.graph_model.specs.Records.{HasStamp, is_news}
use Rattle.graph_model.specs.Soundness.{EdgeUpdate, other_end, updates_of}
use Rattle.write_model.specs.Steps.{AreSound, AreSoundAndCovered, IsOwed, MergesJob}

-- what a merge leaves
record IsLeft (types : EdgeTypes) (new : Stores) (owed : JobSource) : Type 0 where
  kept : AreSoundAndCovered types new
  owes : IsOwed types new owed
  done : HasJob types (log_of new.logs owed.other) owed.entry

module _ (types : EdgeTypes) (old new : Stores) (owed : JobSource) (match : InversesMatch types) (was : AreSoundAndCovered types old)
    (h : MergesJob types old new owed) where
  abbrev e : Entry
  e = owed.entry

  abbrev log : List Entry
  log = log_of old.logs owed.other

  abbrev news : List EdgeUpdate
  news = filter (is_news log) (job_of types e)

  still_owed : Grown (log_of old.logs) (log_of new.logs) → IsOwed types new owed
  still_owed grown = record {
    epoch_is = h.owes.epoch_is ∙ ap (λ x. x.of owed.shard) (sym h.epochs);
    stands = entry_stays types (log_of old.logs) (log_of new.logs) grown owed.shard e.position e h.owes.stands;
    there = h.owes.there;
  }

  none_left : merge_entry types log owed ≡ None → new.logs ≡ old.logs → IsLeft types new owed
  none_left none same = record {
    kept = nothing_changes types old new same h.jobs h.epochs was;
    owes = still_owed (grown_same old.logs new.logs same);
    done = subst (λ l. HasJob types (log_of l owed.other) e) (sym same) ((merges_nothing log).done types owed none);
  }

  module _ (m : Merges types old.logs new.logs owed) where
    there : (u : EdgeUpdate) → IsIn u (job_of types e) → shard_of u.0 ≡ owed.other
    there u k = All-contains (λ x. shard_of x.0 ≡ owed.other) (job_of types e) u m.there (contains_from_in (job_of types e) u k)

    mergeable : IsMergeable types log owed
    mergeable =
        let first = first_of news (some_news types log owed m.merged m.is) in
        let in_job : IsIn first.0 (job_of types e) = (in_filter_parts (is_news log) (job_of types e) first.0 first.1).0 in
        may_be_merged types old owed match was h.owes first.0 (contains_from_in (job_of types e) first.0 in_job) (there first.0 in_job)

    gain : IsGain types old.logs new.logs owed.other m.merged
    gain = record { within = m.gained.0; is = m.gained.1; stays = merge_stays types log owed m.merged mergeable m.is }

    gained : GainsAt types (log_of old.logs) (log_of new.logs) owed.other m.merged
    gained = gains_at types old.logs new.logs owed.other m.merged gain

    grown : Grown (log_of old.logs) (log_of new.logs)
    grown = gained_grown types (log_of old.logs) (log_of new.logs) owed.other m.merged gained

    sound_new : AreSound types new.logs
    sound_new = gained_sound types (log_of old.logs) (log_of new.logs) owed.other m.merged gained was.sound

    here : log_of new.logs owed.other ≡ log ++ m.merged ∷ []
    here = gained.here

    done : HasJob types (log_of new.logs owed.other) e
    done = subst (λ l. HasJob types l e) (sym here) (merge_done types log owed m.merged mergeable m.is)

    whole : take (length log + 1) (log_of new.logs owed.other) ≡ log_of new.logs owed.other
    whole =
        let longer : length (log_of new.logs owed.other) ≡ length log + 1 = ap length here ∙ length-append log (m.merged ∷ []) in
        take_all (length log + 1) (log_of new.logs owed.other) (omega (arith, longer))

    in_job : (u : EdgeUpdate) → Contains (updates_of m.merged) u → Contains (job_of types e) u
    in_job u k =
        let in_news : IsIn u news = in_from_contains news u (subst (λ us. Contains us u) (merge_updates types log owed m.merged m.is) k) in
        contains_from_in (job_of types e) u (in_filter_parts (is_news log) (job_of types e) u in_news).0

    merge_at : (from number : ℕ) → m.merged.origin ≡ Merge from number
        → ∥ IsMergeAt types (log_of new.logs from) (old.epochs.of from) (take (length log + 1) (log_of new.logs owed.other)) m.merged number ∥₁
    merge_at from number origin =
        let same : Merge owed.shard (source_number owed) ≡ Merge from number = sym (merge_origin_is types log owed m.merged m.is) ∙ origin in
        let from_is : owed.shard ≡ from = cc in
        let number_is : source_number owed ≡ number = cc in
        let entries = take (length log + 1) (log_of new.logs owed.other) in
        subst (λ s. ∥ IsMergeAt types (log_of new.logs s) (old.epochs.of s) entries m.merged number ∥₁) from_is ∣ record {
          position = e.position;
          entry = e;
          number_is = sym number_is ∙ ap (λ epoch. number_in epoch e.position) h.owes.epoch_is;
          stands = entry_stays types (log_of old.logs) (log_of new.logs) grown owed.shard e.position e h.owes.stands;
          touches = merge_touches types log owed m.merged m.is;
          done = subst (λ l. HasJob types l e) (sym whole) done;
        } ∣₁

    -- a record that the merge wrote was written at the other end
    record Source (u : EdgeUpdate) : Type 0 where
      of : EdgeUpdate
      other : IsOtherEnd types of u
      stands : IsWritten (log_of old.logs) of

    source : (u : EdgeUpdate) → Contains (updates_of m.merged) u → Source u
    source u k =
        let far = job_source types e u (in_job u k) in
        let here = written_here types owed.shard (log_of old.logs owed.shard) (was.sound owed.shard) e.position e far.of h.owes.stands far.writes in
        record {
          of = far.of;
          other = far.other;
          stands = record {
            position = e.position;
            entry = e;
            stands = subst (λ s. entry_at (log_of old.logs s) e.position ≡ Some e) (sym here) h.owes.stands;
            writes = far.writes;
          };
        }

    -- what the merge itself owes to the other end is what it came from
    owes_back : AreThere (log_of new.logs) (job_of types m.merged)
    owes_back = All-from_in (λ u. HasStamp (log_of new.logs (shard_of u.0)) u) (job_of types m.merged) (λ u k.
        let far = job_source types m.merged u (contains_from_in (job_of types m.merged) u k) in
        let from = source far.of far.writes in
        let same : from.of ≡ u = back types match far.of from.of u from.other far.other in
        subst (λ w. HasStamp (log_of new.logs (shard_of w.0)) w) same
        (reached_there types (log_of new.logs) sound_new from.of (written_stays types (log_of old.logs) (log_of new.logs) grown from.of from.stands)))

    one : (u v : EdgeUpdate) → shard_of u.0 ≡ owed.other → Contains (updates_of m.merged) u → IsWritten (log_of old.logs) v
        → IsOtherEnd types u (v.0, v.1, v.2, u.3) → stamp_of u.3 ≡ stamp_of v.3 → shard_of u.0 ≢ shard_of u.2 → u.3 ≡ v.3
    one u v lies k x other same apart =
        let from = source u k in
        let at : from.of ≡ (v.0, v.1, v.2, u.3) = back types match u from.of (v.0, v.1, v.2, u.3) from.other other in
        agree_here types (log_of old.logs) was.sound (v.0, v.1, v.2, u.3) v (subst (IsWritten (log_of old.logs)) at from.stands) x
        (record { id1 = refl; atype = refl; id2 = refl }) same

    stamps : (u v : EdgeUpdate) → IsWritten (log_of new.logs) u → shard_of u.0 ≡ owed.other → Contains (updates_of m.merged) u → other_end types u ≡ Some v
        → (stamp_of u.3).shard ≡ shard_of v.0 → HasStamp (log_of new.logs (shard_of v.0)) v
    stamps u v w lies k other is =
        let from = source u k in
        let same : from.of ≡ v = back types match u from.of v from.other (other_end_is types u v other) in
        subst (λ x. HasStamp (log_of new.logs (shard_of x.0)) x) same
        (reached_there types (log_of new.logs) sound_new from.of (written_stays types (log_of old.logs) (log_of new.logs) grown from.of from.stands))

    numbers : (u : EdgeUpdate) → Contains (updates_of m.merged) u → (stamp_of u.3).number ≤ number_in old.epochs.last (entries_ever old) + 1
    numbers u k =
        let from = source u k in
        let few = was.covered.numbers from.of from.stands in
        let same : (stamp_of u.3).number ≡ (stamp_of from.of.3).number = ap (λ s. (stamp_of s).number) from.other.state in
        omega (arith, few, same)

    merged_left : IsLeft types new owed
    merged_left = record {
      kept = stays_covered types old new owed.other m.merged match gain was (record {
        jobs = λ s p us j. job_stays types (log_of old.logs) (log_of new.logs) grown s p us
            ((was.covered.each s).jobs p us (subst (λ o. o ≡ Some us) (h.jobs s p) j));
        still_open = λ s p x at none. sym (h.jobs s p) ∙ none;
        owed = λ none. owes_back;
        one = one;
        stamps = stamps;
        merge = merge_at;
        numbers = numbers;
      }) h.epochs;
      owes = still_owed grown;
      done = done;
    }

  left : IsLeft types new owed
  left = elim h.merges [ inl n ↦ none_left n.0 n.1 | inr m ↦ merged_left m ]

pub merges_grow : (types : EdgeTypes) (old new : Stores) (owed : JobSource) → InversesMatch types → AreSoundAndCovered types old → MergesJob types old new owed
    → Grown (log_of old.logs) (log_of new.logs)
merges_grow types old new owed match was h = elim h.merges [
  | inl n ↦ grown_same old.logs new.logs n.1
  | inr m ↦ grown types old new owed match was h m
]

pub merges_keep : MergesKeep
merges_keep = record {
  keep = λ types old new owed match was h. (left types old new owed match was h).kept;
  done = λ types old new owed match was h. ((left types old new owed match was h).owes, (left types old new owed match was h).done);
}
